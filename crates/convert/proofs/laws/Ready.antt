-- Laws about convert/specs/Ready. Assumes nothing.
use Prim.Native.Nat.{ℕ}
use mathlib.Core.Bool.{true}
use mathlib.Core.Logic.{◌⊎◌, inl, inr}
use mathlib.Core.Path.{◌≡◌, refl, ap, sym, subst, ◌∙◌}
use mathlib.Core.List.{List, [], ◌∷◌}
use native.Mathlib.Omega.{arith}
use borrow.Author.Tests.{eq-eqb}
use Rattle.model.specs.declared.Limits.{Limits}
use Rattle.model.specs.declared.Pair.{Pair}
use Rattle.model.specs.declared.Delta.{Delta}
use Rattle.model.specs.Limits.{Edition}
use Rattle.model.specs.Store.{Store}
use Rattle.model.specs.Layout.{decode, encode}
use Rattle.model.specs.Judged.{judged, is_sound}
use Rattle.model.specs.Climb.{Result, done, refused}
use Rattle.model.specs.Lent.{left}
use Rattle.model.specs.Return.{reached, stopped, or_stopped, through}
use Rattle.model.specs.ByRule.{Sound}
use Rattle.model.proofs.kept.Stops.{lacking-is}
use Rattle.model.proofs.turning.Returned.{Steps}
use Rattle.store.proofs.laws.Sure.{sure}
use Rattle.written.proofs.laws.Encoded.{encoded-accepted, encoded-held}
use Rattle.convert.specs.Ready.{UpdateOpen, Went}

pub ready-sound : {l : Limits} {b : List ℕ} → UpdateOpen l b → Sound l.least (decode l.least b)
ready-sound {l} {b} g = sure g.edition b g.sound

-- ---- bytes that a sound store makes

module _ {l : Limits} (d : Edition l) (t : Store) (s : Sound l.least t) (b : List ℕ) (e : b ≡ encode l.least t) where
  pub is-sound : is_sound l.least b ≡ true
  unfolding is_sound
  is-sound =
      eq-eqb (judged l.least b).number 0
      (ap (λ (x : List ℕ). (judged l.least x).number) e ∙ encoded-accepted l.least d.four d.eight t s)

  pub is_held : decode l.least b ≡ t
  is_held = ap (decode l.least) e ∙ encoded-held l.least d.four d.eight t s

  pub is-ready : t.opened ≡ true → UpdateOpen l b
  is-ready o = record { edition = d; sound = is-sound; opened = ap (λ (x : Store). x.opened) is_held ∙ o }

-- ---- one step

module _ {l : Limits} {b : List ℕ} (g : UpdateOpen l b) (one : Store → Delta → Result) where
  pub went-none : Went l b 0 (through one [] (decode l.least b))
  unfolding through
  went-none = record { ready = g; goes = λ z. refl; stops = λ z. absurd (z refl) }

  -- by the number that its change gave
  pub went-by : (d : Delta) (us : List Pair) (u : Result) → one (decode l.least b) d ≡ u → Steps l.least (decode l.least b) us u
      → (r : ℕ) (b' : List ℕ) → r ≡ (left l.least b u).number → b' ≡ (left l.least b u).store
      → Went l b' r (through one (d ∷ []) (decode l.least b))
  unfolding through
  went-by d us (done t) is p r b' e f = record {
    ready = is-ready g.edition t p.is-sound b' f p.opened;
    goes = λ z. ap (or_stopped (through one []) (decode l.least b)) is ∙ ap reached (sym (is_held g.edition t p.is-sound b' f));
    stops = λ z. absurd (z e);
  }
  went-by d us (refused n) is p r b' e f = record {
    ready = subst (UpdateOpen l) (sym f) g;
    goes = λ z. absurd (none (lacking-is n p) (sym e ∙ z));
    stops = λ z. ap (or_stopped (through one []) (decode l.least b)) is ∙ ap (λ (m : ℕ). stopped m (decode l.least b)) (sym e)
        ∙ ap (λ (x : List ℕ). stopped r (decode l.least x)) (sym f);
  }
    where
      none : (n ≡ 12) ⊎ (n ≡ 13) → n ≡ 0 → ⊥
      none (inl x) y = omega arith
      none (inr x) y = omega arith
