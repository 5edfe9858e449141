-- Laws about back/specs/Going. Assumes nothing.
use Prim.Native.Nat.{ℕ, ◌+◌}
use native.Mathlib.Omega.{arith}
use mathlib.Core.Bool.{Bool}
use mathlib.Core.Logic.{◌⊎◌, inl, inr}
use mathlib.Core.Path.{◌≡◌, refl, ap, ap₂, sym, subst, ◌∙◌}
use mathlib.Core.List.{List, [], ◌∷◌}
use borrow.Author.Tests.{eq-eqb}
use Rattle.model.specs.declared.Limits.{Limits}
use Rattle.model.specs.declared.Delta.{Delta}
use Rattle.model.specs.Store.{Store, next, last, last_of}
use Rattle.model.specs.Walk.{settings}
use Rattle.model.specs.Layout.{decode}
use Rattle.model.specs.Judged.{judged, is_sound}
use Rattle.model.specs.Climb.{Result, done, refused}
use Rattle.model.specs.Lent.{left}
use Rattle.model.specs.Differ.{differ}
use Rattle.model.specs.Return.{reached, or_stopped, through}
use Rattle.model.specs.ByRule.{Sound}
use Rattle.model.proofs.sound.ByRule.{old-current}
use Rattle.store.proofs.laws.Sure.{sure}
use Rattle.written.proofs.laws.Encoded.{encoded-accepted, encoded-held}
use Rattle.walk.specs.Sure.{Walkable}
use Rattle.cursor.specs.First.{at_or_above}
use Rattle.differ.specs.Merge.{left as left_from}
use Rattle.back.proofs.laws.Single.{Left}
use Rattle.back.specs.Going.{Going, BackStepped}

module _ {l : Limits} {b : List ℕ} {v w : ℕ} (g : Going l b v w) where
  open-last : last (decode l.least b) ≡ next (decode l.least b)
  open-last = ap (λ (x : Bool). last_of x (decode l.least b).current) g.opened

  pub going-sound : Sound l.least (decode l.least b)
  going-sound = sure g.edition b g.sound

  pub going-open : Walkable l b w
  going-open =
      record {
        edition = g.edition;
        sound = g.sound;
        version = omega (arith, g.is-next, open-last, old-current l.least (decode l.least b) going-sound.old-low);
      }

  pub going-old : Walkable l b v
  going-old = record { edition = g.edition; sound = g.sound; version = omega (arith, g.old.from, g.old.upto, open-last) }

module _ {l : Limits} {b : List ℕ} {v w : ℕ} (g : Going l b v w) (one : Store → Delta → Result) where
  -- nothing to do
  pub stepped-none : (k : ℕ) → BackStepped l b b v w k 0 (through one [] (decode l.least b))
  unfolding through
  stepped-none k = record { went = record { going = g; goes = λ z. refl; stops = λ z. absurd (z refl) }; rest = refl }

  -- refused
  pub stepped-refused : (d : Delta) (k r : ℕ) → (r ≡ 0 → ⊥) → one (decode l.least b) d ≡ refused r
      → BackStepped l b b v w k r (through one (d ∷ []) (decode l.least b))
  unfolding through
  stepped-refused d k r n e = record {
    went = record { going = g; goes = λ z. absurd (n z); stops = λ z. ap (or_stopped (through one []) (decode l.least b)) e };
    rest = refl;
  }

  -- done
  module _ (d : Delta) (k : ℕ) (b' : List ℕ) (t : Store) (p : Left l.least (decode l.least b) k t)
      (f : b' ≡ (left l.least b (done t)).store) where
    abbrev s : Store
    s = decode l.least b

    pub stepped-done : one (decode l.least b) d ≡ done t → BackStepped l b b' v w k 0 (through one (d ∷ []) (decode l.least b))
    unfolding through left_from is_sound
    stepped-done e =
        let h : decode l.least b' ≡ t = ap (decode l.least) f
        ∙ encoded-held l.least g.edition.four g.edition.eight t p.is-sound in
        let n : w ≡ next t = omega (arith, g.is-next, p.current) in
        record {
          went = record {
            going = record {
              edition = g.edition;
              sound = eq-eqb (judged l.least b').number 0
                  (ap (λ (x : List ℕ). (judged l.least x).number) f
                  ∙ encoded-accepted l.least g.edition.four g.edition.eight t p.is-sound);
              opened = ap (λ (x : Store). x.opened) h ∙ p.opened;
              old = omega (
                arith,
                g.old.from,
                g.old.upto,
                p.current,
                p.oldest,
                ap (λ (x : Store). x.current) h,
                ap (λ (x : Store). x.oldest) h,
              );
              is-next = n ∙ ap next (sym h);
            };
            goes = λ z. ap (or_stopped (through one []) s) e ∙ ap reached (sym h);
            stops = λ z. absurd (z refl);
          };
          rest =
              ap₂ differ
              (ap₂ (λ (x : Store) (y : ℕ). at_or_above (k + 1) (settings x y)) h g.is-next ∙ p.openly
              ∙ ap (λ (y : ℕ). at_or_above (k + 1) (settings s y)) (sym g.is-next))
              (ap (λ (x : Store). at_or_above (k + 1) (settings x v)) h
              ∙ ap (at_or_above (k + 1)) (p.earlier v g.old.from g.old.upto));
        }

  -- by the number that the change gave, which is 12 or 13 where it is refused
  pub stepped_by : (d : Delta) (k : ℕ) (u : Result) → one (decode l.least b) d ≡ u → ((n : ℕ) → u ≡ refused n → (n ≡ 12) ⊎ (n ≡ 13))
      → ((t : Store) → u ≡ done t → Left l.least (decode l.least b) k t)
      → (r : ℕ) (b' : List ℕ) → r ≡ (left l.least b u).number → b' ≡ (left l.least b u).store
      → BackStepped l b b' v w k r (through one (d ∷ []) (decode l.least b))
  stepped_by d k (done t) is lack lefts r b' e f =
      subst (λ (m : ℕ). BackStepped l b b' v w k m (through one (d ∷ []) (decode l.least b))) (sym e)
      (stepped-done d k b' t (lefts t refl) f is)
  stepped_by d k (refused n) is lack lefts r b' e f =
      subst (λ (m : ℕ). BackStepped l b b' v w k m (through one (d ∷ []) (decode l.least b))) (sym e)
      (subst (λ (x : List ℕ). BackStepped l b x v w k n (through one (d ∷ []) (decode l.least b))) (sym f)
      (stepped-refused d k n (none (lack n refl)) is))
    where
      none : (n ≡ 12) ⊎ (n ≡ 13) → n ≡ 0 → ⊥
      none (inl x) y = omega arith
      none (inr x) y = omega arith
