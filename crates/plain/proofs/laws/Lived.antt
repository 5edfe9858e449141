-- Laws about plain/specs/Lived. Assumes nothing.
use Prim.Native.Nat.{ℕ, ◌+◌, ◌^◌, ◌≤◌, ◌<◌}
use native.Mathlib.Omega.{arith}
use mathlib.Core.Bool.{Bool, true, false, ◌&&◌}
use mathlib.Core.Option.{Option, none, some}
use mathlib.Core.Path.{◌≡◌, refl, ap, ap₂, sym, ◌∙◌}
use mathlib.Core.Logic.{◌≢◌}
use mathlib.Core.List.{List, [], ◌∷◌, ◌++◌}
use lib.Dec.{ltb, eqb}
use lib.ListN.{length}
use borrow.Author.Tests.{le-leb, lt-leb, eqb-true, eqb-false}
use Rattle.model.specs.Basic.{pick}
use Rattle.model.specs.declared.Entry.{Entry}
use Rattle.model.specs.declared.Stretch.{Stretch}
use Rattle.model.specs.Entry.{alive, live_at}
use Rattle.model.specs.Walk.{key_limit}
use Rattle.model.specs.Calls.{rule, first_of}
use Rattle.model.specs.Told.{told_by}
use Rattle.model.specs.Life.{stretch_numbers, life_of}
use Rattle.model.specs.Lent.{Listed, listed}
use Rattle.model.specs.Inner.{Lasts}
use Rattle.model.specs.Still.{Until}
use Rattle.model.proofs.reading.Lives.{told_of, rest, rest-step, life-length, Lasting}
use Rattle.model.proofs.reading.Lives as lives
use Rattle.plain.specs.Plain.{Plain, value_at, same_value, life}
use Rattle.plain.specs.Items.{item, from}
use Rattle.plain.proofs.laws.Items.{from_step, from_end}
use Rattle.plain.specs.Lived.{ItemStill, shown}

module _ (ns : List ℕ) (n k v r : ℕ) where
  pub until_none : v < r → Until v r (λ (w : ℕ). value_at k w (from ns n n)) r
  until_none h =
      record {
        below = omega arith;
        above = h;
        still = λ w x y. ap (value_at k w) (from_end ns n n (omega arith))
            ∙ sym (ap (value_at k v) (from_end ns n n (omega arith)));
      }

  pub until-more : (i : ℕ) → i < n → (p : ℕ) → Until v r (λ (w : ℕ). value_at k w (from ns (i + 1) n)) p → (e : Entry) → e ≡ item ns i
      → (q : ℕ) → ItemStill e k v p q → Until v r (λ (w : ℕ). value_at k w (from ns i n)) q
  until-more i h p u e is q c = record {
    below = omega (arith, u.below, c.below);
    above = c.above;
    still = λ w x y. step w ∙ ap₂ (λ (b : Bool) (o : Option ℕ). pick b (some e.value) o) (c.still w x y)
        (u.still w x (omega (arith, c.below))) ∙ sym (step v);
  }
    where
      step : (w : ℕ) → value_at k w (from ns i n) ≡ pick (eqb e.key k && live_at w e) (some e.value) (value_at k w (from ns (i + 1) n))
      step w =
          ap (value_at k w) (from_step ns i n h) ∙ ap
          (λ (f : Entry). pick (eqb f.key k && live_at w f) (some f.value) (value_at k w (from ns (i + 1) n))) (sym is)

-- ---- the first change behind a version

same_true : (o p : Option ℕ) → same_value o p ≡ true → p ≡ o
same_true none none h = refl
same_true none (some y) h = absurd (let z : ◌≡◌ {A = ℕ} 0 1 = cc in omega arith)
same_true (some x) none h = absurd (let z : ◌≡◌ {A = ℕ} 0 1 = cc in omega arith)
same_true (some x) (some y) h = ap some (sym (eqb-true x y h))

same_false : (o p : Option ℕ) → same_value o p ≡ false → p ≢ o
same_false none none h e = let z : ◌≡◌ {A = ℕ} 0 1 = cc in omega arith
same_false none (some y) h e = let z : ◌≡◌ {A = ℕ} 0 1 = cc in omega arith
same_false (some x) none h e = let z : ◌≡◌ {A = ℕ} 0 1 = cc in omega arith
same_false (some x) (some y) h e = eqb-false x y h (let q : x ≡ y = cc in q)

module _ (c : ℕ) (f : ℕ → Option ℕ) (v u : ℕ) (l : Lasting c f v u) where
  pub lasts_on : same_value (f u) (f v) ≡ true → (r : ℕ) → Until u (c + 1) f r → Lasting c f v r
  lasts_on h r t = lives.lasts_on c f v u r l (sym (same_true (f u) (f v) h)) t.above (omega (arith, t.below)) t.still

  pub lasts-other : same_value (f u) (f v) ≡ false → Lasts c f v u
  lasts-other h = lives.lasts-other c f v u l (λ e. same_false (f u) (f v) h (sym e))

shown-told : (c v r : ℕ) (o : Option ℕ) → shown v (pick (ltb c r) alive r) o ≡ told_of c v r o
shown-told c v r none = refl
shown-told c v r (some x) = refl

-- what is told of the versions from v up to r, and the rest behind it
pub rest-told : (c : ℕ) (f : ℕ → Option ℕ) (v r : ℕ) → Lasts c f v r → {e : ℕ} {o : Option ℕ} → o ≡ f v → e ≡ pick (ltb c r) alive r
    → rest c f v ≡ shown v e o ++ rest c f r
rest-told c f v r l p q =
    rest-step c f v r l ∙ ap (λ (xs : List Stretch). xs ++ rest c f r) (sym (ap₂ (shown v) q p ∙ shown-told c v r (f v)))

pub few-stretches : (old c : ℕ) (f : ℕ → Option ℕ) → c ≤ 1048574 → length (life_of old c f) ≤ 2 ^ 40
few-stretches old c f h = omega (arith, life-length c f old)

-- ---- the call

module _ (p : Plain) (k : ℕ) (ns : List ℕ) where
  abbrev living : ℕ → Listed
  living n = listed ns (told_by stretch_numbers 3 n (length ns) (life_of p.oldest p.current (λ (v : ℕ). value_at k v p.items)))

  pub life-five : key_limit ≤ k → record { number = 5; count = 0; list = ns } ≡ listed ns (life p k (length ns))
  unfolding life told_by
  life-five h = ap (λ (b : Bool). living (first_of (rule 5 b ∷ []))) (sym (le-leb key_limit k h))

  pub life-done : k < key_limit → living 0 ≡ listed ns (life p k (length ns))
  unfolding life
  life-done h = ap (λ (b : Bool). living (first_of (rule 5 b ∷ []))) (sym (lt-leb key_limit k h))
