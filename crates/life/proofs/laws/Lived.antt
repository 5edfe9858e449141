-- Laws about life/specs/Lived. Assumes nothing.
use Prim.Native.Nat.{ℕ, ◌^◌, ◌≤◌}
use native.Mathlib.Omega.{arith}
use Rattle.std.specs.Prelude.{true, false, ◌≢◌, nat_eq, None, Some, Option as Answer}
use Rattle.std.specs.Option.{option_eq}
use borrow.Author.Tests.{eqb-true, eqb-false}
use mathlib.Core.Option.{Option, none, some}
use mathlib.Core.Path.{◌≡◌, refl, ap, ap₂, sym, ◌∙◌}
use mathlib.Core.List.{List, ◌++◌}
use lib.Dec.{ltb}
use lib.ListN.{length}
use Rattle.model.specs.Basic.{pick}
use Rattle.model.specs.declared.Limits.{Limits}
use Rattle.model.specs.declared.Stretch.{Stretch}
use Rattle.model.specs.Entry.{alive}
use Rattle.model.specs.Limits.{Edition}
use Rattle.model.specs.Layout.{read_header, decode}
use Rattle.model.specs.Judged.{is_sound}
use Rattle.model.specs.Refusals.{found_in}
use Rattle.model.specs.Life.{life_of}
use Rattle.model.specs.Inner.{Lasts}
use Rattle.model.proofs.reading.Lives.{told_of, rest, rest-step, life-length}
use Rattle.model.proofs.sound.ByRule.{old-current, upto-last}
use Rattle.store.proofs.laws.Read.{current-of, oldest-of}
use Rattle.store.proofs.laws.Sure.{sure}
use Rattle.walk.specs.Sure.{Walkable}
use Rattle.life.specs.Lived.{shown}

-- answers compared
pub same_true : (x y : Answer ℕ) → option_eq nat_eq x y ≡ true → found_in x ≡ found_in y
same_true None None h = refl
same_true None (Some y) h = absurd (let z : ◌≡◌ {A = ℕ} 0 1 = cc in omega arith)
same_true (Some x) None h = absurd (let z : ◌≡◌ {A = ℕ} 0 1 = cc in omega arith)
same_true (Some x) (Some y) h = ap some (eqb-true x y h)

pub same_false : (x y : Answer ℕ) → option_eq nat_eq x y ≡ false → found_in x ≢ found_in y
same_false None None h e = let z : ◌≡◌ {A = ℕ} 0 1 = cc in omega arith
same_false None (Some y) h e = let z : ◌≡◌ {A = ℕ} 0 1 = cc in omega arith
same_false (Some x) None h e = let z : ◌≡◌ {A = ℕ} 0 1 = cc in omega arith
same_false (Some x) (Some y) h e = eqb-false x y h (let q : x ≡ y = cc in q)

shown-told : (c v r : ℕ) (o : Option ℕ) → shown v (pick (ltb c r) alive r) o ≡ told_of c v r o
shown-told c v r none = refl
shown-told c v r (some x) = refl

-- ---- versions that can be read

module _ {l : Limits} {b : List ℕ} {c : ℕ} (r : Walkable l b c) where
  pub reads_at : (v : ℕ) → (decode l.least b).oldest ≤ v → v ≤ c → Walkable l b v
  reads_at v from h =
      record { edition = r.edition; sound = r.sound; version = record { from = from; upto = omega (arith, r.version.upto) } }

  pub low : c ≤ 1048574
  low = omega (arith, r.version.upto, (sure r.edition b r.sound).last-low)

-- the current version
module _ {l : Limits} (d : Edition l) (b : List ℕ) (h : is_sound l.least b ≡ true) where
  pub reads-current : Walkable l b (read_header l.least b).current
  reads-current =
      record {
        edition = d;
        sound = h;
        version = omega (
          arith,
          current-of l.least b,
          old-current l.least (decode l.least b) (sure d b h).old-low,
          upto-last (decode l.least b).opened (decode l.least b).current,
        );
      }

  -- from the oldest version up to the current one
  pub old-upto : (read_header l.least b).oldest ≤ (read_header l.least b).current
  old-upto =
      omega (arith, current-of l.least b, oldest-of l.least b, old-current l.least (decode l.least b) (sure d b h).old-low)

  pub few-stretches : (old : ℕ) (f : ℕ → Option ℕ) → length (life_of old (read_header l.least b).current f) ≤ 2 ^ 40
  few-stretches old f = omega (arith, life-length (read_header l.least b).current f old, low reads-current)

-- what is told of the versions from v up to r, and the rest behind it
module _ (c : ℕ) (f : ℕ → Option ℕ) (v r e : ℕ) (answer : Option ℕ) (l : Lasts c f v r) (a : answer ≡ f v)
    (s : e ≡ pick (ltb c r) alive r) where
  pub rest-told : rest c f v ≡ shown v e answer ++ rest c f r
  rest-told = rest-step c f v r l ∙ ap (λ (xs : List Stretch). xs ++ rest c f r) (sym (ap₂ (shown v) s a ∙ shown-told c v r (f v)))
