-- Laws about differ/specs/Listing. Assumes nothing.
use Prim.Native.Nat.{ℕ, ◌+◌, ◌≤◌}
use native.Mathlib.Omega.{arith}
use mathlib.Core.Bool.{Bool, true}
use mathlib.Core.Path.{◌≡◌, ap}
use mathlib.Core.List.{List, [], ◌∷◌, ◌++◌}
use lib.ListN.{length}
use borrow.Author.Tests.{eq-eqb, ne_eqb}
use Rattle.model.specs.Basic.{pick}
use Rattle.model.specs.declared.Pair.{Pair}
use Rattle.model.specs.declared.Limits.{Limits}
use Rattle.model.specs.Walk.{settings, key_limit}
use Rattle.model.specs.Layout.{decode}
use Rattle.model.proofs.reading.Lookups.{settings-rise, settings-low}
use Rattle.store.proofs.laws.Sure.{sure}
use Rattle.walk.specs.Sure.{Walkable}
use Rattle.cursor.specs.First.{at_or_above, leads}
use Rattle.model.specs.declared.Delta.{Delta}
use Rattle.model.specs.Inner.{rising}
use Rattle.model.specs.Tree.{in_range}
use Rattle.differ.proofs.laws.Append.{few-differ}
use Rattle.differ.specs.Merge.{compared, told, Onward}
use Rattle.differ.proofs.laws.Merge.{left-start, left_end, left-on, left_step}
use Rattle.differ.specs.Listing.{between, left_of}

pub reads-rising : {l : Limits} {b : List ℕ} {v : ℕ} → Walkable l b v → rising (settings (decode l.least b) v) ≡ true
reads-rising {l} {b} {v} r =
    settings-rise l.least (omega (arith, r.edition.four)) (decode l.least b) (sure r.edition b r.sound) v r.version

pub reads-low : {l : Limits} {b : List ℕ} {v : ℕ} → Walkable l b v → in_range 0 key_limit (settings (decode l.least b) v) ≡ true
reads-low {l} {b} {v} r =
    settings-low l.least (omega (arith, r.edition.four)) (decode l.least b) (sure r.edition b r.sound) v r.version

-- a cursor's answer that is told, or not
pub told_same : (d : Delta) → d.kind ≡ 3 → told d ≡ []
told_same d e = ap (λ (b : Bool). pick b [] (d ∷ [])) (eq-eqb d.kind 3 e)

pub told-one : (d : Delta) → (d.kind ≡ 3 → ⊥) → told d ≡ d ∷ []
told-one d e = ap (λ (b : Bool). pick b [] (d ∷ [])) (ne_eqb d.kind 3 e)

module _ {l : Limits} {b : List ℕ} {u v : ℕ} (r : Walkable l b u) (q : Walkable l b v) where
  abbrev us : List Pair
  us = settings (decode l.least b) u

  abbrev ws : List Pair
  ws = settings (decode l.least b) v

  pub from_start : left_of l b u v 0 ≡ between l b u v
  from_start = left-start us ws (reads-rising r) (reads-rising q) (reads-low r) (reads-low q)

  pub from_end : (k : ℕ) → key_limit ≤ k → left_of l b u v k ≡ []
  from_end k h = left_end us ws (reads-rising r) (reads-rising q) (reads-low r) (reads-low q) k h

  module _ (k : ℕ) (h : k ≤ key_limit) (d : Delta) (e : d ≡ compared (leads (at_or_above k us)) (leads (at_or_above k ws))) where
    pub from_on : Onward k d.key
    from_on = left-on us ws (reads-rising r) (reads-rising q) (reads-low r) (reads-low q) k h d e

    pub from_step : left_of l b u v k ≡ told d ++ left_of l b u v (d.key + 1)
    from_step = left_step us ws (reads-rising r) (reads-rising q) (reads-low r) (reads-low q) k h d e

  -- no more than keys
  pub few-between : length (between l b u v) ≤ key_limit
  few-between = few-differ key_limit us ws (reads-rising r) (reads-rising q) (reads-low r) (reads-low q)
