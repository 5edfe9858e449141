-- Laws about walk/specs/Covers. Assumes nothing.
use Prim.Native.Nat.{ℕ, suc, ◌≤◌, ◌<◌}
use native.Mathlib.Omega.{arith}
use mathlib.Core.Bool.{true}
use mathlib.Core.Path.{◌≡◌, sym, subst}
use mathlib.Core.Logic.{inl, inr}
use mathlib.Core.List.{List, [], ◌∷◌}
use borrow.Author.Tests.{le-leb}
use Rattle.model.specs.declared.Pair.{Pair}
use Rattle.model.specs.Page.{Page, pairs_at}
use Rattle.model.specs.Store.{Store, page}
use Rattle.model.specs.Walk.{around, root_at, height_of, settings, key_limit}
use Rattle.model.proofs.tree.Tree.{Tree}
use Rattle.model.proofs.tree.Descend.{found_in}
use Rattle.model.proofs.sound.Ready.{holds-all, root-level}
use Rattle.model.specs.Near.{starts_by}
use Rattle.model.specs.Inner.{In}
use Rattle.model.specs.Tree.{Says, Row}
use Rattle.model.specs.ByRule.{Readable, Sound}
use Rattle.walk.specs.Covers.{Covers}

-- the first router of a row has its low key
row-starts : (S : Says) (hi : ℕ) (rs : List Pair) (lo : ℕ) (zs : List Pair) (k : ℕ) → Row S hi rs lo zs → lo ≤ k → k < hi
    → starts_by k rs ≡ true
row-starts S hi [] lo zs k t p q = absurd (omega (arith, t.met))
row-starts S hi (r ∷ rs) lo zs k t p q = le-leb r.key k (omega (arith, t.low))

-- a router of a row leads to a page that has the router's key
module _ (least v : ℕ) (ps : List Page) where
  row-leads : (l hi : ℕ) (rs : List Pair) (lo : ℕ) (zs : List Pair) → Row (Tree least v l ps) hi rs lo zs → (x : Pair) → In x rs
      → Covers least v ps l x.value x.key
  row-leads l hi [] lo zs t x i = absurd i
  row-leads l hi (r ∷ rs) lo zs t x (inl e) =
      subst (λ (y : Pair). Covers least v ps l y.value y.key) (sym e)
      (record {
        low = lo;
        high = t.mid;
        shown = t.mine;
        level = t.here.level;
        holds = t.here.holds;
        from = omega (arith, t.low);
        below = omega (arith, t.low, t.room);
      })
  row-leads l hi (r ∷ rs) lo zs t x (inr i) = row-leads l hi rs t.mid t.others t.rest x i

  module _ (up n k : ℕ) (c : Covers least v ps (suc up) n k) where
    pub covers-starts : starts_by k (pairs_at v (page ps n)) ≡ true
    covers-starts = row-starts (Tree least v up ps) c.high (pairs_at v (page ps n)) c.low c.shown k c.holds c.from c.below

    -- the page that the last router at or below the key leads to
    pub covers-own : Covers least v ps up (around k (pairs_at v (page ps n))).own.value k
    covers-own =
        let f = found_in least v k (Tree least v up ps) (pairs_at v (page ps n)) c.low c.high c.shown c.holds c.from
        c.below in
        record {
          low = f.low;
          high = f.mid;
          shown = f.mine;
          level = f.here.level;
          holds = f.here.holds;
          from = f.from;
          below = f.upto;
        }

    -- the page that any router leads to
    pub covers-later : (x : Pair) → In x (pairs_at v (page ps n)) → Covers least v ps up x.value x.key
    covers-later x i = row-leads up c.high (pairs_at v (page ps n)) c.low c.shown c.holds x i

pub covers-root : (least : ℕ) → 2 ≤ least → (s : Store) → Sound least s → (v k : ℕ) → Readable s v → k < key_limit
    → Covers least v s.pages (height_of s.pages (root_at s.slots v)) (root_at s.slots v) k
covers-root least two s d v k h low = record {
  low = 0;
  high = key_limit;
  shown = settings s v;
  level = root-level least two s d v h.from;
  holds = holds-all least two s d v h;
  from = omega arith;
  below = low;
}
