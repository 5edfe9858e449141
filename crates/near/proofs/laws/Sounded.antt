-- A range on a sound store is right from its root down.
-- Assumes nothing.
use Prim.Native.Nat.{ℕ, ◌<◌}
use mathlib.Core.Bool.{true, not}
use mathlib.Core.Path.{◌≡◌}
use mathlib.Core.List.{List}
use Rattle.model.specs.declared.Limits.{Limits}
use Rattle.model.specs.Page.{is_free}
use Rattle.model.specs.Store.{Store, page}
use Rattle.model.specs.Walk.{key_limit, root_at, height_of}
use Rattle.model.specs.Layout.{decode}
use Rattle.model.specs.Near.{range_right}
use Rattle.model.proofs.lists.Lists.{both_true}
use Rattle.store.proofs.laws.Sure.{taken, few}
use Rattle.local.proofs.laws.Sizes.{sized}
use Rattle.walk.specs.Sure.{Walkable}
use Rattle.tabled.specs.Here.{Reads}
use Rattle.near.proofs.laws.Same.{range-all-right}

module _ {l : Limits} {b : List ℕ} {v : ℕ} (r : Walkable l b v) where
  abbrev s : Store
  s = decode l.least b

  abbrev root : ℕ
  root = root_at s.slots v

  pub sound-reads : Reads l b
  sound-reads = record {
    edition = r.edition;
    sized = sized l.least r.edition.four b r.edition.eight (taken r.edition b r.sound).length-ok;
    few = few r.edition b r.sound;
  }

  pub sound-range : (lo hi : ℕ) → lo < key_limit → range_right l.least b v (height_of s.pages root) hi lo root ≡ true
  sound-range lo hi q =
      (both_true (not (is_free (page s.pages root))) (range_right l.least b v (height_of s.pages root) hi lo root)
      (range-all-right r.edition b r.sound v r.version lo hi q)).1
