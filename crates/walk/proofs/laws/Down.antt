-- Laws about walk/specs/Down. Assumes nothing.
use Prim.Native.Nat.{ℕ, zero, suc, ◌+◌, ◌*◌, ◌-◌, ◌≤◌, ◌<◌}
use native.Mathlib.Omega.{arith}
use mathlib.Core.Bool.{true}
use mathlib.Core.Path.{◌≡◌, refl, ap, ◌∙◌}
use mathlib.Core.List.{List, [], ◌∷◌, ◌++◌}
use lib.Dec.{leb}
use borrow.Author.Tests.{le-leb, lt-leb, ltb-true}
use Rattle.model.specs.Basic.{pick, all, in_order}
use Rattle.model.specs.declared.Slot.{Slot}
use Rattle.model.specs.Page.{Page, pairs_at}
use Rattle.model.specs.Store.{Store, page}
use Rattle.model.specs.Walk.{Around, around, root_from, root_at, height_of, way_down, way, leaf_of}
use Rattle.model.specs.Field.{field}
use Rattle.model.specs.Layout.{read_slot, read_slots, no_slot}
use Rattle.model.proofs.lists.Lists.{both_true}
use Rattle.model.proofs.lists.Members.{all-at}
use Rattle.model.proofs.older.Past.{by_slot}
use Rattle.bits.proofs.laws.Laws.{field-split}
use Rattle.store.proofs.laws.Read.{slots_at, length-slots, root-lt}
use Rattle.walk.specs.Down.{SlotsUpto}

-- ---- the leaf

abbrev pub leaf_down : ℕ → List Page → ℕ → ℕ → ℕ → ℕ
leaf_down zero ps v k n = n
leaf_down (suc up) ps v k n = leaf_down up ps v k (around k (pairs_at v (page ps n))).own.value

down-leaf : (up : ℕ) (ps : List Page) (v k r n : ℕ) (acc : List Around) → leaf_of r acc ≡ n
    → leaf_of r (way_down up ps v k n acc) ≡ leaf_down up ps v k n
down-leaf zero ps v k r n acc e = e
down-leaf (suc up) ps v k r n acc e =
    let a : Around = around k (pairs_at v (page ps n)) in
    down-leaf up ps v k r a.own.value (a ∷ acc) refl

pub way-leaf : (s : Store) (v k : ℕ) → leaf_of (root_at s.slots v) (way s v k)
    ≡ leaf_down (height_of s.pages (root_at s.slots v)) s.pages v k (root_at s.slots v)
way-leaf s v k = down-leaf (height_of s.pages (root_at s.slots v)) s.pages v k (root_at s.slots v) (root_at s.slots v) [] refl

-- ---- the root

slots-last : (b : List ℕ) (o n : ℕ) → read_slots b o (suc n) ≡ read_slots b o n ++ (read_slot b (o + 32 * n) ∷ [])
unfolding read_slots
slots-last b o zero = let e : o + 32 * 0 ≡ o = omega arith in rw e
slots-last b o (suc n) =
    let e : o + 32 * suc n ≡ o + 32 + 32 * n = omega arith in rw e (ap (λ (xs : List Slot). read_slot b o ∷ xs) (slots-last b (o + 32) n))

root-last : (r v : ℕ) (xs : List Slot) (x : Slot) → root_from r (xs ++ (x ∷ [])) v ≡ pick (leb x.version v) x.root (root_from r xs v)
root-last r v [] x = refl
root-last r v (y ∷ xs) x = root-last (pick (leb y.version v) y.root r) v xs x

module _ (b : List ℕ) (o v n : ℕ) where
  last-slot : root_at (read_slots b o (suc n)) v ≡ pick (leb (read_slot b (o + 32 * n)).version v) (read_slot b (o + 32 * n)).root
      (root_at (read_slots b o n) v)
  last-slot = ap (λ (xs : List Slot). root_at xs v) (slots-last b o n) ∙ root-last 0 v (read_slots b o n) (read_slot b (o + 32 * n))

  pub root-here : (read_slot b (o + 32 * n)).version ≤ v → root_at (read_slots b o (suc n)) v ≡ (read_slot b (o + 32 * n)).root
  root-here h = last-slot ∙ rw (le-leb (read_slot b (o + 32 * n)).version v h)

  pub root_before : v < (read_slot b (o + 32 * n)).version → root_at (read_slots b o (suc n)) v ≡ root_at (read_slots b o n) v
  root_before h = last-slot ∙ rw (lt-leb (read_slot b (o + 32 * n)).version v h)

pub root_none : (b : List ℕ) (o v : ℕ) → root_at (read_slots b o 0) v ≡ 0
unfolding read_slots
root_none b o v = refl

-- ---- the slots at or below a version

-- a slot is one word: its version, and its root behind it
module _ (b : List ℕ) (o v w : ℕ) (e : w ≡ field b o 32) where
  slot-word : field b o 32 ≡ (read_slot b o).version * 4096 + (read_slot b o).root
  unfolding read_slot
  slot-word = field-split b o 20 12

  pub slot-upto : w < v * 4096 + 4096 → (read_slot b o).version ≤ v
  slot-upto h = omega (arith, e, slot-word, h)

  pub slot-above : v * 4096 + 4096 ≤ w → v < (read_slot b o).version
  slot-above h = omega (arith, e, slot-word, root-lt b o, h)

-- what the halves have so far: the slot before place `low` is at or below v, the one at `high` above it
pub record Halved (b : List ℕ) (o v n low high : ℕ) : Type 0 where
  pub order : low ≤ high
  pub within : high ≤ n
  pub below : 0 < low → (read_slot b (o + 32 * (low - 1))).version ≤ v
  pub next : high < n → v < (read_slot b (o + 32 * high)).version

module _ (b : List ℕ) (o v n : ℕ) where
  pub halved-start : Halved b o v n 0 n
  halved-start = record { order = omega arith; within = omega arith; below = λ h. absurd (omega arith); next = λ h. absurd (omega arith) }

  module _ (low high m : ℕ) (f : Halved b o v n low high) where
    pub halved-low : m < high → (read_slot b (o + 32 * m)).version ≤ v → Halved b o v n (m + 1) high
    halved-low l h =
        let e : m + 1 - 1 ≡ m = omega arith in
        record { order = omega arith; within = f.within; below = λ z. rw e h; next = f.next }

    pub halved-high : low ≤ m → m < high → v < (read_slot b (o + 32 * m)).version → Halved b o v n low m
    halved-high g l h = record { order = g; within = omega (arith, f.within); below = f.below; next = λ z. h }

  pub halved-end : (low high : ℕ) → Halved b o v n low high → high ≤ low → SlotsUpto b o v n low
  halved-end low high f l =
      let e : low ≡ high = omega (arith, f.order) in
      record { within = omega (arith, f.within); below = f.below; next = rw (← e) at f.next }

-- versions rise
slots-rise : (b : List ℕ) (o n i d : ℕ) → in_order by_slot (read_slots b o n) ≡ true → i + d < n
    → (read_slot b (o + 32 * i)).version ≤ (read_slot b (o + 32 * (i + d))).version
unfolding read_slots
slots-rise b o zero i d h l = absurd (omega arith)
slots-rise b o (suc n) zero zero h l = omega arith
slots-rise b o (suc n) zero (suc d) h l =
    let xs : List Slot = read_slots b (o + 32) n in
    let first = (both_true (all (by_slot (read_slot b o)) xs) (in_order by_slot xs) h).0 in
    let e : o + 32 * 0 ≡ o = omega arith in
    let f : o + 32 * (0 + suc d) ≡ o + 32 + 32 * d = omega arith in
    let g = all-at (by_slot (read_slot b o)) no_slot xs first d (omega (arith, length-slots b (o + 32) n)) in
    rw (e, f) (omega (
      arith,
      ltb-true (read_slot b o).version (read_slot b (o + 32 + 32 * d)).version
          (rw (slots_at b (o + 32) n d (omega arith)) at g),
    ))
slots-rise b o (suc n) (suc i) d h l =
    let xs : List Slot = read_slots b (o + 32) n in
    let e : o + 32 * suc i ≡ o + 32 + 32 * i = omega arith in
    let f : o + 32 * (suc i + d) ≡ o + 32 + 32 * (i + d) = omega arith in
    rw (e, f) (slots-rise b (o + 32) n i d (both_true (all (by_slot (read_slot b o)) xs) (in_order by_slot xs) h).1 (omega arith))

-- so the last slot at or below v has the root of v
module _ (b : List ℕ) (o v n r : ℕ) (h : in_order by_slot (read_slots b o n) ≡ true) (u : SlotsUpto b o v n r) where
  behind : (d : ℕ) → r + d ≤ n → root_at (read_slots b o (r + d)) v ≡ root_at (read_slots b o r) v
  behind zero l = let e : r + 0 ≡ r = omega arith in rw e
  behind (suc d) l =
      let e : r + suc d ≡ suc (r + d) = omega arith in
      rw e (root_before b o v (r + d) (omega (arith, u.next (omega arith), slots-rise b o n r d h (omega arith)))
      ∙ behind d (omega arith))

  those : root_at (read_slots b o n) v ≡ root_at (read_slots b o r) v
  those = let e : r + (n - r) ≡ n = omega (arith, u.within) in rw e at (behind (n - r) (omega (arith, u.within)))

  pub root-upto : 0 < r → root_at (read_slots b o n) v ≡ (read_slot b (o + 32 * (r - 1))).root
  root-upto z =
      let e : r ≡ suc (r - 1) = omega arith in
      those ∙ ap (λ (k : ℕ). root_at (read_slots b o k) v) e ∙ root-here b o v (r - 1) (u.below z)

  pub root-upto-none : r ≡ 0 → root_at (read_slots b o n) v ≡ 0
  root-upto-none e = those ∙ ap (λ (k : ℕ). root_at (read_slots b o k) v) e ∙ root_none b o v
