-- Laws about local/specs/Second. Assumes nothing.
use Prim.Native.Nat.{ℕ, zero, suc, ◌+◌, ◌*◌, ◌-◌, ◌<◌, ◌≤◌}
use mathlib.Core.Bool.{Bool, true, false, ◌&&◌, ◌||◌, and_assoc}
use mathlib.Core.Path.{◌≡◌, refl, ap, sym, ◌∙◌}
use mathlib.Core.List.{List}
use native.Mathlib.Omega.{arith}
use lib.Dec.{leb, ltb}
use lib.ListN.{drop}
use borrow.Author.Tests.{lt-leb, lt-ltb, leb-true, leb-false}
use Rattle.model.specs.declared.Slot.{Slot}
use Rattle.model.specs.Basic.{all, in_order}
use Rattle.model.specs.Store.{last, last_of}
use Rattle.model.specs.declared.Header.{Header}
use Rattle.std.specs.List.{list_all, range_with_len}
use Rattle.model.specs.Sound.{rule2, first_version}
use Rattle.model.specs.Layout.{read_header, read_slot, read_slots, decode}
use Rattle.model.specs.Inner.{first_ok, sooner}
use Rattle.model.proofs.lists.Lists.{both_true}
use Rattle.model.proofs.lists.Members.{not-both}
use Rattle.model.proofs.lists.Rising.{in-order-step, sooner-carries}
use Rattle.store.proofs.laws.Read.{slots-step, slots_end, slots-of, oldest-of}
use Rattle.local.specs.Local.{slot_at, slots_ok}
use Rattle.local.proofs.laws.Loops.{and-four}
use Rattle.local.proofs.laws.First.{last-is}
use Rattle.local.specs.Second.{old, newer, begun}

-- ---- the slots from slot i on

module _ (l : ℕ) (s : List ℕ) (o i n : ℕ) where
  pub slots-ok-step : i < n
      → slots_ok l (read_slots s (o + 32 * i) (n - i))
      ≡ (leb (read_slot s (o + 32 * i)).version l
      && (first_ok sooner (read_slot s (o + 32 * i)) (read_slots s (o + 32 * (i + 1)) (n - (i + 1)))
      && slots_ok l (read_slots s (o + 32 * (i + 1)) (n - (i + 1)))))
  unfolding slots_ok
  slots-ok-step h =
      let x : Slot = read_slot s (o + 32 * i) in
      let xs : List Slot = read_slots s (o + 32 * (i + 1)) (n - (i + 1)) in
      ap (slots_ok l) (slots-step s o i n h)
      ∙ ap (λ (b : Bool). b && (leb x.version l && all (λ (y : Slot). leb y.version l) xs)) (in-order-step sooner sooner-carries x xs)
      ∙ and-four (first_ok sooner x xs) (in_order sooner xs) (leb x.version l) (all (λ (y : Slot). leb y.version l) xs)

  pub slots-ok-start : slots_ok l (read_slots s o n) ≡ slots_ok l (read_slots s (o + 32 * 0) (n - 0))
  slots-ok-start = let a : o + 32 * 0 ≡ o = omega arith in let b : n - 0 ≡ n = omega arith in rw (a, b)

  pub slots-ok-end : n ≤ i → slots_ok l (read_slots s (o + 32 * i) (n - i)) ≡ true
  unfolding slots_ok
  slots-ok-end h = ap (slots_ok l) (slots_end s (o + 32 * i) i n h)

  -- the slot behind x, if there is one
  pub slot-is : (x : Slot) → first_ok sooner x (read_slots s (o + 32 * i) (n - i))
      ≡ (leb n i || ltb x.version (read_slot s (o + 32 * i)).version)
  slot-is x = at (leb n i) refl
    where
      at : (b : Bool) → leb n i ≡ b
          → first_ok sooner x (read_slots s (o + 32 * i) (n - i)) ≡ (b || ltb x.version (read_slot s (o + 32 * i)).version)
      at true e = ap (first_ok sooner x) (slots_end s (o + 32 * i) i n (leb-true n i e))
      at false e = ap (first_ok sooner x) (slots-step s o i n (leb-false n i e))

-- each is read in turn
module _ (l : ℕ) (s : List ℕ) (o n : ℕ) where
  abbrev pub slot_test : ℕ → Bool
  slot_test i = leb (read_slot s (o + 32 * i)).version l
      && first_ok sooner (read_slot s (o + 32 * i)) (read_slots s (o + 32 * (i + 1)) (n - (i + 1)))

  slots-ok-from : (k i : ℕ) → n - i ≡ k → list_all slot_test (range_with_len i k) ≡ slots_ok l (read_slots s (o + 32 * i) (n - i))
  slots-ok-from zero i e = sym (slots-ok-end l s o i n (omega (arith, e)))
  slots-ok-from (suc k) i e =
      let x = read_slot s (o + 32 * i) in
      let xs = read_slots s (o + 32 * (i + 1)) (n - (i + 1)) in
      ap (λ (b : Bool). slot_test i && b) (slots-ok-from k (i + 1) (omega (arith, e)))
      ∙ and_assoc (leb x.version l) (first_ok sooner x xs) (slots_ok l xs)
      ∙ sym (slots-ok-step l s o i n (omega (arith, e)))

  pub slots-ok-all : list_all slot_test (range_with_len 0 n) ≡ slots_ok l (read_slots s o n)
  slots-ok-all = slots-ok-from n 0 (omega arith) ∙ sym (slots-ok-start l s o 0 n)

-- ---- the rule

first-version : (old : ℕ) (s : List ℕ) (o n : ℕ) → 0 < n → first_version old (read_slots s o n) ≡ (read_slot s (o + 32 * 0)).version
unfolding read_slots
first-version old s o zero h = absurd (omega arith)
first-version old s o (suc n) h = let e : o + 32 * 0 ≡ o = omega arith in rw e

module _ (least : ℕ) (s : List ℕ) where
  abbrev roots : ℕ
  roots = (read_header least s).roots

  abbrev xs : List Slot
  xs = read_slots s (512 * least) roots

  pub rule2-is : rule2 (decode least s) ≡ (begun least s && newer least s)
  unfolding rule2 slots_ok
  rule2-is = rw (slots-of least s, oldest-of least s)
      (ap (λ (b : Bool). b && newer least s)
      (and_assoc (leb (first_version (old least s) xs) (old least s)) (in_order sooner xs)
      (all (λ (x : Slot). leb x.version (last (decode least s))) xs)))

  -- "Directory versions begin at 0", or at most at the oldest
  pub two_none : roots ≡ 0 → begun least s ≡ false
  unfolding read_slots
  two_none e = rw (e, lt-leb (suc (old least s)) (old least s) (omega arith))

  pub two-is : (h : Header) → h ≡ read_header least s
      → begun least s ≡ (ltb 0 h.roots && leb (slot_at least s 0).version h.oldest
      && slots_ok (last_of h.opened h.current) (read_slots s (512 * least) h.roots))
  two-is h e = rw (e, ← last-is least s) (at roots refl)
    where
      at : (n : ℕ) → roots ≡ n → begun least s ≡ (ltb 0 n && leb (slot_at least s 0).version (old least s) && slots_ok (last (decode least s)) xs)
      at zero q = two_none q
      at (suc n) q = rw (first-version (old least s) s (512 * least) roots (omega (arith, q)), lt-ltb 0 (suc n) (omega arith))

  -- what it gives
  pub some-root : rule2 (decode least s) ≡ true → 0 < roots
  some-root e = at roots refl
    where
      at : (n : ℕ) → (read_header least s).roots ≡ n → 0 < n
      at zero q = absurd (not-both (begun least s) (both_true (begun least s) (newer least s) (sym rule2-is ∙ e)).0 (two_none q))
      at (suc n) q = omega arith

  pub root-first : rule2 (decode least s) ≡ true → (slot_at least s 0).version ≤ old least s
  root-first e =
      omega (
        arith,
        first-version (old least s) s (512 * least) roots (some-root e),
        leb-true (first_version (old least s) xs) (old least s)
            (both_true (leb (first_version (old least s) xs) (old least s)) (slots_ok (last (decode least s)) xs)
            (both_true (begun least s) (newer least s) (sym rule2-is ∙ e)).0).0,
      )

-- ---- the slots behind the first are newer

pub newer-start : (least : ℕ) (s : List ℕ) → newer least s
    ≡ all (λ (x : Slot). ltb (old least s) x.version) (read_slots s (512 * least + 32 * 1) ((read_header least s).roots - 1))
unfolding read_slots
newer-start least s = at (read_header least s).roots
  where
    at : (n : ℕ) → all (λ (x : Slot). ltb (old least s) x.version) (drop 1 (read_slots s (512 * least) n))
        ≡ all (λ (x : Slot). ltb (old least s) x.version) (read_slots s (512 * least + 32 * 1) (n - 1))
    at zero = refl
    at (suc n) = let e : 512 * least + 32 * 1 ≡ 512 * least + 32 = omega arith in let f : suc n - 1 ≡ n = omega arith in rw (e, f)
