-- Laws about notes/specs/Ready. Assumes nothing.
use Prim.Native.Nat.{ℕ, zero, suc, ◌+◌, ◌*◌, ◌-◌, ◌<◌, ◌≤◌}
use native.Mathlib.Omega.{arith}
use native.Mathlib.Numerals.{add-one}
use mathlib.Core.Bool.{Bool}
use mathlib.Core.Path.{◌≡◌, ap, ap₂, sym, ◌∙◌, subst}
use mathlib.Core.List.{List, ◌∷◌}
use mathlib.Core.Logic.{inl, inr, ⊎_elim}
use lib.Dec.{leb}
use borrow.Author.Tests.{le-leb}
use Rattle.bits.proofs.laws.Put.{less}
use Rattle.model.specs.declared.Header.{Header}
use Rattle.model.specs.declared.Slot.{Slot}
use Rattle.model.specs.Basic.{pick, count}
use Rattle.model.specs.Sound.{versions}
use Rattle.model.specs.Store.{last_of}
use Rattle.model.specs.Walk.{root_at, root_from}
use Rattle.model.specs.Layout.{read_slot, read_slots, read_header, decode}
use Rattle.model.specs.Inner.{Out, In}
use Rattle.model.proofs.sound.Quiet.{root-still, out-less}
use Rattle.store.proofs.laws.Read.{slots-step, slots_end, slots-of, oldest-of}
use Rattle.local.specs.Local.{slot_at}
use Rattle.local.proofs.laws.First.{last-is}
use Rattle.notes.specs.Ready.{QuietSlots, Ready}

-- ---- one more slot

pub outs-more : (f : ℕ → ℕ) (i v r q : ℕ) → ((k : ℕ) → k < i → Out v r (f k)) → q ≤ r → Out v q (f i) → (k : ℕ) → k < i + 1 → Out v q (f k)
outs-more f i v r q h le o k l = ⊎_elim (λ a. out-less v r q (f k) (h k a) le) (λ a. let e : k ≡ i = omega arith in rw e o) (less k i)

slot-in : (s : List ℕ) (o n : ℕ) (P : Slot → Type 0) → ((i : ℕ) → i < n → P (read_slot s (o + 32 * i))) → (x : Slot) → In x (read_slots s o n)
    → P x
unfolding read_slots
slot-in s o zero P h x i = absurd i
slot-in s o (suc n) P h x (inl q) = let z : o + 32 * 0 ≡ o = omega arith in subst P (sym q) (rw z at (h 0 (omega arith)))
slot-in s o (suc n) P h x (inr i) =
    slot-in s (o + 32) n P (λ k l. let z : o + 32 * suc k ≡ o + 32 + 32 * k = omega arith in rw z at (h (suc k) (omega arith))) x i

pub quiet-slots : (least : ℕ) (s : List ℕ) (v r : ℕ) → ((i : ℕ) → i < (read_header least s).roots → Out v r (slot_at least s i).version)
    → (x : Slot) → In x (decode least s).slots → Out v r x.version
quiet-slots least s v r q x i = slot-in s (512 * least) _ (λ (y : Slot). Out v r y.version) q x (rw (slots-of least s) at i)

-- the versions from v up to c have one root
pub root-quiet : (least : ℕ) (s : List ℕ) (h : Header) (v u c : ℕ) → Ready least s h → v ≤ u → u < c → QuietSlots least s h v c
    → root_at (decode least s).slots v ≡ root_at (decode least s).slots u
root-quiet least s h v u c y low high q =
    root-still v u c low high (decode least s).slots (quiet-slots least s v c (λ i l. q i (rw y.header l))) 0

-- the versions up to last
pub versions-upto : (least : ℕ) (s : List ℕ) (h : Header) (n : ℕ) → h ≡ read_header least s → n ≡ last_of h.opened h.current
    → count h.oldest (n + 1 - h.oldest) ≡ versions (decode least s)
versions-upto least s h n e q =
    rw add-one
    (ap₂ (λ (a k : ℕ). count a (suc k - a)) (ap (λ (x : Header). x.oldest) e ∙ sym (oldest-of least s))
    (q ∙ ap (λ (x : Header). last_of x.opened x.current) e ∙ sym (last-is least s)))

-- ---- the root of a version, one slot after the other

module _ (least : ℕ) (s : List ℕ) (v : ℕ) where
  pub root-start : (h : Header) → Ready least s h → h.oldest ≤ v
      → root_at (decode least s).slots v ≡ root_from (slot_at least s 0).root (read_slots s (512 * least + 32 * 1) (h.roots - 1)) v
  root-start h y from =
      let n : ℕ = h.roots in
      let o : ℕ = 512 * least in
      let a : o + 32 * 0 ≡ o = omega arith in
      let b : n - 0 ≡ n = omega arith in
      let c : read_slots s (o + 32 * 0) n ≡ slot_at least s 0 ∷ read_slots s (o + 32 * (0 + 1)) (n - (0 + 1))
      = rw b at (slots-step s o 0 n y.some) in
      let d : read_slots s o n ≡ slot_at least s 0 ∷ read_slots s (o + 32 * 1) (n - 1) = ap (λ (k : ℕ). read_slots s k n) (sym a) ∙ c in
      ap (λ (xs : List Slot). root_at xs v) (slots-of least s ∙ ap (λ (x : Header). read_slots s o x.roots) (sym y.header) ∙ d)
      ∙ ap (λ (t : Bool). root_from (pick t (slot_at least s 0).root 0) (read_slots s (o + 32 * 1) (n - 1)) v)
      (le-leb (slot_at least s 0).version v (omega (arith, y.first)))

  pub root-step : (r i n : ℕ) → i < n
      → root_from r (read_slots s (512 * least + 32 * i) (n - i)) v
      ≡ root_from (pick (leb (slot_at least s i).version v) (slot_at least s i).root r)
      (read_slots s (512 * least + 32 * (i + 1)) (n - (i + 1))) v
  root-step r i n h = rw (slots-step s (512 * least) i n h)

  pub root-end : (r i n : ℕ) → n ≤ i → root_from r (read_slots s (512 * least + 32 * i) (n - i)) v ≡ r
  root-end r i n h = rw (slots_end s (512 * least + 32 * i) i n h)
