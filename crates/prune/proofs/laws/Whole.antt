-- A prune's bytes as a whole: pages pruned, slots moved to the front, and the header. Assumes nothing.
use Prim.Native.Nat.{ℕ, ◌+◌, ◌*◌, ◌-◌, ◌^◌, ◌≤◌, ◌<◌}
use native.Mathlib.Omega.{arith}
use native.Mathlib.Nat.{mul-le-mul_right}
use mathlib.Core.Bool.{true}
use mathlib.Core.Logic.{⊎_elim, ◌≢◌}
use mathlib.Core.Path.{◌≡◌, ap, sym, ◌∙◌, subst}
use mathlib.Core.List.{List, map}
use lib.ListN.{length, get_or, set, drop, length-map, length-set, length-drop, get_or-map}
use lib.Seq.{get_or-set_same, get_or-set_other}
use borrow.Author.Tests.{lt-leb}
use Rattle.model.specs.declared.Slot.{Slot}
use Rattle.model.specs.declared.Header.{Header}
use Rattle.model.specs.declared.Limits.{Limits}
use Rattle.model.specs.Limits.{Edition, oldest_bits}
use Rattle.model.specs.Page.{Page, free}
use Rattle.model.specs.Store.{Store}
use Rattle.model.specs.Field.{lay}
use Rattle.model.specs.Header.{with_roots, with_oldest}
use Rattle.model.specs.Layout.{no_slot, header_of, read_header, read_slot, encode, decode}
use Rattle.model.specs.Judged.{is_sound}
use Rattle.model.specs.Calls.{pruned_page, needed, pruned}
use Rattle.model.proofs.lists.Bools.{same?}
use Rattle.model.proofs.lists.Lists.{take-map}
use Rattle.model.proofs.sound.ByRule.{some-slot}
use Rattle.page.specs.Exact.{Valid}
use Rattle.store.specs.Slots.{SlotFits, slot_parts}
use Rattle.store.proofs.laws.Slots.{directory}
use Rattle.store.specs.Header.{HeaderFits, put_header}
use Rattle.store.specs.Holds.{Holds}
use Rattle.store.proofs.laws.Holds.{header-holds, header-encoded, slot-encoded, encoded-length, decode-encoded}
use Rattle.store.proofs.laws.Inside.{bytes_of, encode-of, header-in}
use Rattle.store.specs.Set.{with_pages, with_slots}
use Rattle.store.proofs.laws.Set.{slot-set, holds-slots}
use Rattle.store.proofs.laws.Sure.{sure}
use Rattle.turn.specs.Turned.{HeadedBytes}
use Rattle.turn.proofs.laws.Partly.{frees}
use Rattle.prune.proofs.laws.Pages.{free-pruned, valid-pruned}
use Rattle.prune.specs.Shift.{shifted}
use Rattle.prune.proofs.laws.Shift.{stage, stage-start, stage-length, stage-step, stage-end, shifted-directory}
use Rattle.prune.specs.Needed.{Needed}

-- bytes of a store that can be held are exactly its own
pub kept-encoded : (least : ℕ) → 4 ≤ least → least ≤ 8 → (s : Store) → Holds least s → (b : List ℕ) → b ≡ encode least s
    → HeadedBytes least b
kept-encoded least four eight s h b e =
    let d : decode least b ≡ s = ap (decode least) e ∙ decode-encoded least four eight s h in
    record {
      same = ap (encode least) d ∙ sym e;
      holds = subst (Holds least) (sym d) h;
      header = ap header_of d ∙ sym (ap (read_header least) e ∙ header-encoded least four eight s h);
    }

pub held-is : (least : ℕ) → 4 ≤ least → least ≤ 8 → (s : Store) → Holds least s → (b : List ℕ) → b ≡ encode least s → decode least b ≡ s
held-is least four eight s h b e = ap (decode least) e ∙ decode-encoded least four eight s h

-- ---- what bytes that are kept give to a reading of slots

module _ {l : Limits} (d : Edition l) (b : List ℕ) (k : HeadedBytes l.least b) where
  abbrev at : Store
  at = decode l.least b

  long : length b ≡ length (decode l.least b).pages * (64 * l.least)
  long = ap (λ (x : List ℕ). length x) (sym k.same) ∙ encoded-length l.least d.four d.eight at k.holds

  pub kept-front : 5 * (64 * l.least) ≤ length b
  kept-front =
      let q : 5 * (64 * l.least) ≤ length at.pages * (64 * l.least) = mul-le-mul_right (64 * l.least) k.holds.five in
      omega (arith, long)

  pub kept-short : length b ≤ 2 ^ 40
  kept-short =
      let q : length at.pages * (64 * l.least) ≤ 8192 * (64 * l.least)
      = mul-le-mul_right (64 * l.least) (omega (arith, k.holds.most)) in
      omega (arith, long, d.eight)

  pub slot_is : (i : ℕ) → i < length (decode l.least b).slots
      → read_slot b (512 * l.least + 32 * i) ≡ get_or (decode l.least b).slots i no_slot
  slot_is i h =
      ap (λ (x : List ℕ). read_slot x (512 * l.least + 32 * i)) (sym k.same)
      ∙ slot-encoded l.least d.four d.eight at k.holds i h

  pub few-slots : length (decode l.least b).slots ≤ 64 * l.least
  few-slots = k.holds.few

  pub slot-put : (i : ℕ) (x : Slot) → i < length (decode l.least b).slots → SlotFits x
      → lay b (512 * l.least + 32 * i) (slot_parts x)
      ≡ encode l.least (with_slots (decode l.least b) (set (decode l.least b).slots i x))
  slot-put i x h f =
      ap (λ (y : List ℕ). lay y (512 * l.least + 32 * i) (slot_parts x)) (sym k.same)
      ∙ slot-set l.least d.four d.eight at k.holds i x h f

  pub slot-fits : (i : ℕ) → SlotFits (get_or (decode l.least b).slots i no_slot)
  slot-fits i = k.holds.slots i

-- ---- slots moved one by one

-- the first i places moved
pub record Shifted (least : ℕ) (s : Store) (k i : ℕ) (b : List ℕ) : Type 0 where
  pub bytes : b ≡ encode least (with_slots s (stage k i s.slots))
  pub holds : Holds least (with_slots s (stage k i s.slots))

set-fits : (xs : List Slot) (i : ℕ) (x : Slot) → i < length xs → SlotFits x → ((j : ℕ) → SlotFits (get_or xs j no_slot)) → (j : ℕ)
    → SlotFits (get_or (set xs i x) j no_slot)
set-fits xs i x low f h j =
    ⊎_elim
    (λ (e : j ≡ i). rw e (subst SlotFits (sym (get_or-set_same xs i x no_slot low)) f))
    (λ (ne : j ≢ i). subst SlotFits (sym (get_or-set_other xs i j x no_slot ne)) (h j)) (same? j i)

module _ (least : ℕ) (four : 4 ≤ least) (eight : least ≤ 8) (s : Store) (k : ℕ) (low : k ≤ length s.slots) where
  pub shifted_start : (b : List ℕ) → b ≡ encode least s → Holds least s → Shifted least s k 0 b
  shifted_start b e h =
      let q : s.slots ≡ stage k 0 s.slots = stage-start k s.slots in
      record {
        bytes = e ∙ ap (λ (xs : List Slot). encode least (with_slots s xs)) q;
        holds = subst (λ (xs : List Slot). Holds least (with_slots s xs)) q h;
      }

  module _ (i : ℕ) (b : List ℕ) (u : Shifted least s k i b) where
    abbrev now : Store
    now = with_slots s (stage k i s.slots)

    pub shifted-kept : HeadedBytes least b
    shifted-kept = kept-encoded least four eight now u.holds b u.bytes

    held : decode least b ≡ now
    held = held-is least four eight now u.holds b u.bytes

    pub shifted-roots : length (decode least b).slots ≡ length s.slots
    shifted-roots = ap (λ (x : Store). length x.slots) held ∙ stage-length k s.slots low i

    pub shifted_step : i < length s.slots → (c : List ℕ)
        → c ≡ encode least (with_slots (decode least b) (set (decode least b).slots i (get_or (decode least b).slots (i + k) no_slot)))
        → Shifted least s k (i + 1) c
    shifted_step h c e =
        let x : Slot = get_or (stage k i s.slots) (i + k) no_slot in
        let t : set (stage k i s.slots) i x ≡ stage k (i + 1) s.slots = stage-step k s.slots low i h in
        let n : i < length (stage k i s.slots) = omega (arith, h, stage-length k s.slots low i) in
        record {
          bytes = e ∙ ap (λ (y : Store). encode least (with_slots y (set y.slots i (get_or y.slots (i + k) no_slot)))) held
              ∙ ap (λ (xs : List Slot). encode least (with_slots s xs)) t;
          holds = subst (λ (xs : List Slot). Holds least (with_slots s xs)) t
              (holds-slots least now u.holds (set (stage k i s.slots) i x)
              (omega (arith, length-set (stage k i s.slots) i x, u.holds.few))
              (set-fits (stage k i s.slots) i x n (u.holds.slots (i + k)) u.holds.slots));
        }

    pub shifted_end : length s.slots ≤ i → b ≡ encode least (with_slots s (shifted k s.slots))
    shifted_end h = u.bytes ∙ ap (λ (xs : List Slot). encode least (with_slots s xs)) (stage-end k s.slots low i h)

-- ---- the whole

-- a store whose pages are pruned can be held
pub pages-hold : (least v : ℕ) (s : Store) → Holds least s → Holds least (with_pages s (map (pruned_page v) s.pages))
pages-hold least v s h = record {
  five = omega (arith, h.five, length-map s.pages (pruned_page v));
  most = omega (arith, h.most, length-map s.pages (pruned_page v));
  front = take-map (pruned_page v) 5 s.pages ∙ ap (map (pruned_page v)) h.front ∙ frees (pruned_page v) (free-pruned v) 5;
  current = h.current;
  oldest = h.oldest;
  few = h.few;
  slots = h.slots;
  pages = λ k. subst (Valid least)
      (sym (get_or-map (pruned_page v) s.pages k free) ∙ ap (λ (x : Page). get_or (map (pruned_page v) s.pages) k x) (free-pruned v))
      (valid-pruned least v _ (h.pages k));
}

-- the version fits, and there is a slot
pub oldest-fits : (least v : ℕ) → 4 < least → v < 2 ^ 20 → v < 2 ^ oldest_bits least
oldest-fits least v h low = rw (lt-leb least 4 h) low

module _ {l : Limits} (d : Edition l) (two : 4 < l.least) (b : List ℕ) (h : is_sound l.least b ≡ true) (k : HeadedBytes l.least b)
    (v : ℕ) (upto : v ≤ (decode l.least b).current) where
  abbrev least : ℕ
  least = l.least

  abbrev s : Store
  s = decode l.least b

  abbrev s1 : Store
  s1 = with_pages s (map (pruned_page v) s.pages)

  rooted : (read_header least b).roots ≡ length s.slots
  rooted = sym (ap (λ (x : Header). x.roots) k.header)

  pub roots-are : (read_header l.least b).roots ≡ length (decode l.least b).slots
  roots-are = rooted

  pub some-roots : 0 < (read_header l.least b).roots
  some-roots = omega (arith, rooted, some-slot s.oldest s.slots (sure d b h).begins)

  pub low-version : v < 2 ^ 20
  low-version = omega (arith, k.holds.current)

  pub header-right : (r : ℕ) → r ≤ (read_header l.least b).roots
      → HeaderFits l.least (with_oldest (with_roots (read_header l.least b) r) v)
  header-right r le =
      let f : HeaderFits least (header_of s) = header-holds least d.four d.eight s k.holds in
      let g : HeaderFits least (read_header least b) = subst (HeaderFits least) k.header f in
      record { pages = g.pages; current = g.current; roots = omega (arith, g.roots, le); oldest = oldest-fits least v two low-version }

  held1 : Holds least s1
  held1 = pages-hold least v s k.holds

  -- ---- pages pruned
  module _ (b1 : List ℕ) (e1 : b1 ≡ encode l.least (with_pages (decode l.least b) (map (pruned_page v) (decode l.least b).pages)))
    where
      pub pages-kept : HeadedBytes l.least b1
      pages-kept = kept-encoded least d.four d.eight s1 held1 b1 e1

      is1 : decode least b1 ≡ s1
      is1 = held-is least d.four d.eight s1 held1 b1 e1

      pub pages-roots : (read_header l.least b).roots ≡ length (decode l.least b1).slots
      pages-roots = rooted ∙ sym (ap (λ (x : Store). length x.slots) is1)

      -- ---- slots moved
      module _ (n : ℕ) (q : Needed v (decode l.least b).slots n) (b2 : List ℕ)
          (e2 : b2 ≡ encode l.least (with_slots (decode l.least b1) (shifted n (decode l.least b1).slots))) where
        abbrev xs : List Slot
        xs = s.slots

        in-roots : n < length s.slots
        in-roots = q.inside

        pub first-in : n ≤ (read_header l.least b).roots
        first-in = omega (arith, rooted, in-roots)

        s2 : Store
        s2 = with_slots s1 (shifted n s.slots)

        bytes2 : b2 ≡ encode least (with_slots s1 (shifted n s.slots))
        bytes2 = e2 ∙ ap (λ (x : Store). encode least (with_slots x (shifted n x.slots))) is1

        -- the header that is written
        header_is : with_oldest (with_roots (read_header least b) ((read_header least b).roots - n)) v ≡ header_of (pruned s v)
        unfolding pruned
        header_is = λ i. record {
          pages = (sym (ap (λ (x : Header). x.pages) k.header) ∙ sym (length-map s.pages (pruned_page v))) i;
          current = sym (ap (λ (x : Header). x.current) k.header) i;
          opened = sym (ap (λ (x : Header). x.opened) k.header) i;
          roots = (ap (λ (r : ℕ). r - n) rooted ∙ sym (length-drop n s.slots) ∙ sym (ap (λ (ys : List Slot). length ys) q.is)) i;
          oldest = v;
        }

        same-slots : directory least (shifted n s.slots) ≡ directory least (needed v s.slots)
        same-slots = shifted-directory least n s.slots (omega (arith, in-roots)) k.holds.few ∙ ap (directory least) (sym q.is)

        pub pruned-bytes : put_header l.least b2 (with_oldest (with_roots (read_header l.least b) ((read_header l.least b).roots - n)) v)
            ≡ encode l.least (pruned (decode l.least b) v)
        unfolding pruned
        pruned-bytes =
            ap (put_header least b2) header_is ∙ ap (λ (x : List ℕ). put_header least x (header_of (pruned s v)))
            (bytes2 ∙ encode-of least (with_slots s1 (shifted n s.slots)))
            ∙ header-in least d.four d.eight (header_of (with_slots s1 (shifted n s.slots))) (directory least (shifted n s.slots))
            (drop 5 (map (pruned_page v) s.pages)) (header_of (pruned s v))
            (subst (HeaderFits least) header_is (header-right ((read_header least b).roots - n) (omega arith)))
            ∙ ap (λ (ys : List Slot). bytes_of least (header_of (pruned s v)) ys (drop 5 (map (pruned_page v) s.pages))) same-slots
            ∙ sym (encode-of least (pruned s v))
