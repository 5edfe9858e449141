-- Laws about store/specs/Fresh. Assumes nothing.
use Prim.Native.Nat.{ℕ, zero, suc, ◌+◌, ◌*◌, ◌-◌, ◌<◌, ◌≤◌}
use mathlib.Core.Bool.{false}
use mathlib.Core.Path.{◌≡◌, refl, ap, sym, ◌∙◌}
use mathlib.Core.List.{List, [], ◌∷◌, ◌++◌}
use native.Mathlib.Omega.{arith}
use native.Mathlib.Nat.{suc-mul, add-mul}
use lib.ListN.{length, get_or, set, drop, replicate, length-set, length-replicate}
use Rattle.bits.proofs.laws.Put.{put-byte-whole, length-put, bytes-put}
use Rattle.bits.proofs.laws.Lay.{length-lay, length-zeros}
use Rattle.bits.proofs.laws.Over.{lay-left, zeros-append}
use Rattle.model.specs.declared.Header.{Header}
use Rattle.model.specs.declared.Slot.{Slot}
use Rattle.model.specs.Field.{Bytes, put_field, lay, zeros}
use Rattle.model.specs.Page.{Page, free, filled}
use Rattle.model.specs.Store.{fresh}
use Rattle.model.specs.Layout.{page_of, with_page, encode_page, slots_bytes, pages_bytes, header_of, padded, encode, live_in}
use Rattle.page.specs.Head.{head_of, put_head}
use Rattle.page.proofs.laws.Editions.{count_bits_lem, root-bits, oldest-bits}
use Rattle.page.proofs.laws.Front.{head-put}
use Rattle.page.specs.Exact.{body_bytes}
use Rattle.page.proofs.laws.Exact.{valid-free, free-zeros, head-valid, live-fits}
use Rattle.page.proofs.laws.Exact as page
use Rattle.store.specs.Slots.{slot_parts}
use Rattle.store.proofs.laws.Slots.{directory, directory-bytes, directory-length}
use Rattle.store.specs.Header.{named_by, value_parts, put_header}
use Rattle.store.proofs.laws.Header.{name_parts, header_is}
use Rattle.store.specs.Pages.{AllValid}
use Rattle.store.proofs.laws.Inside.{bytes_of, encode-of, slot-in, page-out, page-in, directory-add}
use Rattle.store.proofs.laws.Set.{drop-set}
use Rattle.store.specs.Fresh.{root_head}

-- "first slot 00 00 00 05"
abbrev pub root_slot : Slot
root_slot = record { version = 0; root = 5 }

abbrev pub fresh_header : ℕ → Header
fresh_header n = record { pages = n; current = 0; opened = false; roots = 1; oldest = 0 }

-- ---- the name, byte by byte

-- the first four bytes written at once
pub name-written : (s : List ℕ) → 4 ≤ length s
    → 0x52 ∷ 0x43 ∷ 0x53 ∷ 0x54 ∷ drop 4 s ≡ set (set (set (set s 0 0x52) 1 0x43) 2 0x53) 3 0x54
name-written (a ∷ b ∷ c ∷ d ∷ s) h = refl
name-written (a ∷ b ∷ c ∷ []) h = absurd (omega arith)
name-written (a ∷ b ∷ []) h = absurd (omega arith)
name-written (a ∷ []) h = absurd (omega arith)
name-written [] h = absurd (omega arith)

pub name-laid : (s : List ℕ) (e : ℕ) → Bytes s → 5 ≤ length s → e < 256
    → set (set (set (set (set s 0 0x52) 1 0x43) 2 0x53) 3 0x54) 4 e ≡ lay s 0 (named_by e)
unfolding lay
name-laid s e b h he =
    let s1 : List ℕ = put_field s 0 8 0x52 in
    let s2 : List ℕ = put_field s1 8 8 0x43 in
    let s3 : List ℕ = put_field s2 16 8 0x53 in
    let s4 : List ℕ = put_field s3 24 8 0x54 in
    let l1 : length s1 ≡ length s = length-put s 0 8 0x52 in
    let l2 : length s2 ≡ length s1 = length-put s1 8 8 0x43 in
    let l3 : length s3 ≡ length s2 = length-put s2 16 8 0x53 in
    let l4 : length s4 ≡ length s3 = length-put s3 24 8 0x54 in
    let b1 : Bytes s1 = bytes-put s 0 8 0x52 b (omega arith) in
    let b2 : Bytes s2 = bytes-put s1 8 8 0x43 b1 (omega arith) in
    let b3 : Bytes s3 = bytes-put s2 16 8 0x53 b2 (omega arith) in
    let b4 : Bytes s4 = bytes-put s3 24 8 0x54 b3 (omega arith) in
    rw (
      ← put-byte-whole s 0 0x52 b (omega arith) (omega arith),
      ← put-byte-whole s1 1 0x43 b1 (omega arith) (omega arith),
      ← put-byte-whole s2 2 0x53 b2 (omega arith) (omega arith),
      ← put-byte-whole s3 3 0x54 b3 (omega arith) (omega arith),
      ← put-byte-whole s4 4 e b4 (omega arith) he,
    )

-- ---- free pages

drop-free : (n : ℕ) → drop 5 (replicate n free) ≡ replicate (n - 5) free
drop-free n = go 5 n
  where
    go : (m n : ℕ) → drop m (replicate n free) ≡ replicate (n - m) free
    go zero n = let e : n - 0 ≡ n = omega arith in rw e
    go (suc m) zero = let e : 0 - suc m ≡ 0 = omega arith in rw e
    go (suc m) (suc n) = let e : suc n - suc m ≡ n - m = omega arith in rw e (go m n)

get-free : (n k : ℕ) → get_or (replicate n free) k free ≡ free
get-free zero k = refl
get-free (suc n) zero = refl
get-free (suc n) (suc k) = get-free n k

module _ (least : ℕ) (four : 4 ≤ least) (eight : least ≤ 8) where
  all-free : (n : ℕ) → AllValid least (replicate n free)
  all-free n k = rw (get-free n k) (valid-free least)

  free_bytes : (n : ℕ) → pages_bytes least (replicate n free) ≡ zeros (n * (64 * least))
  unfolding pages_bytes zeros
  free_bytes zero = let e : 0 * (64 * least) ≡ 0 = omega arith in rw e
  free_bytes (suc n) =
      let e : 64 * least + n * (64 * least) ≡ suc n * (64 * least) = omega (arith, suc-mul n (64 * least)) in
      rw (free-zeros least four eight, free_bytes n) (zeros-append (64 * least) (n * (64 * least)) ∙ ap zeros e)

  root-put : put_head least (encode_page least free) root_head ≡ encode_page least (filled 0 1 [])
  root-put =
      ap (λ (b : List ℕ). put_head least b root_head) (page.encode-is least free)
      ∙ head-put least eight (head_of free) root_head (live_in least []) (body_bytes least (padded least []))
      (head-valid least four eight free (valid-free least)) (live-fits least [] eight (omega arith))
      (record { level = omega arith; count = omega (arith, count_bits_lem least eight); start = omega arith; end = omega arith })
      ∙ sym (page.encode-is least (filled 0 1 []))

  module _ (size : ℕ) (six : 6 ≤ size) (most : size ≤ 4096) where
    abbrev ps : List Page
    ps = replicate (size - 5) free

    abbrev rest : List ℕ
    rest = slots_bytes (directory least []) ++ pages_bytes least ps

    clear-is : zeros (size * (64 * least)) ≡ zeros (64 * least) ++ rest
    unfolding slots_bytes
    clear-is =
        let n : size ≡ size - 5 + 5 = omega arith in
        let q : size * (64 * least) ≡ (size - 5) * (64 * least) + 5 * (64 * least) = ap (λ (y : ℕ). y * (64 * least)) n
        ∙ add-mul (size - 5) 5 (64 * least) in
        let d : slots_bytes (directory least []) ≡ zeros (4 * (64 * least - 0)) = directory-bytes least [] in
        let e : 64 * least + (4 * (64 * least - 0) + (size - 5) * (64 * least)) ≡ size * (64 * least) = omega arith in
        sym (rw (
          d,
          free_bytes (size - 5),
          zeros-append (4 * (64 * least - 0)) ((size - 5) * (64 * least)),
          zeros-append (64 * least) (4 * (64 * least - 0) + (size - 5) * (64 * least)),
          e,
        ))

    named : List ℕ
    named = lay (zeros (64 * least)) 0 (name_parts least)

    named-length : length named ≡ 64 * least
    unfolding named
    named-length = length-lay (zeros (64 * least)) 0 (name_parts least) ∙ length-zeros (64 * least)

    name-is : lay (zeros (size * (64 * least))) 0 (name_parts least) ≡ named ++ rest
    unfolding named
    name-is = rw clear-is (lay-left (zeros (64 * least)) rest 0 (name_parts least) (omega (arith, length-zeros (64 * least))))

    header-laid : put_header least (lay (zeros (size * (64 * least))) 0 (name_parts least)) (fresh_header size)
        ≡ bytes_of least (fresh_header size) (directory least []) ps
    unfolding put_header named
    header-laid =
        rw (name-is, header_is least four eight (fresh_header size))
        (lay-left named rest 40 (value_parts least (fresh_header size))
        (omega (arith, named-length, root-bits least eight, oldest-bits least)))

    abbrev dir : List Slot
    dir = directory least (root_slot ∷ [])

    slot-laid : lay (bytes_of least (fresh_header size) (directory least []) ps) (512 * least + 32 * 0) (slot_parts root_slot)
        ≡ bytes_of least (fresh_header size) dir ps
    slot-laid =
        slot-in least four eight (fresh_header size) (directory least []) ps 0 root_slot
        (omega (arith, directory-length least [] (omega arith))) (record { version = omega arith; root = omega arith })
        ∙ ap (λ (xs : List Slot). bytes_of least (fresh_header size) xs ps) (directory-add least [] root_slot (omega arith))

    -- the bytes before page 5 is written
    abbrev pub begun : List ℕ
    begun =
        lay (put_header least (lay (zeros (size * (64 * least))) 0 (name_parts least)) (fresh_header size)) (512 * least + 32 * 0)
        (slot_parts root_slot)

    begun-is : begun ≡ bytes_of least (fresh_header size) dir ps
    begun-is = ap (λ (b : List ℕ). lay b (512 * least + 32 * 0) (slot_parts root_slot)) header-laid ∙ slot-laid

    pub made : with_page least begun 5 (put_head least (page_of least begun 5) root_head) ≡ encode least (fresh size)
    made =
        let h : Header = fresh_header size in
        let q : Page = filled 0 1 [] in
        let full : length dir ≡ 64 * least = directory-length least (root_slot ∷ []) (omega arith) in
        let n : length ps ≡ size - 5 = length-replicate (size - 5) free in
        let p : page_of least (bytes_of least h dir ps) 5 ≡ encode_page least free
        = page-out least four eight h dir ps full (all-free (size - 5)) 5 (omega arith) (omega arith)
        ∙ ap (encode_page least) (get-free (size - 5) 0) in
        let e : header_of (fresh size) ≡ h
        = λ i. record {
          pages = (length-set (replicate size free) 5 q ∙ length-replicate size free) i;
          current = 0;
          opened = false;
          roots = 1;
          oldest = 0;
        } in
        let d : drop 5 (set (replicate size free) 5 q) ≡ set ps 0 q = drop-set (replicate size free) 5 5 q (omega arith)
        ∙ ap (λ (l : List Page). set l 0 q) (drop-free size) in
        ap (λ (b : List ℕ). with_page least b 5 (put_head least (page_of least b 5) root_head)) begun-is
        ∙ ap (with_page least (bytes_of least h dir ps) 5) (ap (λ (b : List ℕ). put_head least b root_head) p ∙ root-put)
        ∙ page-in least four eight h dir ps full (all-free (size - 5)) 5 q (omega arith) (omega arith)
        ∙ ap (λ (g : Header). bytes_of least g dir (set ps 0 q)) (sym e) ∙ ap (bytes_of least (header_of (fresh size)) dir) (sym d)
        ∙ sym (encode-of least (fresh size))
