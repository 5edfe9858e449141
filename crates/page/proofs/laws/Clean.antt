-- Bytes of a page that pass rule 1's test of zero bits are exact, if their live count is right. Assumes nothing.
use Prim.Native.Nat.{ℕ, ◌+◌, ◌*◌, ◌-◌, ◌≤◌}
use mathlib.Core.Path.{◌≡◌, ap, sym, ◌∙◌}
use mathlib.Core.Bool.{Bool, true, false, ◌&&◌}
use mathlib.Core.List.{List, ◌++◌, append_assoc}
use native.Mathlib.Omega.{arith}
use borrow.Author.Tests.{leb-true, eqb-true, eq-eqb}
use lib.Dec.{leb, eqb}
use lib.ListN.{length, take, drop}
use lib.Seq.{take_all}
use Rattle.bits.proofs.laws.Lay.{two-parts, zero-at, zero_field}
use Rattle.bits.proofs.laws.Over.{zeros-append, zero-part}
use Rattle.model.specs.Basic.{pick}
use Rattle.model.specs.Limits.{count_bits, live_bits}
use Rattle.model.specs.Field.{field, Bytes, zeros}
use Rattle.model.specs.Layout.{entries_bytes, read_entries, padded, encode_page, decode_page, count_of, live_of, live_in}
use Rattle.model.specs.Clean.{clean_page, spare_at}
use Rattle.model.proofs.lists.Lists.{both_true}
use Rattle.page.specs.declared.Head.{Head}
use Rattle.page.proofs.laws.Editions.{count_bits_lem, live-bits}
use Rattle.page.specs.Head.{read_head, front_bytes}
use Rattle.page.proofs.laws.Read.{length-entries, count-of, entries-of}
use Rattle.page.proofs.laws.Entries.{entries-part, padded-bytes}
use Rattle.page.proofs.laws.Front.{head-part}
use Rattle.page.specs.Exact.{Exact, body_bytes}
use Rattle.page.proofs.laws.Exact.{encode-is, head-is}

pub record Clean (least : ℕ) (p : List ℕ) : Type 0 where
  pub size : length p ≡ 64 * least
  pub bytes : Bytes p
  pub room : count_of least p ≤ 5 * least
  pub spare : field p (44 + count_bits least + live_bits least) (128 - (44 + count_bits least + live_bits least)) ≡ 0
  pub live : live_of least p ≡ live_in least (decode_page least p).entries
  pub rest : field p (128 + 96 * count_of least p) (512 * least - (128 + 96 * count_of least p)) ≡ 0

-- zero bits from a on are zero bits from a later one on
zero-later : (p : List ℕ) (a b : ℕ) → a ≤ b → b ≤ 128 → field p a (128 - a) ≡ 0 → field p b (128 - b) ≡ 0
zero-later p a b h l e = zero_field p b (128 - b) (λ i x y. zero-at p a (128 - a) e i (omega arith) (omega arith))

-- what the test gives
pub record CleanPassed (least : ℕ) (p : List ℕ) : Type 0 where
  pub room : count_of least p ≤ 5 * least
  pub spare : field p (spare_at least (field p 0 4)) (128 - spare_at least (field p 0 4)) ≡ 0
  pub rest : field p (128 + 96 * count_of least p) (512 * least - (128 + 96 * count_of least p)) ≡ 0

pub passed : (least : ℕ) (p : List ℕ) → clean_page least p ≡ true → CleanPassed least p
unfolding clean_page
passed least p e =
    let c : ℕ = count_of least p in
    let a : ℕ = spare_at least (field p 0 4) in
    let x = both_true (leb c (5 * least)) (eqb (field p a (128 - a)) 0 && eqb (field p (128 + 96 * c) (512 * least - (128 + 96 * c))) 0)
    e in
    let y = both_true (eqb (field p a (128 - a)) 0) (eqb (field p (128 + 96 * c) (512 * least - (128 + 96 * c))) 0) x.1 in
    record { room = leb-true _ _ x.0; spare = eqb-true _ _ y.0; rest = eqb-true _ _ y.1 }

-- where the zero bits begin: at the live count of a free page, behind it in a used one
spare_low : (least n : ℕ) → spare_at least n ≤ 44 + count_bits least + live_bits least
spare_low least n = at (eqb n 0)
  where
    at : (b : Bool) → 44 + count_bits least + pick b 0 (live_bits least) ≤ 44 + count_bits least + live_bits least
    at true = omega arith
    at false = omega arith

-- "free pages are all zero": the live count too
pub free-live : (least : ℕ) (p : List ℕ) → least ≤ 8 → CleanPassed least p → field p 0 4 ≡ 0 → live_of least p ≡ 0
unfolding live_of
free-live least p eight x z =
    let a : ℕ = 44 + count_bits least in
    let s : spare_at least (field p 0 4) ≡ a = rw (eq-eqb (field p 0 4) 0 z) (omega arith) in
    let e : field p a (128 - a) ≡ 0 = rw s at x.spare in
    zero_field p a (live_bits least) (λ i l k. zero-at p a (128 - a) e i l (omega (arith, count_bits_lem least eight, live-bits least)))

-- the test and the right live count give the record
pub clean-page : (least : ℕ) (p : List ℕ) → least ≤ 8 → length p ≡ 64 * least → Bytes p → CleanPassed least p
    → live_of least p ≡ live_in least (decode_page least p).entries → Clean least p
clean-page least p eight n b x live =
    record {
      size = n;
      bytes = b;
      room = x.room;
      spare = zero-later p (spare_at least (field p 0 4)) (44 + count_bits least + live_bits least) (spare_low least (field p 0 4))
          (omega (arith, count_bits_lem least eight, live-bits least)) x.spare;
      live = live;
      rest = x.rest;
    }

module _ (least : ℕ) (four : 4 ≤ least) (eight : least ≤ 8) (p : List ℕ) (c : Clean least p) where
  abbrev n : ℕ
  n = count_of least p

  -- the bytes behind the entries in use
  abbrev left : ℕ
  left = 64 * least - 16 - 12 * n

  entries : entries_bytes (padded least (decode_page least p).entries) ≡ take (12 * n) (drop 16 p) ++ zeros (12 * (5 * least - n))
  entries =
      let k : (read_head least p).count ≡ n = sym (count-of least p) in
      let es : (decode_page least p).entries ≡ read_entries p 128 n = entries-of least p ∙ ap (read_entries p 128) k in
      rw (
        es,
        padded-bytes least (read_entries p 128 n),
        entries-part p 16 n c.bytes (omega (arith, c.size, c.room)),
        length-entries p 128 n,
      )

  rest-is : take left (drop (16 + 12 * n) p) ≡ zeros left
  rest-is =
      let a : 128 + 96 * n ≡ 8 * (16 + 12 * n) = omega arith in
      let b : 512 * least - (128 + 96 * n) ≡ 8 * left = omega arith in
      zero-part p (16 + 12 * n) left c.bytes (omega (arith, c.size, c.room))
      (ap (λ (x : ℕ). field p x (8 * left)) (sym a) ∙ ap (field p (128 + 96 * n)) (sym b) ∙ c.rest)

  pub exact : Exact least p
  exact = record { size = c.size; room = c.room; same = same }
    where
      a : ℕ
      a = 12 * (5 * least - n)

      b : ℕ
      b = 4 * least - 16

      joined : zeros a ++ zeros b ≡ take left (drop (16 + 12 * n) p)
      joined = let e : a + b ≡ left = omega (arith, c.room) in zeros-append a b ∙ ap zeros e ∙ sym rest-is

      same : encode_page least (decode_page least p) ≡ p
      same =
          let x : List ℕ = take (12 * n) (drop 16 p) in
          let e1 : (x ++ zeros a) ++ zeros b ≡ x ++ take left (drop (16 + 12 * n) p) = append_assoc x (zeros a) (zeros b)
          ∙ ap (λ (y : List ℕ). x ++ y) joined in
          let e2 : x ++ take left (drop (16 + 12 * n) p) ≡ take (12 * n + left) (drop 16 p) = two-parts p 16 (12 * n) left in
          let e3 : take 16 (drop 0 p) ++ take (12 * n + left) (drop 16 p) ≡ take (16 + (12 * n + left)) (drop 0 p)
          = two-parts p 0 16 (12 * n + left) in
          let front : front_bytes least (read_head least p) (live_of least p) ≡ take 16 (drop 0 p)
          = head-part least eight p c.bytes (omega (arith, c.size)) c.spare in
          encode-is least (decode_page least p)
          ∙ ap (λ (h : Head). front_bytes least h (live_in least (decode_page least p).entries) ++ body_bytes least
          (padded least (decode_page least p).entries)) (head-is least p)
          ∙ ap (λ (n : ℕ). front_bytes least (read_head least p) n ++ body_bytes least (padded least (decode_page least p).entries))
          (sym c.live)
          ∙ rw (front, entries, e1, e2, e3) (take_all (16 + (12 * n + left)) p (omega (arith, c.size, c.room)))
