-- Laws about page/specs/Exact. Assumes nothing.
use Prim.Native.Nat.{ℕ, ◌+◌, ◌*◌, ◌-◌, ◌^◌, ◌<◌, ◌≤◌}
use mathlib.Core.Path.{◌≡◌, refl, ap, sym, ◌∙◌}
use mathlib.Core.List.{List, ◌++◌}
use native.Mathlib.Omega.{arith}
use lib.ListN.{length, get_or, length-append}
use lib.Seq.{ext_get_or}
use Rattle.bits.proofs.laws.Lay.{length-zeros}
use Rattle.bits.proofs.laws.Over.{zeros-append, packed-zeros}
use Rattle.model.specs.declared.Entry.{Entry}
use Rattle.model.specs.Field.{zeros}
use Rattle.model.specs.Page.{Page, free}
use Rattle.model.specs.Basic.{those}
use Rattle.model.specs.Limits.{live_bits}
use Rattle.model.specs.Layout.{lives, live_in, live_of, entries_bytes, read_entry, read_entries, unused, padded, head_bytes, encode_page}
use Rattle.model.specs.Layout.{decode_page, count_of}
use Rattle.model.proofs.lists.Lists.{few-those}
use Rattle.page.specs.declared.Head.{Head}
use Rattle.page.proofs.laws.Editions.{count_bits_lem, live-bits, shown-fits, shown-none}
use Rattle.page.specs.Head.{read_head, head_of, front_bytes, put_live, HeadFits}
use Rattle.page.proofs.laws.Head.{parts_of}
use Rattle.page.proofs.laws.Read.{sized-unused, sized-entries, length-entries, entries_at, level-of, start_of, end-of, count-of}
use Rattle.page.proofs.laws.Read.{entries-of, level-lt, start-lt, end_lt}
use Rattle.page.proofs.laws.Entries.{entries-length, entry-get, length-padded, padded-get, padded-sized, unused-zeros}
use Rattle.page.proofs.laws.Front.{head-length, head_read, live-read, live-put}
use Rattle.page.specs.Exact.{Valid, Exact, body_bytes, encode_with}

pub valid-free : (least : ℕ) → Valid least free
valid-free least = record { level = omega arith; start = omega arith; end = omega arith; room = omega arith; sized = λ k. sized-unused }

-- what exact bytes show is valid
pub valid-read : (least : ℕ) (p : List ℕ) → count_of least p ≤ 5 * least → Valid least (decode_page least p)
valid-read least p h =
    record {
      level = rw (level-of least p) (level-lt least p);
      start = rw (start_of least p) (start-lt least p);
      end = rw (end-of least p) (end_lt least p);
      room = rw (entries-of least p) (omega (arith, length-entries p 128 (read_head least p).count, count-of least p));
      sized = λ k. rw (entries-of least p) (sized-entries p 128 (read_head least p).count k);
    }

-- the front of what is shown is the one that is read
pub head-is : (least : ℕ) (p : List ℕ) → head_of (decode_page least p) ≡ read_head least p
head-is least p =
    let e : length (decode_page least p).entries ≡ (read_head least p).count = ap length (entries-of least p)
    ∙ length-entries p 128 (read_head least p).count in
    λ i. record { level = level-of least p i; count = e i; start = start_of least p i; end = end-of least p i }

pub encode-is : (least : ℕ) (p : Page) → encode_page least p
    ≡ front_bytes least (head_of p) (live_in least p.entries) ++ body_bytes least (padded least p.entries)
unfolding encode_page
encode-is least p = refl

-- ---- the live count

pub live-none : (least : ℕ) → live_in least free.entries ≡ 0
unfolding live_in
live-none least = shown-none least

-- of entries that a page has room for
pub live-fits : (least : ℕ) (es : List Entry) → least ≤ 8 → length es ≤ 5 * least → live_in least es < 2 ^ live_bits least
unfolding live_in
live-fits least es eight h = shown-fits least (length (those lives es)) (omega (arith, few-those lives es))

-- the right one laid over
pub live-right : (least : ℕ) (p : Page) (m : ℕ) → least ≤ 8 → length p.entries ≤ 5 * least
    → put_live least (encode_with least p m) (live_in least p.entries) ≡ encode_page least p
unfolding encode_with
live-right least p m eight h =
    live-put least eight (head_of p) m (live_in least p.entries) (body_bytes least (padded least p.entries))
    (live-fits least p.entries eight h) ∙ sym (encode-is least p)

module _ (least : ℕ) (four : 4 ≤ least) where
  pub body-length : (l : List Entry) → length l ≡ 5 * least → length (body_bytes least l) ≡ 64 * least - 16
  body-length l h = length-append (entries_bytes l) (zeros (4 * least - 16)) ∙ omega (arith, entries-length l, length-zeros (4 * least - 16))

  pub encode-length : (p : Page) → length p.entries ≤ 5 * least → length (encode_page least p) ≡ 64 * least
  encode-length p h =
      ap length (encode-is least p) ∙ length-append (front_bytes least (head_of p) (live_in least p.entries))
      (body_bytes least (padded least p.entries))
      ∙ omega (
        arith,
        head-length least (head_of p) (live_in least p.entries),
        body-length (padded least p.entries) (length-padded least p.entries h),
      )

  module _ (eight : least ≤ 8) where
    -- "free pages, are all zero"
    pub free-zeros : encode_page least free ≡ zeros (64 * least)
    unfolding encode_page head_bytes padded
    free-zeros =
        let n : 5 * least - 0 ≡ 5 * least = omega arith in
        let e : 16 + (12 * (5 * least) + (4 * least - 16)) ≡ 64 * least = omega arith in
        rw (
          packed-zeros 16 (parts_of least (head_of free) (live_in least free.entries))
              (omega (arith, count_bits_lem least eight, live-bits least)) (refl, (refl, (refl, (refl, (live-none least, refl))))),
          n,
          unused-zeros (5 * least),
          zeros-append (12 * (5 * least)) (4 * least - 16),
          zeros-append 16 (12 * (5 * least) + (4 * least - 16)),
          e,
        )

    pub head-valid : (p : Page) → Valid least p → HeadFits least (head_of p)
    head-valid p v = record { level = v.level; count = omega (arith, v.room, count_bits_lem least eight); start = v.start; end = v.end }

    pub encode-head : (p : Page) → Valid least p → read_head least (encode_page least p) ≡ head_of p
    encode-head p v =
        rw (encode-is least p)
        (head_read least eight (head_of p) (live_in least p.entries) (body_bytes least (padded least p.entries)) (head-valid p v)
        (live-fits least p.entries eight v.room))

    pub encode-live : (p : Page) → Valid least p → live_of least (encode_page least p) ≡ live_in least p.entries
    encode-live p v =
        rw (encode-is least p)
        (live-read least eight (head_of p) (live_in least p.entries) (body_bytes least (padded least p.entries)) (head-valid p v)
        (live-fits least p.entries eight v.room))

    pub decode-encode : (p : Page) → Valid least p → decode_page least (encode_page least p) ≡ p
    decode-encode p v =
        let b : List ℕ = encode_page least p in
        let n : ℕ = length p.entries in
        let l : List Entry = padded least p.entries in
        let h : read_head least b ≡ head_of p = encode-head p v in
        let ll : length l ≡ 5 * least = length-padded least p.entries v.room in
        let read : (k : ℕ) → k < n → read_entry b (128 + 96 * k) ≡ get_or p.entries k unused
        = λ k lt.
        rw (encode-is least p)
        (entry-get (front_bytes least (head_of p) (live_in least p.entries)) (zeros (4 * least - 16)) l k
        (head-length least (head_of p) (live_in least p.entries)) (omega (arith, v.room)) (padded-sized least p.entries v.sized k)
        ∙ padded-get least p.entries k) in
        let es : read_entries b 128 n ≡ p.entries
        = ext_get_or unused (read_entries b 128 n) p.entries (length-entries b 128 n) λ k lt.
        let q : k < n = omega (arith, length-entries b 128 n) in
        entries_at b 128 n k q ∙ read k q in
        let e1 : (decode_page least b).level ≡ p.level = level-of least b ∙ ap (λ (x : Head). x.level) h in
        let e2 : (decode_page least b).start ≡ p.start = start_of least b ∙ ap (λ (x : Head). x.start) h in
        let e3 : (decode_page least b).end ≡ p.end = end-of least b ∙ ap (λ (x : Head). x.end) h in
        let e4 : (decode_page least b).entries ≡ p.entries = entries-of least b ∙ ap (λ (x : Head). read_entries b 128 x.count) h ∙ es in
        λ i. record { level = e1 i; start = e2 i; end = e3 i; entries = e4 i }

    pub encode-count : (p : Page) → Valid least p → count_of least (encode_page least p) ≡ length p.entries
    encode-count p v = count-of least (encode_page least p) ∙ ap (λ (h : Head). h.count) (encode-head p v)

    pub encode-exact : (p : Page) → Valid least p → Exact least (encode_page least p)
    encode-exact p v =
        record {
          size = encode-length p v.room;
          room = omega (arith, encode-count p v, v.room);
          same = ap (encode_page least) (decode-encode p v);
        }

    -- exact bytes have the right live count
    pub exact-live : (p : List ℕ) → Exact least p → live_of least p ≡ live_in least (decode_page least p).entries
    exact-live p x = ap (live_of least) (sym x.same) ∙ encode-live (decode_page least p) (valid-read least p x.room)
