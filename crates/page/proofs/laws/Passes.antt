-- The bytes of a page that can be held pass rule 1's test of zero bits. Assumes nothing.
use Prim.Native.Nat.{ℕ, ◌+◌, ◌*◌, ◌-◌, ◌≤◌}
use mathlib.Core.Path.{◌≡◌, refl, ap, sym, ◌∙◌}
use mathlib.Core.Bool.{Bool, true, false}
use mathlib.Core.Logic.{⊎_elim}
use mathlib.Core.List.{List, [], ◌∷◌, ◌++◌, append_assoc}
use native.Mathlib.Omega.{arith}
use borrow.Author.Tests.{le-leb, eq-eqb, eqb-true}
use lib.Dec.{eqb}
use lib.ListN.{length, length-append}
use Rattle.bits.proofs.laws.Put.{less}
use Rattle.bits.proofs.laws.Lay.{bytes-append, bytes-zeros, zero-at, zero_field}
use Rattle.bits.proofs.laws.Over.{zeros-append, zeros-behind, packed-spare}
use Rattle.model.specs.declared.Entry.{Entry}
use Rattle.model.specs.Basic.{pick}
use Rattle.model.specs.Limits.{count_bits, live_bits}
use Rattle.model.specs.Field.{field, Bytes, zeros}
use Rattle.model.specs.Page.{Page}
use Rattle.model.specs.Layout.{entry_bytes, entries_bytes, head_bytes, padded, encode_page, live_in, live_of}
use Rattle.model.specs.Clean.{clean_page, spare_at}
use Rattle.page.specs.declared.Head.{Head}
use Rattle.page.proofs.laws.Editions.{CountWidth, count_bits_lem, live-bits}
use Rattle.page.specs.Head.{read_head, head_of, front_bytes}
use Rattle.page.proofs.laws.Head.{parts_of}
use Rattle.page.proofs.laws.Entries.{entry-bytes, entries-length, padded-bytes}
use Rattle.page.proofs.laws.Front.{head-length, head_bytes_lem, total-is}
use Rattle.page.specs.Exact.{Valid, body_bytes}
use Rattle.page.proofs.laws.Exact.{encode-is, encode-head, encode-live, encode-count, live-none}

entries-bytes : (l : List Entry) → Bytes (entries_bytes l)
unfolding entries_bytes
entries-bytes [] i = omega arith
entries-bytes (e ∷ l) i = bytes-append (entry_bytes e) (entries_bytes l) (entry-bytes e) (entries-bytes l) i

module _ (least : ℕ) (four : 4 ≤ least) (eight : least ≤ 8) (p : Page) where
  pub encode-bytes : Bytes (encode_page least p)
  encode-bytes =
      let b : List ℕ = body_bytes least (padded least p.entries) in
      λ i. rw (encode-is least p)
      (bytes-append (front_bytes least (head_of p) (live_in least p.entries)) b
      (head_bytes_lem least eight (head_of p) (live_in least p.entries))
      (bytes-append (entries_bytes (padded least p.entries)) (zeros (4 * least - 16)) (entries-bytes (padded least p.entries))
      (bytes-zeros (4 * least - 16))) i)

  module _ (v : Valid least p) where
    n : ℕ
    n = length p.entries

    -- the zero bits of the front
    spare : (a : ℕ) → 44 + count_bits least + live_bits least ≤ a → a ≤ 128 → field (encode_page least p) a (128 - a) ≡ 0
    unfolding head_bytes
    spare a h k =
        rw (encode-is least p)
        (packed-spare 16 (parts_of least (head_of p) (live_in least p.entries)) (body_bytes least (padded least p.entries)) a (128 - a)
        (omega (arith, total-is least eight (head_of p) (live_in least p.entries))) (omega arith))

    live-is : (s : List ℕ) → live_of least s ≡ 0 → field s (44 + count_bits least) (live_bits least) ≡ 0
    unfolding live_of
    live-is s e = e

    level-read : (s : List ℕ) → field s 0 4 ≡ (read_head least s).level
    unfolding read_head
    level-read s = refl

    -- of a free page those of the live count too
    free-spare : field (encode_page least p) 0 4 ≡ 0 → p.entries ≡ []
        → field (encode_page least p) (44 + count_bits least + 0) (128 - (44 + count_bits least + 0)) ≡ 0
    free-spare z e =
        let a : ℕ = 44 + count_bits least + 0 in
        let s : List ℕ = encode_page least p in
        let m : ℕ = 44 + count_bits least + live_bits least in
        let w : CountWidth least (count_bits least) = count_bits_lem least eight in
        let k : live_bits least ≤ 6 = live-bits least in
        let l : live_of least s ≡ 0 = encode-live least four eight p v ∙ ap (live_in least) e ∙ live-none least in
        zero_field s a (128 - a) λ i h g. ⊎_elim
        (λ q. zero-at s (44 + count_bits least) (live_bits least) (live-is s l) i (omega arith) (omega arith))
        (λ q. zero-at s m (128 - m) (spare m (omega arith) (omega arith)) i (omega arith) (omega arith))
        (less i m)

    rest : field (encode_page least p) (128 + 96 * n) (512 * least - (128 + 96 * n)) ≡ 0
    unfolding n
    rest =
        let h : List ℕ = front_bytes least (head_of p) (live_in least p.entries) in
        let es : List ℕ = entries_bytes p.entries in
        let a : ℕ = 12 * (5 * least - length p.entries) in
        let b : ℕ = 4 * least - 16 in
        let e : encode_page least p ≡ (h ++ es) ++ zeros (a + b)
        = encode-is least p
        ∙ ap (λ (x : List ℕ). h ++ x)
        (ap (λ (x : List ℕ). x ++ zeros b) (padded-bytes least p.entries) ∙ append_assoc es (zeros a) (zeros b)
        ∙ ap (λ (x : List ℕ). es ++ x) (zeros-append a b))
        ∙ sym (append_assoc h es (zeros (a + b))) in
        rw e (zeros-behind (h ++ es) (a + b) (128 + 96 * n) (512 * least - (128 + 96 * n))
        (omega (arith, length-append h es, head-length least (head_of p) (live_in least p.entries), entries-length p.entries)))

    -- "free pages are all zero": a free page that has no entries has no live ones
    module _ (none : p.level ≡ 0 → p.entries ≡ []) where
      spare-at : field (encode_page least p) (spare_at least (field (encode_page least p) 0 4))
          (128 - spare_at least (field (encode_page least p) 0 4)) ≡ 0
      spare-at = at (eqb (field s 0 4) 0) refl
        where
          s : List ℕ
          s = encode_page least p

          level : field s 0 4 ≡ p.level
          level = level-read s ∙ ap (λ (h : Head). h.level) (encode-head least four eight p v)

          at : (b : Bool) → eqb (field s 0 4) 0 ≡ b
              → field s (44 + count_bits least + pick b 0 (live_bits least)) (128 - (44 + count_bits least + pick b 0 (live_bits least))) ≡ 0
          at true e = let z : field s 0 4 ≡ 0 = eqb-true (field s 0 4) 0 e in free-spare z (none (sym level ∙ z))
          at false e = spare (44 + count_bits least + live_bits least) (omega arith) (omega (arith, count_bits_lem least eight, live-bits least))

      pub encode-clean : clean_page least (encode_page least p) ≡ true
      unfolding clean_page n
      encode-clean =
          rw (encode-count least four eight p v, le-leb n (5 * least) v.room, eq-eqb _ _ spare-at, eq-eqb _ _ rest)
