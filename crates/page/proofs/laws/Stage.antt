-- Laws about page/specs/Stage. Assumes nothing.
use Prim.Native.Nat.{ℕ, zero, suc, ◌+◌, ◌*◌, ◌-◌, ◌<◌, ◌≤◌}
use mathlib.Core.Path.{◌≡◌, refl, ap, sym, ◌∙◌}
use mathlib.Core.List.{List, [], ◌∷◌, ◌++◌, append_assoc, append-nil}
use native.Mathlib.Omega.{arith}
use lib.ListN.{length, get_or, take, replicate, length-append}
use lib.Seq.{take-append-le}
use Rattle.model.specs.declared.Entry.{Entry}
use Rattle.model.specs.Field.{lay, zeros}
use Rattle.model.specs.Page.{Page}
use Rattle.model.specs.Layout.{entry_parts, read_entry, read_entries, unused, padded, decode_page, count_of, live_of, live_in}
use Rattle.page.specs.declared.Head.{Head}
use Rattle.page.specs.Head.{read_head, front_bytes, put_head, HeadFits}
use Rattle.page.specs.Read.{FieldsFit}
use Rattle.page.proofs.laws.Read.{sized-unused, sized-entries, length-entries, entries-of, count-of, live-lt}
use Rattle.page.proofs.laws.Entries.{entry-put, entry-get, length-padded, padded-get}
use Rattle.page.proofs.laws.Front.{head-length, head-put, read_fits}
use Rattle.page.specs.Over.{over}
use Rattle.page.proofs.laws.Over.{length_over, over-put, over-set, over-low, over-high, over-own, over-padded, padded-unused, length-blank}
use Rattle.page.specs.Exact.{Exact, body_bytes, encode_with}
use Rattle.page.proofs.laws.Exact.{body-length, encode-is, head-is, exact-live}
use Rattle.page.specs.Stage.{entries_in, staged, blanked}

pub blanked-none : (s : List ℕ) (j : ℕ) → s ≡ blanked s j (j - j)
unfolding blanked
blanked-none s j = let e : j - j ≡ 0 = omega arith in rw e

pub blanked-more : (s : List ℕ) (j k : ℕ) → j ≤ k → lay (blanked s j (k - j)) (128 + 96 * k) (entry_parts unused) ≡ blanked s j (k + 1 - j)
unfolding blanked
blanked-more s j k h =
    let e : k + 1 - j ≡ suc (k - j) = omega arith in
    let f : j + (k - j) ≡ k = omega arith in
    rw (e, f)

-- a page with this front and these entries
abbrev pub page_with : Head → List Entry → Page
page_with h es = record { level = h.level; start = h.start; end = h.end; entries = es }

-- ---- bytes

module _ (least : ℕ) (four : 4 ≤ least) (eight : least ≤ 8) (p : List ℕ) (x : Exact least p) where
  abbrev es : List Entry
  es = entries_in least p

  abbrev l : List Entry
  l = padded least es

  pub count : length (entries_in least p) ≡ count_of least p
  count = length-entries p 128 (count_of least p)

  full : length l ≡ 5 * least
  full = length-padded least es (omega (arith, count, x.room))

  hd : List ℕ
  hd = front_bytes least (read_head least p) (live_of least p)

  sixteen : length hd ≡ 16
  unfolding hd
  sixteen = head-length least (read_head least p) (live_of least p)

  pub staged-length : (out : List Entry) → length out ≤ 5 * least → length (staged least p out) ≡ 64 * least
  unfolding staged hd
  staged-length out h =
      length-append hd (body_bytes least (over out l))
      ∙ omega (arith, sixteen, body-length least four (over out l) (length_over out l (omega (arith, full)) ∙ full))

  over_first : (i : ℕ) → i ≤ count_of least p → over (take i es) l ≡ l
  unfolding padded
  over_first i h =
      let u : List Entry = replicate (5 * least - length es) unused in
      let t : take i (es ++ u) ≡ take i es = take-append-le i es u (omega (arith, count)) in
      rw (← t) (over-own (es ++ u) i (omega (arith, count, length-append es u)))

  -- as it is
  pub staged-from : (i : ℕ) → i ≤ count_of least p → p ≡ staged least p (take i (entries_in least p))
  unfolding staged
  staged-from i h =
      let own : over (take i es) l ≡ l = over_first i h in
      let e : (decode_page least p).entries ≡ es = entries-of least p ∙ ap (read_entries p 128) (sym (count-of least p)) in
      sym x.same ∙ encode-is least (decode_page least p)
      ∙ ap (λ (h : Head). front_bytes least h (live_in least (decode_page least p).entries) ++ body_bytes least
      (padded least (decode_page least p).entries)) (head-is least p)
      ∙ ap (λ (n : ℕ). front_bytes least (read_head least p) n ++ body_bytes least (padded least (decode_page least p).entries))
      (sym (exact-live least four eight p x))
      ∙ ap (λ (y : List Entry). front_bytes least (read_head least p) (live_of least p) ++ body_bytes least y) (ap (padded least) e ∙ sym own)

  pub staged-put : (out : List Entry) (e : Entry) → length out < 5 * least → FieldsFit e
      → lay (staged least p out) (128 + 96 * length out) (entry_parts e) ≡ staged least p (out ++ e ∷ [])
  unfolding staged hd
  staged-put out e lt z =
      entry-put hd (zeros (4 * least - 16)) (over out l) (length out) sixteen
      (omega (arith, full, length_over out l (omega (arith, full)))) e z
      ∙ ap (λ (y : List Entry). hd ++ body_bytes least y) (over-put out l e (omega (arith, full)))

  -- one of those written, written again
  pub staged-set : (u v : List Entry) (a b : Entry) → length u + length v < 5 * least → FieldsFit b
      → lay (staged least p (u ++ a ∷ v)) (128 + 96 * length u) (entry_parts b) ≡ staged least p (u ++ b ∷ v)
  unfolding staged hd
  staged-set u v a b lt z =
      let n : length (u ++ a ∷ v) ≡ length u + length v + 1 = length-append u (a ∷ v) ∙ omega arith in
      entry-put hd (zeros (4 * least - 16)) (over (u ++ a ∷ v) l) (length u) sixteen
      (omega (arith, n, full, length_over (u ++ a ∷ v) l (omega (arith, n, full)))) b z
      ∙ ap (λ (y : List Entry). hd ++ body_bytes least y) (over-set u v l a b)

  -- and read
  pub staged-low : (out : List Entry) (i : ℕ) → i < length out → length out ≤ 5 * least → FieldsFit (get_or out i unused)
      → read_entry (staged least p out) (128 + 96 * i) ≡ get_or out i unused
  unfolding staged hd
  staged-low out i h le z =
      let g : get_or (over out l) i unused ≡ get_or out i unused = over-low out l i h in
      entry-get hd (zeros (4 * least - 16)) (over out l) i sixteen (omega (arith, full, length_over out l (omega (arith, full)))) (rw g z)
      ∙ g

  -- one unused behind those in use changes nothing
  pub staged-unused : count_of least p < 5 * least → p ≡ staged least p (entries_in least p ++ unused ∷ [])
  unfolding staged
  staged-unused room =
      let one : length (es ++ unused ∷ []) ≡ count_of least p + 1 = length-append es (unused ∷ []) ∙ omega (arith, count) in
      staged-from (count_of least p) (omega arith)
      ∙ ap (λ (y : List Entry). front_bytes least (read_head least p) (live_of least p) ++ body_bytes least y)
      (over_first (count_of least p) (omega arith) ∙ sym (padded-unused least es 1 (omega (arith, count)))
      ∙ sym (over-padded least (es ++ unused ∷ []) es (omega (arith, count, one)) (omega (arith, one))))

  pub staged-read : (out : List Entry) (i : ℕ) → length out ≤ i → i < count_of least p
      → read_entry (staged least p out) (128 + 96 * i) ≡ get_or (entries_in least p) i unused
  unfolding staged hd
  staged-read out i h lt =
      let g : get_or (over out l) i unused ≡ get_or es i unused = over-high out l i h ∙ padded-get least es i in
      entry-get hd (zeros (4 * least - 16)) (over out l) i sixteen
      (omega (arith, x.room, full, length_over out l (omega (arith, x.room, full)))) (rw g (sized-entries p 128 (count_of least p) i)) ∙ g

  pub staged-blank : (out : List Entry) (n : ℕ) → length out + n ≤ 5 * least
      → blanked (staged least p out) (length out) n ≡ staged least p (out ++ replicate n unused)
  unfolding blanked
  staged-blank out zero le = rw (append-nil out)
  staged-blank out (suc n) le =
      let m : List Entry = out ++ replicate n unused in
      let e : length out + n ≡ length m = sym (length-blank out n) in
      let f : replicate (suc n) unused ≡ replicate n unused ++ unused ∷ [] = snoc n in
      rw (
        staged-blank out n (omega arith),
        e,
        staged-put m unused (omega arith) sized-unused,
        f,
        append_assoc out (replicate n unused) (unused ∷ []),
      )
    where
      snoc : (n : ℕ) → replicate (suc n) unused ≡ replicate n unused ++ unused ∷ []
      snoc zero = refl
      snoc (suc n) = ap (λ (x : List Entry). unused ∷ x) (snoc n)

  -- and a front for them: the live count is left as it was
  pub staged-end : (out : List Entry) (h : Head) → count_of least p ≤ length out → length out ≤ 5 * least → HeadFits least h
      → h.count ≡ length out
      → put_head least (staged least p out) h ≡ encode_with least (page_with h out) (live_of least p)
  unfolding staged encode_with
  staged-end out h le most f n =
      head-put least eight (read_head least p) h (live_of least p) (body_bytes least (over out l)) (read_fits least p) (live-lt least p) f
      ∙ ap (λ (y : List Entry). front_bytes least h (live_of least p) ++ body_bytes least y)
      (over-padded least out es (omega (arith, count)) most)
      ∙ ap (λ (k : ℕ). front_bytes least (record { level = h.level; count = k; start = h.start; end = h.end })
      (live_of least p) ++ body_bytes least (padded least out)) n

  -- the same where fewer are left, and the others made unused
  pub staged-shut : (out : List Entry) (h : Head) → length out ≤ count_of least p → HeadFits least h → h.count ≡ length out
      → put_head least (blanked (staged least p out) (length out) (count_of least p - length out)) h
      ≡ encode_with least (page_with h out) (live_of least p)
  unfolding staged encode_with
  staged-shut out h le f n =
      let k : ℕ = count_of least p - length out in
      let m : List Entry = out ++ replicate k unused in
      let lm : length m ≡ count_of least p = length-blank out k ∙ omega arith in
      rw (staged-blank out k (omega (arith, x.room)))
      (head-put least eight (read_head least p) h (live_of least p) (body_bytes least (over m l)) (read_fits least p) (live-lt least p) f
      ∙ ap (λ (y : List Entry). front_bytes least h (live_of least p) ++ body_bytes least y)
      (over-padded least m es (omega (arith, count)) (omega (arith, x.room)) ∙ padded-unused least out k (omega (arith, x.room)))
      ∙ ap (λ (c : ℕ). front_bytes least (record { level = h.level; count = c; start = h.start; end = h.end })
      (live_of least p) ++ body_bytes least (padded least out)) n)
