-- Laws about page/specs/Insert. Assumes nothing.
use Prim.Native.Nat.{ℕ, zero, suc, ◌+◌, ◌*◌, ◌-◌, ◌<◌, ◌≤◌}
use mathlib.Core.Path.{◌≡◌, refl, ap, sym, ◌∙◌}
use mathlib.Core.List.{List, [], ◌∷◌, ◌++◌}
use native.Mathlib.Omega.{arith}
use lib.ListN.{length, get_or, take, drop, length-append, length-take, length-drop, take-append-drop}
use lib.ListN.{get_or-eq_default}
use lib.Seq.{length-take-le}
use Rattle.model.specs.declared.Entry.{Entry}
use Rattle.model.specs.Field.{lay}
use Rattle.model.specs.Page.{Page}
use Rattle.model.specs.Basic.{those}
use Rattle.model.specs.Limits.{live_shown}
use Rattle.model.specs.Layout.{lives, live_in, live_of, entry_parts, unused, count_of, decode_page, encode_page, read_entry, read_entries}
use Rattle.model.proofs.tree.Local.{those-append}
use Rattle.model.proofs.lists.Lists.{few-those}
use Rattle.page.specs.declared.Head.{Head}
use Rattle.page.specs.Head.{read_head, put_head, put_live, HeadFits}
use Rattle.page.specs.Read.{FieldsFit}
use Rattle.page.proofs.laws.Read.{sized-entries, length-entries, count-of, entries-of, level-of, start_of, end-of}
use Rattle.page.proofs.laws.Editions.{count_bits_lem, shown-add, shown-most}
use Rattle.page.proofs.laws.Front.{read_fits}
use Rattle.page.specs.Exact.{Exact, encode_with}
use Rattle.page.proofs.laws.Exact.{live-right, exact-live}
use Rattle.page.specs.Stage.{staged, entries_in}
use Rattle.page.proofs.laws.Stage.{staged-unused, staged-set, staged-low, staged-end, count}
use Rattle.page.specs.Insert.{insert_at, with_entry, live_one}

-- the front of a page with one entry more
abbrev pub more : Head → Head
more h = record { level = h.level; count = h.count + 1; start = h.start; end = h.end }

pub length-insert : (i : ℕ) (e : Entry) (l : List Entry) → length (insert_at i e l) ≡ length l + 1
unfolding insert_at
length-insert i e l = simp (length-append, length-take, length-drop) (omega arith)

-- put in behind all
insert-last : (e : Entry) (l : List Entry) → insert_at (length l) e l ≡ l ++ e ∷ []
unfolding insert_at
insert-last e [] = refl
insert-last e (x ∷ l) = ap (λ (t : List Entry). x ∷ t) (insert-last e l)

insert-low : (i k : ℕ) (e : Entry) (l : List Entry) → k < i → i ≤ length l → get_or (insert_at i e l) k unused ≡ get_or l k unused
unfolding insert_at
insert-low zero k e l h n = absurd (omega arith)
insert-low (suc i) k e [] h n = absurd (omega arith)
insert-low (suc i) zero e (x ∷ l) h n = refl
insert-low (suc i) (suc k) e (x ∷ l) h n = insert-low i k e l (omega arith) (omega arith)

-- one that stands there twice: before itself and behind itself
insert-twice : (k : ℕ) (l : List Entry) → k < length l → insert_at (suc k) (get_or l k unused) l ≡ insert_at k (get_or l k unused) l
unfolding insert_at
insert-twice k [] h = absurd (omega arith)
insert-twice zero (x ∷ l) h = refl
insert-twice (suc k) (x ∷ l) h = ap (λ (t : List Entry). x ∷ t) (insert-twice k l (omega arith))

module _ (least : ℕ) (four : 4 ≤ least) (eight : least ≤ 8) (p : List ℕ) (x : Exact least p) (room : count_of least p < 5 * least) where
  abbrev es : List Entry
  es = entries_in least p

  n-is : length es ≡ count_of least p
  n-is = count least four eight p x

  -- those from k on have moved up by one; entry k, still where it was too, is the next that is written over
  abbrev pub moved : ℕ → List ℕ
  moved k = staged least p (insert_at k (get_or (entries_in least p) k unused) (entries_in least p))

  pub insert-start : p ≡ moved (count_of least p)
  insert-start =
      staged-unused least four eight p x room
      ∙ ap (staged least p) (sym (insert-last unused es))
      ∙ ap (λ (e : Entry). staged least p (insert_at (length es) e es)) (sym (get_or-eq_default es unused (omega arith)))
      ∙ ap moved n-is

  pub insert-put : (k : ℕ) (a e : Entry) → k ≤ count_of least p → FieldsFit e
      → lay (staged least p (insert_at k a (entries_in least p))) (128 + 96 * k) (entry_parts e)
      ≡ staged least p (insert_at k e (entries_in least p))
  unfolding insert_at
  insert-put k a e h z =
      let n : length (take k es) ≡ k = length-take-le k es (omega (arith, n-is)) in
      rw n at (staged-set least four eight p x (take k es) (drop k es) a e (omega (arith, n, n-is, length-drop k es)) z)

  pub insert-step : (k : ℕ) → 0 < k → k ≤ count_of least p
      → lay (moved k) (128 + 96 * k) (entry_parts (read_entry (moved k) (128 + 96 * (k - 1)))) ≡ moved (k - 1)
  insert-step k pos h =
      let a : Entry = get_or es k unused in
      let y : Entry = get_or es (k - 1) unused in
      let z : FieldsFit y = sized-entries p 128 (count_of least p) (k - 1) in
      let g : get_or (insert_at k a es) (k - 1) unused ≡ y = insert-low k (k - 1) a es (omega arith) (omega (arith, n-is)) in
      let r : read_entry (moved k) (128 + 96 * (k - 1)) ≡ y
      = staged-low least four eight p x (insert_at k a es) (k - 1) (omega (arith, length-insert k a es, n-is))
      (omega (arith, length-insert k a es, n-is)) (rw g z) ∙ g in
      let s : k ≡ suc (k - 1) = omega arith in
      ap (λ (e : Entry). lay (moved k) (128 + 96 * k) (entry_parts e)) r ∙ insert-put k a y h z
      ∙ ap (staged least p) (ap (λ (j : ℕ). insert_at j y es) s ∙ insert-twice (k - 1) es (omega (arith, n-is)))

  pub insert-end : (i : ℕ) (e : Entry)
      → put_head least (staged least p (insert_at i e (entries_in least p))) (more (read_head least p))
      ≡ encode_with least (with_entry i e (decode_page least p)) (live_of least p)
  unfolding with_entry
  insert-end i e =
      let n : length (insert_at i e es) ≡ count_of least p + 1 = length-insert i e es ∙ ap (λ (k : ℕ). k + 1) n-is in
      let f : HeadFits least (read_head least p) = read_fits least p in
      let g : HeadFits least (more (read_head least p))
      = record { level = f.level; count = omega (arith, count-of least p, count_bits_lem least eight); start = f.start; end = f.end } in
      let d : es ≡ (decode_page least p).entries = sym (entries-of least p ∙ ap (read_entries p 128) (sym (count-of least p))) in
      staged-end least four eight p x (insert_at i e es) (more (read_head least p)) (omega (arith, n)) (omega (arith, n)) g
      (omega (arith, n, count-of least p))
      ∙ ap (λ (q : Page). encode_with least q (live_of least p))
      (λ j. record {
        level = sym (level-of least p) j;
        start = sym (start_of least p) j;
        end = sym (end-of least p) j;
        entries = insert_at i e (d j);
      })

live-insert : (i : ℕ) (e : Entry) (l : List Entry) → length (those lives (insert_at i e l)) ≡ length (those lives l) + live_one e
unfolding insert_at
live-insert i e l =
    let a : List Entry = take i l in
    let b : List Entry = drop i l in
    let whole : length (those lives l) ≡ length (those lives a) + length (those lives b)
    = ap (λ (x : List Entry). length (those lives x)) (sym (take-append-drop i l)) ∙ ap length (those-append lives a b)
    ∙ length-append (those lives a) (those lives b) in
    let rest : length (those lives (e ∷ b)) ≡ live_one e + length (those lives b)
    = ap length (those-append lives (e ∷ []) b) ∙ length-append (those lives (e ∷ [])) (those lives b) in
    ap length (those-append lives a (e ∷ b)) ∙ length-append (those lives a) (those lives (e ∷ b)) ∙ omega arith

module _ (least : ℕ) (four : 4 ≤ least) (eight : least ≤ 8) (p : List ℕ) (x : Exact least p) (i : ℕ) (e : Entry)
    (room : count_of least p < 5 * least) (le : i ≤ count_of least p) where
  shows : live_of least p ≡ live_in least (decode_page least p).entries
  shows = exact-live least four eight p x

  counted : length (decode_page least p).entries ≡ count_of least p
  counted = ap length (entries-of least p) ∙ length-entries p 128 (read_head least p).count ∙ sym (count-of least p)

  -- the number that is carried on fits its bits
  pub live-low : live_of least p + live_one e < 64
  unfolding live_in
  live-low =
      omega (
        arith,
        shows,
        shown-most least (length (those lives (decode_page least p).entries)),
        few-those lives (decode_page least p).entries,
        counted,
        few-those lives (e ∷ []),
      )

  pub live_end : put_live least (encode_with least (with_entry i e (decode_page least p)) (live_of least p))
      (live_shown least (live_of least p + live_one e))
      ≡ encode_page least (with_entry i e (decode_page least p))
  unfolding with_entry live_in
  live_end =
      let es : List Entry = (decode_page least p).entries in
      let n : live_shown least (live_of least p + live_one e) ≡ live_in least (insert_at i e es)
      = ap (λ (k : ℕ). live_shown least (k + live_one e)) shows ∙ shown-add least (length (those lives es)) (live_one e)
      ∙ ap (live_shown least) (sym (live-insert i e es)) in
      ap (put_live least (encode_with least (with_entry i e (decode_page least p)) (live_of least p))) n
      ∙ live-right least (with_entry i e (decode_page least p)) (live_of least p) eight (omega (arith, length-insert i e es, counted))
