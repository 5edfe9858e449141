-- "bytes that differ only off the walk give the same answer": a lookup depends on the header, the slots, and the pages that its own walk
-- reads.
-- Assumes nothing.
use Prim.Native.Nat.{ℕ, zero, suc, ◌+◌, ◌*◌, ◌-◌, ◌/◌, ◌%◌, ◌≤◌, ◌<◌}
use native.Mathlib.Omega.{arith}
use mathlib.Core.Bool.{Bool, true, false}
use mathlib.Core.Path.{◌≡◌, refl, ap, ap₂, sym, ◌∙◌}
use mathlib.Core.Logic.{◌⊎◌, inl, inr, ⊎_elim}
use mathlib.Core.List.{List, [], ◌∷◌}
use lib.Dec.{leb, eqb}
use lib.ListN.{length, get_or, take, length-take, get_or-eq_default}
use lib.Seq.{ext_get_or, get_or-take}
use Rattle.bits.proofs.laws.Laws.{field-ext}
use Rattle.bits.proofs.laws.Put.{less}
use Rattle.model.specs.Basic.{pick}
use Rattle.model.specs.declared.Pair.{Pair}
use Rattle.model.specs.declared.Slot.{Slot}
use Rattle.model.specs.declared.Header.{Header}
use Rattle.model.specs.Looked.{Refused}
use Rattle.model.specs.Field.{bit_of, bit_at, field}
use Rattle.model.specs.Limits.{root_bits, oldest_bits}
use Rattle.model.specs.Page.{Page, free, pairs_at}
use Rattle.model.specs.Store.{page, last, last_of}
use Rattle.model.specs.Sound.{rule2}
use Rattle.model.specs.Walk.{key_limit, root_at, around, find}
use Rattle.model.specs.Layout.{page_of, decode_page, read_slot, read_slots, read_header, decode, size_of}
use Rattle.model.specs.Clean.{zero_from, clean_front}
use Rattle.model.specs.Judged.{length_ok, magic_ok, edition_ok}
use Rattle.model.specs.Calls.{rule, first_of, beyond, unreadable, looked_at}
use Rattle.model.specs.Near.{front_right, page_right, starts_by}
use Rattle.model.specs.Lent.{judged_first, lookup_lent}
use Rattle.model.proofs.lists.Members.{bool_cases}
use Rattle.store.proofs.laws.Read.{length-pages, page-at, front-free, slots-of, current-of, oldest-of}
use Rattle.local.proofs.laws.First.{last-is, clean-roots}
use Rattle.local.proofs.laws.Right.{front-true}
use Rattle.near.specs.Down.{walked}
use Rattle.near.proofs.laws.Down.{descended, walk-free, walk_start, down-wrong, down-none, down-on, down-leaf}
use Rattle.near.specs.Early.{fronted, guarded}
use Rattle.near.proofs.laws.Early.{guard-is, guard-front-right, lookup-by}

-- two stores of one length whose header and directory are the same
pub record FrontAlike (least : ℕ) (b c : List ℕ) : Type 0 where
  pub long : length b ≡ length c
  pub front : (i : ℕ) → i < 320 * least → get_or b i 0 ≡ get_or c i 0

module _ (least : ℕ) (some : 1 ≤ least) (b c : List ℕ) (s : FrontAlike least b c) where
  bit-same : (k : ℕ) → k < 2560 * least → bit_at b k ≡ bit_at c k
  unfolding bit_at
  bit-same k l = ap (λ (x : ℕ). bit_of x (k % 8)) (s.front (k / 8) (omega arith))

  field-same : (at n : ℕ) → at + n ≤ 2560 * least → field b at n ≡ field c at n
  field-same at n h = field-ext b c at at n (λ i l. bit-same (at + i) (omega arith))

  low_bits : root_bits least ≤ 10
  low_bits = at (leb least 4)
    where
      at : (t : Bool) → pick t 9 10 ≤ 10
      at true = omega arith
      at false = omega arith

  old-bits : oldest_bits least ≤ 20
  old-bits = at (leb least 4)
    where
      at : (t : Bool) → pick t 0 20 ≤ 20
      at true = omega arith
      at false = omega arith

  header-same : read_header least b ≡ read_header least c
  unfolding read_header
  header-same =
      rw (
        field-same 40 13 (omega arith),
        field-same 53 20 (omega arith),
        field-same 73 1 (omega arith),
        field-same 74 (root_bits least) (omega (arith, low_bits)),
        field-same (74 + root_bits least) (oldest_bits least) (omega (arith, low_bits, old-bits)),
      )

  slots_same : (o n : ℕ) → o + 32 * n ≤ 2560 * least → read_slots b o n ≡ read_slots c o n
  unfolding read_slots read_slot
  slots_same o zero h = refl
  slots_same o (suc n) h = rw (field-same o 20 (omega arith), field-same (o + 20) 12 (omega arith), slots_same (o + 32) n (omega arith))

  rest-same : (r : ℕ) → zero_from b (512 * least + 32 * r) (2560 * least) ≡ zero_from c (512 * least + 32 * r) (2560 * least)
  unfolding field
  rest-same r =
      let a : ℕ = 512 * least + 32 * r in
      ⊎_elim (λ l. ap (λ (x : ℕ). eqb x 0) (field-same a (2560 * least - a) (omega arith)))
      (λ l. let z : 2560 * least - a ≡ 0 = omega arith in rw z) (less a (2560 * least))

  clean-same : clean_front least b ≡ clean_front least c
  unfolding clean_front
  clean-same =
      rw (
        header-same,
        s.long,
        field-same (74 + root_bits least + oldest_bits least) (512 * least - (74 + root_bits least + oldest_bits least))
            (omega (arith, low_bits, old-bits)),
        rest-same (read_header least c).roots,
      )

  last-same : last (decode least b) ≡ last (decode least c)
  last-same = last-is least b ∙ ap (λ (h : Header). last_of h.opened h.current) header-same ∙ sym (last-is least c)

  old-same : (decode least b).oldest ≡ (decode least c).oldest
  old-same = oldest-of least b ∙ ap (λ (h : Header). h.oldest) header-same ∙ sym (oldest-of least c)

  current-same : (decode least b).current ≡ (decode least c).current
  current-same = current-of least b ∙ ap (λ (h : Header). h.current) header-same ∙ sym (current-of least c)

  count_same : length (decode least b).pages ≡ length (decode least c).pages
  unfolding decode
  count_same = rw s.long (omega (arith, length-pages least b 5 (size_of least c - 5), length-pages least c 5 (size_of least c - 5)))

  count-is : length (decode least c).pages ≡ 5 + (size_of least c - 5)
  unfolding decode
  count-is = omega (arith, length-pages least c 5 (size_of least c - 5))

  -- the slots, where there are no more of them than the directory has
  pub directory-same : clean_front least c ≡ true → (decode least b).slots ≡ (decode least c).slots
  directory-same e =
      slots-of least b ∙ ap (λ (h : Header). read_slots b (512 * least) h.roots) header-same
      ∙ slots_same (512 * least) (read_header least c).roots (omega (arith, clean-roots least c e)) ∙ sym (slots-of least c)

  front_same : front_right least b ≡ front_right least c
  unfolding front_right rule2
  front_same = at (bool_cases (clean_front least c))
    where
      at : (clean_front least c ≡ true) ⊎ (clean_front least c ≡ false) → front_right least b ≡ front_right least c
      at (inl e) = rw (clean-same, last-same, old-same, current-same, count_same, directory-same e)
      at (inr e) = rw (clean-same, e)

  magic-same : magic_ok b ≡ magic_ok c
  unfolding magic_ok
  magic-same = rw first
    where
      first : take 4 b ≡ take 4 c
      first = ext_get_or 0 (take 4 b) (take 4 c) (simp (length-take, s.long)) λ i l.
          let k : i < 4 = omega (arith, length-take 4 b) in
          get_or-take 4 b i 0 k ∙ s.front i (omega arith) ∙ sym (get_or-take 4 c i 0 k)

  fronted-same : fronted least b ≡ fronted least c
  unfolding fronted length_ok edition_ok
  fronted-same = rw (s.long, magic-same, field-same 32 8 (omega arith), front_same)

  pub guard-same : (bad : Bool) (v : ℕ) → guarded least b bad v ≡ guarded least c bad v
  guard-same bad v =
      guard-is least b bad v ∙ ap (λ (n : ℕ). judged_first n (λ j. j) (first_of (rule 5 bad ∷ rule 6 (unreadable (decode least b) v) ∷ [])))
      fronted-same
      ∙ ap₂ (λ (m o : ℕ). judged_first (fronted least c) (λ j. j) (first_of (rule 5 bad ∷ rule 6 (beyond m o v) ∷ []))) last-same old-same
      ∙ sym (guard-is least c bad v)

  -- ---- a page with the same bytes

  module _ (n : ℕ) (e : page_of least b n ≡ page_of least c n) where
    pub page-same : page (decode least b).pages n ≡ page (decode least c).pages n
    page-same =
        ⊎_elim (λ l. front-free least b n l ∙ sym (front-free least c n l)) (λ l. ⊎_elim (here l) (far l) (less n (size_of least c)))
        (less n 5)
      where
        here : 5 ≤ n → n < size_of least c → page (decode least b).pages n ≡ page (decode least c).pages n
        here l h =
            let q : size_of least b ≡ size_of least c = rw s.long in
            page-at least b n l (omega arith) ∙ ap (decode_page least) e ∙ sym (page-at least c n l h)

        far : 5 ≤ n → size_of least c ≤ n → page (decode least b).pages n ≡ page (decode least c).pages n
        far l h =
            get_or-eq_default (decode least b).pages free (omega (arith, count_same, count-is))
            ∙ sym (get_or-eq_default (decode least c).pages free (omega (arith, count-is)))

    pub right-same : (level : ℕ) → page_right least b level n ≡ page_right least c level n
    unfolding page_right
    right-same level = rw (e, page-same, last-same, count_same)

  -- ---- the walk

  module _ (v k : ℕ) where
    abbrev ps : List Page
    ps = (decode least b).pages

    -- each page that the walk from page n on reads has the same bytes in c; behind a page that is not right, or has no router at or below
    -- the
    -- key, it reads none
    unfoldable pub SameDown : ℕ → ℕ → Type 0
    SameDown zero n = page_of least b n ≡ page_of least c n
    SameDown (suc up) n =
        (page_of least b n ≡ page_of least c n)
        × (page_right least b (suc (suc up)) n ≡ true → starts_by k (pairs_at v (page ps n)) ≡ true
        → SameDown up (around k (pairs_at v (page ps n))).own.value)

    down-same : (up n : ℕ) → SameDown up n → descended least b v k up n ≡ descended least c v k up n
    unfolding SameDown
    down-same zero n e = at (bool_cases (page_right least b 1 n))
      where
        at : (page_right least b 1 n ≡ true) ⊎ (page_right least b 1 n ≡ false) → descended least b v k 0 n ≡ descended least c v k 0 n
        at (inl r) =
            sym (down-leaf least b v k n r) ∙ ap (λ (q : Page). looked_at (find k (pairs_at v q))) (page-same n e)
            ∙ down-leaf least c v k n (sym (right-same n e 1) ∙ r)
        at (inr r) = sym (down-wrong least b v k n 0 r) ∙ down-wrong least c v k n 0 (sym (right-same n e 1) ∙ r)
    down-same (suc up) n e =
        at (bool_cases (page_right least b (suc (suc up)) n)) (bool_cases (starts_by k (pairs_at v (page ps n))))
        (λ r f. down-same up _ (e.1 r f))
      where
        pairs : pairs_at v (page ps n) ≡ pairs_at v (page (decode least c).pages n)
        pairs = ap (pairs_at v) (page-same n e.0)

        right : page_right least b (suc (suc up)) n ≡ page_right least c (suc (suc up)) n
        right = right-same n e.0 (suc (suc up))

        at : (page_right least b (suc (suc up)) n ≡ true) ⊎ (page_right least b (suc (suc up)) n ≡ false)
            → (starts_by k (pairs_at v (page ps n)) ≡ true) ⊎ (starts_by k (pairs_at v (page ps n)) ≡ false)
            → (page_right least b (suc (suc up)) n ≡ true → starts_by k (pairs_at v (page ps n)) ≡ true
            → descended least b v k up (around k (pairs_at v (page ps n))).own.value
            ≡ descended least c v k up (around k (pairs_at v (page ps n))).own.value)
            → descended least b v k (suc up) n ≡ descended least c v k (suc up) n
        at (inr r) f ih = sym (down-wrong least b v k n (suc up) r) ∙ down-wrong least c v k n (suc up) (sym right ∙ r)
        at (inl r) (inr f) ih =
            sym (down-none least b v k n up r f) ∙ down-none least c v k n up (sym right ∙ r) (sym (ap (starts_by k) pairs) ∙ f)
        at (inl r) (inl f) ih =
            down-on least b v k n up r f ∙ ih r f ∙ ap (λ (xs : List Pair). descended least c v k up (around k xs).own.value) pairs
            ∙ sym (down-on least c v k n up (sym right ∙ r) (sym (ap (starts_by k) pairs) ∙ f))

    abbrev root : ℕ
    root = root_at (decode least b).slots v

    -- the whole walk: the root page, and from a root that is not free what the walk reads
    unfoldable pub SameWalk : Type 0
    SameWalk = (page_of least b root ≡ page_of least c root) × ((up : ℕ) → (page ps root).level ≡ suc up → SameDown up root)

    walk_same : root ≡ root_at (decode least c).slots v → SameWalk → walked least b v k ≡ walked least c v k
    unfolding SameWalk
    walk_same q w = at (page ps root).level refl
      where
        level : (page ps root).level ≡ (page (decode least c).pages (root_at (decode least c).slots v)).level
        level = ap (λ (x : Page). x.level) (page-same root w.0) ∙ ap (λ (m : ℕ). (page (decode least c).pages m).level) q

        at : (m : ℕ) → (page ps root).level ≡ m → walked least b v k ≡ walked least c v k
        at zero e = sym (walk-free least b v k e) ∙ walk-free least c v k (sym level ∙ e)
        at (suc up) e =
            walk_start least b v k up e ∙ down-same up root (w.1 up e) ∙ ap (λ (m : ℕ). descended least c v k up m) q
            ∙ sym (walk_start least c v k up (sym level ∙ e))

    pub lookup-off : SameWalk → lookup_lent least b k v ≡ lookup_lent least c k v
    lookup-off w = lookup-by least b k v ∙ at (guarded least b (leb key_limit k) v) refl ∙ sym (lookup-by least c k v)
      where
        at : (n : ℕ) → guarded least b (leb key_limit k) v ≡ n
            → judged_first (guarded least b (leb key_limit k) v) (λ j. Refused j) (walked least b v k)
            ≡ judged_first (guarded least c (leb key_limit k) v) (λ j. Refused j) (walked least c v k)
        at zero e =
            let z = sym (guard-same (leb key_limit k) v) ∙ e in
            rw (e, z) (walk_same
            (ap (λ (xs : List Slot). root_at xs v) (directory-same (front-true least c (guard-front-right least c (leb key_limit k) v z)))) w)
        at (suc n) e = rw (e, sym (guard-same (leb key_limit k) v) ∙ e)
