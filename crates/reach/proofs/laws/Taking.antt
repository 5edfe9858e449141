-- What the walk makes of what is known when it begins, takes a page, and ends. Assumes nothing.
use Prim.Native.Nat.{ℕ, zero, suc, ◌+◌, ◌*◌, ◌-◌, ◌<◌, ◌≤◌}
use mathlib.Core.Path.{◌≡◌, refl, ap, sym, ◌∙◌}
use mathlib.Core.Bool.{Bool, true, false, ◌||◌}
use mathlib.Core.List.{List, [], ◌∷◌, ◌++◌, append-nil}
use mathlib.Core.Logic.{⊎_elim}
use lib.Dec.{ltb}
use lib.ListN.{length, get_or, set, replicate, length-set, length-replicate}
use lib.Seq.{get_or-set_same, get_or-set_other}
use borrow.Author.Tests.{eq-eqb, ne_eqb, lt-ltb, le-ltb}
use native.Mathlib.Omega.{arith}
use native.Mathlib.Nat.{suc-mul}
use Rattle.bits.proofs.laws.Put.{less}
use Rattle.model.specs.declared.Pair.{Pair}
use Rattle.model.specs.Basic.{all, any, pick}
use Rattle.model.specs.Page.{Page, pairs_at}
use Rattle.model.specs.Store.{page}
use Rattle.model.specs.Walk.{Seen}
use Rattle.model.specs.Layout.{read_header, page_of, decode}
use Rattle.model.proofs.lists.Bools.{same?}
use Rattle.local.specs.Local.{IsPage, count_at, level_at}
use Rattle.reach.specs.declared.marks.Item.{Item}
use Rattle.notes.specs.Linked.{Linked}
use Rattle.std.specs.Prelude.{Option, None, Some}
use Rattle.reach.specs.Pending.{open_ok, chain_ok, passes, pairs_from, NextLive, whole, whole_in, is_number, Tells}
use Rattle.reach.proofs.laws.Rest.{rest_of}
use Rattle.reach.proofs.laws.Pending.{here, seen_of, kids, span_of, kids_in, none, pend, Same, weight, heft, weigh, Fine}
use Rattle.notes.specs.Ready.{BehindUpto}
use Rattle.reach.specs.Versions.{QuietPart}
use Rattle.reach.proofs.laws.Quiet.{pairs-quiet}
use Rattle.reach.proofs.laws.Tests.{any_append, same-all, all_true}
use Rattle.reach.proofs.laws.Rules.{passes-six}
use Rattle.reach.proofs.laws.Stretch.{over-split, over-here}
use Rattle.reach.proofs.laws.Walking.{Walking, Entering, weight-kids, weigh-top, pend-top, pend-put, seen-item, leaf-number}
use Rattle.reach.proofs.laws.Walking.{pairs-here}

all_same : {A : Type 0} (n i : ℕ) (a : A) → get_or (replicate n a) i a ≡ a
all_same zero i a = refl
all_same (suc n) zero a = refl
all_same (suc n) (suc i) a = all_same n i a

shuffle : (d h k r p : Bool) → (d || (((h || k) || r) || p)) ≡ ((h || d) || ((r || p) || k))
shuffle true true k r p = refl
shuffle true false k r p = refl
shuffle false true k r p = refl
shuffle false false true true p = refl
shuffle false false true false true = refl
shuffle false false true false false = refl
shuffle false false false true p = refl
shuffle false false false false true = refl
shuffle false false false false false = refl

some_is : {A : Type 0} {x y : A} → ◌≡◌ {A = Option A} (Some x) (Some y) → x ≡ y
some_is e = cc

pub none_is : {A : Type 0} {y : A} → ◌≡◌ {A = Option A} None (Some y) → ⊥
none_is e = cc

module _ (least : ℕ) (four : 4 ≤ least) (eight : least ≤ 8) (s : List ℕ) (root up a b rule : ℕ) where
  abbrev ps : List Page
  ps = (decode least s).pages

  -- ---- the first item

  abbrev first : Item
  first = record { page = root; up = up; root = true; low = 0; high = 16777216; from = a; upto = b }

  pub start : IsPage least s root → level_at least s root ≡ up + 1 → a < b → (read_header least s).oldest ≤ a
      → Walking least s root up a b rule (replicate 4096 false) (replicate 288 first) 1
  unfolding pend span_of seen_of whole_in whole
  start h l lt from =
      record {
        slots = refl;
        size = length-replicate {A = Bool} 4096 false;
        fine = λ k less. let e : k ≡ 0 = omega arith in rw e (record { is_page = h; level = l; place = omega arith; some = lt; old = from });
        done = [];
        same = λ g. ap (any g) (sym (append-nil (span_of ps first)));
        good = refl;
        mark = λ m. all_same 4096 m false;
      }

  -- ---- a page is taken

  module _ (linked : Linked least s) (six : up ≤ 6) (marks : List Bool) (items : List Item) (top : ℕ)
      (w : Walking least s root up a b rule marks items top) (pos : 0 < top)
      (it : Item) (is : it ≡ get_or items (top - 1) none) (n : ℕ) (number : n ≡ it.page) where
    own : Fine least s up (top - 1) it
    own = rw is (w.fine (top - 1) (omega arith))

    is-page : IsPage least s n
    is-page = rw number own.is_page

    -- what is left weighs less
    pub fewer : weigh items (top - 1) < weigh items top
    unfolding heft
    fewer =
        omega (
          arith,
          weigh-top items top pos,
          ap heft (sym is),
          some-weight (it.upto - it.from) (weight it.up) (omega (arith, own.some)) (omega (arith, weight-kids it.up)),
        )
      where
        some-weight : (d w : ℕ) → 0 < d → 0 < w → 0 < d * w
        some-weight zero w h k = absurd (omega arith)
        some-weight (suc d) w h k = omega (arith, suc-mul d w)

    -- under rule 6 a leaf is marked, and that is all
    module _ (sixth : rule ≡ 6) (leaf : it.up ≡ 0) where
      all-six : (xs : List Seen) → all (passes least rule) xs ≡ true
      all-six xs = rw sixth (all_true (passes least 6) (passes-six least) xs)

      lift : (d i p : Bool) → (d || (i || p)) ≡ ((i || d) || p)
      lift true true p = refl
      lift true false p = refl
      lift false true p = refl
      lift false false p = refl

      pub leaf-marked : Walking least s root up a b rule (set marks n true) items (top - 1)
      leaf-marked =
          record {
            slots = w.slots;
            size = length-set marks n true ∙ w.size;
            fine = λ k lt. w.fine k (omega arith);
            done = span_of ps it ++ w.done;
            same = λ g.
                let q : List Seen = pend ps items (top - 1) in
                let x : List Seen = span_of ps it in
                let t : pend ps items top ≡ x ++ q = pend-top ps items top pos ∙ rw (← is) in
                w.same g ∙ rw (
                  t,
                  any_append g w.done (x ++ q),
                  any_append g x q,
                  any_append g (x ++ w.done) q,
                  any_append g x w.done,
                ) (lift (any g w.done) (any g x) (any g q));
            good = all-six (span_of ps it ++ w.done);
            mark = λ i. ⊎_elim
                (λ e. rw (
                  e,
                  get_or-set_same marks n true false (omega (arith, w.size, is-page.1, linked.most)),
                  any_append (is_number n) (span_of ps it) w.done,
                  leaf-number ps it n leaf own.some,
                  eq-eqb n it.page number,
                ))
                (λ e. rw (
                  get_or-set_other marks n i true false e,
                  w.mark i,
                  any_append (is_number i) (span_of ps it) w.done,
                  leaf-number ps it i leaf own.some,
                  ne_eqb i it.page (λ f. e (f ∙ sym number)),
                ))
                (same? i n);
          }

    module _ (p : List ℕ) (bytes : p ≡ page_of least s n) (count : ℕ) (counted : count ≡ count_at least s n) (c : ℕ)
        (sooner : BehindUpto it.from it.upto c) (quiet : QuietPart least p it.from c) (z : Item) (zr : z ≡ rest_of it c) (m : ℕ)
        (me : m ≡ pick (ltb c it.upto) 1 0) where
      room : count ≤ 5 * least
      room = rw counted (linked.room n is-page)

      pairs : pairs_at it.from (page ps it.page) ≡ pairs_from p it.from 0 count
      pairs = rw (bytes, counted, ← number) (pairs-here least s it.from n is-page)

      -- it shows the same up to c
      still : (v : ℕ) → it.from ≤ v → v < c → pairs_at v (page ps it.page) ≡ pairs_from p it.from 0 count
      still v low high = sym (rw number at (pairs-quiet least s n it.from v c is-page low high (rw bytes at quiet))) ∙ pairs

      abbrev xs : List Pair
      xs = pairs_from p it.from 0 count

      now_on : (v : ℕ) → it.from ≤ v → v < c → seen_of ps v it ≡ here ps it.from it ∷ kids it.up ps v xs it.high
      unfolding here
      now_on v low high = seen-item ps v it ∙ rw (still v low high, pairs)

      over-item : (g : Seen → Bool) → any g (span_of ps it)
          ≡ ((g (here ps it.from it) || any g (kids_in it.up ps it.from c xs it.high)) || any g (span_of ps z))
      unfolding span_of kids_in seen_of
      over-item g =
          over-split g (λ (v : ℕ). seen_of ps v it) it.from c it.upto (omega (arith, sooner.above)) sooner.below
          ∙ rw (
            zr,
            over-here g (λ (v : ℕ). seen_of ps v it) (λ (v : ℕ). kids it.up ps v xs it.high) (here ps it.from it)
                it.from c sooner.above now_on,
          )

      abbrev items₁ : List Item
      items₁ = set items (top - 1) z

      long : top - 1 < length items
      long = omega (arith, w.slots, own.place)

      put : pend ps items₁ (top - 1 + m) ≡ span_of ps z ++ pend ps items (top - 1)
      put = rw (me, zr) (pend-put ps items (top - 1) (rest_of it c) long)

      taken : Same (whole_in least s up a b root)
          ((here ps it.from it ∷ w.done) ++ (pend ps items₁ (top - 1 + m) ++ kids_in it.up ps it.from c xs it.high))
      taken g =
          let h : Seen = here ps it.from it in
          let k : List Seen = kids_in it.up ps it.from c xs it.high in
          let q : List Seen = pend ps items (top - 1) in
          let r : List Seen = span_of ps z in
          let t : pend ps items top ≡ span_of ps it ++ q = pend-top ps items top pos ∙ rw (← is) in
          w.same g ∙ rw (
            t,
            put,
            any_append g w.done (span_of ps it ++ q),
            any_append g (span_of ps it) q,
            over-item g,
            any_append g (h ∷ w.done) ((r ++ q) ++ k),
            any_append g (r ++ q) k,
            any_append g r q,
          )
          (shuffle (any g w.done) (g h) (any g k) (any g r) (any g q))

      fine-put : (k : ℕ) → k < top - 1 + m → Fine least s up k (get_or items₁ k none)
      fine-put k lt = ⊎_elim
          (λ l. rw (get_or-set_other items (top - 1) k z none (omega arith)) (w.fine k (omega arith)))
          (λ l. ⊎_elim
          (λ some. let e : k ≡ top - 1 = omega (arith, rw (lt-ltb c it.upto some) at me) in
          rw (e, get_or-set_same items (top - 1) z none long, zr)
          (record {
            is_page = own.is_page;
            level = own.level;
            place = own.place;
            some = some;
            old = omega (arith, own.old, sooner.above);
          }))
          (λ nothing. absurd (omega (arith, rw (le-ltb c it.upto nothing) at me))) (less c it.upto))
          (less k (top - 1))

      pub enter : (j : ℕ) → length p ≡ 64 * least → open_ok least rule it.root it.up it.low (pairs_from p it.from 0 count) ≡ true
          → NextLive p it.from 0 count j
          → Entering least s root up a b rule (set marks n true) items₁ (top - 1 + m) it n p count c items₁ (top - 1 + m) j
      unfolding here
      enter j sized o x =
          record {
            number = number;
            bytes = bytes;
            sized = sized;
            counted = counted;
            room = room;
            slots = length-set items (top - 1) z ∙ w.slots;
            size = length-set marks n true ∙ w.size;
            cut = sooner.above;
            own = record {
              is_page = own.is_page;
              level = own.level;
              place = omega (arith, own.place, small);
              some = own.some;
              old = own.old;
            };
            fine = fine-put;
            above = omega arith;
            weighs = omega arith;
            place = x.high;
            live = x.live;
            alive = x.alive;
            done = w.done;
            same = rw x.same at taken;
            good = w.good;
            opened = o;
            chain = ap (chain_ok rule it.low it.high) x.same;
            mark = λ i. ⊎_elim
                (λ e. rw (
                  e,
                  get_or-set_same marks n true false (omega (arith, w.size, is-page.1, linked.most)),
                  eq-eqb n it.page number,
                ))
                (λ e. rw (get_or-set_other marks n i true false e, w.mark i, ne_eqb i it.page (λ f. e (f ∙ sym number))))
                (same? i n);
          }
        where
          small : m ≤ 1
          small =
              ⊎_elim (λ l. omega (arith, rw (lt-ltb c it.upto l) at me)) (λ l. omega (arith, rw (le-ltb c it.upto l) at me))
              (less c it.upto)

      -- a page that does not open breaks the rule
      pub shut : open_ok least rule it.root it.up it.low (pairs_from p it.from 0 count) ≡ false
          → all (passes least rule) (whole_in least s up a b root) ≡ false
      unfolding passes here
      shut o =
          let h : Seen = here ps it.from it in
          let k : List Seen = kids_in it.up ps it.from c xs it.high in
          let q : List Seen = pend ps items₁ (top - 1 + m) in
          same-all (passes least rule) (whole_in least s up a b root) ((h ∷ w.done) ++ (q ++ k)) taken ∙ rw (pairs, o)

  -- ---- the end

  pub finish : (marks : List Bool) (items : List Item) (top : ℕ) → Walking least s root up a b rule marks items top → top ≡ 0
      → Tells least s root up a b rule (Some marks)
  unfolding pend
  finish marks items top w z =
      let q : Same (whole_in least s up a b root) w.done = rw (z, append-nil w.done) at w.same in
      let t : all (passes least rule) (whole_in least s up a b root) ≡ true
      = same-all (passes least rule) (whole_in least s up a b root) w.done q ∙ w.good in
      record { verdict = rw t; marked = λ ms e m. ap (λ (xs : List Bool). get_or xs m false) (sym (some_is e)) ∙ w.mark m ∙ sym (q (is_number m)) }

  pub stopped : all (passes least rule) (whole_in least s up a b root) ≡ false → Tells least s root up a b rule None
  stopped t = record { verdict = rw t; marked = λ ms e m. absurd (none_is e) }
