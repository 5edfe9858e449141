-- What the walk makes of what is known when it takes an entry of a page, and leaves the page. Assumes nothing.
use Prim.Native.Nat.{ℕ, zero, suc, ◌+◌, ◌*◌, ◌-◌, ◌<◌, ◌≤◌}
use mathlib.Core.Path.{◌≡◌, refl, ap, subst, ◌∙◌}
use mathlib.Core.Bool.{Bool, true, false, ◌&&◌, ◌||◌}
use mathlib.Core.List.{List, ◌∷◌, ◌++◌, append-nil}
use mathlib.Core.Logic.{⊎_elim}
use lib.Dec.{leb, ltb}
use lib.ListN.{length, set, length-set}
use lib.Seq.{get_or-set_same, get_or-set_other}
use native.Mathlib.Omega.{arith}
use borrow.Author.Tests.{ltb-true}
use native.Mathlib.Nat.{mul-le-mul_right, add-mul, one-mul, mul-add, mul-one, mul_left_comm}
use Rattle.bits.proofs.laws.Put.{less}
use Rattle.model.specs.declared.Pair.{Pair}
use Rattle.model.specs.Basic.{all, any, pick}
use Rattle.model.specs.Entry.{pair_of}
use Rattle.model.specs.Page.{Page, pairs_at}
use Rattle.model.specs.Store.{page}
use Rattle.model.specs.Walk.{Seen}
use Rattle.model.specs.Layout.{read_entry, read_header, decode}
use Rattle.model.proofs.lists.Lists.{both_true}
use Rattle.local.specs.Local.{IsPage, count_at, level_at, entry_at}
use Rattle.reach.specs.declared.marks.Item.{Item}
use Rattle.notes.specs.Linked.{Linked}
use Rattle.reach.specs.Pending.{first_key, step_ok, chain_ok, passes, pairs_from, NextLive, whole_in}
use Rattle.reach.proofs.laws.Rest.{rest_of}
use Rattle.reach.proofs.laws.Pending.{here, span_of, kids_in, none, pend, weight, heft, weigh, Fine}
use Rattle.reach.proofs.laws.Live.{pairs_end, upper_first}
use Rattle.reach.proofs.laws.Tests.{any_append, same-all}
use Rattle.reach.proofs.laws.Walking.{Walking, Entering, kid_weight, weight-kids, pend-push, weigh-push, kids-none, kids-leaf}
use Rattle.reach.proofs.laws.Walking.{kids-next, pairs-here}

rotate : (a p c k : Bool) → (a || (p || (c || k))) ≡ (a || ((c || p) || k))
rotate true p c k = refl
rotate false true true k = refl
rotate false true false k = refl
rotate false false true k = refl
rotate false false false k = refl

kid-weight : (u : ℕ) → 0 < u → kid_weight u ≡ weight (u - 1)
kid-weight zero h = absurd (omega arith)
kid-weight (suc u) h = let e : suc u - 1 ≡ u = omega arith in rw e

-- what d versions of a page weigh more than j pages below it do at them
share : (d r w k j : ℕ) → w ≡ 1 + 40 * k → j ≤ 40 → 0 < d → r * w + j * (d * k) < (d + r) * w
share d r w k j e le pos =
    let a : j * (d * k) ≤ 40 * (d * k) = mul-le-mul_right (d * k) le in
    let b : d * w ≡ d + 40 * (d * k) = rw (e, mul-add d 1 (40 * k), mul-one d, mul_left_comm d 40 k) in
    omega (arith, a, b, add-mul d r w)

module _ (least : ℕ) (four : 4 ≤ least) (eight : least ≤ 8) (s : List ℕ) (root up a b rule : ℕ) where
  abbrev ps : List Page
  ps = (decode least s).pages

  -- ---- an entry is taken

  module _ (linked : Linked least s) (marks : List Bool) (items₀ : List Item) (top₀ : ℕ) (it : Item) (n : ℕ) (p : List ℕ) (count c : ℕ)
      (items : List Item) (top j : ℕ)
      (w : Entering least s root up a b rule marks items₀ top₀ it n p count c items top j) (lt : j < count) where
    chain_next : chain_ok rule it.low it.high (pairs_from p it.from 0 count)
        ≡ (step_ok rule it.low it.high (first_key (pairs_from p it.from (j + 1) count) it.high) (read_entry p (128 + 96 * j)).key
        && chain_ok rule it.low it.high (pairs_from p it.from (j + 1) count))
    unfolding chain_ok
    chain_next = w.chain ∙ ap (chain_ok rule it.low it.high) (w.live lt)

    on-page : IsPage least s n
    on-page = rw w.number w.own.is_page

    pairs-now : pairs_at it.from (page ps it.page) ≡ pairs_from p it.from 0 count
    pairs-now = rw (w.bytes, w.counted, ← w.number) (pairs-here least s it.from n on-page)

    -- an entry that breaks the rule
    pub stops : (k next : ℕ) → NextLive p it.from (j + 1) count k
        → next ≡ pick (ltb k count) (read_entry p (128 + 96 * k)).key it.high
        → step_ok rule it.low it.high next (read_entry p (128 + 96 * j)).key ≡ false
        → all (passes least rule) (whole_in least s up a b root) ≡ false
    unfolding passes here
    stops k next y nx o =
        let h : Seen = here ps it.from it in
        let r : List Seen = pend ps items top ++ kids_in it.up ps it.from c (pairs_from p it.from j count) it.high in
        let f : next ≡ first_key (pairs_from p it.from (j + 1) count) it.high = nx
        ∙ upper_first p it.from (j + 1) count k it.high y in
        same-all (passes least rule) (whole_in least s up a b root) ((h ∷ w.done) ++ r) w.same
        ∙ rw (pairs-now, w.opened, chain_next, ← f, o)

    -- one that keeps it
    module _ (k next : ℕ) (y : NextLive p it.from (j + 1) count k)
        (nx : next ≡ pick (ltb k count) (read_entry p (128 + 96 * k)).key it.high)
        (o : step_ok rule it.low it.high next (read_entry p (128 + 96 * j)).key ≡ true) where
      is-next : next ≡ first_key (pairs_from p it.from (j + 1) count) it.high
      is-next = nx ∙ upper_first p it.from (j + 1) count k it.high y

      chain-k : chain_ok rule it.low it.high (pairs_from p it.from 0 count)
          ≡ chain_ok rule it.low it.high (pairs_from p it.from k count)
      chain-k = chain_next ∙ rw (← is-next, o, y.same)

      abbrev load : ℕ
      load = (c - it.from) * kid_weight it.up

      heavier : j * load + load ≤ k * load
      heavier =
          let x : (j + 1) * load ≤ k * load = mul-le-mul_right load y.low in
          omega (arith, rw (one-mul load) at (add-mul j 1 load))

      -- in a leaf
      pub passed : it.up ≡ 0 → Entering least s root up a b rule marks items₀ top₀ it n p count c items top k
      passed z =
          record {
            number = w.number;
            bytes = w.bytes;
            sized = w.sized;
            counted = w.counted;
            room = w.room;
            slots = w.slots;
            size = w.size;
            cut = w.cut;
            own = w.own;
            fine = w.fine;
            above = omega (arith, w.above, y.low);
            weighs = omega (arith, w.weighs, heavier);
            place = y.high;
            live = y.live;
            alive = y.alive;
            done = w.done;
            same = rw (kids-leaf it.up ps it.from c (pairs_from p it.from k count) it.high z)
                (rw (kids-leaf it.up ps it.from c (pairs_from p it.from j count) it.high z) at w.same);
            good = w.good;
            opened = w.opened;
            chain = chain-k;
            mark = w.mark;
          }

      -- in an index page, with the page below put on the list
      module _ (six : up ≤ 6) (pos : 0 < it.up) (z : Item) (zp : z.page ≡ (read_entry p (128 + 96 * j)).value) (zu : z.up ≡ it.up - 1)
          (zr : z.root ≡ false)
          (zl : z.low ≡ (read_entry p (128 + 96 * j)).key) (zh : z.high ≡ next) (zf : z.from ≡ it.from) (zt : z.upto ≡ c) where
        pub fits : top < 288
        fits = omega (arith, w.above, w.own.place, w.room)

        deep : 2 ≤ level_at least s n
        deep = omega (arith, rw (← w.number) at w.own.level)

        cnt : j < count_at least s n
        cnt = rw w.counted at lt

        -- the router has not ended by the oldest version
        late : (read_header least s).oldest < (entry_at least s n j).end
        late =
            let e : ltb it.from (read_entry p (128 + 96 * j)).end ≡ true
            = (both_true (leb (read_entry p (128 + 96 * j)).start it.from) _ (w.alive lt)).1 in
            subst (λ (q : List ℕ). (read_header least s).oldest < (read_entry q (128 + 96 * j)).end) w.bytes
            (omega (arith, w.own.old, ltb-true it.from (read_entry p (128 + 96 * j)).end e))

        new : Fine least s up top z
        new =
            record {
              is_page = rw (zp, w.bytes) (linked.child n j on-page deep cnt);
              level = rw (zp, w.bytes) (omega (arith, linked.lower n j on-page deep cnt late, rw (← w.number) at w.own.level));
              place = omega (arith, w.above, w.own.place, w.room);
              some = rw (zf, zt) w.cut;
              old = rw zf w.own.old;
            }

        long : top < length items
        long = rw w.slots fits

        below : (g : Seen → Bool) → any g (kids_in it.up ps it.from c (pairs_from p it.from j count) it.high)
            ≡ (any g (span_of ps z) || any g (kids_in it.up ps it.from c (pairs_from p it.from k count) it.high))
        below g =
            ap (λ (l : List Pair). any g (kids_in it.up ps it.from c l it.high)) (w.live lt)
            ∙ kids-next g it.up ps it.from c (pair_of (read_entry p (128 + 96 * j))) (pairs_from p it.from (j + 1) count)
            it.high z pos zu zr zl (zh ∙ is-next) zp zf zt
            ∙ ap (λ (l : List Pair). any g (span_of ps z) || any g (kids_in it.up ps it.from c l it.high)) y.same

        heft-new : heft z ≡ load
        unfolding heft
        heft-new = rw (zf, zt, zu, kid-weight it.up pos)

        pub pushed : Entering least s root up a b rule marks items₀ top₀ it n p count c (set items top z) (top + 1) k
        pushed =
            record {
              number = w.number;
              bytes = w.bytes;
              sized = w.sized;
              counted = w.counted;
              room = w.room;
              slots = length-set items top z ∙ w.slots;
              size = w.size;
              cut = w.cut;
              own = w.own;
              fine = λ i l. ⊎_elim (λ a. rw (get_or-set_other items top i z none (omega arith)) (w.fine i a))
                  (λ a. let q : i ≡ top = omega arith in rw (q, get_or-set_same items top z none long) new) (less i top);
              above = omega (arith, w.above, y.low);
              weighs = omega (arith, w.weighs, heavier, weigh-push items top z long, heft-new);
              place = y.high;
              live = y.live;
              alive = y.alive;
              done = w.done;
              same = λ g.
                  let h : List Seen = here ps it.from it ∷ w.done in
                  let q : List Seen = pend ps items top in
                  let x : List Seen = span_of ps z in
                  let o : List Seen = kids_in it.up ps it.from c (pairs_from p it.from j count) it.high in
                  let r : List Seen = kids_in it.up ps it.from c (pairs_from p it.from k count) it.high in
                  w.same g ∙ rw (
                    pend-push ps items top z long,
                    any_append g h (q ++ o),
                    any_append g q o,
                    below g,
                    any_append g h ((x ++ q) ++ r),
                    any_append g (x ++ q) r,
                    any_append g x q,
                  )
                  (rotate (any g h) (any g q) (any g x) (any g r));
              good = w.good;
              opened = w.opened;
              chain = chain-k;
              mark = w.mark;
            }

  -- ---- a page is left

  module _ (marks : List Bool) (items₀ : List Item) (top₀ : ℕ) (it : Item) (n : ℕ) (p : List ℕ) (count c : ℕ) (items : List Item)
      (top j : ℕ)
      (w : Entering least s root up a b rule marks items₀ top₀ it n p count c items top j) (ge : count ≤ j) where
    pairs-all : pairs_at it.from (page ps it.page) ≡ pairs_from p it.from 0 count
    pairs-all = rw (w.bytes, w.counted, ← w.number) (pairs-here least s it.from n (rw w.number w.own.is_page))

    passes-here : passes least rule (here ps it.from it) ≡ true
    unfolding passes here chain_ok
    passes-here = rw (pairs-all, w.opened, w.chain, pairs_end p it.from j count ge)

    pub left : Walking least s root up a b rule marks items top
    left =
        record {
          slots = w.slots;
          size = w.size;
          fine = w.fine;
          done = here ps it.from it ∷ w.done;
          same = rw (pairs_end p it.from j count ge, kids-none it.up ps it.from c it.high, append-nil (pend ps items top)) at
              w.same;
          good = rw (passes-here, w.good);
          mark = w.mark;
        }

    pub lighter : (x : ℕ) → c ≤ it.upto → weigh items₀ top₀ ≡ heft (rest_of it c) + x → weigh items top < heft it + x
    unfolding heft
    lighter x high e =
        let d : it.upto - it.from ≡ (c - it.from) + (it.upto - c) = omega (arith, w.cut) in
        omega (
          arith,
          w.weighs,
          e,
          ap (λ (k : ℕ). k * weight it.up) d,
          share (c - it.from) (it.upto - c) (weight it.up) (kid_weight it.up) j (weight-kids it.up)
              (omega (arith, w.place, w.room)) (omega (arith, w.cut)),
        )
