-- 2026-12: a prune's promise. Assumes nothing.
use Prim.Native.Nat.{ℕ, zero, suc, ◌+◌, ◌-◌, ◌≤◌, ◌<◌}
use native.Mathlib.Omega.{arith}
use mathlib.Core.Bool.{Bool, true, false, ◌||◌, not}
use mathlib.Core.Path.{◌≡◌, refl, ap, ap₂, sym, ◌∙◌, subst}
use mathlib.Core.Logic.{◌⊎◌, inl, inr, ◌↔◌, ◌≢◌}
use mathlib.Core.List.{List, [], ◌∷◌, map}
use lib.Dec.{leb, ltb}
use lib.ListN.{length, drop, length-drop, length-map, get_or, get_or-map}
use lib.Seq.{get_or-drop}
use borrow.Author.Tests.{leb-true, leb-false, eq-eqb, le-leb, lt-leb, le-ltb, lt-ltb}
use Rattle.model.specs.Basic.{pick, keep, has}
use Rattle.model.specs.declared.Slot.{Slot}
use Rattle.model.specs.Page.{Page, free, is_free}
use Rattle.model.specs.Store.{Store, page, free_from, free_ones, last, last_of}
use Rattle.model.specs.Sound.{sound}
use Rattle.model.specs.Walk.{key_limit}
use Rattle.model.specs.Layout.{encode}
use Rattle.model.specs.Editions.{least_of, lent_number}
use Rattle.model.specs.Climb.{Result, done}
use Rattle.model.specs.Calls
use Rattle.model.specs.Calls.{rule, first_of, numbered, beyond, unreadable, prune_tests, pruned_page, needed, pruned, prune, looked_by}
use Rattle.model.specs.Calls.{looked_number}
use Rattle.model.specs.Return.{Came, gave}
use Rattle.model.specs.Histories.{begins, prunes, call_by, after}
use Rattle.model.specs.Lent
use Rattle.model.specs.Lent.{left_by, leaving}
use Rattle.model.specs.Ended.{to_open, to_prune, to_lookup, Ended, of_outcome, ended}
use Rattle.model.specs.Inner.{In}
use Rattle.model.specs.ByRule.{Sound}
use Rattle.model.proofs.lists.Members.{holds-true, not-both, bool_cases, has_in, in-has, either-right}
use Rattle.model.proofs.tree.GroupPages.{in-frees}
use Rattle.model.proofs.sound.ByRule.{kept_of, from-tests, old-current, used-in, high_used}
use Rattle.model.proofs.sound.Ready.{numbered-by}
use Rattle.model.proofs.theorems.Editions.{least-is, ended-goes, ended-refuses}
use Rattle.promises.specs.Accepts.{Accepts, store_of}
use Rattle.promises.specs.Runs.{Turn, run_bytes}
use Rattle.promises.specs.Beside.{from_lent}
use Rattle.promises.specs.Views.{SameView, SameAnswers}
use Rattle.promises.specs.Demand2.{Lacking}
use Rattle.promises.specs.Prunes.{Prunable, PruneDone, PruneFirst, Pruned, PruneLeaves, PruneIdle, Prunes}
use Rattle.promises.proofs.Encoded.{accepted}
use Rattle.promises.proofs.Lending.{change-is, change-leaves, Leaves, held-sound}
use Rattle.promises.proofs.Judges.{zero-accepts}
use Rattle.promises.proofs.Agreed.{lent-agreed}
use Rattle.promises.proofs.Answering.{answers}
use Rattle.promises.proofs.Stays.{views-stay, answers_stay}
use Rattle.promises.proofs.Unpruned.{never-seven}
use Rattle.promises.proofs.Unexpired.{MadeSo, made-by-calls, pruned-same}

-- ---- which edition

of_two : (b : List ℕ) → leb (least_of b) 4 ≡ false → least_of b ≡ 8
of_two b e = at (least-is b)
  where
    at : (least_of b ≡ 4) ⊎ (least_of b ≡ 8) → least_of b ≡ 8
    at (inl z) = absurd (omega (arith, z, leb-false (least_of b) 4 e))
    at (inr z) = z

-- in edition 1 no prune is done
never : (b : List ℕ) (v : ℕ) (ns : List ℕ) → leb (least_of b) 4 ≡ true → (ended (to_prune v) b ns).number ≢ 0
unfolding Lent.prune_lent
never b v ns e z = at (lent_number b) refl
  where
    at : (n : ℕ) → lent_number b ≡ n → ⊥
    at zero q =
        let is : (ended (to_prune v) b ns).number ≡ 3 = ap (λ (x : Ended). x.number) (ended-goes b ns (to_prune v) refl q)
        ∙ ap (λ (t : Bool). (pick t (leaving 3 b) (Lent.lent (least_of b) (λ (s : Store). prune (least_of b) s v) b)).number) e in
        omega (arith, is, z)
    at (suc n) q = omega (arith, q, z, (ended-refuses b ns (to_prune v) refl (λ (y : lent_number b ≡ 0). omega arith)).number)

-- ---- its number

module _ (b : List ℕ) (ok : Accepts b) (v : ℕ) (ns : List ℕ) where
  number_is : (ended (to_prune v) b ns).number ≡ first_of
      (rule 3 (leb (least_of b) 4) ∷ prune_tests (store_of b).oldest (store_of b).current (store_of b).opened v)
  number_is = (answers (from_lent b) (lent-agreed b ok)).prunes v ns

  none : (x y z : Bool) → first_of (rule 3 x ∷ rule 6 y ∷ rule 8 z ∷ []) ≡ 0 → (y ≡ false) × (z ≡ false)
  none true y z e = absurd (omega arith)
  none false true z e = absurd (omega arith)
  none false false true e = absurd (omega arith)
  none false false false e = (refl, refl)

prunable : (b : List ℕ) (v : ℕ) (ns : List ℕ) → (ended (to_prune v) b ns).number ≡ 0 → Prunable b v
prunable b v ns z = at (leb (least_of b) 4) refl
  where
    at : (t : Bool) → leb (least_of b) 4 ≡ t → Prunable b v
    at true e = absurd (never b v ns e z)
    at false e =
        let ok : Accepts b = zero-accepts (to_prune v) b ns (ap not e) z in
        let (p, q) = none b ok v ns (leb (least_of b) 4) (beyond (store_of b).current (store_of b).oldest v) (store_of b).opened
        (sym (number_is b ok v ns) ∙ z) in
        let k = kept_of (store_of b) v p in
        record { accepted = ok; edition = of_two b e; from = k.from; upto = k.upto; shut = q }

-- no test holds
module _ (b : List ℕ) (v : ℕ) (p : Prunable b v) where
  second : leb (least_of b) 4 ≡ false
  second = lt-leb (least_of b) 4 (omega (arith, p.edition))

  within : beyond (store_of b).current (store_of b).oldest v ≡ false
  within = ap₂ ◌||◌ (le-ltb (store_of b).current v p.upto) (le-ltb v (store_of b).oldest p.from)

tests-none : (b : List ℕ) (v : ℕ) → Prunable b v → first_of
    (rule 3 (leb (least_of b) 4) ∷ prune_tests (store_of b).oldest (store_of b).current (store_of b).opened v) ≡ 0
tests-none b v p = λ i. first_of (rule 3 (second b v p i) ∷ rule 6 (within b v p i) ∷ rule 8 (p.shut i) ∷ [])

prune-done : PruneDone
prune-done b v ns = (prunable b v ns, λ p. number_is b p.accepted v ns ∙ tests-none b v p)

prune-first : PruneFirst
prune-first b ok e v ns =
    number_is b ok v ns ∙ ap (λ (t : Bool). first_of (rule 3 t ∷ prune_tests (store_of b).oldest (store_of b).current (store_of b).opened v))
    (le-leb (least_of b) 4 (omega (arith, e)))

-- ---- what it leaves

idle-page : (v : ℕ) (p : Page) → pruned_page v (pruned_page v p) ≡ pruned_page v p
idle-page v p = at (leb p.end v) refl
  where
    free-too : pruned_page v free ≡ free
    free-too = rw (le-leb 0 v (omega arith))

    at : (t : Bool) → leb p.end v ≡ t → pruned_page v (pick t free p) ≡ pick t free p
    at true e = free-too
    at false e = ap (λ (t : Bool). pick t free p) e

idle-pages : (v : ℕ) (ps : List Page) → map (pruned_page v) (map (pruned_page v) ps) ≡ map (pruned_page v) ps
idle-pages v [] = refl
idle-pages v (p ∷ ps) = rw (idle-page v p, idle-pages v ps)

idle-slots : (v : ℕ) (xs : List Slot) → needed v (needed v xs) ≡ needed v xs
idle-slots v [] = refl
idle-slots v (x ∷ []) = refl
idle-slots v (x ∷ y ∷ zs) = at (leb y.version v) refl (idle-slots v (y ∷ zs))
  where
    at : (t : Bool) → leb y.version v ≡ t → needed v (needed v (y ∷ zs)) ≡ needed v (y ∷ zs)
        → needed v (pick t (needed v (y ∷ zs)) (x ∷ y ∷ zs)) ≡ pick t (needed v (y ∷ zs)) (x ∷ y ∷ zs)
    at true e ih = ih
    at false e ih = ap (λ (t : Bool). pick t (needed v (y ∷ zs)) (x ∷ y ∷ zs)) e

idle : (s : Store) (v : ℕ) → pruned (pruned s v) v ≡ pruned s v
unfolding pruned
idle s v =
    λ i. record {
      current = s.current;
      opened = s.opened;
      oldest = v;
      slots = idle-slots v s.slots i;
      pages = idle-pages v s.pages i;
    }

-- ---- the free pages after it

free_in : (k : ℕ) (ps : List Page) (i : ℕ) → i < length ps → is_free (page ps i) ≡ true → In (k + i) (free_from k ps)
free_in k [] i h e = absurd (omega arith)
free_in k (p ∷ ps) zero h e = subst (λ (b : Bool). In (k + 0) (keep b k (free_from (suc k) ps))) (sym e) (inl (omega arith))
free_in k (p ∷ ps) (suc i) h e =
    at (is_free p) (subst (λ (n : ℕ). In n (free_from (suc k) ps)) next-is (free_in (suc k) ps i (omega arith) e))
  where
    next-is : suc k + i ≡ k + suc i
    next-is = omega arith

    at : (b : Bool) → In (k + suc i) (free_from (suc k) ps) → In (k + suc i) (keep b k (free_from (suc k) ps))
    at true j = inr j
    at false j = j

frees-in : (ps : List Page) (n : ℕ) → 5 ≤ n → n < length ps → is_free (page ps n) ≡ true → has n (free_ones ps) ≡ true
frees-in ps n five inn e =
    in-has n (free_ones ps) (subst (λ (m : ℕ). In m (free_ones ps)) is
    (free_in 5 (drop 5 ps) (n - 5) (omega (arith, length-drop 5 ps)) (ap is_free (get_or-drop 5 ps (n - 5) free ∙ ap (page ps) is) ∙ e)))
  where
    is : 5 + (n - 5) ≡ n
    is = omega arith

module _ (least : ℕ) (s : Store) (d : Sound least s) (v : ℕ) (qs : List Page) (long : length qs ≡ length s.pages)
    (is : (n : ℕ) → page qs n ≡ pruned_page v (page s.pages n)) where
  abbrev ps : List Page
  ps = s.pages

  freed-at : (n : ℕ) → (page s.pages n).end ≤ v → page qs n ≡ free
  freed-at n h = is n ∙ ap (λ (t : Bool). pick t free (page ps n)) (le-leb (page ps n).end v h)

  was-spare : (n : ℕ) → has n (free_ones qs) ≡ true
      → (has n (free_ones s.pages) ≡ true) ⊎ ((is_free (page s.pages n) ≡ false) × ((page s.pages n).end ≤ v))
  was-spare n h = at (bool_cases (is_free (page ps n))) (leb (page ps n).end v) refl (in-frees qs n (has_in n (free_ones qs) h))
    where
      at : (is_free (page ps n) ≡ true) ⊎ (is_free (page ps n) ≡ false) → (t : Bool) → leb (page ps n).end v ≡ t
          → ((page qs n).level ≡ 0) × (5 ≤ n) × (n < length qs)
          → (has n (free_ones ps) ≡ true) ⊎ ((is_free (page ps n) ≡ false) × ((page ps n).end ≤ v))
      at (inl z) t e (a, five, inn) = inl (frees-in ps n five (omega (arith, long, inn)) z)
      at (inr u) true e q = inr (u, leb-true (page ps n).end v e)
      at (inr u) false e (a, five, inn) =
          let same : page qs n ≡ page ps n = is n ∙ ap (λ (t : Bool). pick t free (page ps n)) e in
          absurd (not-both (is_free (page ps n)) (eq-eqb (page ps n).level 0 (ap (λ (p : Page). p.level) (sym same) ∙ a)) u)

  is-spare : (n : ℕ) → (has n (free_ones s.pages) ≡ true) ⊎ ((is_free (page s.pages n) ≡ false) × ((page s.pages n).end ≤ v))
      → has n (free_ones qs) ≡ true
  is-spare n (inl h) =
      let (a, five, inn) = in-frees ps n (has_in n (free_ones ps) h) in
      let z : page ps n ≡ free = d.zeros n (eq-eqb (page ps n).level 0 a) in
      frees-in qs n five (omega (arith, long, inn)) (ap is_free (freed-at n (omega (arith, ap (λ (p : Page). p.end) z))))
  is-spare n (inr (u, h)) = frees-in qs n (high_used s n d.front u) (omega (arith, long, used-in ps n u)) (ap is_free (freed-at n h))

-- ---- an open leaves the pages

open-pages : (least : ℕ) (s : Store) → (after s (call_by least s begins)).store.pages ≡ s.pages
unfolding Calls.begin
open-pages least s =
    numbered-by (λ (r : Result). (after s (gave r)).store.pages ≡ s.pages) (rule 8 s.opened ∷ rule 9 (leb 1048574 s.current) ∷ [])
    (done (record { current = s.current; opened = true; oldest = s.oldest; slots = s.slots; pages = s.pages })) (λ n. refl) (λ f. refl)

-- ---- the call

module _ (b : List ℕ) (v : ℕ) (p : Prunable b v) (ns : List ℕ) where
  abbrev l : ℕ
  l = least_of b

  abbrev s : Store
  s = store_of b

  -- the call on the store
  call-is : call_by (least_of b) (store_of b) (prunes v) ≡ gave (done (pruned (store_of b) v))
  unfolding Calls.prune
  call-is = λ i. gave (numbered (rule 3 (second b v p i) ∷ rule 6 (within b v p i) ∷ rule 8 (p.shut i) ∷ []) (done (pruned s v)))

  whole_is : ended (to_prune v) b ns ≡ record { number = 0; results = []; store = encode (least_of b) (pruned (store_of b) v); list = ns }
  whole_is = change-is b p.accepted (prunes v) ns ∙ ap (λ (c : Came). of_outcome ns (left_by l b c)) call-is

module _ (b : List ℕ) (v : ℕ) (p : Prunable b v) (ns : List ℕ) where
  abbrev st : Store
  st = store_of b

  abbrev b' : List ℕ
  b' = encode (least_of b) (pruned (store_of b) v)

  left_so : Leaves (least_of b) b (pruned (store_of b) v) (encode (least_of b) (pruned (store_of b) v))
  left_so =
      subst (λ (x : Ended). Leaves (least_of b) b (pruned st v) x.store) (whole_is b v p ns)
      (subst (λ (t : Store). Leaves (least_of b) b t (ended (to_prune v) b ns).store)
      (ap (λ (c : Came). (after st c).store) (call-is b v p ns)) (change-leaves b p.accepted (prunes v) refl ns))

  holds : store_of (encode (least_of b) (pruned (store_of b) v)) ≡ pruned (store_of b) v
  holds = left_so.holds

  old-is : (store_of (encode (least_of b) (pruned (store_of b) v))).oldest ≡ v
  unfolding pruned
  old-is = ap (λ (t : Store). t.oldest) holds

  current-is : (store_of (encode (least_of b) (pruned (store_of b) v))).current ≡ (store_of b).current
  unfolding pruned
  current-is = ap (λ (t : Store). t.current) holds

  opened-is : (store_of (encode (least_of b) (pruned (store_of b) v))).opened ≡ (store_of b).opened
  unfolding pruned
  opened-is = ap (λ (t : Store). t.opened) holds

  slots-are : (store_of (encode (least_of b) (pruned (store_of b) v))).slots ≡ needed v (store_of b).slots
  unfolding pruned
  slots-are = ap (λ (t : Store). t.slots) holds

  page-is : (n : ℕ) → page (store_of (encode (least_of b) (pruned (store_of b) v))).pages n ≡ pruned_page v (page (store_of b).pages n)
  unfolding pruned
  page-is n =
      ap (λ (t : Store). page t.pages n) holds
      ∙ ap (λ (q : Page). get_or (map (pruned_page v) st.pages) n q) (sym (ap (λ (t : Bool). pick t free free) (le-leb 0 v (omega arith))))
      ∙ get_or-map (pruned_page v) st.pages n free

  -- the same bytes as the calls leave
  ran : (ended (to_prune v) b ns).store ≡ encode (least_of b) (pruned (store_of b) v)
  ran = ap (λ (x : Ended). x.store) (whole_is b v p ns)

  abbrev turn : Turn
  turn = record { call = to_prune v; list = ns }

  older : (u : ℕ) → v ≤ u → (store_of (ended (to_prune v) b ns).store).oldest ≤ u
  older u h = omega (arith, ap (λ (x : List ℕ). (store_of x).oldest) ran, old-is)

  views : (u : ℕ) → v ≤ u → u ≤ (store_of b).current → SameView (store_of b) (store_of (encode (least_of b) (pruned (store_of b) v))) u
  views u h k =
      subst (λ (x : List ℕ). SameView (store_of b) (store_of x) u) ran (views-stay b p.accepted (turn ∷ []) refl refl u (older u h) k)

  says : (u : ℕ) → v ≤ u → u ≤ (store_of b).current → SameAnswers b (encode (least_of b) (pruned (store_of b) v)) u
  says u h k = subst (λ (x : List ℕ). SameAnswers b x u) ran (answers_stay b p.accepted (turn ∷ []) refl refl u (older u h) k)

  six : (n u : ℕ) → leb key_limit n ≡ false → unreadable (store_of b') u ≡ true → (o : _)
      → looked_number (looked_by (first_of (rule 5 (leb key_limit n) ∷ rule 6 (unreadable (store_of b') u) ∷ [])) o) ≡ 6
  six n u e f o = rw (e, f)

  gone : (k u : ℕ) (ms : List ℕ) → k < key_limit → u < v → (ended (to_lookup k u) (encode (least_of b) (pruned (store_of b) v)) ms).number ≡ 6
  gone k u ms low h =
      let late : beyond (last_of (store_of b').opened (store_of b').current) (store_of b').oldest u ≡ true
      = either-right (ltb (last (store_of b')) u) _ (lt-ltb u (store_of b').oldest (omega (arith, old-is))) in
      ap (λ (x : Ended). x.number) ((answers (from_lent b') (lent-agreed b' left_so.accepts)).lookup k u ms)
      ∙ six k u (lt-leb key_limit k low) late _

  again : (ms : List ℕ) → ended (to_prune v) (encode (least_of b) (pruned (store_of b) v)) ms
      ≡ record { number = 0; results = []; store = encode (least_of b) (pruned (store_of b) v); list = ms }
  again ms =
      let q : Prunable b' v = record {
        accepted = left_so.accepts;
        edition = left_so.edition ∙ p.edition;
        from = omega (arith, old-is);
        upto = omega (arith, current-is, p.upto);
        shut = opened-is ∙ p.shut;
      } in
      whole_is b' v q ms ∙ ap (λ (x : List ℕ). record { number = 0; results = []; store = x; list = ms })
      (ap (λ (n : ℕ). encode n (pruned (store_of b') v)) left_so.edition
      ∙ ap (encode (least_of b)) (ap (λ (t : Store). pruned t v) holds ∙ idle st v))

  long-is : length (store_of (encode (least_of b) (pruned (store_of b) v))).pages ≡ length (store_of b).pages
  unfolding pruned
  long-is = ap (λ (t : Store). length t.pages) holds ∙ length-map st.pages (pruned_page v)

  was-sound : Sound (least_of b) (store_of b)
  was-sound = from-tests (least_of b) st (holds-true (sound (least_of b) st) (held-sound b p.accepted))

  spare : (n : ℕ) → has n (free_ones (store_of (encode (least_of b) (pruned (store_of b) v))).pages) ≡ true
      ↔ ((has n (free_ones (store_of b).pages) ≡ true)
      ⊎ ((is_free (page (store_of b).pages n) ≡ false) × ((page (store_of b).pages n).end ≤ v)))
  spare n = (
    was-spare (least_of b) st was-sound v (store_of b').pages long-is page-is n,
    is-spare (least_of b) st was-sound v (store_of b').pages long-is page-is n,
  )

  begun : (ms : List ℕ) → (store_of (ended to_open (encode (least_of b) (pruned (store_of b) v)) ms).store).pages
      ≡ (store_of (encode (least_of b) (pruned (store_of b) v))).pages
  begun ms = ap (λ (t : Store). t.pages) (change-leaves b' left_so.accepts begins refl ms).holds ∙ open-pages (least_of b') (store_of b')

  pub left-pruned : Lacking → Pruned b v (encode (least_of b) (pruned (store_of b) v))
  left-pruned lacking = record {
    accepted = left_so.accepts;
    oldest = old-is;
    current = current-is;
    opened = opened-is;
    freed = λ n h. page-is n ∙ ap (λ (t : Bool). pick t free (page st.pages n)) (le-leb (page st.pages n).end v h);
    stays = λ n h. page-is n ∙ ap (λ (t : Bool). pick t free (page st.pages n)) (lt-leb (page st.pages n).end v h);
    slots = slots-are;
    views = views;
    answers = says;
    gone = gone;
    again = again;
    spare = spare;
    begun = begun;
    lacks = λ ts ms. lacking (run_bytes b' ts) ms;
  }

prune-leaves : Lacking → PruneLeaves
prune-leaves lacking b v ns z = let p = prunable b v ns z in subst (Pruned b v) (sym (ran b v p ns)) (left-pruned b v p ns lacking)

-- ---- to the oldest version

idle-so : (b : List ℕ) → MadeSo b → least_of b ≡ 8 → (store_of b).opened ≡ false
    → (ns : List ℕ) → ended (to_prune (store_of b).oldest) b ns ≡ record { number = 0; results = []; store = b; list = ns }
idle-so b m e shut ns =
    whole_is b s.oldest q ns
    ∙ ap (λ (x : List ℕ). record { number = 0; results = []; store = x; list = ns })
    (ap (encode (least_of b)) (pruned-same (least_of b) s d m.unexpired) ∙ (accepted b m.bytes m.accepted).same)
  where
    s : Store
    s = store_of b

    d : Sound (least_of b) (store_of b)
    d = from-tests (least_of b) (store_of b) (holds-true (sound (least_of b) (store_of b)) (held-sound b m.accepted))

    q : Prunable b (store_of b).oldest
    q =
        record {
          accepted = m.accepted;
          edition = e;
          from = omega arith;
          upto = old-current (least_of b) (store_of b) d.old-low;
          shut = shut;
        }

prune-idle : PruneIdle
prune-idle least e n low high ts f b z = idle-so b (subst MadeSo z (made-by-calls least e n low high ts f))

pub prunes-keep : Lacking → Prunes
prunes-keep lacking =
    record { done = prune-done; first = prune-first; leaves = prune-leaves lacking; idle = prune-idle; never-seven = never-seven }
