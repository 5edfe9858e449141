-- The fakes that document 01 names are stopped by the contracts.
-- Assumes nothing.
use Prim.Native.Nat.{ℕ, zero, suc, ◌*◌, ◌≤◌, ◌<◌}
use native.Mathlib.Omega.{arith}
use mathlib.Core.Bool.{Bool, true, false, not, ◌||◌}
use mathlib.Core.Path.{◌≡◌, refl, ap, ap₂, sym, ◌∙◌}
use mathlib.Core.Logic.{inl, inr}
use mathlib.Core.Option.{none, some}
use mathlib.Core.List.{List, [], ◌∷◌, ◌++◌, map}
use lib.Dec.{leb, ltb, eqb, lit≤}
use lib.ListN.{length}
use borrow.Author.Tests.{eqb-true, lt-ltb, le-ltb, eq-eqb, lt-leb, leb-false}
use Rattle.model.specs.Basic.{pick, count, eq_list}
use Rattle.model.specs.declared.Pair.{Pair}
use Rattle.model.specs.declared.Entry.{Entry}
use Rattle.model.specs.Looked.{Looked}
use Rattle.model.specs.Looked.{Value}
use Rattle.model.specs.Entry.{pair, placed, enter_pair}
use Rattle.model.specs.Store.{Store, page, last_of}
use Rattle.model.specs.Walk.{key_limit, find, settings, between}
use Rattle.model.specs.Climb.{Result, done}
use Rattle.model.specs.Calls
use Rattle.model.specs.Calls.{is_some, rule, first_of, bench_limit, insert_tests, looked_by, ranged_by, begin}
use Rattle.model.specs.Return.{gave}
use Rattle.model.specs.Histories.{begins, inserts, after}
use Rattle.model.specs.Settings.{Machine, step, put}
use Rattle.model.specs.Replay.{gives, keys, holding}
use Rattle.model.specs.Table.{twenty, twenty_one, delete_from, reopened, table}
use Rattle.model.specs.Ended.{Asked, to_open, to_insert, to_lookup, to_range, Ended, of_looked, ended}
use Rattle.model.specs.Editions.{least_of}
use Rattle.model.proofs.sound.ByRule.{old-current}
use Rattle.model.proofs.lists.Members.{not-both, in-get_or}
use Rattle.model.proofs.lists.Bools.{is_none}
use Rattle.model.proofs.sound.Ready.{numbered-by}
use Rattle.promises.specs.Accepts.{Accepts, store_of}
use Rattle.promises.specs.Runs.{Turn}
use Rattle.promises.specs.Beside.{Beside, when_done, onward, from_lent}
use Rattle.promises.specs.Answers.{looked_in, alive_in, Gives}
use Rattle.promises.specs.Replayed.{made_on}
use Rattle.promises.specs.Fakes.{Implementation, Honest, RefusesAll, OneAnswer, WritesNothing, SplitsAtOpen, Hides, Invents}
use Rattle.promises.specs.Fakes.{FakesStopped}
use Rattle.promises.proofs.Judges.{zero-accepts}
use Rattle.promises.proofs.Lending.{change-leaves}
use Rattle.promises.proofs.Agreed.{Agreed, one-turn, lent-agreed}
use Rattle.promises.proofs.Answering.{answers}
use Rattle.promises.proofs.Replaying.{table-lent, fact-in, none as blank, place}

module _ (f : Implementation) (honest : Honest f) where
  -- what it gives is what the definitions say
  number_is : (c : Asked) (b ns : List ℕ) → (f c b ns).number ≡ 0 → (ended c b ns).number ≡ 0
  number_is c b ns e = ap (λ (x : Ended). x.number) (sym (honest c b ns)) ∙ e

  store_is : (c : Asked) (b ns : List ℕ) → (f c b ns).store ≡ (ended c b ns).store
  store_is c b ns = ap (λ (x : Ended). x.store) (honest c b ns)

  results-are : (c : Asked) (b ns : List ℕ) → (f c b ns).results ≡ (ended c b ns).results
  results-are c b ns = ap (λ (x : Ended). x.results) (honest c b ns)

  -- ---- P2: an insert is done, and page 5, which held the keys 1 to 20, is empty

  abbrev before : List ℕ
  before = (made_on 16 twenty).store

  refuses : RefusesAll f → ⊥
  refuses no-insert =
      no-insert 21 121 before [] (ap (λ (x : Ended). x.number) (honest (to_insert 21 121) before [])
      ∙ eqb-true _ 0 (fact-in (place 1) (in-get_or blank table 1 (lit≤ tt)) (gives 0) (inl refl)))

  no_keys : (es : List Entry) → length es ≡ 0 → eq_list (map (λ (e : Entry). e.key) es) (count 1 20) ≡ true → ⊥
  no_keys [] e h = not-both false h refl
  no_keys (x ∷ xs) e h = omega arith

  nothing : WritesNothing f → ⊥
  nothing same =
      let e : (made_on 16 twenty_one).store ≡ before = sym (store_is (to_insert 21 121) before []) ∙ same 21 121 before [] in
      no_keys (page (store_of before).pages 5).entries
      (ap (λ (b : List ℕ). length (page (store_of b).pages 5).entries) (sym e)
      ∙ eqb-true _ 0 (fact-in (place 1) (in-get_or blank table 1 (lit≤ tt)) (holding 5 0) (inr (inr (inr (inr (inr (inr (inl refl)))))))))
      (fact-in (place 0) (in-get_or blank table 0 (lit≤ tt)) (keys 5 (count 1 20)) (inr (inl refl)))

  -- ---- P9: one key, two answers

  fixed : OneAnswer f → ⊥
  fixed same =
      let b : List ℕ = (made_on 16 (reopened twenty_one ++ delete_from 12 7)).store in
      let one = ap (λ (x : Ended). x.results) (table-lent.ninth []).0 in
      let two = ap (λ (x : Ended). x.results) (table-lent.ninth []).1 in
      let e : ◌≡◌ {A = List ℕ} (1 ∷ 115 ∷ []) (0 ∷ 0 ∷ []) = sym one ∙ sym (results-are (to_lookup 15 1) b []) ∙ same 15 1 15 2 b []
      ∙ results-are (to_lookup 15 2) b [] ∙ two in
      let z : ◌≡◌ {A = ℕ} 0 1 = cc in
      omega arith

  -- ---- an open leaves the pages

  begin-pages : (s : Store) → (after s (gave (begin s))).store.pages ≡ s.pages
  unfolding Calls.begin
  begin-pages s =
      numbered-by (λ (r : Result). (after s (gave r)).store.pages ≡ s.pages) (rule 8 s.opened ∷ rule 9 (leb 1048574 s.current) ∷ [])
      (done (record { current = s.current; opened = true; oldest = s.oldest; slots = s.slots; pages = s.pages })) (λ n. refl)
      (λ x. refl)

  opens : SplitsAtOpen f → ⊥
  opens x =
      let b : List ℕ = x.bytes in
      let ok : Accepts b = zero-accepts to_open b x.list refl (number_is to_open b x.list x.given) in
      x.split
      (ap (λ (q : List ℕ). (store_of q).pages) (store_is to_open b x.list)
      ∙ ap (λ (s : Store). s.pages) (change-leaves b ok begins refl x.list).holds ∙ begin-pages (store_of b))

  -- ---- a range counts the settings alive

  ranged-count : (n room : ℕ) (xs : List Pair) → (ranged_by n room xs).number ≡ 0 → (ranged_by n room xs).count ≡ length xs
  unfolding Calls.ranged_by Calls.ranged_in
  ranged-count zero room xs e = at (first_of (rule 14 (ltb room (2 * length xs)) ∷ []))
    where
      at : (m : ℕ) → (Calls.ranged_in m xs).count ≡ length xs
      at zero = refl
      at (suc m) = refl
  ranged-count (suc n) room xs e = absurd (omega arith)

  invents : Invents f → ⊥
  invents x =
      let c : Asked = to_range x.low x.high x.version in
      let b : List ℕ = x.bytes in
      let zero = number_is c b x.list x.given in
      let a = (answers (from_lent b) (lent-agreed b x.accepted)).range x.low x.high x.version x.list in
      x.invented
      (results-are c b x.list ∙ ap (λ (e : Ended). e.results) a
      ∙ ap (λ (n : ℕ). n ∷ [])
      (ranged-count _ (length x.list) (between x.low x.high (settings (store_of b) x.version))
      (ap (λ (e : Ended). e.number) (sym a) ∙ zero)))

  -- ---- an insert shows at once

  entered : (k x : ℕ) (us : List Pair) → find k us ≡ none → find k (enter_pair (pair k x) us) ≡ some x
  entered k x [] h = ap (λ (b : Bool). pick b (some x) none) (eq-eqb k k refl)
  entered k x (u ∷ us) h = at (ltb k u.key) (eqb u.key k) refl h (entered k x us)
    where
      at : (b c : Bool) → eqb u.key k ≡ c → pick c (some u.value) (find k us) ≡ none
          → (find k us ≡ none → find k (enter_pair (pair k x) us) ≡ some x)
          → find k (placed b (pair k x) u us (enter_pair (pair k x) us)) ≡ some x
      at true c e h ih = ap (λ (q : Bool). pick q (some x) (find k (u ∷ us))) (eq-eqb k k refl)
      at false true e h ih = let z : ◌≡◌ {A = ℕ} 0 1 = cc in absurd (omega arith)
      at false false e h ih = ap (λ (q : Bool). pick q (some u.value) (find k (enter_pair (pair k x) us))) e ∙ ih h

  -- none of insert's tests held
  clear : (k : ℕ) (o q : Bool) (n : ℕ) → Gives (first_of (insert_tests k o q)) n → n ≡ 0
      → (leb key_limit k ≡ false) × ((o ≡ true) × (q ≡ false))
  clear k o q n g e = at (leb bench_limit k) refl o q g
    where
      at : (p : Bool) → leb bench_limit k ≡ p → (o q : Bool) → Gives (first_of (rule 5 p ∷ rule 7 (not o) ∷ rule 10 q ∷ [])) n
          → (leb key_limit k ≡ false) × ((o ≡ true) × (q ≡ false))
      at true f o q g = absurd (omega arith)
      at false f false q g = absurd (omega arith)
      at false f true true g = absurd (omega arith)
      at false f true false g = (lt-leb key_limit k (omega (arith, leb-false bench_limit k f)), (refl, refl))

  -- the machine after it
  found : (k v : ℕ) (m : Machine) → m.oldest ≤ m.current → leb key_limit k ≡ false → m.opened ≡ true
      → is_some (find k (m.shows (suc m.current))) ≡ false
      → looked_in (step m (inserts k v)) k (suc m.current) ≡ Value v
  found k v m old low o absent =
      let c : ℕ = m.current in
      let us : List Pair = m.shows (suc m.current) in
      let readable : (ltb (last_of m.opened m.current) (suc m.current) || ltb (suc m.current) m.oldest) ≡ false =
      rw (o, le-ltb (suc m.current) (suc m.current) (omega arith)) (le-ltb (suc m.current) m.oldest (omega arith)) in
      let here : put (suc c) (enter_pair (pair k v) us) m.shows (suc c) ≡ enter_pair (pair k v) us
      = ap (λ (q : Bool). pick q (enter_pair (pair k v) us) us) (eq-eqb (suc m.current) (suc m.current) refl) in
      ap₂ (λ (p q : Bool). looked_by (first_of (rule 5 p ∷ rule 6 q ∷ []))
      (find k (put (suc m.current) (enter_pair (pair k v) (m.shows (suc m.current))) m.shows (suc m.current)))) low readable
      ∙ ap (looked_by 0) (ap (find k) here ∙ entered k v us (is_none (find k us) absent))

  insert-shows : (k v : ℕ) (b ns ms : List ℕ) → v < 4294967296 → (ended (to_insert k v) b ns).number ≡ 0
      → (ended (to_lookup k (suc (store_of b).current)) (ended (to_insert k v) b ns).store ms).results ≡ 1 ∷ v ∷ []
  insert-shows k v b ns ms small e =
      let ok : Accepts b = zero-accepts (to_insert k v) b ns refl e in
      let x : Beside = from_lent b in
      let t : Turn = record { call = to_insert k v; list = ns } in
      let a : Agreed (from_lent b) = lent-agreed b ok in
      let (low, (o, absent)) = clear k (store_of b).opened (alive_in (from_lent b).machine k) (ended (to_insert k v) b ns).number
      ((answers (from_lent b) a).inserts k v ns) e in
      let after-it = (answers (onward x t) (one-turn x a t (lt-ltb v 4294967296 small))).lookup k (suc (store_of b).current) ms in
      ap (λ (y : Ended). y.results) after-it
      ∙ ap (λ (n : ℕ). (of_looked [] ms
      (looked_in (when_done n (step (from_lent b).machine (inserts k v)) (from_lent b).machine) k (suc (store_of b).current))).results) e
      ∙ ap (λ (y : Looked). (of_looked [] ms y).results)
      (found k v (from_lent b).machine (old-current (least_of b) (store_of b) a.agrees.is-sound.old-low) low o absent)

  hides : Hides f → ⊥
  hides x =
      let put_in : Asked = to_insert x.key x.value in
      let ask : Asked = to_lookup x.key (suc (store_of x.bytes).current) in
      x.hidden
      (ap (λ (b : List ℕ). (f ask b x.list).results) (store_is put_in x.bytes x.list)
      ∙ results-are ask (ended put_in x.bytes x.list).store x.list
      ∙ insert-shows x.key x.value x.bytes x.list x.list x.small (number_is put_in x.bytes x.list x.given))

pub fakes-stopped : FakesStopped
fakes-stopped f honest = record {
  refuses = refuses f honest;
  fixed = fixed f honest;
  nothing = nothing f honest;
  opens = opens f honest;
  hides = hides f honest;
  invents = invents f honest;
}
