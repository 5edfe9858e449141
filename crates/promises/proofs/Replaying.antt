-- The table's histories on bytes: the calls on bytes leave the bytes of the table's stores.
-- Assumes nothing.
use Prim.Native.Nat.{ℕ}
use mathlib.Core.Bool.{Bool, true}
use mathlib.Core.Path.{◌≡◌, refl, ap, sym, ◌∙◌, subst}
use mathlib.Core.Logic.{inl, inr}
use mathlib.Core.List.{List, [], ◌∷◌, ◌++◌, map}
use lib.Dec.{T, lit≤}
use lib.ListN.{get_or}
use Rattle.model.specs.Basic.{all}
use Rattle.model.specs.Looked.{Looked}
use Rattle.model.specs.Looked.{Value, Absent}
use Rattle.model.specs.Store.{Store, fresh}
use Rattle.model.specs.Sound.{sound}
use Rattle.model.specs.Layout.{bit, encode}
use Rattle.model.specs.Climb.{done, refused}
use Rattle.model.specs.Return.{Came, gave, gave_up}
use Rattle.model.specs.Calls.{get, looked_number, looked_found, looked_value}
use Rattle.model.specs.Histories
use Rattle.model.specs.Histories.{Call, commits, abandons, deletes, call_by, After, after, run_on, from}
use Rattle.model.specs.Settings.{fits}
use Rattle.model.specs.Replay.{History, all_of, holds, sound_from, sound_way, looks, looked_numbers, bytes_of}
use Rattle.model.specs.Table.{history, insert_key, twenty, twenty_one, delete_from, reopened, table}
use Rattle.model.specs.Proved.{P1-to-P12, table-sound}
use Rattle.model.specs.Lent.{Outcome, left_by}
use Rattle.model.specs.Ended.{to_lookup, Ended, of_outcome, of_looked, ended}
use Rattle.model.specs.Inner.{In}
use Rattle.model.proofs.lists.Lists.{both_true, all_cons}
use Rattle.model.proofs.lists.Members.{holds-true, true-holds, all_in, in-get_or}
use Rattle.model.proofs.theorems.Theorems.{call-sound}
use Rattle.model.proofs.theorems.Editions.{edition-four}
use Rattle.store.proofs.laws.Tested.{list-true}
use Rattle.promises.specs.Accepts.{Accepts, store_of, OfEdition, Written}
use Rattle.promises.specs.Runs.{run, asks}
use Rattle.promises.specs.Replayed.{turn_of, made_on, replayed, Replays, AllReplay, TableLent}
use Rattle.promises.proofs.Encoded.{encoded-sound}
use Rattle.promises.proofs.Lending.{change-is}
use Rattle.promises.proofs.Sounding.{lookup-lent}

-- ---- calls on the bytes of a sound store

module _ (least : ℕ) (e : OfEdition least) where
  left_after : (s : Store) (r : Came) → left_by least (encode least s) r
      ≡ record { number = (after s r).number; store = encode least (after s r).store }
  left_after s (gave (done t)) = refl
  left_after s (gave (refused n)) = refl
  left_after s (gave_up n t) = refl

  -- one
  one : (s : Store) → T (sound least s) → (c : Call)
      → ended (asks c) (encode least s) [] ≡ of_outcome []
      (record { number = (after s (call_by least s c)).number; store = encode least (after s (call_by least s c)).store })
  one s sure c =
      let b : List ℕ = encode least s in
      let w : Written least s = encoded-sound least e s sure in
      change-is b w.accepted c [] ∙ ap (λ (l : ℕ). of_outcome [] (left_by l b (call_by l (store_of b) c))) w.edition
      ∙ ap (λ (t : Store). of_outcome [] (left_by least b (call_by least t c))) w.held ∙ ap (of_outcome []) (left_after s (call_by least s c))

  -- one after another
  pub runs : (cs : List Call) → all fits cs ≡ true → (n : ℕ) (s : Store) → T (sound least s)
      → run (record { number = n; store = encode least s }) (map turn_of cs)
      ≡ record {
        number = (Histories.run least (record { number = n; store = s }) cs).number;
        store = encode least (Histories.run least (record { number = n; store = s }) cs).store;
      }
  runs [] h n s sure = refl
  runs (c ∷ cs) h n s sure =
      let (f, g) = all_cons fits c cs h in
      ap (λ (e : Ended). run (record { number = e.number; store = e.store }) (map turn_of cs)) (one s sure c)
      ∙ runs cs g (after s (call_by least s c)).number (after s (call_by least s c)).store
      (call-sound least (edition-four least e) s sure c (true-holds (fits c) f))

  run_sound : (cs : List Call) → all fits cs ≡ true → (a : After) → T (sound least a.store)
      → T (sound least (Histories.run least a cs).store)
  run_sound [] h a sure = sure
  run_sound (c ∷ cs) h a sure =
      let (f, g) = all_cons fits c cs h in
      run_sound cs g (after a.store (call_by least a.store c))
      (call-sound least (edition-four least e) a.store sure c (true-holds (fits c) f))

-- ---- the table

sound-first : (s : Store) (cs : List Call) → sound_from s cs ≡ true → T (sound 4 s)
sound-first s [] h = true-holds (sound 4 s) h
sound-first s (c ∷ cs) h = true-holds (sound 4 s) (both_true (sound 4 s) (sound_from (after s (call_by 4 s c)).store cs) h).0

module _ (h : History) (well : sound_way h ≡ true) (fit : all fits h.calls ≡ true) where
  abbrev end : After
  end = run_on 4 h.store h.calls

  start : T (sound 4 h.store)
  start = sound-first h.store h.calls well

  is : replayed h ≡ record { number = end.number; store = encode 4 end.store }
  is = runs 4 (inl refl) h.calls fit 0 h.store start

  end-written : Written 4 end.store
  end-written =
      encoded-sound 4 (inl refl) end.store (run_sound 4 (inl refl) h.calls fit (record { number = 0; store = h.store }) start)

  pub end-bytes : (replayed h).store ≡ encode 4 end.store
  end-bytes = ap (λ (o : Outcome). o.store) is

  pub end-accepted : Accepts (replayed h).store
  end-accepted = subst Accepts (sym end-bytes) end-written.accepted

  pub end-held : store_of (replayed h).store ≡ end.store
  end-held = ap store_of end-bytes ∙ end-written.held

  pub replay : holds h ≡ true → Replays h
  replay all_hold =
      let n : (replayed h).number ≡ end.number = ap (λ (o : Outcome). o.number) is in
      let same : ◌≡◌ {A = After} (record { number = (replayed h).number; store = store_of (replayed h).store }) end
      = λ i. record { number = n i; store = end-held i } in
      record { number = n; bytes = end-bytes; facts = true-holds _ (ap (all_of h.facts) same ∙ all_hold) }

all-replay : (hs : List History) → all holds hs ≡ true → all sound_way hs ≡ true → all (λ (h : History). all fits h.calls) hs ≡ true
    → AllReplay hs
all-replay [] a b c = tt
all-replay (h ∷ hs) a b c =
    let (a₁, a₂) = all_cons holds h hs a in
    let (b₁, b₂) = all_cons sound_way h hs b in
    let (c₁, c₂) = all_cons (λ (x : History). all fits x.calls) h hs c in
    (replay h b₁ c₁ a₁, all-replay hs a₂ b₂ c₂)

-- ---- single facts of it

table_fits : T (all (λ (h : History). all fits h.calls) table)
table_fits = tt

pub fact : (f : After → Bool) (fs : List (After → Bool)) (a : After) → In f fs → all_of fs a ≡ true → f a ≡ true
fact f [] a i h = absurd i
fact f (g ∷ gs) a (inl e) h = ap (λ (k : After → Bool). k a) e ∙ (both_true (g a) (all_of gs a) h).0
fact f (g ∷ gs) a (inr i) h = fact f gs a i (both_true (g a) (all_of gs a) h).1

module _ (h : History) (i : In h table) where
  pub in-holds : holds h ≡ true
  in-holds = all_in holds h table (holds-true (all holds table) P1-to-P12) i

  pub in-sound : sound_way h ≡ true
  in-sound = all_in sound_way h table (holds-true (all sound_way table) table-sound) i

  pub in-fits : all fits h.calls ≡ true
  in-fits = all_in (λ (x : History). all fits x.calls) h table (holds-true _ table_fits) i

  -- a fact that the table has of the store after it, of the bytes
  pub fact-in : (f : After → Bool) → In f h.facts
      → f (record { number = (replayed h).number; store = store_of (replayed h).store }) ≡ true
  fact-in f j = fact f h.facts _ j (holds-true _ (replay h in-sound in-fits in-holds).facts)

  -- where the table says that the bytes are those of s, they are
  pub bytes-in : (s : Store) → In (bytes_of s) h.facts → (replayed h).store ≡ encode 4 s
  bytes-in s j = end-bytes h in-sound in-fits ∙ list-true _ _ (fact (bytes_of s) h.facts (run_on 4 h.store h.calls) j in-holds)

abbrev pub none : History
none = history 6 [] []

-- the table's history at a place, from 0
abbrev pub place : ℕ → History
place n = get_or table n none

third : (made_on 8 twenty_one).store ≡ (made_on 8 twenty).store
third =
    let early : all fits twenty ≡ true = refl in
    bytes-in (place 2) (in-get_or none table 2 (lit≤ tt)) (from 4 8 twenty).store (inr (inl refl))
    ∙ sym (ap (λ (o : Outcome). o.store)
    (runs 4 (inl refl) twenty early 0 (fresh 8)
    (start (place 2) (in-sound (place 2) (in-get_or none table 2 (lit≤ tt))) (in-fits (place 2) (in-get_or none table 2 (lit≤ tt))))))

seventh : (made_on 16 (twenty_one ++ delete_from 12 7 ++ (abandons ∷ []))).store ≡ encode 4 (fresh 16)
seventh = bytes-in (place 6) (in-get_or none table 6 (lit≤ tt)) (fresh 16) (inr (inl refl))

twelfth : (made_on 16 (reopened twenty ++ (deletes 1 ∷ insert_key 1 ∷ abandons ∷ []))).store ≡ (made_on 16 (twenty ++ (commits ∷ []))).store
twelfth =
    let early : all fits (twenty ++ (commits ∷ [])) ≡ true = refl in
    bytes-in (place 11) (in-get_or none table 11 (lit≤ tt)) (from 4 16 (twenty ++ (commits ∷ []))).store (inr (inl refl))
    ∙ sym (ap (λ (o : Outcome). o.store)
    (runs 4 (inl refl) (twenty ++ (commits ∷ [])) early 0 (fresh 16)
    (start (place 11) (in-sound (place 11) (in-get_or none table 11 (lit≤ tt))) (in-fits (place 11) (in-get_or none table 11 (lit≤ tt))))))

-- a lookup that the table answers
looked : (h : History) (i : In h table) (k v : ℕ) (x : Looked) → In (looks k v x) h.facts → (ns : List ℕ)
    → ended (to_lookup k v) (replayed h).store ns ≡ of_looked (replayed h).store ns x
looked h i k v x j ns =
    let b : List ℕ = (replayed h).store in
    let s : Store = (run_on 4 h.store h.calls).store in
    let same : looked_numbers (get s k v) ≡ looked_numbers x
    = list-true _ _ (fact (looks k v x) h.facts (run_on 4 h.store h.calls) j (in-holds h i)) in
    let ok : Accepts (replayed h).store = end-accepted h (in-sound h i) (in-fits h i) in
    ap (of_looked b ns) (lookup-lent b ok k v ∙ ap (λ (t : Store). get t k v) (end-held h (in-sound h i) (in-fits h i)))
    ∙ told b ns (get s k v) x same
  where
    told : (b ns : List ℕ) (x y : Looked) → looked_numbers x ≡ looked_numbers y → of_looked b ns x ≡ of_looked b ns y
    told b ns x y e =
        let n : looked_number x ≡ looked_number y = cc in
        let f : bit (looked_found x) ≡ bit (looked_found y) = cc in
        let v : looked_value x ≡ looked_value y = cc in
        λ i. record { number = n i; results = f i ∷ v i ∷ []; store = b; list = ns }

pub table-lent : TableLent
table-lent = record {
  all = all-replay table (holds-true (all holds table) P1-to-P12) (holds-true (all sound_way table) table-sound) (holds-true _ table_fits);
  third = third;
  seventh = seventh;
  ninth = λ ns. (
    looked (place 7) (in-get_or none table 7 (lit≤ tt)) 15 1 (Value 115) (inr (inr (inr (inr (inr (inr (inr (inl refl)))))))) ns,
    looked (place 7) (in-get_or none table 7 (lit≤ tt)) 15 2 Absent (inr (inr (inr (inr (inr (inr (inr (inr (inl refl))))))))) ns,
  );
  twelfth = twelfth;
}
