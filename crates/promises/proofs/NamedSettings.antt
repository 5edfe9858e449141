-- What is promised of named settings: a history of calls by name is one of the store's calls, of which the layer let through only inserts
-- that it admits.
-- Assumes nothing.
use Prim.Native.Nat.{ℕ, zero, suc, ◌*◌, ◌≤◌, ◌<◌}
use native.Mathlib.Omega.{arith}
use mathlib.Core.Bool.{Bool, true, false, ◌&&◌, ◌||◌, not}
use mathlib.Core.Path.{◌≡◌, refl, ap, sym, ◌∙◌, subst}
use mathlib.Core.Logic.{◌≢◌, ◌⊎◌, inl, inr}
use mathlib.Core.List.{List, [], ◌∷◌, ◌++◌}
use lib.Dec.{leb, ltb, eqb}
use lib.ListN.{length, drop}
use lib.Ieee.{binary32, nan_bits}
use borrow.Author.Tests.{le-leb, lt-leb, le-ltb, leb-false, eqb-true, eq-eqb, ne_eqb}
use Rattle.model.specs.Basic.{all, keep, pick, those, flat_map}
use Rattle.model.specs.declared.Pair.{Pair}
use Rattle.model.specs.Looked.{Refused}
use Rattle.std.specs.Prelude.{Option, Some}
use Rattle.model.specs.declared.Kind.{Kind}
use Rattle.model.specs.declared.Kind.TheVariants.{Level}
use Rattle.model.specs.Entry.{pair, enter_pair}
use Rattle.model.specs.Store.{last, fresh}
use Rattle.model.specs.Walk.{settings, between, range_of, key_limit}
use Rattle.model.specs.Layout.{encode, decode}
use Rattle.model.specs.Judged.{judged}
use Rattle.model.specs.Calls.{rule, first_of, pair_numbers, ranged_in, ranged_by, range, unreadable}
use Rattle.model.specs.Lent.{Outcome, Listed, judged_first, listed, range_lent}
use Rattle.model.specs.Editions.{lent_number, least_of}
use Rattle.model.specs.Any
use Rattle.model.specs.Any.{insert_any, delete_any, lookup_any, range_any}
use Rattle.model.specs.Settings.{Machine, step, put}
use Rattle.model.specs.Histories.{begins, commits, abandons, inserts, deletes}
use Rattle.model.specs.Ended.{Asked, to_fresh, to_fresh_second, to_check, to_open, to_commit, to_abandon, to_insert, to_delete, to_return, to_prune}
use Rattle.model.specs.Ended.{to_lookup, to_range, to_visits, to_difference, to_life, Ended, ended, Untouched, of_outcome, of_looked, of_listed}
use Rattle.model.specs.Ended.{to_state}
use Rattle.model.specs.Kinds.{admits, known_in, allowed, unknown}
use Rattle.model.specs.Named.{before, insert_named, delete_named, lookup_named, all_known, barred, range_named_by, range_named, ByName, by_open}
use Rattle.model.specs.Named.{by_commit, by_abandon, by_insert, by_delete, by_lookup, by_range, ended_named}
use Rattle.model.specs.ByRule.{Readable}
use Rattle.model.specs.Inner.{In}
use Rattle.model.proofs.sound.ByRule.{readable_of, of-readable}
use Rattle.model.proofs.lists.Lists.{all_cons, both-intro}
use Rattle.model.proofs.lists.Members.{bool_cases, not-both, all_in, all-by, in-those, those-in}
use Rattle.model.proofs.lists.Merging.{find-in}
use Rattle.model.proofs.kept.OnePage.{entered-in}
use Rattle.model.proofs.sound.Judging.{accepted, accepted-sound}
use Rattle.model.proofs.reading.Ranges.{range-is}
use Rattle.model.proofs.reading.Readings.{none-holds}
use Rattle.model.proofs.theorems.Editions.{goes, refuses, ended-goes}
use Rattle.model.proofs.theorems.Unique as one
use Rattle.kinds.proofs.laws.Floats.{no_nan}
use Rattle.promises.specs.Accepts.{Accepts, store_of}
use Rattle.promises.specs.Runs.{Turn, turned, run_bytes, kind_of, fitting, each}
use Rattle.promises.specs.Beside.{Beside, when_done, onward, along, from_fresh}
use Rattle.promises.specs.NamedSettings.{NamedTurn, run_named, fits, each_fits, EachWithin, NamedRefused, admitted, shown}
use Rattle.promises.specs.NamedSettings.{AdmittedOnly, NoNan, ShowsAll, NeverSkipped, NeverSofter}
use Rattle.promises.proofs.Known.{four, known, judged-by, accepts-by}
use Rattle.promises.proofs.Agreed.{Agreed, many-turns, fresh-agreed}
use Rattle.promises.proofs.Sounding.{range-lent}
use Rattle.promises.proofs.Restored.{along-bytes}

-- ---- by the layer's number

kept_store : (n : ℕ) (b : List ℕ) (out : Outcome) → (out.number ≢ 0 → out.store ≡ b) → (before n b out).number ≢ 0
    → (before n b out).store ≡ b
kept_store zero b out f z = f z
kept_store (suc n) b out f z = refl

through : (n : ℕ) (b : List ℕ) (out : Outcome) → (before n b out).store ≡ pick (eqb n 0) out.store b
through zero b out = refl
through (suc n) b out = sym (ap (λ (q : Bool). pick q out.store b) (ne_eqb (suc n) 0 (λ e. omega arith)))

-- ---- refused calls

kept-list : (n : ℕ) (ns : List ℕ) (r : Listed) → (r.number ≢ 0 → r.list ≡ ns)
    → (judged_first n (λ m. record { number = m; count = 0; list = ns }) r).number ≢ 0
    → (judged_first n (λ m. record { number = m; count = 0; list = ns }) r).list ≡ ns
kept-list zero ns r f z = f z
kept-list (suc n) ns r f z = refl

-- the one call that may be refused and yet change the store is none of the layer's
abbrev returning : Asked → ℕ
returning to_fresh = 0
returning to_fresh_second = 0
returning to_check = 0
returning to_open = 0
returning to_commit = 0
returning to_abandon = 0
returning (to_insert k x) = 0
returning (to_delete k) = 0
returning (to_return v) = 1
returning (to_prune v) = 0
returning (to_lookup k v) = 0
returning (to_range lo hi v) = 0
returning (to_visits k v) = 0
returning (to_difference u v) = 0
returning (to_life k) = 0
returning to_state = 0

untouched : (c : Asked) (b ns : List ℕ) → returning c ≡ 0 → (ended c b ns).number ≢ 0 → Untouched b ns (ended c b ns)
untouched c b ns e z = one.refused c b ns (ended c b ns) refl z (λ x. omega (arith, e, ap returning x.0.1))

-- a range by name, by the edition that the bytes name
range-goes : (table b : List ℕ) (lo hi v : ℕ) (ns : List ℕ) → lent_number b ≡ 0
    → range_named table b lo hi v ns ≡ range_named_by (least_of b) table b lo hi v ns
unfolding range_named
range-goes table b lo hi v ns z =
    goes {A = Listed} b (λ (n : ℕ). record { number = n; count = 0; list = ns }) (λ (least : ℕ). range_named_by least table b lo hi v ns) z

range-early : (table b : List ℕ) (lo hi v : ℕ) (ns : List ℕ) → lent_number b ≢ 0
    → range_named table b lo hi v ns ≡ record { number = lent_number b; count = 0; list = ns }
unfolding range_named
range-early table b lo hi v ns z =
    refuses {A = Listed} b (λ (n : ℕ). record { number = n; count = 0; list = ns }) (λ (least : ℕ). range_named_by least table b lo hi v ns) z

range-kept : (table b : List ℕ) (lo hi v : ℕ) (ns : List ℕ) → (range_named table b lo hi v ns).number ≢ 0
    → (range_named table b lo hi v ns).list ≡ ns
unfolding range_named_by
range-kept table b lo hi v ns y = by (lent_number b) refl
  where
    least : ℕ
    least = least_of b

    kept : Listed
    kept = record { number = 17; count = 0; list = ns }

    at : lent_number b ≡ 0 → (q : Bool) → (pick q (range_lent least b lo hi v ns) kept).number ≢ 0
        → (pick q (range_lent least b lo hi v ns) kept).list ≡ ns
    at z true w =
        let e = ended-goes b ns (to_range lo hi v) refl z in
        sym (ap (λ (x : Ended). x.list) e) ∙ (untouched (to_range lo hi v) b ns refl
        (λ n. w (sym (ap (λ (x : Ended). x.number) e) ∙ n))).list
    at z false w = refl

    by : (n : ℕ) → lent_number b ≡ n → (range_named table b lo hi v ns).list ≡ ns
    by zero z =
        let e = range-goes table b lo hi v ns z in
        ap (λ (x : Listed). x.list) e
        ∙ kept-list (barred least b lo hi v) ns
        (pick (all_known table (range_of (decode least b) lo hi v)) (range_lent least b lo hi v ns) kept)
        (at z (all_known table (range_of (decode least b) lo hi v))) (λ n. y (ap (λ (x : Listed). x.number) e ∙ n))
    by (suc n) z = ap (λ (x : Listed). x.list) (range-early table b lo hi v ns (λ q. absurd (omega arith)))

pub named-refused : NamedRefused
unfolding insert_named delete_named
named-refused table by_open b ns z = untouched to_open b ns refl z
named-refused table by_commit b ns z = untouched to_commit b ns refl z
named-refused table by_abandon b ns z = untouched to_abandon b ns refl z
named-refused table (by_insert k x) b ns z = record {
  store = kept_store (allowed (known_in table k) x) b (insert_any b k x) (λ y. (untouched (to_insert k x) b ns refl y).store) z;
  list = refl;
}
named-refused table (by_delete k) b ns z = record {
  store = kept_store (unknown (known_in table k)) b (delete_any b k) (λ y. (untouched (to_delete k) b ns refl y).store) z;
  list = refl;
}
named-refused table (by_lookup k v) b ns z = record { store = refl; list = refl }
named-refused table (by_range lo hi v) b ns z = record { store = refl; list = range-kept table b lo hi v ns z }

-- ---- the calls that the layer lets through

abbrev asks : ByName → Asked
asks by_open = to_open
asks by_commit = to_commit
asks by_abandon = to_abandon
asks (by_insert k x) = to_insert k x
asks (by_delete k) = to_delete k
asks (by_lookup k v) = to_lookup k v
asks (by_range lo hi v) = to_range lo hi v

abbrev passes : List ℕ → ByName → Bool
passes table by_open = true
passes table by_commit = true
passes table by_abandon = true
passes table (by_insert k x) = eqb (allowed (known_in table k) x) 0
passes table (by_delete k) = eqb (unknown (known_in table k)) 0
passes table (by_lookup k v) = true
passes table (by_range lo hi v) = true

abbrev asked : NamedTurn → Turn
asked t = record { call = asks t.call; list = t.list }

abbrev plain : List NamedTurn → List Turn
plain [] = []
plain (t ∷ ts) = keep (passes t.table t.call) (asked t) (plain ts)

-- each leaves what the store's call leaves, or nothing was done
one_same : (b : List ℕ) (table : List ℕ) (c : ByName) (ns : List ℕ)
    → (ended_named table c b ns).store ≡ pick (passes table c) (ended (asks c) b ns).store b
unfolding insert_named delete_named
one_same b table by_open ns = refl
one_same b table by_commit ns = refl
one_same b table by_abandon ns = refl
one_same b table (by_insert k x) ns = through (allowed (known_in table k) x) b (insert_any b k x)
one_same b table (by_delete k) ns = through (unknown (known_in table k)) b (delete_any b k)
one_same b table (by_lookup k v) ns = refl
one_same b table (by_range lo hi v) ns = refl

many-same : (ts : List NamedTurn) (b : List ℕ) → run_named b ts ≡ run_bytes b (plain ts)
many-same [] b = refl
many-same (t ∷ ts) b =
    ap (λ (q : List ℕ). run_named q ts) (one_same b t.table t.call t.list) ∙ at (passes t.table t.call) (many-same ts)
  where
    at : (p : Bool) → ((q : List ℕ) → run_named q ts ≡ run_bytes q (plain ts))
        → run_named (pick p (turned b (asked t)).store b) ts ≡ run_bytes b (keep p (asked t) (plain ts))
    at true ih = ih (turned b (asked t)).store
    at false ih = ih b

-- ---- the machine beside them holds settings that pass a test alone, if every insert does

module _ (f : Pair → Bool) where
  abbrev Only : Machine → Type 0
  Only m = (v : ℕ) → all f (m.shows v) ≡ true

  put_only : (m : Machine) (us : List Pair) → all f us ≡ true → Only m → (v : ℕ) → all f (put (suc m.current) us m.shows v) ≡ true
  put_only m us a o v = at (eqb v (suc m.current))
    where
      at : (b : Bool) → all f (pick b us (m.shows v)) ≡ true
      at true = a
      at false = o v

  entered_only : (k x : ℕ) (us : List Pair) → f (pair k x) ≡ true → all f us ≡ true → all f (enter_pair (pair k x) us) ≡ true
  entered_only k x us h a = all-by f (enter_pair (pair k x) us) (λ y i. at y (entered-in (pair k x) y us i))
    where
      at : (y : Pair) → (y ≡ pair k x) ⊎ In y us → f y ≡ true
      at y (inl e) = ap f e ∙ h
      at y (inr i) = all_in f y us a i

  those-only : (g : Pair → Bool) (us : List Pair) → all f us ≡ true → all f (those g us) ≡ true
  those-only g us a = all-by f (those g us) (λ y i. all_in f y us a (in-those g y us i).1)

  when : (n : ℕ) (m m' : Machine) → Only m' → Only m → Only (when_done n m' m)
  when zero m m' a b = a
  when (suc n) m m' a b = b

  -- an insert by name brings what the test lets in
  abbrev Lets : List ℕ → Type 0
  Lets table = (k x : ℕ) → allowed (known_in table k) x ≡ 0 → f (pair k x) ≡ true

  abbrev EachLets : List NamedTurn → Type 0
  EachLets [] = Unit {0}
  EachLets (t ∷ ts) = Lets t.table × EachLets ts

  one_only : (x : Beside) (t : NamedTurn) → passes t.table t.call ≡ true → Lets t.table → Only x.machine
      → Only (onward x (asked t)).machine
  one_only x t p l o = at t.call p
    where
      number : ByName → ℕ
      number c = (ended (asks c) x.bytes t.list).number

      at : (c : ByName) → passes t.table c ≡ true → Only (onward x (record { call = asks c; list = t.list })).machine
      at by_open p =
          when (number by_open) x.machine (step x.machine begins)
          (put_only x.machine (x.machine.shows x.machine.current) (o x.machine.current) o) o
      at by_commit p = when (number by_commit) x.machine (step x.machine commits) o o
      at by_abandon p = when (number by_abandon) x.machine (step x.machine abandons) o o
      at (by_insert k y) p =
          when (number (by_insert k y)) x.machine (step x.machine (inserts k y))
          (put_only x.machine (enter_pair (pair k y) (x.machine.shows (suc x.machine.current)))
          (entered_only k y (x.machine.shows (suc x.machine.current)) (l k y (eqb-true (allowed (known_in t.table k) y) 0 p))
          (o (suc x.machine.current))) o) o
      at (by_delete k) p =
          when (number (by_delete k)) x.machine (step x.machine (deletes k))
          (put_only x.machine (those (λ (y : Pair). not (eqb y.key k)) (x.machine.shows (suc x.machine.current)))
          (those-only (λ (y : Pair). not (eqb y.key k)) (x.machine.shows (suc x.machine.current)) (o (suc x.machine.current)))
          o) o
      at (by_lookup k v) p = when (number (by_lookup k v)) x.machine x.machine o o
      at (by_range lo hi v) p = when (number (by_range lo hi v)) x.machine x.machine o o

  many-only : (ts : List NamedTurn) → EachLets ts → (x : Beside) → Only x.machine → Only (along x (plain ts)).machine
  many-only [] ls x o = o
  many-only (t ∷ ts) ls x o = at (passes t.table t.call) refl (many-only ts ls.1)
    where
      at : (p : Bool) → passes t.table t.call ≡ p → ((y : Beside) → Only y.machine → Only (along y (plain ts)).machine)
          → Only (along x (keep p (asked t) (plain ts))).machine
      at true e ih = ih (onward x (asked t)) (one_only x t e ls.0 o)
      at false e ih = ih x o

-- ---- no call by name prunes

old-when : (n o : ℕ) (m t : Machine) → t.oldest ≡ o → m.oldest ≡ o → (when_done n t m).oldest ≡ o
old-when zero o m t p q = p
old-when (suc n) o m t p q = q

one-old : (x : Beside) (t : NamedTurn) → (onward x (asked t)).machine.oldest ≡ x.machine.oldest
one-old x t = at t.call
  where
    o : ℕ
    o = x.machine.oldest

    number : ByName → ℕ
    number c = (ended (asks c) x.bytes t.list).number

    at : (c : ByName) → (onward x (record { call = asks c; list = t.list })).machine.oldest ≡ x.machine.oldest
    at by_open = old-when (number by_open) o x.machine (step x.machine begins) refl refl
    at by_commit = old-when (number by_commit) o x.machine (step x.machine commits) refl refl
    at by_abandon = old-when (number by_abandon) o x.machine (step x.machine abandons) refl refl
    at (by_insert k y) = old-when (number (by_insert k y)) o x.machine (step x.machine (inserts k y)) refl refl
    at (by_delete k) = old-when (number (by_delete k)) o x.machine (step x.machine (deletes k)) refl refl
    at (by_lookup k v) = old-when (number (by_lookup k v)) o x.machine x.machine refl refl
    at (by_range lo hi v) = old-when (number (by_range lo hi v)) o x.machine x.machine refl refl

many-old : (ts : List NamedTurn) (x : Beside) → (along x (plain ts)).machine.oldest ≡ x.machine.oldest
many-old [] x = refl
many-old (t ∷ ts) x = at (passes t.table t.call) (many-old ts)
  where
    at : (p : Bool) → ((y : Beside) → (along y (plain ts)).machine.oldest ≡ y.machine.oldest)
        → (along x (keep p (asked t) (plain ts))).machine.oldest ≡ x.machine.oldest
    at true ih = ih (onward x (asked t)) ∙ one-old x t
    at false ih = ih x

-- ---- from a fresh store on

one-fits : (c : ByName) → fits c ≡ true → fitting (kind_of (asks c)) ≡ true
one-fits by_open h = refl
one-fits by_commit h = refl
one-fits by_abandon h = refl
one-fits (by_insert k x) h = h
one-fits (by_delete k) h = refl
one-fits (by_lookup k v) h = refl
one-fits (by_range lo hi v) h = refl

plain_fits : (ts : List NamedTurn) → each_fits ts ≡ true → each fitting (plain ts) ≡ true
plain_fits [] h = refl
plain_fits (t ∷ ts) h =
    let (here, rest) = all_cons (λ (u : NamedTurn). fits u.call) t ts h in
    at (passes t.table t.call) here (plain_fits ts rest)
  where
    at : (p : Bool) → fits t.call ≡ true → each fitting (plain ts) ≡ true → each fitting (keep p (asked t) (plain ts)) ≡ true
    at true f g = both-intro (fitting (kind_of (asks t.call))) (each fitting (plain ts)) (one-fits t.call f) g
    at false f g = g

within-lets : (table : List ℕ) (ts : List NamedTurn) → EachWithin table ts → EachLets (admitted table) ts
within-lets table [] w = tt
within-lets table (t ∷ ts) w = (λ k x e. eq-eqb (allowed (known_in table k) x) 0 (w.0 k x e), within-lets table ts w.1)

pub admitted-only : AdmittedOnly
admitted-only least n table ts h v g =
    let x : Beside = from_fresh least n in
    let f = plain_fits ts h.values in
    let a : Agreed (along x (plain ts)) = many-turns (plain ts) f x (fresh-agreed least h.edition n h.six h.most) in
    let e : run_named (encode least (fresh n)) ts ≡ (along x (plain ts)).bytes = many-same ts (encode least (fresh n))
    ∙ sym (along-bytes (plain ts) x) in
    let o : (w : ℕ) → all (admitted table) ((along x (plain ts)).machine.shows w) ≡ true
    = many-only (admitted table) ts (within-lets table ts h.tables) x (λ w. refl) in
    let z : (store_of (along x (plain ts)).bytes).oldest ≡ 0 = a.agrees.oldest ∙ many-old ts x in
    let r : Readable (store_of (along x (plain ts)).bytes) v
    = record { from = omega (arith, z); upto = subst (λ (b : List ℕ). v ≤ last (store_of b)) e g } in
    ap (λ (b : List ℕ). all (admitted table) (settings (store_of b) v)) e
    ∙ ap (all (admitted table)) (a.agrees.shows v r)
    ∙ o v

-- ---- a NaN

allowed-admits : (kind : Kind) (x : ℕ) → eqb (allowed (Some kind) x) 0 ≡ true → admits kind x ≡ true
allowed-admits kind x e = at (admits kind x) e
  where
    at : (b : Bool) → eqb (pick b 0 16) 0 ≡ true → b ≡ true
    at true e = refl
    at false e = e

pub no-nans : NoNan
no-nans least n table ts h v g k x low high known found =
    let in-it = find-in k x (shown least n ts v) found in
    let ok : admitted table (pair k x) ≡ true = all_in (admitted table) (pair k x) (shown least n ts v)
    (admitted-only least n table ts h v g) in-it in
    let yes : admits (Level low high) x ≡ true = allowed-admits (Level low high) x
    (subst (λ (q : Option Kind). eqb (allowed q x) 0 ≡ true) known ok) in
    at (nan_bits binary32 x) refl yes
  where
    at : (b : Bool) → nan_bits binary32 x ≡ b → admits (Level low high) x ≡ true → nan_bits binary32 x ≡ false
    at true e y = absurd (not-both (admits (Level low high) x) y (no_nan low high x e))
    at false e y = e

-- ---- what a range has met

first-zero : (m k : ℕ) → judged_first m (λ n. n) k ≡ 0 → (m ≡ 0) × (k ≡ 0)
first-zero zero k e = (refl, e)
first-zero (suc m) k e = absurd (omega arith)

module _ (least : ℕ) (b : List ℕ) (lo hi v : ℕ) where
  abbrev wrong : Bool
  wrong = leb key_limit lo || leb key_limit hi || ltb hi lo

  -- what holds where nothing bars the call
  record NotBarred : Type 0 where
    accepts : (judged least b).number ≡ 0
    keys : wrong ≡ false
    low : lo < key_limit
    readable : Readable (decode least b) v

  met : barred least b lo hi v ≡ 0 → NotBarred
  unfolding barred
  met e =
      let (a, c) = first-zero (judged least b).number (first_of (rule 5 wrong ∷ rule 6 (unreadable (decode least b) v) ∷ [])) e in
      let (p, q) = none-holds wrong (unreadable (decode least b) v) c in
      record {
        accepts = a;
        keys = p;
        low = leb-false key_limit lo (at (leb key_limit lo) (leb key_limit hi) (ltb hi lo) p);
        readable = readable_of (decode least b) v q;
      }
    where
      at : (x y z : Bool) → (x || y || z) ≡ false → x ≡ false
      at true y z e = e
      at false y z e = refl

  meets : NotBarred → barred least b lo hi v ≡ 0
  unfolding barred
  meets m = rw (m.accepts, m.keys, of-readable (decode least b) v m.readable)

  range-met : 4 ≤ least → NotBarred → range_of (decode least b) lo hi v ≡ between lo hi (settings (decode least b) v)
  range-met four m =
      range-is least (omega arith) (decode least b) (accepted-sound least b (accepted least b m.accepts)) lo hi v m.low m.readable

  plain-met : (ns : List ℕ) → NotBarred → listed ns (range (decode least b) lo hi v (length ns))
      ≡ listed ns (ranged_by 0 (length ns) (range_of (decode least b) lo hi v))
  unfolding range
  plain-met ns m = rw (m.keys, of-readable (decode least b) v m.readable)

-- the store's range, by the edition that the bytes name
any-goes : (b : List ℕ) (lo hi v : ℕ) (ns : List ℕ) → lent_number b ≡ 0 → range_any b lo hi v ns ≡ range_lent (least_of b) b lo hi v ns
unfolding Any.range_any
any-goes b lo hi v ns z =
    goes {A = Listed} b (λ (n : ℕ). record { number = n; count = 0; list = ns }) (λ (least : ℕ). range_lent least b lo hi v ns) z

-- a list that had room
room-written : (ns : List ℕ) (xs : List Pair) → (listed ns (ranged_by 0 (length ns) xs)).number ≡ 0
    → listed ns (ranged_by 0 (length ns) xs)
    ≡ record { number = 0; count = length xs; list = flat_map pair_numbers xs ++ drop (length (flat_map pair_numbers xs)) ns }
unfolding ranged_by ranged_in
room-written ns xs = at (ltb (length ns) (2 * length xs))
  where
    at : (q : Bool) → (listed ns (ranged_in (first_of (rule 14 q ∷ [])) xs)).number ≡ 0
        → listed ns (ranged_in (first_of (rule 14 q ∷ [])) xs)
        ≡ record { number = 0; count = length xs; list = flat_map pair_numbers xs ++ drop (length (flat_map pair_numbers xs)) ns }
    at true e = absurd (omega arith)
    at false e = refl

module _ (least : ℕ) (table b : List ℕ) (lo hi v : ℕ) (ns : List ℕ) where
  abbrev seventeenth : Listed
  seventeenth = record { number = 17; count = 0; list = ns }

  -- a range by name that is done has met only known keys, and is the store's
  done-is : (range_named_by least table b lo hi v ns).number ≡ 0
      → (barred least b lo hi v ≡ 0) × (all_known table (range_of (decode least b) lo hi v) ≡ true)
      × (range_named_by least table b lo hi v ns ≡ range_lent least b lo hi v ns)
  unfolding range_named_by
  done-is = at (barred least b lo hi v) (all_known table (range_of (decode least b) lo hi v))
    where
      gives : ℕ → Bool → Listed
      gives n q = judged_first n (λ m. record { number = m; count = 0; list = ns }) (pick q (range_lent least b lo hi v ns) seventeenth)

      at : (n : ℕ) (q : Bool) → (gives n q).number ≡ 0 → (n ≡ 0) × (q ≡ true) × (gives n q ≡ range_lent least b lo hi v ns)
      at zero true e = (refl, refl, refl)
      at zero false e = absurd (omega arith)
      at (suc n) q e = absurd (omega arith)

  -- one that meets an unknown key is refused
  unknown-is : barred least b lo hi v ≡ 0 → all_known table (range_of (decode least b) lo hi v) ≡ false
      → range_named_by least table b lo hi v ns ≡ seventeenth
  unfolding range_named_by
  unknown-is e f = rw (e, f)

pub never-skipped : NeverSkipped
never-skipped table b lo hi v ns e = by (lent_number b) refl
  where
    us : List Pair
    us = between lo hi (settings (store_of b) v)

    by : (n : ℕ) → lent_number b ≡ n → ShowsAll table b lo hi v ns us
    by (suc n) z =
        let q = sym (ap (λ (r : Listed). r.number) (range-early table b lo hi v ns (λ y. absurd (omega arith)))) ∙ e in
        absurd (omega arith)
    by zero z =
        let go = range-goes table b lo hi v ns z in
        let (w, q, same) = done-is (least_of b) table b lo hi v ns (sym (ap (λ (r : Listed). r.number) go) ∙ e) in
        let m : NotBarred (least_of b) b lo hi v = met (least_of b) b lo hi v w in
        let ok : Accepts b = accepts-by b z m.accepts in
        let f : range_of (store_of b) lo hi v ≡ us = range-met (least_of b) b lo hi v (four b) m in
        let is : range_named table b lo hi v ns ≡ listed ns (ranged_by 0 (length ns) us) = go ∙ same ∙ sym (any-goes b lo hi v ns z)
        ∙ range-lent b ok lo hi v ns ∙ plain-met (least_of b) b lo hi v ns m
        ∙ ap (λ (xs : List Pair). listed ns (ranged_by 0 (length ns) xs)) f in
        let all_of = is ∙ room-written ns us (sym (ap (λ (r : Listed). r.number) is) ∙ e) in
        record {
          accepted = ok;
          kept = m.readable.from;
          readable = m.readable.upto;
          known = sym (ap (all_known table) f) ∙ q;
          count = ap (λ (r : Listed). r.count ∷ []) all_of;
          list = ap (λ (r : Listed). r.list) all_of;
        }

-- ---- a key that the program does not know

pub never-softer : NeverSofter
unfolding lookup_named insert_named delete_named
never-softer old b ok k x v from h found none_of = record {
  lookup = λ ns. ap (λ (q : Option Kind). of_looked b ns (judged_first (unknown q) (λ n. Refused n) (lookup_any b k v))) none_of;
  range = λ lo hi ns p q t. ap (of_listed b)
      (range-goes old b lo hi v ns (known b ok) ∙ unknown-is least old b lo hi v ns (meets least b lo hi v (around lo hi p q t))
      (not-all lo hi p q t));
  insert = λ y ns. ap (λ (q : Option Kind). of_outcome ns (before (allowed q y) b (insert_any b k y))) none_of;
  delete = λ ns. ap (λ (q : Option Kind). of_outcome ns (before (unknown q) b (delete_any b k))) none_of;
}
  where
    least : ℕ
    least = least_of b

    around : (lo hi : ℕ) → lo ≤ k → k ≤ hi → hi < key_limit → NotBarred least b lo hi v
    around lo hi p q t =
        let low : lo < key_limit = omega arith in
        record {
          accepts = judged-by b ok;
          keys = rw (lt-leb key_limit lo low, lt-leb key_limit hi t, le-ltb hi lo (omega arith));
          low = low;
          readable = record { from = from; upto = h };
        }

    not-all : (lo hi : ℕ) → lo ≤ k → k ≤ hi → hi < key_limit → all_known old (range_of (decode least b) lo hi v) ≡ false
    not-all lo hi p q t = at (bool_cases (all_known old (range_of (decode least b) lo hi v)))
      where
        i : In (pair k x) (between lo hi (settings (decode least b) v))
        i =
            those-in (λ (y : Pair). leb lo y.key && leb y.key hi) (pair k x) (settings (decode least b) v)
            (both-intro (leb lo k) (leb k hi) (le-leb lo k p) (le-leb k hi q)) (find-in k x (settings (decode least b) v) found)

        at : (all_known old (range_of (decode least b) lo hi v) ≡ true) ⊎ (all_known old (range_of (decode least b) lo hi v) ≡ false)
            → all_known old (range_of (decode least b) lo hi v) ≡ false
        at (inr e) = e
        at (inl e) =
            let known : all_known old (between lo hi (settings (decode least b) v)) ≡ true
            = sym (ap (all_known old) (range-met least b lo hi v (four b) (around lo hi p q t))) ∙ e in
            let one_known = all_in (λ (y : Pair). eqb (unknown (known_in old y.key)) 0) (pair k x)
            (between lo hi (settings (decode least b) v)) known i in
            absurd (not-both (eqb (unknown (known_in old k)) 0) one_known (ap (λ (g : Option Kind). eqb (unknown g) 0) none_of))
