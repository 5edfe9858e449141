-- What holds in every state of a history: each call hands it on.
-- Assumes nothing.
use Prim.Native.Nat.{ℕ, zero, suc, ◌≤◌}
use native.Mathlib.Omega.{arith}
use mathlib.Core.Bool.{Bool, true, false, ◌||◌}
use mathlib.Core.Path.{◌≡◌, refl, ap, ap₂, sym, ◌∙◌, subst}
use mathlib.Core.Logic.{◌⊎◌, inl, inr}
use mathlib.Core.List.{List, [], ◌∷◌}
use lib.Dec.{T, leb, eqb}
use lib.ListN.{length}
use borrow.Author.Tests.{le-leb, eqb-false, ne_eqb}
use Rattle.model.specs.Basic.{pick}
use Rattle.model.specs.declared.Pair.{Pair}
use Rattle.model.specs.Field.{Bytes}
use Rattle.model.specs.Page.{pairs_at}
use Rattle.model.specs.Store.{Store, page, fresh}
use Rattle.model.specs.Walk.{Seen, seen, root_at}
use Rattle.model.specs.Sound.{sound}
use Rattle.model.specs.Layout.{encode, size_of}
use Rattle.model.specs.Judged.{length_ok}
use Rattle.model.specs.Editions.{least_of}
use Rattle.model.specs.Histories.{Call, begins, commits, abandons, inserts, deletes, returns, prunes, call_by, after}
use Rattle.model.specs.Settings.{Machine, put, step}
use Rattle.model.specs.Lent.{Outcome, fresh_lent}
use Rattle.model.specs.Ended.{Asked, to_fresh, to_fresh_second, to_check, to_open, to_commit, to_abandon, to_insert, to_delete, to_return, to_prune}
use Rattle.model.specs.Ended.{to_lookup, to_range, to_visits, to_difference, to_life, ended, to_state}
use Rattle.model.specs.Inner.{In}
use Rattle.model.proofs.lists.Lists.{all_cons}
use Rattle.model.proofs.lists.Members.{true-holds, either_left, either-right, bool_cases, all-by}
use Rattle.model.proofs.sound.ByRule.{to-tests}
use Rattle.model.proofs.turning.Turns.{fresh-sound}
use Rattle.model.proofs.theorems.Editions.{edition-four}
use Rattle.model.proofs.theorems.Theorems as stores
use Rattle.promises.specs.Accepts.{Accepts, store_of, OfEdition, Written}
use Rattle.promises.specs.Runs.{Turn, Kind, making, changing, reading, kind_of, asks, fitting, gives_up, each}
use Rattle.promises.specs.Beside.{Beside, when_done, stepped, undone, onward, from_fresh, from_lent}
use Rattle.promises.specs.Way.{EditionStore, ruled_of, changed_by, remade_by, ruled_by, EachState, BalancedIn, LentState, FreshState}
use Rattle.promises.proofs.Known.{four}
use Rattle.promises.proofs.Encoded.{encoded-sound, accepted}
use Rattle.promises.proofs.Lending.{kind-asks, change-leaves, fresh-leaves, made-wrong, call-bytes, held-sound}
use Rattle.promises.proofs.Agreed.{Agreed, fresh-agreed, lent-agreed, one-turn}
use Rattle.promises.proofs.Answering.{answers}

pub balanced-in : (r : EditionStore) → 4 ≤ r.least → T (sound r.least r.store) → BalancedIn r
balanced-in r low sure v from h =
    all-by (λ (x : Seen). is_root x || enough x) (seen s v) (λ x i. at x i (bool_cases (is_root x)))
  where
    s : Store
    s = r.store

    is_root : Seen → Bool
    is_root x = eqb x.number (root_at s.slots v)

    live : Seen → ℕ
    live x = length (pairs_at v (page s.pages x.number))

    enough : Seen → Bool
    enough x = leb r.least (live x)

    at : (x : Seen) → In x (seen s v) → (is_root x ≡ true) ⊎ (is_root x ≡ false) → (is_root x || enough x) ≡ true
    at x i (inl e) = either_left (is_root x) (enough x) e
    at x i (inr e) =
        either-right (is_root x) (enough x)
        (le-leb r.least (live x)
        (stores.balanced r.least (omega arith) s sure v (record { from = from; upto = h }) x i
        (eqb-false x.number (root_at s.slots v) e)))

-- ---- version 0

put-behind : (c : ℕ) (us : List Pair) (f : ℕ → List Pair) → f 0 ≡ [] → put (suc c) us f 0 ≡ []
put-behind c us f h = ap (λ (b : Bool). pick b us (f 0)) (ne_eqb 0 (suc c) (λ z. omega arith)) ∙ h

none-at-first : (k : Kind) (n : ℕ) (m : Machine) → m.shows 0 ≡ [] → (when_done n (stepped k m) (undone k n m)).shows 0 ≡ []
none-at-first making zero m h = refl
none-at-first (changing begins) zero m h = put-behind m.current _ m.shows h
none-at-first (changing commits) zero m h = h
none-at-first (changing abandons) zero m h = h
none-at-first (changing (inserts k x)) zero m h = put-behind m.current _ m.shows h
none-at-first (changing (deletes k)) zero m h = put-behind m.current _ m.shows h
none-at-first (changing (returns v)) zero m h = put-behind m.current _ m.shows h
none-at-first (changing (prunes v)) zero m h = h
none-at-first reading zero m h = h
none-at-first k (suc n) m h = at (gives_up k (suc n))
  where
    at : (b : Bool) → (pick b (step m abandons) m).shows 0 ≡ []
    at true = h
    at false = h

-- ---- state by state

-- what each call hands on gives what is said of each state
each-state : (P I : Beside → EditionStore → Type 0) → ((x : Beside) (r : EditionStore) → I x r → P x r)
    → ((x : Beside) (r : EditionStore) (t : Turn) → fitting (kind_of t.call) ≡ true → I x r
    → I (onward x t) (ruled_by x.bytes r t.call))
    → (ts : List Turn) → each fitting ts ≡ true → (x : Beside) (r : EditionStore) → I x r → EachState P x r ts
each-state P I says hands [] f x r i = says x r i
each-state P I says hands (t ∷ ts) f x r i =
    let (g, h) = all_cons (λ (u : Turn). fitting (kind_of u.call)) t ts f in
    (says x r i, each-state P I says hands ts h (onward x t) (ruled_by x.bytes r t.call) (hands x r t g i))

-- bytes that hold the store which the rules make, by its edition
record HoldsRuled (b : List ℕ) (r : EditionStore) : Type 0 where
  pub edition : least_of b ≡ r.least
  pub holds : store_of b ≡ r.store

module _ (b : List ℕ) (r : EditionStore) (ok : Accepts b) (i : HoldsRuled b r) where
  changed : (c : Call) → fitting (kind_of (asks c)) ≡ true → (ns : List ℕ) → HoldsRuled (ended (asks c) b ns).store (changed_by r c)
  changed c f ns =
      let l = change-leaves b ok c (ap fitting (sym (kind-asks c)) ∙ f) ns in
      record {
        edition = l.edition ∙ i.edition;
        holds = l.holds ∙ ap₂ (λ (n : ℕ) (s : Store). (after s (call_by n s c)).store) i.edition i.holds;
      }

  remade : (least : ℕ) → OfEdition least → HoldsRuled (fresh_lent least b).store (remade_by least b r)
  remade least e = at (length_ok least b) refl
    where
      at : (t : Bool) → length_ok least b ≡ t → HoldsRuled (fresh_lent least b).store
          (pick t (record { least = least; store = fresh (size_of least b) }) r)
      at true h = let l = fresh-leaves least e b h in record { edition = l.edition; holds = l.holds }
      at false h = subst (λ (o : Outcome). HoldsRuled o.store r) (sym (made-wrong least b h)) i

  holds_on : (a : Asked) → fitting (kind_of a) ≡ true → (ns : List ℕ) → HoldsRuled (ended a b ns).store (ruled_by b r a)
  holds_on to_fresh f ns = remade 4 (inl refl)
  holds_on to_fresh_second f ns = remade 8 (inr refl)
  holds_on to_check f ns = i
  holds_on to_open f ns = changed begins f ns
  holds_on to_commit f ns = changed commits f ns
  holds_on to_abandon f ns = changed abandons f ns
  holds_on (to_insert k x) f ns = changed (inserts k x) f ns
  holds_on (to_delete k) f ns = changed (deletes k) f ns
  holds_on (to_return v) f ns = changed (returns v) f ns
  holds_on (to_prune v) f ns = changed (prunes v) f ns
  holds_on (to_lookup k v) f ns = i
  holds_on (to_range lo hi v) f ns = i
  holds_on (to_visits k v) f ns = i
  holds_on (to_difference u v) f ns = i
  holds_on (to_life k) f ns = i
  holds_on to_state f ns = i

-- the bytes hold the store that the rules make, the machine agrees with it, and they are bytes where those lent were
record StandsRuled (b : List ℕ) (x : Beside) (r : EditionStore) : Type 0 where
  pub agreed : Agreed x
  pub holds : HoldsRuled x.bytes r
  pub bytes : Bytes b → Bytes x.bytes

module _ (b : List ℕ) where
  stands_on : (x : Beside) (r : EditionStore) (t : Turn) → fitting (kind_of t.call) ≡ true → StandsRuled b x r
      → StandsRuled b (onward x t) (ruled_by x.bytes r t.call)
  stands_on x r t f i = record {
    agreed = one-turn x i.agreed t f;
    holds = holds_on x.bytes r i.agreed.accepted i.holds t.call f t.list;
    bytes = λ h. call-bytes x.bytes i.agreed.accepted (i.bytes h) t.call f t.list;
  }

  in-balance : (x : Beside) (r : EditionStore) → StandsRuled b x r → BalancedIn r
  in-balance x r i =
      balanced-in r (subst (λ (n : ℕ). 4 ≤ n) i.holds.edition (four x.bytes))
      (subst (λ (n : ℕ). T (sound n r.store)) i.holds.edition
      (subst (λ (s : Store). T (sound (least_of x.bytes) s)) i.holds.holds (held-sound x.bytes i.agreed.accepted)))

  by-rules : (x : Beside) (r : EditionStore) → StandsRuled b x r → Bytes b → x.bytes ≡ encode r.least r.store
  by-rules x r i h = sym (accepted x.bytes (i.bytes h) i.agreed.accepted).same ∙ ap₂ encode i.holds.edition i.holds.holds

  pub lent_way : Accepts b → (ts : List Turn) → each fitting ts ≡ true → EachState (LentState b) (from_lent b) (ruled_of b) ts
  lent_way ok ts f =
      each-state (LentState b) (StandsRuled b)
      (λ x r i. record { answers = answers x i.agreed; bytes = by-rules x r i; balanced = in-balance x r i }) stands_on ts f (from_lent b)
      (ruled_of b)
      (record { agreed = lent-agreed b ok; holds = record { edition = refl; holds = refl }; bytes = λ h. h })

pub fresh-way : (least : ℕ) → OfEdition least → (n : ℕ) → 6 ≤ n → n ≤ 4096 → (ts : List Turn) → each fitting ts ≡ true
    → EachState FreshState (from_fresh least n) (record { least = least; store = fresh n }) ts
fresh-way least e n six most ts f =
    each-state FreshState (λ x r. StandsRuled b x r × (x.machine.shows 0 ≡ []))
    (λ x r i. record {
      answers = answers x i.0.agreed;
      bytes = by-rules b x r i.0 w.bytes;
      balanced = in-balance b x r i.0;
      empty = i.1;
    })
    (λ x r t g i.
    (stands_on b x r t g i.0, none-at-first (kind_of t.call) (ended t.call x.bytes t.list).number x.machine i.1))
    ts f (from_fresh least n) (record { least = least; store = fresh n })
    (record { agreed = fresh-agreed least e n six most; holds = record { edition = w.edition; holds = w.held }; bytes = λ h. h }, refl)
  where
    b : List ℕ
    b = encode least (fresh n)

    w : Written least (fresh n)
    w =
        encoded-sound least e (fresh n)
        (true-holds (sound least (fresh n))
        (to-tests least (fresh n) (fresh-sound least (let low : 4 ≤ least = edition-four least e in omega arith) n six most)))
