-- A call on a store that is refused gives a number from 5 on, but for pruning edition 1; an update that comes to its end gives 0, 12 or 13.
-- Assumes nothing.
use Prim.Native.Nat.{ℕ, zero, suc, ◌≤◌}
use native.Mathlib.Omega.{arith}
use mathlib.Core.Bool.{Bool, true, false, ◌||◌, not}
use mathlib.Core.Path.{◌≡◌, refl, ap₂, sym, subst}
use mathlib.Core.Logic.{inl, inr, ◌≢◌}
use mathlib.Core.List.{List, [], ◌∷◌}
use lib.Dec.{leb}
use borrow.Author.Tests.{le-ltb, not-true}
use Rattle.model.specs.Basic.{those, pick}
use Rattle.model.specs.declared.Delta.{Delta}
use Rattle.model.specs.Store.{Store, next}
use Rattle.model.specs.Walk.{lookup, settings}
use Rattle.model.specs.Climb.{Result, done, refused, update}
use Rattle.model.specs.Calls
use Rattle.model.specs.Calls.{Rule, rule, numbered, first_of, is_some, beyond, insert_tests, delete_tests, prune_tests, insert, delete, begin}
use Rattle.model.specs.Calls.{committed, unchanged, commit, abandon, abandoned, prune, pruned}
use Rattle.model.specs.Needs.{inserting, deleting}
use Rattle.model.specs.Differ.{differ}
use Rattle.model.specs.Return
use Rattle.model.specs.Return.{goes, comes, set_tests, end_one, set_one, Ran, reached, stopped, or_stopped, through, and_on, carried, Came}
use Rattle.model.specs.Return.{gave, gave_up, lacking, or_abandoned, return_tests, unless, returned}
use Rattle.model.specs.Histories.{Call, begins, commits, abandons, inserts, deletes, returns, prunes, call_by}
use Rattle.model.specs.ByRule.{Sound, Committed}
use Rattle.model.proofs.kept.Stops.{lacking-is, Ends, update-ends}
use Rattle.model.proofs.turning.Returned.{returned-by}
use Rattle.promises.specs.Runs.{changing, gives_up}
use Rattle.promises.specs.Answers.{open_tests, end_tests, commit_tests, Gives}

-- the number that a result stands for
abbrev pub number_of : Result → ℕ
number_of (done t) = 0
number_of (refused n) = n

abbrev pub number_by : Came → ℕ
number_by (gave r) = number_of r
number_by (gave_up n t) = n

abbrev pub High : Result → Type 0
High (done t) = Unit {0}
High (refused n) = 5 ≤ n

abbrev pub HighBy : Came → Type 0
HighBy (gave r) = High r
HighBy (gave_up n t) = 5 ≤ n

-- no 0
abbrev pub SomeBy : Came → Type 0
SomeBy (gave (done t)) = Unit {0}
SomeBy (gave (refused n)) = 1 ≤ n
SomeBy (gave_up n t) = 1 ≤ n

high-some : (c : Came) → HighBy c → SomeBy c
high-some (gave (done t)) h = tt
high-some (gave (refused n)) h = omega arith
high-some (gave_up n t) h = omega arith

-- any call but pruning edition 1, which gives 3 whatever its store is
abbrev pub late : ℕ → Call → Bool
late least begins = true
late least commits = true
late least abandons = true
late least (inserts k x) = true
late least (deletes k) = true
late least (returns v) = true
late least (prunes v) = not (leb least 4)

-- ---- an update

ends-high : (r : Result) → Ends r → High r
ends-high (done t) e = tt
ends-high (refused n) (inl e) = omega arith
ends-high (refused n) (inr e) = omega arith

-- ---- a call's chain

abbrev AllHigh : List Rule → Type 0
AllHigh [] = Unit {0}
AllHigh (x ∷ xs) = (5 ≤ x.number) × AllHigh xs

chain-high : (xs : List Rule) (r : Result) → AllHigh xs → High r → High (numbered xs r)
chain-high [] r a h = h
chain-high (x ∷ xs) r a h = at x.holds (chain-high xs r a.1 h)
  where
    at : (b : Bool) → High (numbered xs r) → High (elim b as (λ z. Result) [ true ↦ refused x.number | false ↦ numbered xs r ])
    at true ih = a.0
    at false ih = ih

-- ---- a return

abbrev RanHigh : Ran → Type 0
RanHigh (reached t) = Unit {0}
RanHigh (stopped n t) = 5 ≤ n

through-high : (one : Store → Delta → Result) → ((s : Store) (d : Delta) → High (one s d)) → (ds : List Delta) (s : Store)
    → RanHigh (through one ds s)
unfolding Return.through
through-high one h [] s = tt
through-high one h (d ∷ ds) s = at (one s d) (h s d) (λ t. through-high one h ds t)
  where
    at : (r : Result) → High r → ((t : Store) → RanHigh (through one ds t)) → RanHigh (or_stopped (through one ds) s r)
    at (done t) i f = f t
    at (refused n) i f = i

both_high : (go : Store → Ran) (q : Ran) → RanHigh q → ((t : Store) → RanHigh (go t)) → RanHigh (and_on go q)
both_high go (reached t) h f = f t
both_high go (stopped n t) h f = h

given-high : (q : Ran) → RanHigh q → HighBy (or_abandoned q)
given-high (reached t) h = tt
given-high (stopped n t) h = at (lacking n)
  where
    at : (b : Bool) → HighBy (pick b (gave_up n (abandoned t)) (gave (refused n)))
    at true = h
    at false = h

tested-high : (x y : Bool) (c : Came) → HighBy c → HighBy (unless (first_of (Calls.rule 6 x ∷ Calls.rule 7 y ∷ [])) c)
tested-high true y c h = omega arith
tested-high false true c h = omega arith
tested-high false false c h = h

-- ---- any call

module _ (least : ℕ) where
  end-high : (s : Store) (d : Delta) → High (end_one least s d)
  unfolding Calls.delete
  end-high s d =
      chain-high (delete_tests d.key s.opened (is_some (lookup s d.key (next s)))) (update least s d.key (deleting d.key))
      (omega arith, (omega arith, (omega arith, tt)))
      (ends-high (update least s d.key (deleting d.key)) (update-ends least s d.key (deleting d.key)))

  set-high : (s : Store) (d : Delta) → High (set_one least s d)
  unfolding Return.set_one
  set-high s d =
      chain-high (set_tests d.key s.opened (is_some (lookup s d.key (next s))))
      (update least s d.key (inserting d.key d.new)) (omega arith, (omega arith, (omega arith, tt)))
      (ends-high (update least s d.key (inserting d.key d.new)) (update-ends least s d.key (inserting d.key d.new)))

  run-high : (ds : List Delta) (s : Store) → RanHigh (carried least ds s)
  unfolding Return.carried
  run-high ds s =
      both_high (through (set_one least) (those comes ds)) (through (end_one least) (those goes ds) s)
      (through-high (end_one least) end-high (those goes ds) s)
      (λ t. through-high (set_one least) set-high (those comes ds) t)

module _ (least : ℕ) (s : Store) where
  abbrev alive : ℕ → Bool
  alive k = is_some (lookup s k (next s))

  pub call-high : (c : Call) → late least c ≡ true → HighBy (call_by least s c)
  unfolding Calls.insert Calls.delete Calls.begin Calls.commit Calls.abandon Calls.prune Return.returned
  call-high begins z = chain-high (open_tests s.opened s.current) _ (omega arith, (omega arith, tt)) tt
  call-high commits z = chain-high (rule 7 (not s.opened) ∷ rule 15 (unchanged s) ∷ []) _ (omega arith, (omega arith, tt)) tt
  call-high abandons z = chain-high (end_tests s.opened) _ (omega arith, tt) tt
  call-high (inserts k x) z =
      chain-high (insert_tests k s.opened (alive k)) (update least s k (inserting k x)) (omega arith, (omega arith, (omega arith, tt)))
      (ends-high (update least s k (inserting k x)) (update-ends least s k (inserting k x)))
  call-high (deletes k) z =
      chain-high (delete_tests k s.opened (alive k)) (update least s k (deleting k)) (omega arith, (omega arith, (omega arith, tt)))
      (ends-high (update least s k (deleting k)) (update-ends least s k (deleting k)))
  call-high (returns v) z =
      let run = carried least (differ (settings s (next s)) (settings s v)) s in
      tested-high (beyond s.current s.oldest v) (not s.opened) (or_abandoned run)
      (given-high run (run-high least (differ (settings s (next s)) (settings s v)) s))
  call-high (prunes v) z =
      subst (λ (x : Bool). High (numbered (rule 3 x ∷ prune_tests s.oldest s.current s.opened v) (done (pruned s v))))
      (sym (not-true (leb least 4) z))
      (chain-high (prune_tests s.oldest s.current s.opened v) (done (pruned s v)) (omega arith, (omega arith, tt)) tt)

  -- a refusal is no 0, pruning edition 1 included
  pub call-some : (c : Call) → SomeBy (call_by least s c)
  unfolding Calls.prune
  call-some begins = high-some (call_by least s begins) (call-high begins refl)
  call-some commits = high-some (call_by least s commits) (call-high commits refl)
  call-some abandons = high-some (call_by least s abandons) (call-high abandons refl)
  call-some (inserts k x) = high-some (call_by least s (inserts k x)) (call-high (inserts k x) refl)
  call-some (deletes k) = high-some (call_by least s (deletes k)) (call-high (deletes k) refl)
  call-some (returns v) = high-some (call_by least s (returns v)) (call-high (returns v) refl)
  call-some (prunes v) = at (leb least 4) (beyond s.current s.oldest v) s.opened
    where
      at : (x y z : Bool) → SomeBy (gave (numbered (rule 3 x ∷ rule 6 y ∷ rule 8 z ∷ []) (done (pruned s v))))
      at true y z = omega arith
      at false true z = omega arith
      at false false true = omega arith
      at false false false = tt

-- ---- by its number a return is told from the abandon

abbrev pub Stopping : Call → Came → Type 0
Stopping c (gave (done t)) = Unit {0}
Stopping c (gave (refused n)) = gives_up (changing c) n ≡ false
Stopping c (gave_up n t) = gives_up (changing c) n ≡ true

run-stops : (v : ℕ) (q : Ran) → Stopping (returns v) (or_abandoned q)
run-stops v (reached t) = tt
run-stops v (stopped n t) = at (lacking n) refl
  where
    at : (b : Bool) → lacking n ≡ b → Stopping (returns v) (pick b (gave_up n (abandoned t)) (gave (refused n)))
    at true e = e
    at false e = e

tested-stops : (v : ℕ) (x y : Bool) (c : Came) → Stopping (returns v) c
    → Stopping (returns v) (unless (first_of (Calls.rule 6 x ∷ Calls.rule 7 y ∷ [])) c)
tested-stops v true y c h = refl
tested-stops v false true c h = refl
tested-stops v false false c h = h

single-stops : (c : Call) → ((n : ℕ) → gives_up (changing c) n ≡ false) → (r : Result) → Stopping c (gave r)
single-stops c f (done t) = tt
single-stops c f (refused n) = f n

pub call-stops : (least : ℕ) (s : Store) (c : Call) → Stopping c (call_by least s c)
unfolding Return.returned
call-stops least s begins = single-stops begins (λ n. refl) (begin s)
call-stops least s commits = single-stops commits (λ n. refl) (commit s)
call-stops least s abandons = single-stops abandons (λ n. refl) (abandon s)
call-stops least s (inserts k x) = single-stops (inserts k x) (λ n. refl) (insert least s k x)
call-stops least s (deletes k) = single-stops (deletes k) (λ n. refl) (delete least s k)
call-stops least s (prunes v) = single-stops (prunes v) (λ n. refl) (prune least s v)
call-stops least s (returns v) =
    let run = carried least (differ (settings s (next s)) (settings s v)) s in
    tested-stops v (beyond s.current s.oldest v) (not s.opened) (or_abandoned run) (run-stops v run)

-- ---- its number

chain_first : (xs : List Rule) (t : Store) → number_of (numbered xs (done t)) ≡ first_of xs
chain_first [] t = refl
chain_first (x ∷ xs) t = at x.holds (chain_first xs t)
  where
    at : (b : Bool) → number_of (numbered xs (done t)) ≡ first_of xs
        → number_of (elim b as (λ z. Result) [ true ↦ refused x.number | false ↦ numbered xs (done t) ])
        ≡ elim b as (λ z. ℕ) [ true ↦ x.number | false ↦ first_of xs ]
    at true ih = refl
    at false ih = ih

ends-gives : (r : Result) → Ends r → Gives 0 (number_of r)
ends-gives (done t) e = inl refl
ends-gives (refused n) e = inr e

itself : (n : ℕ) → 5 ≤ n → Gives n n
itself zero h = absurd (omega arith)
itself (suc n) h = refl

chain-gives : (xs : List Rule) (r : Result) → AllHigh xs → Ends r → Gives (first_of xs) (number_of (numbered xs r))
chain-gives [] r a h = ends-gives r h
chain-gives (x ∷ xs) r a h = at x.holds (chain-gives xs r a.1 h)
  where
    at : (b : Bool) → Gives (first_of xs) (number_of (numbered xs r))
        → Gives (elim b as (λ z. ℕ) [ true ↦ x.number | false ↦ first_of xs ])
        (number_of (elim b as (λ z. Result) [ true ↦ refused x.number | false ↦ numbered xs r ]))
    at true ih = itself x.number a.0
    at false ih = ih

module _ (least : ℕ) (s : Store) where
  pub begin-number : number_of (begin s) ≡ first_of (open_tests s.opened s.current)
  unfolding Calls.begin
  begin-number =
      chain_first (open_tests s.opened s.current)
      (record { current = s.current; opened = true; oldest = s.oldest; slots = s.slots; pages = s.pages })

  pub commit-number : number_of (commit s) ≡ first_of (commit_tests s.opened (unchanged s))
  unfolding Calls.commit
  commit-number = at s.opened (unchanged s)
    where
      at : (o u : Bool) → number_of (numbered (rule 7 (not o) ∷ rule 15 u ∷ []) (done (committed s))) ≡ first_of (commit_tests o u)
      at true true = refl
      at true false = refl
      at false true = refl
      at false false = refl

  pub abandon-number : number_of (abandon s) ≡ first_of (end_tests s.opened)
  unfolding Calls.abandon
  abandon-number = chain_first (end_tests s.opened) (abandoned s)

  pub prune-number : (v : ℕ) → number_of (prune least s v)
      ≡ first_of (rule 3 (leb least 4) ∷ prune_tests s.oldest s.current s.opened v)
  unfolding Calls.prune
  prune-number v = chain_first (rule 3 (leb least 4) ∷ prune_tests s.oldest s.current s.opened v) (pruned s v)

  pub insert-number : (k x : ℕ) → Gives (first_of (insert_tests k s.opened (is_some (lookup s k (next s))))) (number_of (insert least s k x))
  unfolding Calls.insert
  insert-number k x =
      chain-gives (insert_tests k s.opened (is_some (lookup s k (next s)))) (update least s k (inserting k x))
      (omega arith, (omega arith, (omega arith, tt)))
      (update-ends least s k (inserting k x))

  pub delete-number : (k : ℕ) → Gives (first_of (delete_tests k s.opened (is_some (lookup s k (next s))))) (number_of (delete least s k))
  unfolding Calls.delete
  delete-number k =
      chain-gives (delete_tests k s.opened (is_some (lookup s k (next s)))) (update least s k (deleting k))
      (omega arith, (omega arith, (omega arith, tt)))
      (update-ends least s k (deleting k))

-- where no test of a return holds
pub return-free : (s : Store) (v : ℕ) → s.opened ≡ true → Committed s v → first_of (return_tests s.oldest s.current s.opened v) ≡ 0
return-free s v o h =
    ap₂ (λ (x y : Bool). first_of (Calls.rule 6 x ∷ Calls.rule 7 (not y) ∷ []))
    (ap₂ ◌||◌ (le-ltb s.current v h.upto) (le-ltb v s.oldest h.from)) o

pub return-number : (least : ℕ) → 4 ≤ least → (s : Store) → Sound least s → (v : ℕ)
    → Gives (first_of (return_tests s.oldest s.current s.opened v)) (number_by (returned least s v))
return-number least four s d v =
    returned-by least (λ (q : Came). Gives (first_of (return_tests s.oldest s.current s.opened v)) (number_by q)) four s d v
    (λ n. same (first_of (return_tests s.oldest s.current s.opened v)) n)
    (λ o h t g. subst (λ (m : ℕ). Gives m 0) (sym (return-free s v o h)) (inl refl))
    (λ o h n l. subst (λ (m : ℕ). Gives m n) (sym (return-free s v o h)) (inr (lacking-is n l)))
  where
    same : (n : ℕ) → n ≢ 0 → Gives n n
    same zero h = absurd (h refl)
    same (suc n) h = refl
