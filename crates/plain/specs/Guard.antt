-- The plain store as other languages lend it: any five numbers for a state, and any list. "No `requires`" there: what the calls ask is
-- tested.
-- Assumes nothing.
use Rattle.std.specs.Prelude.{ℕ, ◌+◌, ◌*◌, ◌^◌, ◌<◌, Bool, true, false, ◌&&◌, ◌≡◌, List, [], ◌∷◌, Result, Ok, Err, leb, ltb, eqb, length}
use Rattle.std.specs.Prelude.{get_or}
use Rattle.std.proofs.Math.Option.{Option}
use Rattle.model.specs.Basic.{pick, those}
use Rattle.model.specs.declared.refusal.Refusal.{Refusal}
use Rattle.model.specs.declared.refusal.Refusal.TheVariants.{NotSound}
use Rattle.model.specs.declared.refusal.ListRefusal.{ListRefusal}
use Rattle.model.specs.Refusals.{list_number_of}
use Rattle.model.specs.Looked.{Looked}
use Rattle.model.specs.Looked.{Refused}
use Rattle.model.specs.Layout.{bit}
use Rattle.model.specs.Calls.{is_some, Ranged}
use Rattle.model.specs.Lent.{Listed, listed}
use Rattle.model.specs.Return.{comes}
use Rattle.plain.specs.declared.State.{State}
use Rattle.plain.specs.Plain.{Plain, Given, next, differs, begin, insert, delete, commit, abandon, return, prune, lookup, range}
use Rattle.plain.specs.Plain.{difference, life, same_value}
use Rattle.plain.specs.Items.{plain_of}

-- ---- the five numbers: current version, 1 if an update is open, how many items, oldest version, edition

abbrev pub state_of : List ℕ → State
state_of ms =
    record { current = get_or ms 0 0; opened = eqb (get_or ms 1 0) 1; count = get_or ms 2 0; oldest = get_or ms 3 0; edition = get_or ms 4 0 }

abbrev pub state_numbers : State → List ℕ
state_numbers s = s.current ∷ bit s.opened ∷ s.count ∷ s.oldest ∷ s.edition ∷ []

-- they are a state: "versions are 0 to 1,048,574", the open one too; the oldest "is at most the current version"; and there are two
-- editions
abbrev pub are_versions : ℕ → ℕ → Bool
are_versions current opened = leb opened 1 && leb (current + opened) 1048574

abbrev pub is_edition : ℕ → Bool
is_edition n = leb 1 n && leb n 2

abbrev pub is_state : List ℕ → Bool
is_state ms = are_versions (get_or ms 0 0) (get_or ms 1 0) && (leb (get_or ms 3 0) (get_or ms 0 0) && is_edition (get_or ms 4 0))

-- the longest list: four numbers for as many items as the state's third number counts to
abbrev pub longest : ℕ
longest = 17179869180

-- and the list lent holds the items
abbrev pub is_lent : List ℕ → List ℕ → Bool
is_lent ns ms = is_state ms && (leb (length ns) longest && leb (4 * get_or ms 2 0) (length ns))

-- the plain store that is read from them
abbrev pub read_plain : List ℕ → List ℕ → Plain
read_plain ns ms = plain_of (state_of ms) ns

-- ---- the calls that change: 4, then the call's own numbers, then 14

-- what a call gave, and what is read after it
abbrev pub left_lent : ℕ → List ℕ → List ℕ → Given
left_lent n ns ms = record { number = n; plain = read_plain ns ms }

-- nothing changed
abbrev pub refusing : ℕ → Plain → Given
refusing n p = record { number = n; plain = p }

-- 4 where the numbers lent are no plain store
abbrev pub guarded : Bool → Plain → Given → Given
guarded lent p g = pick lent g (refusing 4 p)

-- 14, "as everywhere" the last: where the call would be done, and has not the room for so many items
abbrev pub lacks : List ℕ → ℕ → ℕ → Bool
lacks ns n number = eqb number 0 && ltb (length ns) (4 * n)

abbrev pub fitted : List ℕ → ℕ → Plain → Given → Given
fitted ns n p g = pick (lacks ns n g.number) (refusing 14 p) g

-- "room for one item for each accepted insert, a return's own included"
abbrev pub own_inserts : Plain → ℕ → ℕ
own_inserts p v = length (those comes (differs (next p) v p.items))

module _ (ns ms : List ℕ) where
  abbrev count : ℕ
  count = (state_of ms).count

  abbrev own : Plain
  own = read_plain ns ms

  abbrev pub insert_guarded : ℕ → ℕ → Given
  insert_guarded k x = guarded (is_lent ns ms) own (fitted ns (count + 1) own (insert own k x))

  abbrev pub delete_guarded : ℕ → Given
  delete_guarded k = guarded (is_lent ns ms) own (delete own k)

  abbrev pub commit_guarded : Given
  commit_guarded = guarded (is_lent ns ms) own (commit own)

  abbrev pub abandon_guarded : Given
  abandon_guarded = guarded (is_lent ns ms) own (abandon own)

  abbrev pub return_guarded : ℕ → Given
  return_guarded v = guarded (is_lent ns ms) own (fitted ns (count + own_inserts own v) own (return own v))

  abbrev pub prune_guarded : ℕ → Given
  prune_guarded v = guarded (is_lent ns ms) own (prune own v)

  -- ---- the calls that read

  abbrev pub lookup_guarded : ℕ → ℕ → Looked
  lookup_guarded k v = pick (is_lent ns ms) (lookup own k v) (Refused 4)

  -- "any result not named here is 0"
  abbrev pub tells_guarded : List ℕ → (ℕ → Ranged) → Listed
  tells_guarded us f = pick (is_lent ns ms) (listed us (f (length us))) (record { number = 4; count = 0; list = us })

  abbrev pub range_guarded : (lo hi v : ℕ) (us : List ℕ) → Listed
  range_guarded lo hi v us = tells_guarded us (range own lo hi v)

  abbrev pub difference_guarded : ℕ → ℕ → List ℕ → Listed
  difference_guarded u v us = tells_guarded us (difference own u v)

  abbrev pub life_guarded : ℕ → List ℕ → Listed
  life_guarded k us = tells_guarded us (life own k)

-- an open has no list: it reads no item, whatever the list
abbrev pub OpensGuarded : List ℕ → ℕ → List ℕ → Type 0
OpensGuarded ms r ms' = (ns : List ℕ) → left_lent r ns ms' ≡ guarded (is_state ms) (read_plain ns ms) (begin (read_plain ns ms))

-- what is no plain store is left as it is, number for number
abbrev pub Spared : Bool → List ℕ → List ℕ → Type 0
Spared lent ns ns' = lent ≡ false → ns' ≡ ns

-- what is left of a plain store is one again: five numbers that are a state, the flag among them, and a list as long as it was that holds
-- the items
abbrev pub StateAgain : List ℕ → List ℕ → Type 0
StateAgain ms ms' = is_state ms ≡ true → is_state ms' ≡ true

abbrev pub LentAgain : List ℕ → List ℕ → List ℕ → List ℕ → Type 0
LentAgain ns ms ns' ms' = is_lent ns ms ≡ true → (is_lent ns' ms' ≡ true) × (length ns' ≡ length ns)

-- whether a key comes with a return: it has a value there, and not this one now
abbrev pub comes_by : Option ℕ → Option ℕ → ℕ
comes_by a b = pick (same_value a b) 0 (pick (is_some b) 1 0)

-- ---- what the code gives

-- the number of a call that may lack room for its items
abbrev pub list_number_in : {A : Type 0} → Result A ListRefusal → ℕ
list_number_in (Ok x) = 0
list_number_in (Err e) = list_number_of e

-- the state that five numbers are
pub record IsState (ms : List ℕ) (s : State) : Type 0 where
  pub good : is_state ms ≡ true
  pub state : s ≡ state_of ms
  pub small : s.count < 2 ^ 32

abbrev pub Reads : List ℕ → Result State Refusal → Type 0
Reads ms (Ok s) = IsState ms s
Reads ms (Err r) = (is_state ms ≡ false) × (r ≡ NotSound)

-- and the list lent holds its items
pub record Lends (ns ms : List ℕ) (s : State) : Type 0 where
  pub lent : is_lent ns ms ≡ true
  pub state : s ≡ state_of ms

-- whether a call lacks room
abbrev pub Fits : {A : Type 0} → Bool → Result A ListRefusal → Type 0
Fits lack (Ok x) = lack ≡ false
Fits lack (Err e) = (lack ≡ true) × (list_number_of e ≡ 14)
