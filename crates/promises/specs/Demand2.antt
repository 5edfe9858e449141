-- Demand 2: "From a fresh store on, a lookup or range at a version gives exactly the settings alive then, as the accepted calls that
-- weren't abandoned say, in key order; whatever is done later, short of making the store fresh again, a committed version's answers stay.
-- After every call the pages are byte for byte what the published page rules, as fixed in document 01, produce. Every page that a version
-- reaches, its root aside, holds at least four entries alive at that version. An update is refused for lack of pages exactly when those
-- rules need a page and none is free."
-- Each of these holds of the stores of both editions (2026-08); edition 2 has at least eight where edition 1 has four.
-- Assumes nothing.
use Rattle.std.specs.Prelude.{ℕ, ◌≤◌, ◌<◌, true, not, ◌≡◌, ◌↔◌, List, T, eqb}
use Rattle.model.specs.Basic.{those}
use Rattle.model.specs.declared.Pair.{Pair}
use Rattle.model.specs.Entry.{pair, enter_pair}
use Rattle.model.specs.Field.{Bytes}
use Rattle.model.specs.Store.{Store, fresh, next}
use Rattle.model.specs.Walk.{settings}
use Rattle.model.specs.Sound.{sound}
use Rattle.model.specs.Layout.{encode}
use Rattle.model.specs.Editions.{least_of}
use Rattle.model.specs.Histories.{Call, call_by, after}
use Rattle.model.specs.Needs.{NeedsPage, NeedsSlot, inserting, deleting, InsertTried, DeleteTried}
use Rattle.model.specs.Ended.{Asked, to_insert, to_delete, ended}
use Rattle.promises.specs.Accepts.{Accepts, store_of, OfEdition, Written, SoundBytes}
use Rattle.promises.specs.Runs.{Turn, turned, run_bytes, making, reading, kind_of, asks, not_making, fitting, each}
use Rattle.promises.specs.Beside.{from_fresh, from_lent}
use Rattle.promises.specs.Answers.{Answers}
use Rattle.promises.specs.Way.{ruled_of, EachState, BalancedIn, LentState, FreshState}
use Rattle.promises.specs.Views.{SameView, SameAnswers}

-- ---- accepted bytes and sound stores are the same thing

abbrev pub EncodedSound : Type 0
EncodedSound = (least : ℕ) → OfEdition least → (s : Store) → T (sound least s) → Written least s

abbrev pub AcceptedSound : Type 0
AcceptedSound = (b : List ℕ) → Bytes b → Accepts b → SoundBytes b

-- ---- a sound store stays sound: every call, from any accepted bytes

abbrev pub SoundStays : Type 0
SoundStays = (b : List ℕ) → Accepts b → (t : Turn) → fitting (kind_of t.call) ≡ true → Accepts (turned b t).store

-- making fresh, of either edition, from any bytes
abbrev pub FreshSound : Type 0
FreshSound = (c : Asked) → kind_of c ≡ making → (b ns : List ℕ) → (ended c b ns).number ≡ 0 → Accepts (ended c b ns).store

-- ---- "From a fresh store on, a lookup or range at a version gives exactly the settings alive then": in every state on the way of any
-- calls (`Answers`); and there the bytes are those of the store that the page rules make of the calls so far, every page but the root has
-- its live entries, and version 0 is empty

abbrev pub History : Type 0
History = (least : ℕ) → OfEdition least → (n : ℕ) → 6 ≤ n → n ≤ 4096 → (ts : List Turn) → each fitting ts ≡ true
    → EachState FreshState (from_fresh least n) (record { least = least; store = fresh n }) ts

-- "For a sound store lent from elsewhere, the settings its walks show stand for the history so far."
abbrev pub HistoryLent : Type 0
HistoryLent = (b : List ℕ) → Accepts b → (ts : List Turn) → each fitting ts ≡ true → EachState (LentState b) (from_lent b) (ruled_of b) ts

-- and at once: lookups and ranges find what the walks of the store that the bytes hold show
abbrev pub Found : Type 0
Found = (b : List ℕ) → Accepts b → Answers (from_lent b)

-- an insert or a delete that is done changes the open version's settings by its key alone, and no older version's
pub record Changes (s t : Store) (g : List Pair → List Pair) : Type 0 where
  pub last_one : settings t (next s) ≡ g (settings s (next s))
  pub older : (v : ℕ) → s.oldest ≤ v → v ≤ s.current → settings t v ≡ settings s v

pub record SettingsChange : Type 0 where
  pub insert : (b : List ℕ) (k x : ℕ) (ns : List ℕ) → x < 4294967296 → (ended (to_insert k x) b ns).number ≡ 0
      → Changes (store_of b) (store_of (ended (to_insert k x) b ns).store) (enter_pair (pair k x))
  pub delete : (b : List ℕ) (k : ℕ) (ns : List ℕ) → (ended (to_delete k) b ns).number ≡ 0
      → Changes (store_of b) (store_of (ended (to_delete k) b ns).store) (those (λ (y : Pair). not (eqb y.key k)))

-- ---- "whatever is done later, short of making the store fresh again, a committed version's answers stay"; since 2026-12 while it is kept:
-- the oldest version after the calls is not above it

abbrev pub AnswersStay : Type 0
AnswersStay = (b : List ℕ) → Accepts b → (ts : List Turn) → each fitting ts ≡ true → each not_making ts ≡ true
    → (v : ℕ) → (store_of (run_bytes b ts)).oldest ≤ v → v ≤ (store_of b).current → SameAnswers b (run_bytes b ts) v

-- and so does what its pages show; its edition too
abbrev pub ViewsStay : Type 0
ViewsStay = (b : List ℕ) → Accepts b → (ts : List Turn) → each fitting ts ≡ true → each not_making ts ≡ true
    → (v : ℕ) → (store_of (run_bytes b ts)).oldest ≤ v → v ≤ (store_of b).current → SameView (store_of b) (store_of (run_bytes b ts)) v

abbrev pub EditionStays : Type 0
EditionStays =
    (b : List ℕ) → Accepts b → (ts : List Turn) → each fitting ts ≡ true → each not_making ts ≡ true → least_of (run_bytes b ts) ≡ least_of b

-- ---- "After every call the pages are byte for byte what the published page rules produce": model's Rules, Climb and Calls

abbrev pub ByTheRules : Type 0
ByTheRules = (b : List ℕ) → Bytes b → Accepts b → (c : Call) (ns : List ℕ)
    → (ended (asks c) b ns).store ≡ encode (least_of b) (after (store_of b) (call_by (least_of b) (store_of b) c)).store

-- check, lookup, range and visits leave the store's bytes, whatever these are
abbrev pub ReadsOnly : Type 0
ReadsOnly = (c : Asked) (b ns : List ℕ) → kind_of c ≡ reading → (ended c b ns).store ≡ b

-- ---- "Every page that a version reaches, its root aside, holds at least four entries alive at that version."

abbrev pub Balanced : Type 0
Balanced = (b : List ℕ) → Accepts b → BalancedIn (ruled_of b)

-- ---- "An update is refused for lack of pages exactly when those rules need a page and none is free": 12, and 13 so for a slot, on any
-- bytes

pub record LackRefused (b ns : List ℕ) : Type 0 where
  pub insert-page : (k x : ℕ) → (ended (to_insert k x) b ns).number ≡ 12
      ↔ (Accepts b × (InsertTried (store_of b) k × NeedsPage (least_of b) (store_of b) k (inserting k x)))
  pub insert-slot : (k x : ℕ) → (ended (to_insert k x) b ns).number ≡ 13
      ↔ (Accepts b × (InsertTried (store_of b) k × NeedsSlot (least_of b) (store_of b) k (inserting k x)))
  pub delete-page : (k : ℕ) → (ended (to_delete k) b ns).number ≡ 12
      ↔ (Accepts b × (DeleteTried (store_of b) k × NeedsPage (least_of b) (store_of b) k (deleting k)))
  pub delete-slot : (k : ℕ) → (ended (to_delete k) b ns).number ≡ 13
      ↔ (Accepts b × (DeleteTried (store_of b) k × NeedsSlot (least_of b) (store_of b) k (deleting k)))

abbrev pub Lacking : Type 0
Lacking = (b ns : List ℕ) → LackRefused b ns
