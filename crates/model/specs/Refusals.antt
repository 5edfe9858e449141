-- The code's results as the definitions have them: a reason for refusing is its number, and a call that is done gives 0.
-- Assumes nothing.
use Rattle.std.specs.Prelude.{ℕ, List, Option, Some, None, Result, Ok, Err}
use Rattle.std.proofs.Math.Option.{Option as Maybe, none, some}
use Rattle.model.specs.declared.State.{State as Standing}
use Rattle.model.specs.declared.refusal.Refusal.{Refusal}
use Rattle.model.specs.declared.refusal.Refusal.TheVariants.{WrongLength, WrongFirstBytes, WrongEdition, NotSound, KeyTooLarge, VersionAboveLast}
use Rattle.model.specs.declared.refusal.Refusal.TheVariants.{NoUpdateOpen, UpdateAlreadyOpen, VersionsUsedUp, KeyAlive, KeyNotAlive}
use Rattle.model.specs.declared.refusal.Refusal.TheVariants.{NoPageFree, NoSlotFree, NothingChanged, ValueNotAdmitted, KeyUnknown}
use Rattle.model.specs.declared.refusal.ListRefusal.{ListRefusal}
use Rattle.model.specs.declared.refusal.ListRefusal.TheVariants.{Refused as NotTold, TooShort}
use Rattle.model.specs.declared.refusal.Fault.{Fault}
use Rattle.model.specs.declared.refusal.Fault.TheVariants.{Refused as NotJudged, Broken}
use Rattle.model.specs.Looked.{Looked, Refused}
use Rattle.model.specs.Verdict.{Verdict}
use Rattle.model.specs.State.{State, untold}
use Rattle.model.specs.Calls.{looked_at}
use Rattle.model.specs.Lent.{Listed}

abbrev pub number_of : Refusal → ℕ
number_of WrongLength = 1
number_of WrongFirstBytes = 2
number_of WrongEdition = 3
number_of NotSound = 4
number_of KeyTooLarge = 5
number_of VersionAboveLast = 6
number_of NoUpdateOpen = 7
number_of UpdateAlreadyOpen = 8
number_of VersionsUsedUp = 9
number_of KeyAlive = 10
number_of KeyNotAlive = 11
number_of NoPageFree = 12
number_of NoSlotFree = 13
number_of NothingChanged = 15
number_of ValueNotAdmitted = 16
number_of KeyUnknown = 17

-- the number that a call gives, whatever it gives beside
abbrev pub number_in : {A : Type 0} → Result A Refusal → ℕ
number_in (Ok x) = 0
number_in (Err r) = number_of r

abbrev pub list_number_of : ListRefusal → ℕ
list_number_of (NotTold r) = number_of r
list_number_of (TooShort n) = 14

abbrev pub list_count_of : ListRefusal → ℕ
list_count_of (NotTold r) = 0
list_count_of (TooShort n) = n

abbrev pub fault_number_of : Fault → ℕ
fault_number_of (NotJudged r) = number_of r
fault_number_of (Broken rule) = 4

abbrev pub fault_rule_of : Fault → ℕ
fault_rule_of (NotJudged r) = 0
fault_rule_of (Broken rule) = rule

-- a value that may be lacking
abbrev pub found_in : {A : Type 0} → Option A → Maybe A
found_in None = none
found_in (Some x) = some x

-- "An absent key in a lookup is an answer, not a number."
abbrev pub looked_in : Result (Option ℕ) Refusal → Looked
looked_in (Ok o) = looked_at (found_in o)
looked_in (Err r) = Refused (number_of r)

-- what a call that tells a list gives, with the caller's list after it
abbrev pub listed_in : Result ℕ ListRefusal → List ℕ → Listed
listed_in (Ok n) ns = record { number = 0; count = n; list = ns }
listed_in (Err e) ns = record { number = list_number_of e; count = list_count_of e; list = ns }

-- what check gives
abbrev pub verdict_in : {A : Type 0} → Result A Fault → Verdict
verdict_in (Ok x) = record { number = 0; rule = 0 }
verdict_in (Err e) = record { number = fault_number_of e; rule = fault_rule_of e }

-- what a store tells of itself
abbrev pub state_in : Result Standing Refusal → State
state_in (Ok t) = record {
  number = 0;
  pages = t.pages;
  current = t.current;
  opened = t.opened;
  roots = t.roots;
  edition = t.edition;
  free = t.free;
  oldest = t.oldest;
}
state_in (Err r) = untold (number_of r)
