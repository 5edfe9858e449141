-- Each reason for refusing has a number, which is not 0. Assumes nothing.
use Rattle.std.proofs.Common.{◌≡◌, refl, arith}
use Rattle.model.specs.Refusals.{number_of, list_number_of}
use Rattle.model.specs.declared.refusal.Refusal.{Refusal}
use Rattle.model.specs.declared.refusal.Refusal.TheVariants.{WrongLength, WrongFirstBytes, WrongEdition, NotSound, KeyTooLarge, VersionAboveLast}
use Rattle.model.specs.declared.refusal.Refusal.TheVariants.{NoUpdateOpen, UpdateAlreadyOpen, VersionsUsedUp, KeyAlive, KeyNotAlive}
use Rattle.model.specs.declared.refusal.Refusal.TheVariants.{NoPageFree, NoSlotFree, NothingChanged, ValueNotAdmitted, KeyUnknown}
use Rattle.model.specs.declared.refusal.ListRefusal.{ListRefusal}
use Rattle.model.specs.declared.refusal.ListRefusal.TheVariants.{Refused as NotTold, TooShort}
use Rattle.store.proofs.laws.Refused.{refuses-some}
use Rattle.lines.specs.declared.Answer.TheVariants.{Refused}
use Rattle.lines.specs.Session.{answered}

-- a reason for refusing has a number
pub answered-refusal : (e : Refusal) → Refused (number_of e) ≡ answered (number_of e)
answered-refusal WrongLength = refl
answered-refusal WrongFirstBytes = refl
answered-refusal WrongEdition = refl
answered-refusal NotSound = refl
answered-refusal KeyTooLarge = refl
answered-refusal VersionAboveLast = refl
answered-refusal NoUpdateOpen = refl
answered-refusal UpdateAlreadyOpen = refl
answered-refusal VersionsUsedUp = refl
answered-refusal KeyAlive = refl
answered-refusal KeyNotAlive = refl
answered-refusal NoPageFree = refl
answered-refusal NoSlotFree = refl
answered-refusal NothingChanged = refl
answered-refusal ValueNotAdmitted = refl
answered-refusal KeyUnknown = refl

-- and so has one of a list
pub listed-refusal : (e : ListRefusal) → list_number_of e ≡ 0 → ⊥
listed-refusal (NotTold r) z = refuses-some r z
listed-refusal (TooShort n) z = absurd (omega arith)
