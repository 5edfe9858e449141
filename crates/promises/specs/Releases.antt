-- 2026-05, an empty release is no release: "Commit shall give 15, change nothing and stay open, exactly when the open version's settings
-- equal the current version's, key for key. An insert undone by a delete counts as no change even if pages were split."
-- Assumes nothing.
use Rattle.std.specs.Prelude.{ℕ, ◌<◌, true, ◌≡◌, ◌↔◌, List, [], ◌∷◌}
use Rattle.model.specs.Store.{Store, next}
use Rattle.model.specs.Walk.{settings}
use Rattle.model.specs.Ended.{to_commit, to_insert, to_delete, to_lookup, to_difference, ended, Untouched}
use Rattle.promises.specs.Accepts.{Accepts, store_of}
use Rattle.promises.specs.Views.{SaysSame}

-- an update is open on accepted bytes
pub record OpenAccepted (b : List ℕ) : Type 0 where
  pub accepted : Accepts b
  pub opened : (store_of b).opened ≡ true

-- "the open version's settings equal the current version's"
abbrev pub Equal : Store → Type 0
Equal s = settings s (next s) ≡ settings s s.current

-- ---- "exactly when": a commit of any bytes

pub record Commits (b ns : List ℕ) : Type 0 where
  pub empty : (ended to_commit b ns).number ≡ 15 ↔ (OpenAccepted b × Equal (store_of b))
  pub done : (ended to_commit b ns).number ≡ 0 ↔ (OpenAccepted b × (Equal (store_of b) → ⊥))
  -- "change nothing"; so the update stays open
  pub nothing : (ended to_commit b ns).number ≡ 15 → Untouched b ns (ended to_commit b ns)

abbrev pub ExactlyWhen : Type 0
ExactlyWhen = (b ns : List ℕ) → Commits b ns

-- ---- "key for key": the settings are equal exactly when a lookup of any key says of the open version what it says of the current one

abbrev pub KeyForKey : Type 0
KeyForKey = (b : List ℕ) → OpenAccepted b
    → Equal (store_of b)
    ↔ ((k : ℕ) (ns : List ℕ) → SaysSame (ended (to_lookup k (next (store_of b))) b ns) (ended (to_lookup k (store_of b).current) b ns))

-- ---- and exactly when the list of 2026-03, from the current version to the open one, is empty

abbrev pub NothingDiffers : Type 0
NothingDiffers = (b : List ℕ) → OpenAccepted b → (ns ms : List ℕ)
    → (ended to_commit b ns).number ≡ 15 ↔ ((ended (to_difference (store_of b).current (next (store_of b))) b ms).results ≡ 0 ∷ [])

-- ---- "An insert undone by a delete counts as no change even if pages were split": a commit gives after the two what it gave before them

abbrev pub UndoneInsert : Type 0
UndoneInsert = (b : List ℕ) (k x : ℕ) (ns : List ℕ) → x < 4294967296
    → let b₁ = (ended (to_insert k x) b ns).store in
    let b₂ = (ended (to_delete k) b₁ ns).store in
    (ended (to_insert k x) b ns).number ≡ 0 → (ended (to_delete k) b₁ ns).number ≡ 0
    → (ended to_commit b₂ ns).number ≡ (ended to_commit b ns).number

pub record EmptyReleases : Type 0 where
  pub exactly : ExactlyWhen
  pub by_key : KeyForKey
  pub nothing-differs : NothingDiffers
  pub undone : UndoneInsert
