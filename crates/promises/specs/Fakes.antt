-- "Try these fakes against it": an implementation is anything that, for a call, bytes and a list, gives and leaves something; each fake of
-- document 01 is a property of one. None that meets every contract has any of them.
-- Assumes nothing.
use Rattle.std.specs.Prelude.{ℕ, suc, ◌<◌, ◌≡◌, ◌≢◌, List, [], ◌∷◌, length}
use Rattle.model.specs.Walk.{settings, between}
use Rattle.model.specs.Ended.{Asked, to_open, to_insert, to_lookup, to_range, Ended, Meets}
use Rattle.promises.specs.Accepts.{Accepts, store_of}

abbrev pub Implementation : Type 0
Implementation = Asked → List ℕ → List ℕ → Ended

-- it meets every contract
abbrev pub Honest : Implementation → Type 0
Honest f = (c : Asked) (b ns : List ℕ) → Meets c b ns (f c b ns)

-- "a store that refuses everything": no insert is ever done
abbrev pub RefusesAll : Implementation → Type 0
RefusesAll f = (k x : ℕ) (b ns : List ℕ) → (f (to_insert k x) b ns).number ≢ 0

-- "one fixed answer to every lookup"
abbrev pub OneAnswer : Implementation → Type 0
OneAnswer f = (k v j u : ℕ) (b ns : List ℕ) → (f (to_lookup k v) b ns).results ≡ (f (to_lookup j u) b ns).results

-- "inserts that write nothing"
abbrev pub WritesNothing : Implementation → Type 0
WritesNothing f = (k x : ℕ) (b ns : List ℕ) → (f (to_insert k x) b ns).store ≡ b

-- "one that does all its splitting at the open": some open is done and leaves other pages
pub record SplitsAtOpen (f : Implementation) : Type 0 where
  pub bytes : List ℕ
  pub list : List ℕ
  pub given : (f to_open bytes list).number ≡ 0
  pub split : (store_of (f to_open bytes list).store).pages ≢ (store_of bytes).pages

-- "or hides updates until commit": some insert is done, and a lookup at the open version does not find it in the bytes left
pub record Hides (f : Implementation) : Type 0 where
  pub key : ℕ
  pub value : ℕ
  pub bytes : List ℕ
  pub list : List ℕ
  pub small : value < 4294967296
  pub given : (f (to_insert key value) bytes list).number ≡ 0
  pub hidden : (f (to_lookup key (suc (store_of bytes).current)) (f (to_insert key value) bytes list).store list).results ≢ 1 ∷ value ∷ []

-- "a range with an invented count": some range of a sound store is done, and its count is not that of the settings alive
pub record Invents (f : Implementation) : Type 0 where
  pub low : ℕ
  pub high : ℕ
  pub version : ℕ
  pub bytes : List ℕ
  pub list : List ℕ
  pub accepted : Accepts bytes
  pub given : (f (to_range low high version) bytes list).number ≡ 0
  pub invented : (f (to_range low high version) bytes list).results ≢ length (between low high (settings (store_of bytes) version)) ∷ []

pub record NoFake (f : Implementation) : Type 0 where
  pub refuses : RefusesAll f → ⊥
  pub fixed : OneAnswer f → ⊥
  pub nothing : WritesNothing f → ⊥
  pub opens : SplitsAtOpen f → ⊥
  pub hides : Hides f → ⊥
  pub invents : Invents f → ⊥

abbrev pub FakesStopped : Type 0
FakesStopped = (f : Implementation) → Honest f → NoFake f
