-- Demand 1: "Any bytes may be lent as a store, and any numbers as arguments. Every call ends and judges the store itself before it trusts
-- it. A store of another edition is refused by one number, an unsound one, down to a bit set that we don't define, by another. A refused
-- call changes no byte of the store or of the caller's list." What the calls give is `ended` (model's Ended), which their contracts cite.
-- Assumes nothing.
use Rattle.std.specs.Prelude.{ℕ, ◌≤◌, Bool, true, false, ◌&&◌, ◌||◌, not, ◌≡◌, ◌≢◌, ◌↔◌, ◌⊎◌, List, [], leb, length}
use Rattle.model.specs.Field.{Bytes}
use Rattle.model.specs.Store.{fresh}
use Rattle.model.specs.Sound.{sound}
use Rattle.model.specs.Layout.{size_of, encode}
use Rattle.model.specs.Clean.{clean}
use Rattle.model.specs.Counted.{rule8}
use Rattle.model.specs.Judged.{length_ok, magic_ok, edition_ok}
use Rattle.model.specs.Editions.{least_of}
use Rattle.model.specs.Ended.{Asked, to_fresh, to_fresh_second, to_check, to_open, to_commit, to_abandon, to_insert, to_delete, to_return, to_prune}
use Rattle.model.specs.Ended.{to_lookup, to_range, to_visits, to_difference, to_life, Ended, ended, Meets, Untouched, Excepted, Named, Zeros}
use Rattle.model.specs.Ended.{to_state}
use Rattle.promises.specs.Accepts.{Accepts, store_of}

-- ---- every call is pinned: no second outcome meets its contract

abbrev pub Unique : Type 0
Unique = (c : Asked) (b ns : List ℕ) (e f : Ended) → Meets c b ns e → Meets c b ns f → e ≡ f

-- ---- "A refused call changes no byte of the store or of the caller's list": but for a return that gives 12 or 13 (`Excepted`)

abbrev pub Refused : Type 0
Refused = (c : Asked) (b ns : List ℕ) (e : Ended) → Meets c b ns e → e.number ≢ 0 → (Excepted c e.number → ⊥) → Untouched b ns e

-- and "any result not named here is 0"
abbrev pub Blank : Type 0
Blank = (c : Asked) (b ns : List ℕ) (e : Ended) → Meets c b ns e → e.number ≢ 0 → (Named c e.number → ⊥) → Zeros e.results

-- ---- "judges the store itself before it trusts it": the numbers 1 to 4, each exactly when

-- What the five tests found: there are five bytes, the first four are right, the edition is 1 or 2, the length is right by that edition's
-- page size, the store is sound, its live counts with it (rule 8). 2026-08: "fewer than five bytes gives 1; otherwise 2, then 3, then 1 by
-- the edition's page size, then the rest as before".
pub record FirstNumbers (enough magic edition length rules : Bool) (n : ℕ) : Type 0 where
  pub one : n ≡ 1 ↔ ((enough ≡ false) ⊎ ((enough ≡ true) × ((magic ≡ true) × ((edition ≡ true) × (length ≡ false)))))
  pub two : n ≡ 2 ↔ ((enough ≡ true) × (magic ≡ false))
  pub three : n ≡ 3 ↔ ((enough ≡ true) × ((magic ≡ true) × (edition ≡ false)))
  pub four : n ≡ 4 ↔ ((enough ≡ true) × ((magic ≡ true) × ((edition ≡ true) × ((length ≡ true) × (rules ≡ false)))))

-- the edition is 1 or 2
abbrev pub edition_known : List ℕ → Bool
edition_known b = edition_ok 4 b || edition_ok 8 b

-- The calls that judge the whole store: all but making fresh, which gives only 1, and lookup and range, which judge what they read
-- (2026-04; specs/Near has their numbers).
abbrev pub judges_all : ℕ → Asked → Bool
judges_all least to_fresh = false
judges_all least to_fresh_second = false
judges_all least to_check = true
judges_all least to_open = true
judges_all least to_commit = true
judges_all least to_abandon = true
judges_all least (to_insert k x) = true
judges_all least (to_delete k) = true
judges_all least (to_return v) = true
judges_all least (to_prune v) = not (leb least 4)
judges_all least (to_lookup k v) = false
judges_all least (to_range lo hi v) = false
judges_all least (to_visits k v) = true
judges_all least (to_difference u v) = true
judges_all least (to_life k) = true
judges_all least to_state = true

-- these, on any bytes
abbrev pub Judges : Type 0
Judges = (c : Asked) (b ns : List ℕ) → judges_all (least_of b) c ≡ true
    → FirstNumbers (leb 5 (length b)) (magic_ok b) (edition_known b) (length_ok (least_of b) b)
    (clean (least_of b) b && (sound (least_of b) (store_of b) && rule8 (least_of b) b)) (ended c b ns).number

-- so none of them touches bytes that check does not accept; lookup and range touch no store's (`ReadsOnly`)
pub record TurnedAway (b ns : List ℕ) (e : Ended) : Type 0 where
  pub low : 1 ≤ e.number
  pub high : e.number ≤ 4
  pub untouched : Untouched b ns e

abbrev pub Untrusted : Type 0
Untrusted = (c : Asked) (b ns : List ℕ) → judges_all (least_of b) c ≡ true → (Accepts b → ⊥) → TurnedAway b ns (ended c b ns)

-- ---- "down to a bit set that we don't define": of all the bytes of an edition that hold one store, one form alone is accepted

abbrev pub OneForm : Type 0
OneForm = (a b : List ℕ) → Bytes a → Bytes b → Accepts a → Accepts b → least_of a ≡ least_of b → store_of a ≡ store_of b → a ≡ b

-- ---- "Making fresh gives only 1": from any bytes, by the edition that is to be made

pub record Made (least : ℕ) (c : Asked) (b ns : List ℕ) : Type 0 where
  pub right : length_ok least b ≡ true → ended c b ns
      ≡ record { number = 0; results = []; store = encode least (fresh (size_of least b)); list = ns }
  pub wrong : length_ok least b ≡ false → ended c b ns ≡ record { number = 1; results = []; store = b; list = ns }

pub record FreshMade : Type 0 where
  pub first : (b ns : List ℕ) → Made 4 to_fresh b ns
  pub second : (b ns : List ℕ) → Made 8 to_fresh_second b ns
