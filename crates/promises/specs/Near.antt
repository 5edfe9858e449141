-- 2026-04, "lookups judge only what they read": the numbers of lookup and range on any bytes, each exactly when; what they answer
-- otherwise; that pages off their walk make no difference; and that on a sound store the answers stay.
-- `least` is 4 in edition 1 and 8 in edition 2; the calls go by the edition that the bytes name.
-- Assumes nothing.
use Rattle.std.specs.Prelude.{ℕ, zero, suc, ◌*◌, ◌≤◌, ◌<◌, Bool, true, false, ◌&&◌, ◌≡◌, ◌≢◌, ◌↔◌, ◌⊎◌, List, [], ◌∷◌, leb, length, take}
use Rattle.model.specs.Basic.{pick}
use Rattle.model.specs.declared.Pair.{Pair}
use Rattle.model.specs.declared.Slot.{Slot}
use Rattle.model.specs.Page.{Page, pairs_at}
use Rattle.model.specs.Store.{page, last}
use Rattle.model.specs.Walk.{key_limit, root_at, height_of, around, followed, lookup, lookup_visits, range_of, range_visits}
use Rattle.model.specs.Sound.{is_page, page_ok, rule2}
use Rattle.model.specs.Layout.{page_of, decode}
use Rattle.model.specs.Editions.{least_of}
use Rattle.model.specs.Clean.{clean_page, clean_front}
use Rattle.model.specs.Judged.{length_ok, magic_ok}
use Rattle.model.specs.Calls.{looked_at, ranged_by, get, range}
use Rattle.model.specs.Lent.{listed}
use Rattle.model.specs.Ended.{to_lookup, to_range, ended, of_looked, of_listed}
use Rattle.promises.specs.Accepts.{Accepts, store_of}
use Rattle.promises.specs.Demand1.{edition_known}
use Rattle.promises.specs.Views.{SaysSame}

-- a member of a list with a property; all of them
abbrev pub Some : {A : Type 0} → (A → Type 0) → List A → Type 0
Some f [] = ⊥
Some f (x ∷ xs) = f x ⊎ Some f xs

abbrev pub Each : {A : Type 0} → (A → Type 0) → List A → Type 0
Each f [] = Unit {0}
Each f (x ∷ xs) = f x × Each f xs

-- ---- "lookup and range give 4 exactly when": the clauses

module _ (least : ℕ) (b : List ℕ) where
  -- "the header, a directory slot .. breaks rules 1 or 2 of 01 locally": the header's page count, zero bits or root count, or an unused
  -- slot; its version; the oldest, above the current one or in edition 1; the page of a used slot; rule 2
  abbrev pub FrontWrong : Type 0
  FrontWrong =
      let s = decode least b in
      (clean_front least b ≡ false)
      ⊎ ((1048574 < last s)
      ⊎ ((pick (leb least 4) 0 s.current < s.oldest)
      ⊎ (Some (λ (x : Slot). is_page (length s.pages) x.root ≡ false) s.slots ⊎ (rule2 s ≡ false))))

  abbrev pub page_in : ℕ → Page
  page_in n = page (decode least b).pages n

  -- "a page on their own walk breaks rules 1 or 2 of 01 locally"; rule 2 speaks of slots alone
  abbrev pub Breaks : ℕ → Type 0
  Breaks n =
      (clean_page least (page_of least b n) && page_ok least (last (decode least b)) (length (decode least b).pages) (page_in n)) ≡ false

  -- "a child's level isn't one lower": it is not the one that is due
  abbrev pub OtherLevel : ℕ → ℕ → Type 0
  OtherLevel level n = (page_in n).level ≢ level

  module _ (v : ℕ) where
    -- "an index page walked has no router alive then at or below the key"
    abbrev pub NoRouter : ℕ → ℕ → Type 0
    NoRouter k n = Each (λ (r : Pair). k < r.key) (pairs_at v (page_in n))

    -- From page n on, `up` levels above the leaves: "A lookup follows the last such router".
    abbrev pub WrongDown : (up k n : ℕ) → Type 0
    WrongDown zero k n = Breaks n ⊎ OtherLevel 1 n
    WrongDown (suc up) k n =
        Breaks n ⊎ (OtherLevel (suc (suc up)) n ⊎ (NoRouter k n ⊎ WrongDown up k (around k (pairs_at v (page_in n))).own.value))

    -- "a range does so for its low key, and follows every later router alive and at or below its high key, whose own low key is then the
    -- one its child must cover" (`followed`)
    abbrev pub WrongAcross : (up hi at n : ℕ) → Type 0
    WrongAcross zero hi at n = Breaks n ⊎ OtherLevel 1 n
    WrongAcross (suc up) hi at n =
        Breaks n
        ⊎ (OtherLevel (suc (suc up)) n
        ⊎ (NoRouter at n ⊎ Some (λ (r : Pair). WrongAcross up hi r.key r.value) (followed at hi (pairs_at v (page_in n)))))

    -- "the version's root is a free page", or its walk is wrong
    abbrev pub WrongFrom : (ℕ → ℕ → Type 0) → Type 0
    WrongFrom walk =
        let r = root_at (decode least b).slots v in
        ((page_in r).level ≡ 0) ⊎ walk (height_of (decode least b).pages r) r

-- ---- the numbers, each exactly when. "With 5 or 6 only the header and the slots are judged first."

-- The first four tests are demand 1's: five bytes, the first four, the edition, the length by its page size.
pub record ReadingNumbers (enough magic edition length : Bool) (front bad late walk : Type 0) (n : ℕ) : Type 0 where
  pub one : n ≡ 1 ↔ ((enough ≡ false) ⊎ ((enough ≡ true) × ((magic ≡ true) × ((edition ≡ true) × (length ≡ false)))))
  pub two : n ≡ 2 ↔ ((enough ≡ true) × (magic ≡ false))
  pub three : n ≡ 3 ↔ ((enough ≡ true) × ((magic ≡ true) × (edition ≡ false)))
  pub four : n ≡ 4
      ↔ ((enough ≡ true) × ((magic ≡ true) × ((edition ≡ true) × ((length ≡ true) × (front ⊎ ((bad → ⊥) × ((late → ⊥) × walk)))))))
  pub five : n ≡ 5 ↔ ((enough ≡ true) × ((magic ≡ true) × ((edition ≡ true) × ((length ≡ true) × ((front → ⊥) × bad)))))
  pub six : n ≡ 6 ↔ ((enough ≡ true) × ((magic ≡ true) × ((edition ≡ true) × ((length ≡ true) × ((front → ⊥) × ((bad → ⊥) × late))))))

-- any bytes and numbers
pub record LookupJudges : Type 0 where
  pub numbers : (b : List ℕ) (k v : ℕ) (ns : List ℕ)
      → ReadingNumbers (leb 5 (length b)) (magic_ok b) (edition_known b) (length_ok (least_of b) b) (FrontWrong (least_of b) b) (key_limit ≤ k)
      ((last (store_of b) < v) ⊎ (v < (store_of b).oldest))
      (WrongFrom (least_of b) b v (λ up n. WrongDown (least_of b) b v up k n)) (ended (to_lookup k v) b ns).number
  -- "Otherwise they answer by the entries alive on the walked pages in walk order, a lookup by the first with its key, whether or not the
  -- rest is sound."
  pub answers : (b : List ℕ) (k v : ℕ) (ns : List ℕ) → (ended (to_lookup k v) b ns).number ≡ 0
      → ended (to_lookup k v) b ns ≡ of_looked b ns (looked_at (lookup (store_of b) k v))

pub record RangeJudges : Type 0 where
  pub numbers : (b : List ℕ) (lo hi v : ℕ) (ns : List ℕ)
      → ReadingNumbers (leb 5 (length b)) (magic_ok b) (edition_known b) (length_ok (least_of b) b) (FrontWrong (least_of b) b)
      ((key_limit ≤ lo) ⊎ ((key_limit ≤ hi) ⊎ (hi < lo))) ((last (store_of b) < v) ⊎ (v < (store_of b).oldest))
      (WrongFrom (least_of b) b v (λ up n. WrongAcross (least_of b) b v up hi lo n)) (ended (to_range lo hi v) b ns).number
  -- 0, or 14 where the list has not the room for two numbers a setting: all of its walk is judged before
  pub answers : (b : List ℕ) (lo hi v : ℕ) (ns : List ℕ)
      → ((ended (to_range lo hi v) b ns).number ≡ 0) ⊎ ((ended (to_range lo hi v) b ns).number ≡ 14)
      → ended (to_range lo hi v) b ns ≡ of_listed b (listed ns (ranged_by 0 (length ns) (range_of (store_of b) lo hi v)))
  pub fourteen : (b : List ℕ) (lo hi v : ℕ) (ns : List ℕ) → (ended (to_range lo hi v) b ns).number ≡ 14
      → length ns < 2 * length (range_of (store_of b) lo hi v)

-- ---- "judge only what they read": bytes that differ only in pages off the walk give the same answer

-- stores of one length with the same header and directory, which are the first five pages
pub record SameFront (least : ℕ) (b c : List ℕ) : Type 0 where
  pub long : length b ≡ length c
  pub front : take (320 * least) b ≡ take (320 * least) c

-- these pages have the same bytes
abbrev pub SamePages : ℕ → List ℕ → List ℕ → List ℕ → Type 0
SamePages least b c ns = Each (λ (n : ℕ). page_of least b n ≡ page_of least c n) ns

pub record OffTheWalk : Type 0 where
  pub lookup : (b c : List ℕ) → SameFront (least_of b) b c → (k v : ℕ) → SamePages (least_of b) b c (lookup_visits (store_of b) k v)
      → (ns : List ℕ) → SaysSame (ended (to_lookup k v) c ns) (ended (to_lookup k v) b ns)
  pub range : (b c : List ℕ) → SameFront (least_of b) b c → (lo hi v : ℕ) → SamePages (least_of b) b c (range_visits (store_of b) lo hi v)
      → (ns : List ℕ) → SaysSame (ended (to_range lo hi v) c ns) (ended (to_range lo hi v) b ns)

-- ---- "On a sound store the answers stay": what they were when every call judged the whole store

pub record SoundSame : Type 0 where
  pub lookup : (b : List ℕ) → Accepts b → (k v : ℕ) (ns : List ℕ) → ended (to_lookup k v) b ns ≡ of_looked b ns (get (store_of b) k v)
  pub range : (b : List ℕ) → Accepts b → (lo hi v : ℕ) (ns : List ℕ)
      → ended (to_range lo hi v) b ns ≡ of_listed b (listed ns (range (store_of b) lo hi v (length ns)))
