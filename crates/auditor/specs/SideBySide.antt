-- 2026-10: "For every sequence of calls from a fresh store the two give equal numbers, lookups, ranges and counts, except that the plain
-- one has no pages: where the tree gives 12 or 13, that call is left out of the plain sequence. A return that ends so is an abandon there.
-- The plain list is lent with room for one item for each accepted insert, a return's own included; that is a premise."
-- Who has read crate plain's definitions knows by this what the tree answers, call by call, with no word of pages but the two numbers.
-- Assumes nothing.
use Rattle.std.specs.Prelude.{ℕ, ◌+◌, ◌≤◌, true, false, ◌≡◌, List, [], ◌∷◌, length}
use Rattle.model.specs.Basic.{all, pick, those}
use Rattle.model.specs.Limits.{edition_of}
use Rattle.model.specs.Store.{Store, fresh, next}
use Rattle.model.specs.Walk.{settings}
use Rattle.model.specs.Layout.{encode}
use Rattle.model.specs.Differ.{differ}
use Rattle.model.specs.Return.{comes, lacking}
use Rattle.model.specs.Histories.{begins, commits, abandons, inserts, deletes, returns, prunes}
use Rattle.model.specs.Ended.{Ended}
use Rattle.promises.specs.Accepts.{store_of, OfEdition}
use Rattle.promises.specs.Runs.{Turn, turned, Kind, making, changing, reading, kind_of, gives_up, fitting, each}
use Rattle.promises.specs.Beside.{when_done}
use Rattle.plain.specs.Plain.{Plain, empty, abandon}
use Rattle.auditor.specs.Engine.{has, Plainly, plainly}

-- ---- one call, lent the tree's bytes b here and the plain store p there

-- "the two give equal numbers, lookups, ranges and counts": and equal lists
pub record Equal (e : Ended) (f : Plainly) : Type 0 where
  pub number : f.number ≡ e.number
  pub results : f.results ≡ e.results
  pub list : f.list ≡ e.list

pub record OneCall (b : List ℕ) (p : Plain) (t : Turn) : Type 0 where
  pub equal : lacking (turned b t).number ≡ false → Equal (turned b t) (plainly t.call p t.list)
  -- the abandon that a return becomes is accepted
  pub abandons : gives_up (kind_of t.call) (turned b t).number ≡ true → (abandon p).number ≡ 0

-- the plain store after a call to which the tree gave n: "where the tree gives 12 or 13, that call is left out of the plain sequence. A
-- return that ends so is an abandon there."
abbrev pub followed : ℕ → Plain → Turn → Plain
followed n p t = pick (lacking n) (pick (gives_up (kind_of t.call) n) (abandon p).plain p) (plainly t.call p t.list).plain

-- ---- "room for one item for each accepted insert, a return's own included"

-- how many inserts a call makes in a store where it is done
abbrev pub inserts_by : Kind → Store → ℕ
inserts_by making s = 0
inserts_by (changing begins) s = 0
inserts_by (changing commits) s = 0
inserts_by (changing abandons) s = 0
inserts_by (changing (inserts k x)) s = 1
inserts_by (changing (deletes k)) s = 0
inserts_by (changing (returns v)) s = length (those comes (differ (settings s (next s)) (settings s v)))
inserts_by (changing (prunes v)) s = 0
inserts_by reading s = 0

abbrev pub accepted : List ℕ → Turn → ℕ
accepted b t = when_done (turned b t).number (inserts_by (kind_of t.call) (store_of b)) 0

abbrev pub accepted_in : List ℕ → List Turn → ℕ
accepted_in b [] = 0
accepted_in b (t ∷ ts) = accepted b t + accepted_in (turned b t).store ts

-- ---- one after another: each call gives the same, and before each and after the last the plain store is such that its functions may be
-- called

-- what the functions of crate plain ask of a lent list that has room for so many items (Items' Held): after an insert or a return too, so
-- that the room is never outgrown
pub record FitsRoom (room : ℕ) (p : Plain) : Type 0 where
  pub items : length p.items ≤ room
  pub version : p.current ≤ 1048574

abbrev pub EachCall : ℕ → List ℕ → Plain → List Turn → Type 0
EachCall room b p [] = FitsRoom room p
EachCall room b p (t ∷ ts) = FitsRoom room p × OneCall b p t × EachCall room (turned b t).store (followed (turned b t).number p t) ts

abbrev pub SideBySide : Type 0
SideBySide =
    (least : ℕ) → OfEdition least → (n : ℕ) → 6 ≤ n → n ≤ 4096 → (ts : List Turn) → each fitting ts ≡ true
    → all (λ (t : Turn). has t.call) ts ≡ true
    → (room : ℕ) → accepted_in (encode least (fresh n)) ts ≤ room → EachCall room (encode least (fresh n)) (empty (edition_of least)) ts
