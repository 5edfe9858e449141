-- "The settings alive at a committed version are what the accepted inserts and deletes of the updates committed up to it, applied in
-- order from a fresh store, leave": a machine with no pages, which a store's history is held to.
-- Assumes nothing.
use Rattle.std.specs.Prelude.{ℕ, suc, ◌+◌, Bool, true, false, ◌&&◌, not, List, [], ◌∷◌, ltb, eqb, length}
use Rattle.model.specs.Basic.{those, pick}
use Rattle.model.specs.declared.Pair.{Pair}
use Rattle.model.specs.Entry.{pair, enter_pair}
use Rattle.model.specs.Store.{Store, fresh}
use Rattle.model.specs.Walk.{settings}
use Rattle.model.specs.Climb.{done, refused}
use Rattle.model.specs.Differ.{differ}
use Rattle.model.specs.Return.{goes, comes, Came, gave, gave_up}
use Rattle.model.specs.Histories.{Call, begins, commits, abandons, inserts, deletes, returns, prunes, call_by}

-- current version, whether an update is open, the oldest version, and the settings of each version from there up to the last
pub record Machine : Type 0 where
  pub current : ℕ
  pub opened : Bool
  pub oldest : ℕ
  pub shows : ℕ → List Pair

-- beside a fresh store
abbrev pub start : Machine
start = record { current = 0; opened = false; oldest = 0; shows = λ (v : ℕ). [] }

-- the settings with those of version w replaced
abbrev pub put : ℕ → List Pair → (ℕ → List Pair) → ℕ → List Pair
put w us f v = pick (eqb v w) us (f v)

-- the settings of the open version changed
abbrev pub edited : (List Pair → List Pair) → Machine → Machine
edited g m =
    record {
      current = m.current;
      opened = m.opened;
      oldest = m.oldest;
      shows = put (suc m.current) (g (m.shows (suc m.current))) m.shows;
    }

-- An accepted call. An update begins with the settings of the current version; "At the open version the open update's accepted calls so
-- far are applied too."
abbrev pub step : Machine → Call → Machine
step m begins =
    record { current = m.current; opened = true; oldest = m.oldest; shows = put (suc m.current) (m.shows m.current) m.shows }
step m commits = record { current = suc m.current; opened = false; oldest = m.oldest; shows = m.shows }
step m abandons = record { current = m.current; opened = false; oldest = m.oldest; shows = m.shows }
step m (inserts k x) = edited (enter_pair (pair k x)) m
step m (deletes k) = edited (those (λ (y : Pair). not (eqb y.key k))) m
-- 2026-07: "makes the open version's settings equal those of a committed version"
step m (returns v) = edited (λ (us : List Pair). m.shows v) m
-- 2026-12: the versions below are no longer shown
step m (prunes v) = record { current = m.current; opened = m.opened; oldest = v; shows = m.shows }

-- a store and the machine, call by call: a refused call leaves both; 2026-07: a return "that ends in 12 or 13 is itself the abandon"
pub record Both : Type 0 where
  pub store : Store
  pub machine : Machine

abbrev pub onward : Both → Call → Came → Both
onward b c (gave (done t)) = record { store = t; machine = step b.machine c }
onward b c (gave (refused n)) = b
onward b c (gave_up n t) = record { store = t; machine = step b.machine abandons }

abbrev pub together : ℕ → Both → List Call → Both
together least b [] = b
together least b (c ∷ cs) = together least (onward b c (call_by least b.store c)) cs

-- at the start: a fresh store of n pages
abbrev pub beginning : ℕ → Both
beginning n = record { store = fresh n; machine = start }

-- "For a sound store lent from elsewhere, the settings its walks show stand for the history so far."
abbrev pub lent : Store → Both
lent s = record { store = s; machine = record { current = s.current; opened = s.opened; oldest = s.oldest; shows = settings s } }

-- "a value is any 32 bits"
abbrev pub fits : Call → Bool
fits begins = true
fits commits = true
fits abandons = true
fits (inserts k x) = ltb x 4294967296
fits (deletes k) = true
fits (returns v) = true
fits (prunes v) = true

-- the calls that leave an open update open if they are done: all but commit and abandon, which end it. Another open is refused there,
-- and a prune.
abbrev pub is_inside : Call → Bool
is_inside begins = true
is_inside commits = false
is_inside abandons = false
is_inside (inserts k x) = true
is_inside (deletes k) = true
is_inside (returns v) = true
is_inside (prunes v) = true

-- and any call that is refused, as a commit is by 15; not a return that is the abandon
abbrev pub stays_in : Call → Came → Bool
stays_in c (gave (done t)) = is_inside c
stays_in c (gave (refused n)) = true
stays_in c (gave_up n t) = false

-- calls one after another, none of which ends an open update
abbrev pub inside : ℕ → Both → List Call → Bool
inside least b [] = true
inside least b (c ∷ cs) = stays_in c (call_by least b.store c) && inside least (onward b c (call_by least b.store c)) cs

-- "their number is those inserts less those deletes": how many were accepted in the updates up to each version
pub record Tally : Type 0 where
  pub added : ℕ → ℕ
  pub removed : ℕ → ℕ

abbrev pub nothing_yet : Tally
nothing_yet = record { added = λ (v : ℕ). 0; removed = λ (v : ℕ). 0 }

abbrev pub put_count : ℕ → ℕ → (ℕ → ℕ) → ℕ → ℕ
put_count w n f v = pick (eqb v w) n (f v)

abbrev pub counted : Machine → Tally → Call → Tally
counted m t begins =
    record {
      added = put_count (suc m.current) (t.added m.current) t.added;
      removed = put_count (suc m.current) (t.removed m.current) t.removed;
    }
counted m t commits = t
counted m t abandons = t
counted m t (inserts k x) =
    record { added = put_count (suc m.current) (suc (t.added (suc m.current))) t.added; removed = t.removed }
counted m t (deletes k) =
    record { added = t.added; removed = put_count (suc m.current) (suc (t.removed (suc m.current))) t.removed }
-- a return's own, by what differs
counted m t (returns v) =
    let w = suc m.current in
    let ds = differ (m.shows w) (m.shows v) in
    record {
      added = put_count w (length (those comes ds) + t.added w) t.added;
      removed = put_count w (length (those goes ds) + t.removed w) t.removed;
    }
counted m t (prunes v) = t

abbrev pub counted_by : Machine → Tally → Call → Came → Tally
counted_by m t c (gave (done s)) = counted m t c
counted_by m t c (gave (refused n)) = t
counted_by m t c (gave_up n s) = t

abbrev pub tallied : ℕ → Both → Tally → List Call → Tally
tallied least b t [] = t
tallied least b t (c ∷ cs) =
    tallied least (onward b c (call_by least b.store c)) (counted_by b.machine t c (call_by least b.store c)) cs
