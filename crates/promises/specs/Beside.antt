-- The machine of plain settings (model's Settings) beside lent bytes. Accepted calls step it; refused calls and readings leave it; making
-- fresh begins it anew; a return that ends in 12 or 13 abandons.
-- Assumes nothing.
use Rattle.std.specs.Prelude.{ℕ, zero, suc, List, [], ◌∷◌, length}
use Rattle.model.specs.Basic.{pick}
use Rattle.model.specs.Store.{fresh}
use Rattle.model.specs.Walk.{settings}
use Rattle.model.specs.Layout.{encode}
use Rattle.model.specs.Histories.{abandons}
use Rattle.model.specs.Settings.{Machine, start, step, Tally, nothing_yet, counted}
use Rattle.promises.specs.Accepts.{store_of}
use Rattle.promises.specs.Runs.{Turn, turned, Kind, making, changing, reading, kind_of, gives_up}

-- bytes, the machine, and how many inserts and deletes were accepted
pub record Beside : Type 0 where
  pub bytes : List ℕ
  pub machine : Machine
  pub tally : Tally

-- ---- one call

-- the first of two where a call gives 0, else the second
abbrev pub when_done {ℓ} : {A : Type ℓ} → ℕ → A → A → A
when_done zero a b = a
when_done (suc n) a b = b

abbrev pub stepped : Kind → Machine → Machine
stepped making m = start
stepped (changing c) m = step m c
stepped reading m = m

-- after a number other than 0; 2026-07: "one that ends in 12 or 13 is itself the abandon"
abbrev pub undone : Kind → ℕ → Machine → Machine
undone k n m = pick (gives_up k n) (step m abandons) m

abbrev pub tallied_by : Kind → Machine → Tally → Tally
tallied_by making m t = nothing_yet
tallied_by (changing c) m t = counted m t c
tallied_by reading m t = t

abbrev pub onward : Beside → Turn → Beside
onward x t =
    let e = turned x.bytes t in
    let k = kind_of t.call in
    record {
      bytes = e.store;
      machine = when_done e.number (stepped k x.machine) (undone k e.number x.machine);
      tally = when_done e.number (tallied_by k x.machine x.tally) x.tally;
    }

-- ---- one after another

abbrev pub along : Beside → List Turn → Beside
along x [] = x
along x (t ∷ ts) = along (onward x t) ts

-- from a fresh store of n pages, of the edition with that least
abbrev pub from_fresh : ℕ → ℕ → Beside
from_fresh least n = record { bytes = encode least (fresh n); machine = start; tally = nothing_yet }

-- "For a sound store lent from elsewhere, the settings its walks show stand for the history so far."
abbrev pub from_lent : List ℕ → Beside
from_lent b =
    let s = store_of b in
    record {
      bytes = b;
      machine = record { current = s.current; opened = s.opened; oldest = s.oldest; shows = settings s };
      tally = record { added = λ (v : ℕ). length (settings s v); removed = λ (v : ℕ). 0 };
    }
