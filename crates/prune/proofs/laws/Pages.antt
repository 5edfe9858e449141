-- What a prune makes of one page. Assumes nothing.
use Prim.Native.Nat.{ℕ, ◌≤◌, ◌<◌}
use native.Mathlib.Omega.{arith}
use mathlib.Core.Bool.{Bool, true, false}
use mathlib.Core.Path.{◌≡◌, refl}
use lib.Dec.{leb}
use borrow.Author.Tests.{le-leb, lt-leb}
use Rattle.model.specs.Basic.{pick}
use Rattle.model.specs.Page.{Page, free}
use Rattle.model.specs.Calls.{pruned_page}
use Rattle.page.specs.Exact.{Valid}
use Rattle.page.proofs.laws.Exact.{valid-free}

pub pruned-yes : (v : ℕ) (p : Page) → p.end ≤ v → pruned_page v p ≡ free
pruned-yes v p h = rw (le-leb p.end v h) refl

pub pruned-no : (v : ℕ) (p : Page) → v < p.end → pruned_page v p ≡ p
pruned-no v p h = rw (lt-leb p.end v h) refl

pub free-pruned : (v : ℕ) → pruned_page v free ≡ free
free-pruned v = pruned-yes v free (omega arith)

pub valid-pruned : (least v : ℕ) (p : Page) → Valid least p → Valid least (pruned_page v p)
valid-pruned least v p h = at (leb p.end v)
  where
    at : (b : Bool) → Valid least (pick b free p)
    at true = valid-free least
    at false = h
