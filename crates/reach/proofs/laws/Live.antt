-- The live entries of a page, one after the other, and what a rule asks of them. Assumes nothing.
use Prim.Native.Nat.{ℕ, ◌+◌, ◌*◌, ◌<◌, ◌≤◌}
use mathlib.Core.Path.{◌≡◌}
use mathlib.Core.Bool.{true, false}
use mathlib.Core.List.{List, [], ◌∷◌}
use mathlib.Core.Logic.{⊎_elim}
use lib.Dec.{ltb, eqb}
use borrow.Author.Tests.{lt-ltb, le-ltb}
use Rattle.bits.proofs.laws.Put.{less}
use Rattle.model.specs.Basic.{pick}
use Rattle.model.specs.Entry.{pair_of, live_at}
use Rattle.model.specs.Sound.{starts_at}
use Rattle.model.specs.Layout.{read_entry}
use Rattle.page.proofs.laws.Read.{entries-step, entries-end}
use Rattle.reach.specs.Pending.{pairs_from, NextLive, first_key}

module _ (p : List ℕ) (v k n : ℕ) where
  pub pairs-live : k < n → live_at v (read_entry p (128 + 96 * k)) ≡ true
      → pairs_from p v k n ≡ pair_of (read_entry p (128 + 96 * k)) ∷ pairs_from p v (k + 1) n
  unfolding pairs_from
  pairs-live h e = rw (entries-step p k n h, e)

  pub pairs-dead : k < n → live_at v (read_entry p (128 + 96 * k)) ≡ false → pairs_from p v k n ≡ pairs_from p v (k + 1) n
  unfolding pairs_from
  pairs-dead h e = rw (entries-step p k n h, e)

  pub pairs_end : n ≤ k → pairs_from p v k n ≡ []
  unfolding pairs_from
  pairs_end h = rw (entries-end p (128 + 96 * k) k n h)

-- the key of the next live entry, or the page's high key
pub upper_first : (p : List ℕ) (v i n k high : ℕ) → NextLive p v i n k
    → pick (ltb k n) (read_entry p (128 + 96 * k)).key high ≡ first_key (pairs_from p v i n) high
upper_first p v i n k high x =
    ⊎_elim (λ l. rw (lt-ltb k n l, x.same, x.live l)) (λ l. rw (le-ltb k n l, x.same, pairs_end p v k n l)) (less k n)

-- the first live key
pub starts_none : (p : List ℕ) (v i n k low : ℕ) → NextLive p v i n k → n ≤ k → starts_at low (pairs_from p v i n) ≡ true
starts_none p v i n k low x l = rw (x.same, pairs_end p v k n l)

pub starts_first : (p : List ℕ) (v i n k low : ℕ) → NextLive p v i n k → k < n
    → starts_at low (pairs_from p v i n) ≡ eqb (read_entry p (128 + 96 * k)).key low
starts_first p v i n k low x l = rw (x.same, x.live l)
