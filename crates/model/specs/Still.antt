-- How long nothing changes, and how the stretches of a life are told. Words of contracts inside the code, as Inner; the laws stand in
-- proofs/Lives.
-- Assumes nothing.
use Rattle.std.specs.Prelude.{ℕ, ◌≤◌, ◌<◌, ◌≡◌, refl}
use Rattle.model.specs.declared.Stretch.{Stretch}
use Rattle.model.specs.Life.{stretch_numbers}
use Rattle.model.specs.Telling.{Shape}
use Rattle.model.specs.Inner.{Out}

-- f says at each version from v up to q what it says at v; q is behind v, and r at most
pub record Until {A : Type 0} (v r : ℕ) (f : ℕ → A) (q : ℕ) : Type 0 where
  pub below : q ≤ r
  pub above : v < q
  pub still : (w : ℕ) → v ≤ w → w < q → f w ≡ f v

-- q is behind v, r at most, and x does not stand between v and q
pub record Sooner (v r x q : ℕ) : Type 0 where
  pub below : q ≤ r
  pub above : v < q
  pub out : Out v q x

abbrev pub stretch : (v r x : ℕ) → Stretch
stretch v r x = record { start = v; end = r; value = x }

-- "Each stretch takes three numbers"
abbrev pub stretches : Shape Stretch
stretches = record { numbers = stretch_numbers; each = 3; size = λ a. refl }
