-- An answer found within a budget of `left` pages: so many are left where the tests hold, and where the budget is used up nothing is known.
use Rattle.std.specs.Prelude.{ℕ, ◌≤◌, Bool, true, false, ◌≡◌, Result, Ok, Err, ⊤}
use Rattle.quick.specs.declared.within.Stop.{Stop}
use Rattle.quick.specs.declared.within.Stop.TheVariants.{Wrong, UsedUp}

abbrev pub QuickRight : ℕ → Bool → Result ℕ Stop → Type 0
QuickRight left x (Ok rest) = (rest ≤ left) × (x ≡ true)
QuickRight left x (Err Wrong) = x ≡ false
QuickRight left x (Err UsedUp) = ⊤
