-- Assumes nothing.
use mathlib.Core.Path.{◌≡◌, refl, sym, ◌∙◌}
use lib.Ieee.{nan, of_bits, binary32, of_fields, odd}
use Rattle.kinds.proofs.laws.Floats.{nan-only}
use Rattle.kinds.proofs.float_of.Goals as goal

nan_is : of_bits binary32 2143289344 ≡ nan
unfolding of_bits of_fields odd
nan_is = refl

pub returns-then-is_nan : goal.returns-then-is_nan
returns-then-is_nan c = nan_is ∙ sym (nan-only c.args.bits (sym c.is_nan.ensures ∙ c.if-is_nan.true))
