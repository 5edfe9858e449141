-- What check gives: a number, and with 4 the lowest broken rule.
use Rattle.std.specs.Prelude.{ℕ}

pub record Verdict : Type 0 where
  pub number : ℕ
  pub rule : ℕ
