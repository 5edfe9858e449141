-- The bytes before this one are digits and `n` is their number, so the rest of the word decides. Assumes nothing.
use Rattle.std.proofs.Common.{◌≡◌, ◌^◌, ◌<◌, drop}
use Rattle.model.specs.Basic.{all}
use Rattle.lines.specs.Console.{digit, value_from}
use Rattle.lines.proofs.word.number.Given as goal

abbrev pub invariant-loop-b : goal.invariant-loop-b
invariant-loop-b l = record {
  small : l.n < 10 ^ l.b-index;
  digits : all digit (drop l.b-index l.word) ≡ all digit l.word;
  value : value_from l.n (drop l.b-index l.word) ≡ value_from 0 l.word;
}
