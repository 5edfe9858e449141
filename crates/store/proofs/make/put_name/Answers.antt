-- `store::make::put_name` meets its contract: five bytes are five fields of eight bits. Assumes nothing.
use Rattle.std.proofs.Common.{arith, ap, ◌∙◌}
use Prim.Native.Nat.{ℕ}
use mathlib.Core.List.{List, ◌++◌}
use lib.ListN.{set, drop}
use Rattle.store.proofs.laws.Fresh.{name-written, name-laid}
use Rattle.store.proofs.make.put_name.Goals as goal

pub returns : goal.returns
returns c =
    let a = c.args in let s = a.s.now in
    ap (λ (n : List ℕ). set (n ++ drop 4 s) 4 a.edition) c.copy_from_slice.ensures.after
    ∙ ap (λ (b : List ℕ). set b 4 a.edition) (name-written s (omega arith))
    ∙ name-laid s a.edition c.requires.1 c.requires.0 (omega arith)
