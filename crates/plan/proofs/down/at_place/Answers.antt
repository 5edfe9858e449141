use Rattle.plan.proofs.laws.Way.{Taken, taken_is, taken-among}
use borrow.Author.Tests.{lt-ltb, le-ltb, le-leb, lt-leb}
use lib.Dec.{leb, ltb}
use mathlib.Core.Bool.{true, false}
use mathlib.Core.Path.{◌≡◌, sym, ◌∙◌}
use Prim.Native.Nat.{◌-◌}
use native.Mathlib.Omega.{arith}
use Rattle.plan.proofs.down.at_place.Goals as goal
use Rattle.plan.proofs.down.at_place.Goals.{then-i-lt2, else-i-lt2, then-g-i, else-g-i}

pub returns : goal.returns
returns c =
    let g = c.args.g in
    let i = c.args.i in
    let p : Taken g c.requires.0 i c.requires.2 c.requires.3 (ltb i 2) (i - 2) c.if-i-lt2.left = elim c.if-i-lt2.branch [
      | then-i-lt2 w ↦ record { none = λ e. w.left-is; some = λ e. absurd (clash (sym (lt-ltb i 2 w.if-i-lt2.true) ∙ e)) }
      | else-i-lt2 w ↦ record {
        none = λ e. absurd (clash (sym e ∙ le-ltb i 2 w.if-i-lt2.false));
        some = λ e. (omega arith, w.left-is);
      }
    ] in
    let q : Taken g c.requires.0 i c.requires.2 c.requires.3 (leb g.n i) i c.if-g-i.right = elim c.if-g-i.branch [
      | then-g-i w ↦ record { none = λ e. w.right-is; some = λ e. absurd (clash (sym (le-leb g.n i w.if-g-i.true) ∙ e)) }
      | else-g-i w ↦ record {
        none = λ e. absurd (clash (sym e ∙ lt-leb g.n i w.if-g-i.false));
        some = λ e. (omega arith, w.right-is);
      }
    ] in (
      taken_is g c.requires.0 i c.requires.2 c.requires.3 c.if-i-lt2.left c.if-g-i.right p q,
      taken-among g c.requires.0 i c.requires.2 c.requires.3 c.if-i-lt2.left c.if-g-i.right p q,
    )
  where
    clash : true ≡ false → ⊥
    clash e = cc
