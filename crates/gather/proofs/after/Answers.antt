-- `gather::after` meets its contract: those counted and those that stay of what is left are all. Assumes nothing.
use Prim.Native.Nat.{ℕ, ◌+◌}
use mathlib.Core.Path.{◌≡◌, ap, ◌∙◌}
use mathlib.Core.List.{List, [], ◌∷◌}
use native.Mathlib.Omega.{arith}
use Rattle.std.specs.Int.{from_bool}
use Rattle.model.specs.declared.Entry.{Entry}
use Rattle.model.specs.Layout.{decode_page}
use Rattle.page.proofs.laws.Read.{count_read}
use Rattle.edit.specs.Change.{change_of}
use Rattle.gather.proofs.laws.Kept.{one-most, stays, staying, staying-none, staying-step, after_is, rest, rest_all, rest-step, rest-none}
use Rattle.gather.proofs.after.Goals as goal

pub entry_at-requires : goal.entry_at-requires
entry_at-requires c = omega (arith, count_read _ _ c.head_of-h.ensures)

pub loop-i-preserved : goal.loop-i-preserved
loop-i-preserved c =
    let b : List ℕ = c.args.page.now in
    let d = change_of c.args.c in
    let n = c.head_of-h.result.count in
    let i = c.loop-i.i in
    let e : Entry = c.entry_at.result in
    let s : rest b i n ≡ e ∷ rest b (i + 1) n = rest-step b i n (omega arith) ∙ rw c.entry_at.ensures in
    let t : c.from-n.result ≡ from_bool (stays c.args.w d e) = c.from-n.ensures ∙ rw c.goes.ensures in (
      omega (arith, t, one-most (stays c.args.w d e)),
      omega (arith, c.loop-i.invariant.1, t, ap (staying c.args.w d) s, staying-step c.args.w d e (rest b (i + 1) n)),
    )

pub overflow_add-result : goal.overflow_add-result
overflow_add-result c = omega (arith, count_read _ _ c.head_of-h.ensures)

pub returns : goal.returns
returns c =
    let b : List ℕ = c.args.page.now in
    let d = change_of c.args.c in
    let n = c.head_of-h.result.count in
    let z : rest b c.loop-i.i n ≡ [] = rest-none b c.loop-i.i n (omega arith) in
    let a = rest_all b c.args.l.least n (ap (λ h. h.count) c.head_of-h.ensures) in
    omega (
      arith,
      c.loop-i.invariant.1,
      ap (staying c.args.w d) z,
      staying-none c.args.w d,
      ap (staying c.args.w d) a,
      after_is c.args.w c.args.c (decode_page c.args.l.least b) c.requires.1,
    )
