-- `gather::kept_pairs` meets its contract: the pairs listed and those kept of what is left are all. Assumes nothing.
use Prim.Native.Nat.{ℕ, ◌+◌, ◌*◌}
use mathlib.Core.Path.{◌≡◌, ap, sym, ◌∙◌}
use mathlib.Core.List.{List, [], ◌∷◌, ◌++◌, append-nil}
use native.Mathlib.Omega.{arith}
use lib.ListN.{set}
use Rattle.std.specs.Int.{from_bool}
use Rattle.model.specs.declared.Entry.{Entry}
use Rattle.model.specs.declared.Pair.{Pair}
use Rattle.model.specs.Basic.{keep}
use Rattle.page.proofs.laws.Read.{read-sized, count_read}
use Rattle.edit.specs.Change.{change_of}
use Rattle.gather.specs.declared.Gather.{Gather}
use Rattle.gather.specs.Gather.{Lists, pairs_in}
use Rattle.gather.specs.Kept.{kept_pairs}
use Rattle.gather.proofs.laws.Gather.{so_far, lists-none, lists-pushed-if}
use Rattle.gather.proofs.laws.Kept.{kept_step, one-most, rest, rest_all, rest-step, rest-none}
use Rattle.gather.proofs.kept_pairs.Goals as goal

pub loop-i-init : goal.loop-i-init
loop-i-init c = (lists-none.good, omega arith, rw lists-none.is)

pub entry_at-e-requires : goal.entry_at-e-requires
entry_at-e-requires c = omega (arith, count_read _ _ c.head_of-h.ensures)

pub bounds-list-n : goal.bounds-list-n
bounds-list-n c = omega (arith, count_read _ _ c.head_of-h.ensures, c.loop-i.invariant.1)

pub loop-i-preserved : goal.loop-i-preserved
loop-i-preserved c =
    let b : List ℕ = c.args.page.now in
    let count = c.head_of-h.result.count in
    let i = c.loop-i.i in
    let e : Entry = c.entry_at-e.result in
    let x : Pair = record { key = e.key; value = e.value } in
    let g : Gather = so_far c.loop-i.list c.loop-i.n in
    let yes = c.remains.result in
    let z = read-sized b (128 + 96 * i) in
    let r = c.entry_at-e.ensures in
    let more : Lists (so_far (set g.list g.n x) (g.n + from_bool yes)) (pairs_in g ++ keep yes x [])
    = lists-pushed-if g x c.loop-i.invariant.0 (omega (arith, count_read _ _ c.head_of-h.ensures, c.loop-i.invariant.1))
    (record { key = rw r z.key; value = rw r z.value }) yes in
    let s : rest b i count ≡ e ∷ rest b (i + 1) count = rest-step b i count (omega arith) ∙ rw r in (
      rw c.from-n.ensures more.good,
      omega (arith, c.from-n.ensures, one-most yes, c.loop-i.invariant.1),
      rw (c.from-n.ensures, more.is)
          (c.loop-i.invariant.2
          ∙ ap (λ (es : List Entry). pairs_in g ++ kept_pairs c.args.w (change_of c.args.c) es) s
          ∙ kept_step c.args.w (change_of c.args.c) e (rest b (i + 1) count) (pairs_in g) yes c.remains.ensures),
    )

pub returns : goal.returns
returns c =
    let b : List ℕ = c.args.page.now in
    let count = c.head_of-h.result.count in
    let g : Gather = so_far c.loop-i.list c.loop-i.n in
    let z : rest b c.loop-i.i count ≡ [] = rest-none b c.loop-i.i count (omega arith) in
    record {
      good = c.loop-i.invariant.0;
      is = sym (rw (rest_all b c.args.l.least count (ap (λ h. h.count) c.head_of-h.ensures))
          (c.loop-i.invariant.2 ∙ rw z (append-nil (pairs_in g))));
    }
