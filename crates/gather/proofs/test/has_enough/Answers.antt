-- `gather::test::has_enough` meets its contract: the wanted list is as long as what is counted and what is left of the entries. Assumes
-- nothing.
use native.Mathlib.Omega.{arith}
use Prim.Native.Nat.{ℕ, ◌≤◌, ◌+◌}
use mathlib.Core.Path.{◌≡◌, ap, sym, ◌∙◌}
use mathlib.Core.List.{List, [], ◌∷◌}
use borrow.Author.Tests.{le-leb}
use lib.Dec.{leb}
use lib.ListN.{length}
use Rattle.model.specs.declared.Entry.{Entry}
use Rattle.model.specs.Page.{wanted}
use Rattle.model.specs.Layout.{decode_page}
use Rattle.page.proofs.laws.Read.{count_read}
use Rattle.edit.specs.Change.{change_of}
use Rattle.gather.specs.Kept.{kept_pairs}
use Rattle.gather.proofs.laws.Kept.{one-most, rest, rest_all, rest-step, rest-none}
use Rattle.gather.proofs.laws.Tests.{kept_more, wanted-long}
use Rattle.gather.proofs.test.has_enough.Goals as goal
use Rattle.gather.proofs.test.has_enough.Goals.{After-head_of-h}

whole_is : (c : After-head_of-h)
    →
    length (wanted c.args.w (change_of c.args.c) (decode_page c.args.l.least c.args.page.now))
    ≡ c.args.c.takes + length
    (kept_pairs c.args.w (change_of c.args.c) (rest c.args.page.now 0 c.head_of-h.result.count))
whole_is c =
    wanted-long c.args.w c.args.c (decode_page c.args.l.least c.args.page.now)
    c.requires.1
    ∙ ap (λ (es : List Entry). c.args.c.takes + length (kept_pairs c.args.w (change_of c.args.c) es))
    (rest_all c.args.page.now c.args.l.least c.head_of-h.result.count (ap (λ h. h.count) c.head_of-h.ensures))

pub loop-i-init : goal.loop-i-init
loop-i-init c = (omega (arith, c.requires.1.takes), omega arith)

pub returns-then-l-n : goal.returns-then-l-n
returns-then-l-n c =
    let many : c.args.l.least ≤ length
    (wanted c.args.w (change_of c.args.c) (decode_page c.args.l.least c.args.page.now))
    = omega (arith, c.if-l-n.true, c.loop-i.invariant.1, whole_is (goal.at.returns-then-l-n c).After-head_of-h) in
    sym (le-leb _ _ many)

pub entry_at-requires : goal.entry_at-requires
entry_at-requires c = omega (arith, count_read _ _ c.head_of-h.ensures, c.requires.0.room, c.requires.0.long, c.requires.0.edition.eight)

pub loop-i-preserved : goal.loop-i-preserved
loop-i-preserved c =
    let at = c.loop-i in
    let a = c.args in
    let b : List ℕ = a.page.now in
    let n = c.head_of-h.result.count in
    let e : Entry = c.entry_at.result in
    let s : rest b at.i n ≡ e ∷ rest b (at.i + 1) n = rest-step b at.i n (omega arith) ∙ rw c.entry_at.ensures in
    let more = ap (λ (es : List Entry). length (kept_pairs a.w (change_of a.c) es)) s
    ∙ kept_more a.w (change_of a.c) e (rest b (at.i + 1) n) c.remains.result c.remains.ensures in
    (omega (arith, c.from-n.ensures, one-most c.remains.result), omega (arith, at.invariant.1, c.from-n.ensures, more))

pub returns : goal.returns
returns c =
    let at = c.loop-i in
    let a = c.args in
    let n = c.head_of-h.result.count in
    let none : rest a.page.now at.i n ≡ [] = rest-none a.page.now at.i n (omega arith) in
    let nil : length (kept_pairs a.w (change_of a.c) (rest a.page.now at.i n)) ≡ 0 = rw none in
    ap (leb a.l.least) (omega (arith, at.invariant.1, nil, whole_is (goal.at.returns c).After-head_of-h))
