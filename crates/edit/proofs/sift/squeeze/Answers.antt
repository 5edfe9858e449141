-- `edit::sift::squeeze` meets its contract: before turn i the page begins with what is left of its first i entries. Assumes nothing.
use Rattle.model.proofs.Edition.{edition}
use Prim.Native.Nat.{ℕ, ◌+◌, ◌*◌}
use mathlib.Core.Path.{◌≡◌, refl, ap, sym, ◌∙◌}
use mathlib.Core.List.{List, ◌++◌}
use native.Mathlib.Omega.{arith}
use lib.ListN.{length, get_or, take, length-append}
use lib.Seq.{take_all}
use Rattle.model.specs.declared.Entry.{Entry}
use Rattle.model.specs.Layout.{count_of, read_entry, read_entries, unused}
use Rattle.page.specs.Stage.{staged}
use Rattle.std.specs.Prelude.{Option}
use Rattle.page.proofs.laws.Read.{read-sized, length-entries}
use Rattle.edit.specs.Fate.{fate_of, fate_at, left, laid}
use Rattle.edit.specs.Sift.{sifted}
use Rattle.edit.proofs.laws.Fate.{Sized, fate-sized}
use Rattle.edit.proofs.laws.Sift.{Staged, sift-none, sift-read, sift-step, sifted-more, length-left}
use Rattle.edit.proofs.sift.squeeze.Goals as goal

pub loop-i-init : goal.loop-i-init
unfolding sifted
loop-i-init c =
    let a = c.args in
    (refl, omega arith, sift-none a.page.now a.count a.rule a.w)

pub loop-i-preserved : goal.loop-i-preserved
loop-i-preserved c =
    let d = edition c.args.l in let a = c.args in let l = c.loop-i in
    let p : List ℕ = a.page.now in let r = a.rule in let w = a.w in
    let es : List Entry = read_entries p 128 a.count in
    let n : length es ≡ a.count = length-entries p 128 a.count in
    let out : List Entry = sifted r w (take l.i es) in
    let f : Option Entry = fate_at r w l.page l.i in
    let z : Sized f = fate-sized r w (read_entry l.page (128 + 96 * l.i)) (read-sized _ _) c.requires.2 in
    let same : f ≡ fate_of r w (get_or es l.i unused)
    = ap (fate_of r w) (sift-read p l.page a.count out l.i a.l.least d.four d.eight c.requires.0
    c.requires.1 l.invariant.2 (omega arith) (omega arith)) in
    let more : sifted r w (take (l.i + 1) es) ≡ out ++ left f
    = sifted-more r w es l.i (omega arith) ∙ ap (λ (x : Option Entry). out ++ left x) (sym same) in
    let put : Staged p a.count (out ++ left f) (laid l.page l.j f)
    = rw l.invariant.0 (sift-step p l.page a.count out f l.invariant.2 (omega arith) z) in (
      c.step-j.ensures.1 ∙ rw more (omega (arith, length-append out (left f), l.invariant.0)),
      omega (arith, c.step-j.ensures.1, length-left f),
      λ least four eight x e. c.step-j.ensures.0 ∙ put least four eight x e ∙ ap (staged least p) (sym more),
    )

pub returns : goal.returns
returns c =
    let d = edition c.args.l in let a = c.args in let l = c.loop-i in
    let p : List ℕ = a.page.now in
    let es : List Entry = read_entries p 128 a.count in
    let n : length es ≡ a.count = length-entries p 128 a.count in
    let all : take l.i es ≡ es = take_all l.i es (omega arith) in
    let e : es ≡ read_entries p 128 (count_of a.l.least p) = ap (read_entries p 128) c.requires.1 in (
      l.invariant.2 a.l.least d.four d.eight c.requires.0 c.requires.1
          ∙ ap (λ (y : List Entry). staged a.l.least p (sifted a.rule a.w y)) (all ∙ e),
      l.invariant.0 ∙ ap (λ (y : List Entry). length (sifted a.rule a.w y)) (all ∙ e),
    )
