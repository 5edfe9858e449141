-- `store::make::make` meets its contract: the stages of specs/Fresh, one call after the other. Assumes nothing.
use Rattle.model.proofs.Edition.{edition}
use Rattle.store.specs.Fresh.{root_head}
use Rattle.store.proofs.laws.Fresh.{root_slot, fresh_header, made}
use Rattle.store.specs.Header.{named_by, put_header}
use Rattle.store.proofs.laws.Header.{name_parts}
use Rattle.store.specs.Slots.{slot_parts}
use Rattle.page.specs.Head.{put_head}
use Rattle.model.specs.Layout.{page_of, with_page, size_of}
use Rattle.model.specs.Field.{lay, zeros}
use Prim.Native.Nat.{ℕ, ◌+◌, ◌*◌}
use mathlib.Core.List.{List}
use mathlib.Core.Path.{ap, ◌∙◌}
use Rattle.store.proofs.make.make.Goals as goal

pub returns : goal.returns
returns c =
    let a = c.args in let d = edition c.args.l in let least = a.l.least in
    let n : ℕ = size_of least a.s.now in
    let z : List ℕ = zeros (n * (64 * least)) in
    let e1 = c.put_name.ensures ∙ ap (λ (b : List ℕ). lay b 0 (named_by c.edition_of.result))
    (c.clear.ensures ∙ ap zeros c.requires.whole) ∙ ap (λ (e : ℕ). lay z 0 (named_by e)) c.edition_of.ensures in
    let e2 = c.put_header.ensures ∙ ap (λ (b : List ℕ). put_header least b (fresh_header c.size-n.result)) e1
    ∙ ap (λ (k : ℕ). put_header least (lay z 0 (name_parts least)) (fresh_header k)) c.size-n.ensures in
    let e3 = c.put_slot.ensures ∙ ap (λ (b : List ℕ). lay b (512 * least + 32 * 0) (slot_parts root_slot)) e2 in
    c.put_root.ensures ∙ ap (λ (b : List ℕ). with_page least b 5 (put_head least (page_of least b 5) root_head)) e3
    ∙ made least d.four d.eight n c.requires.six c.requires.most
