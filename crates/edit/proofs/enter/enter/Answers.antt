-- `edit::enter::enter` meets its contract: the entry is inserted at its place. Assumes nothing.
use Rattle.model.proofs.Edition.{edition}
use Rattle.edit.specs.Place.{place_of}
use Rattle.edit.proofs.laws.Place.{place-low, entered-is}
use Rattle.page.specs.Insert.{with_entry}
use Rattle.page.proofs.laws.Read.{count_read, entries-of, length-entries}
use Rattle.page.specs.declared.Head.{Head}
use Rattle.model.specs.Layout.{count_of, encode_page, decode_page, read_entries}
use Rattle.edit.proofs.laws.Valid.{born-fits}
use native.Mathlib.Omega.{arith}
use mathlib.Core.List.{List}
use mathlib.Core.Path.{ap, sym, ◌∙◌}
use Prim.Native.Nat.{ℕ}
use Rattle.edit.proofs.enter.enter.Goals as goal
use Rattle.edit.proofs.enter.enter.Goals.{After-head_of-h}

pub place-i-requires : goal.place-i-requires
place-i-requires c = omega (arith, count_read _ _ c.head_of-h.ensures, c.requires.0.size, c.requires.1, (edition c.args.l).four, (edition c.args.l).eight)

pub insert_entry-requires : goal.insert_entry-requires
insert_entry-requires c =
    let a = c.args in (
      c.requires.0,
      c.requires.1,
      rw (c.place-i.ensures, count_read _ _ c.head_of-h.ensures)
          (omega (
            arith,
            place-low a.x.key a.w (read_entries a.page.now 128 (count_of a.l.least a.page.now)),
            length-entries a.page.now 128 (count_of a.l.least a.page.now),
          )),
      rw c.born.ensures (born-fits a.w a.x c.requires.3 (omega arith) c.requires.2),
    )

pub returns : goal.returns
returns c =
    let a = c.args in
    let p : List ℕ = a.page.now in
    let least = a.l.least in
    let es = ap (λ (h : Head). read_entries p 128 h.count) c.head_of-h.ensures ∙ sym (entries-of least p) in
    let i = c.place-i.ensures ∙ ap (place_of a.x.key a.w) es in
    c.insert_entry.ensures ∙ (λ j. encode_page least (with_entry (i j) (c.born.ensures j) (decode_page least p)))
    ∙ ap (encode_page least) (entered-is a.w a.x (decode_page least p))
