-- `edit::sift::sift` meets its contract: the entries closed up, those behind unused, the front for them, and how many live. Assumes
-- nothing.
use Rattle.model.proofs.Edition.{edition}
use Rattle.model.specs.Limits.{live_shown}
use Rattle.edit.specs.Sift.{sifted}
use Rattle.edit.proofs.laws.Sift.{sifted_head, fewer, head-fits, sift-end}
use Rattle.edit.proofs.laws.Counted.{sift-live, sift-low}
use Rattle.edit.specs.Fate.{end_of}
use Rattle.page.specs.Stage.{staged, blanked, entries_in}
use Rattle.page.proofs.laws.Read.{count_read}
use Rattle.page.specs.Head.{read_head, put_head, put_live, HeadFits}
use Rattle.page.specs.declared.Head.{Head}
use Rattle.model.specs.Layout.{lives, count_of, read_entries}
use Rattle.model.specs.Basic.{those}
use Rattle.model.specs.declared.Entry.{Entry}
use lib.ListN.{length}
use native.Mathlib.Omega.{arith}
use mathlib.Core.List.{List}
use mathlib.Core.Path.{ap, ◌∙◌}
use Prim.Native.Nat.{ℕ, ◌≤◌, ◌-◌}
use Rattle.edit.proofs.sift.sift.Goals as goal
use Rattle.edit.proofs.sift.sift.Goals.{After-head_of-h, After-squeeze-n}

few : (c : After-squeeze-n) →
    c.squeeze-n.result ≤ count_of c.args.l.least c.args.page.now
few c =
    rw c.squeeze-n.ensures.1
    (fewer c.args.l.least (edition c.args.l).four (edition c.args.l).eight c.args.page.now c.requires.0
    c.args.rule c.args.w c.requires.1)

pub squeeze-n-requires : goal.squeeze-n-requires
squeeze-n-requires c = (c.requires.0, count_read _ _ c.head_of-h.ensures, c.requires.1)

pub blank-requires : goal.blank-requires
blank-requires c =
    omega (
      arith,
      c.squeeze-n.auto.page,
      few (goal.at.blank-requires c).After-squeeze-n,
      count_read _ _ c.head_of-h.ensures,
      c.requires.0.size,
      c.requires.0.room,
      (edition c.args.l).four,
      (edition c.args.l).eight,
    )

pub put_head-requires : goal.put_head-requires
put_head-requires c =
    let a = c.args in let d = edition c.args.l in
    let f : HeadFits a.l.least
    (sifted_head a.rule a.w (read_head a.l.least a.page.now)
    (length (sifted a.rule a.w (entries_in a.l.least a.page.now))))
    = head-fits a.l.least d.four d.eight a.page.now c.requires.0 a.rule a.w c.requires.1 in (
      record {
        level = rw c.head_of-h.ensures f.level;
        count = rw c.squeeze-n.ensures.1 f.count;
        start = rw c.head_of-h.ensures f.start;
        end = rw (c.end_of.ensures, c.head_of-h.ensures) f.end;
      },
      omega (arith, c.blank.auto.page, c.squeeze-n.auto.page, c.requires.0.size, d.four),
      omega (arith, c.blank.auto.page, c.squeeze-n.auto.page, c.requires.0.size, d.eight),
    )

pub show_live-requires : goal.show_live-requires
show_live-requires c =
    let a = c.args in let d = edition c.args.l in (
      rw c.squeeze-n.ensures.1
          (sift-low a.l.least d.four d.eight a.page.now c.requires.0 a.rule a.w c.requires.1),
      omega (
        arith,
        c.put_head.auto.page,
        c.blank.auto.page,
        c.squeeze-n.auto.page,
        few (goal.at.show_live-requires c).After-squeeze-n,
        c.requires.0.size,
        c.requires.0.room,
        d.four,
      ),
      omega (
        arith,
        c.put_head.auto.page,
        c.blank.auto.page,
        c.squeeze-n.auto.page,
        c.requires.0.size,
        d.eight,
      ),
    )

pub returns : goal.returns
returns c =
    let a = c.args in let d = edition c.args.l in
    let least = a.l.least in
    let p : List ℕ = a.page.now in
    let h = c.head_of-h.ensures in
    let k = c.squeeze-n.ensures in
    let out : List Entry = sifted a.rule a.w (entries_in least p) in
    let q : List ℕ = blanked (staged least p out) (length out) (count_of least p - length out) in
    let end = c.end_of.ensures ∙ ap (λ (x : Head). end_of a.rule a.w x.end) h in
    let bytes = ◌∙◌ {c = q} c.blank.ensures (rw (k.0, k.1, count_read _ _ c.head_of-h.ensures)) in
    let front = c.put_head.ensures
    ∙ (λ i. put_head least (bytes i) (record { level = (h i).level; count = k.1 i; start = (h i).start; end = end i }))
    ∙ sift-end least d.four d.eight p c.requires.0 a.rule a.w c.requires.1 in
    c.show_live.ensures
    ∙ (λ i. put_live least (front i) (live_shown least (length (those lives (read_entries (front i) 128 (k.1 i))))))
    ∙ sift-live least d.four d.eight p c.requires.0 a.rule a.w c.requires.1
