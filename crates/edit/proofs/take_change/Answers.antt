-- `edit::take_change` meets its contract: the ends, then each pair that enters. Assumes nothing.
use Rattle.model.proofs.Edition.{edition}
use mathlib.Core.Path.{◌≡◌, ap, ◌∙◌}
use native.Mathlib.Omega.{arith}
use Rattle.model.specs.Layout.{encode_page, decode_page}
use Rattle.page.specs.Exact.{Valid}
use Rattle.page.proofs.laws.Exact.{valid-read, encode-exact, encode-count, decode-encode}
use Rattle.edit.specs.Change.{first}
use Rattle.edit.proofs.laws.Change.{second, third, third-is, first-valid, first-room, second-valid, second-room}
use Rattle.edit.proofs.take_change.Goals as goal
use Rattle.edit.proofs.take_change.Goals.{Start, After-enter_if}

one-valid : (c : Start) → let a = c.args in Valid a.l.least (first a.w a.c (decode_page a.l.least a.page.now))
one-valid c =
    let a = c.args in
    first-valid a.l.least a.w a.c (decode_page a.l.least a.page.now) (valid-read a.l.least a.page.now c.requires.0.room)
    c.requires.1 c.requires.2 (omega arith) c.requires.4

two-valid : (c : Start) → let a = c.args in Valid a.l.least (second a.w a.c (decode_page a.l.least a.page.now))
two-valid c =
    let a = c.args in
    second-valid a.l.least a.w a.c (decode_page a.l.least a.page.now) (valid-read a.l.least a.page.now c.requires.0.room)
    c.requires.1 c.requires.2 (omega arith) c.requires.4

pub enter_if-requires : goal.enter_if-requires
enter_if-requires c =
    let a = c.args in let d = edition c.args.l in let least = a.l.least in
    let p = decode_page least a.page.now in
    let q = first a.w a.c p in
    let v = one-valid (goal.at.enter_if-requires c).Start in
    let e = c.end_dropped.ensures in (
      rw e (encode-exact least d.four d.eight q v),
      rw (e, encode-count least d.four d.eight q v)
          (first-room least a.w a.c p (valid-read least a.page.now c.requires.0.room) c.requires.1 c.requires.2 (omega arith) c.requires.4),
      c.requires.1,
      c.requires.2,
    )

two_ends : (c : After-enter_if) → let a = c.args in Valid a.l.least (first a.w a.c (decode_page a.l.least a.page.now)) →
    c.enter_if.new.page ≡ encode_page a.l.least (second a.w a.c (decode_page a.l.least a.page.now))
unfolding second
two_ends c v =
    let a = c.args in let d = edition c.args.l in
    let q = first a.w a.c (decode_page a.l.least a.page.now) in
    c.enter_if.ensures ∙ rw (c.end_dropped.ensures, decode-encode a.l.least d.four d.eight q v)

pub enter_if-requires-2 : goal.enter_if-requires-2
enter_if-requires-2 c =
    let a = c.args in let d = edition c.args.l in let least = a.l.least in
    let p = decode_page least a.page.now in
    let q = second a.w a.c p in
    let v = two-valid (goal.at.enter_if-requires-2 c).Start in
    let e = two_ends (goal.at.enter_if-requires-2 c).After-enter_if (one-valid (goal.at.enter_if-requires-2 c).Start) in (
      rw e (encode-exact least d.four d.eight q v),
      rw (e, encode-count least d.four d.eight q v)
          (second-room least a.w a.c p (valid-read least a.page.now c.requires.0.room) c.requires.1 c.requires.2 (omega arith) c.requires.4),
      c.requires.1,
      c.requires.3,
    )

pub returns : goal.returns
unfolding third
returns c =
    let a = c.args in let d = edition c.args.l in let least = a.l.least in
    let p = decode_page least a.page.now in
    let q = second a.w a.c p in
    let e = two_ends (goal.at.returns c).After-enter_if (one-valid (goal.at.returns c).Start) in
    c.enter_if-2.ensures
    ∙ rw (e, decode-encode least d.four d.eight q (two-valid (goal.at.returns c).Start))
    (ap (encode_page least) (third-is a.w a.c p))
