use Prim.Native.Nat.{◌+◌, ◌≤◌, ◌<◌}
use native.Mathlib.Omega.{arith}
use mathlib.Core.List.{List}
use mathlib.Core.Path.{◌≡◌, refl, ap, sym, subst, ◌∙◌}
use Rattle.std.specs.Prelude.{Option, Some, None}
use Rattle.std.specs.Option.{is_some}
use mathlib.Core.Bool.{Bool, true, false, not, true≢false}
use lib.Dec.{eqb}
use Rattle.model.specs.declared.Kind.{Kind}
use Rattle.model.specs.declared.Pair.{Pair}
use Rattle.model.specs.Kinds.{unknown, known_in}
use Rattle.model.specs.Walk.{settings, between}
use Rattle.model.specs.Layout.{decode}
use Rattle.model.specs.Named.{all_known}
use Rattle.differ.proofs.laws.Listing.{reads-rising}
use Rattle.named.proofs.laws.Onward.{range-between, leads-low, known-none, known-not, known_on, known_over}
use Rattle.named.proofs.ranging.all_known.Goals as goal

pub loop-key-init : goal.loop-key-init
loop-key-init c =
    let a = c.args in
    ap (all_known a.table.now) (sym (range-between c.requires.0 a.low a.high c.requires.1))

pub returns-then-high-x : goal.returns-then-high-x
returns-then-high-x c =
    let a = c.args in
    let q = c.requires in
    let k = c.loop-key.key in
    let us : List Pair = settings (decode a.l.least a.s.now) a.v in
    let e = c.first_from-x.ensures in
    let h = subst (λ (x : Pair). a.high < x.key) e c.if-high-x.true in
    sym (known-none a.table.now k a.high us (reads-rising q.0) h) ∙ c.loop-key.invariant

-- of a key that the layer does not know
none-unknown : (o : Option Kind) (r : Bool) → is_some o ≡ not r → r ≡ true → eqb (unknown o) 0 ≡ false
none-unknown None r m e = refl
none-unknown (Some k) r m e = absurd (true≢false (m ∙ ap not e))

some-known : (o : Option Kind) (r : Bool) → is_some o ≡ not r → r ≡ false → eqb (unknown o) 0 ≡ true
some-known None r m e = absurd (true≢false (sym (m ∙ ap not e)))
some-known (Some k) r m e = refl

pub returns-then-is_none : goal.returns-then-is_none
returns-then-is_none c =
    let a = c.args in
    let q = c.requires in
    let k = c.loop-key.key in
    let us : List Pair = settings (decode a.l.least a.s.now) a.v in
    let e = c.first_from-x.ensures in
    let h = subst (λ (x : Pair). x.key ≤ a.high) e c.if-high-x.false in
    let m = sym (ap is_some c.kind_of.ensures ∙ ap (λ (x : Pair). is_some (known_in a.table.now x.key)) e) ∙ c.is_none.ensures in
    sym (known-not a.table.now k a.high us (reads-rising q.0) q.2 h (none-unknown _ _ m c.if-is_none.true))
    ∙ c.loop-key.invariant

pub loop-key-smaller : goal.loop-key-smaller
loop-key-smaller c =
    let a = c.args in
    let q = c.requires in
    let k = c.loop-key.key in
    let us : List Pair = settings (decode a.l.least a.s.now) a.v in
    let e = c.first_from-x.ensures in
    let h = subst (λ (x : Pair). x.key ≤ a.high) e c.if-high-x.false in
    let low = subst (λ (x : Pair). k ≤ x.key) (sym e) (leads-low k us (omega (arith, h, q.2))) in
    omega (arith, low, c.if-high-x.false, q.2)

pub loop-key-preserved : goal.loop-key-preserved
loop-key-preserved c =
    let a = c.args in
    let q = c.requires in
    let k = c.loop-key.key in
    let us : List Pair = settings (decode a.l.least a.s.now) a.v in
    let e = c.first_from-x.ensures in
    let h = subst (λ (x : Pair). x.key ≤ a.high) e c.if-high-x.false in
    let m = sym (ap is_some c.kind_of.ensures ∙ ap (λ (x : Pair). is_some (known_in a.table.now x.key)) e) ∙ c.is_none.ensures in
    ap (λ (x : Pair). all_known a.table.now (between (x.key + 1) a.high us)) e
    ∙ known_on a.table.now k a.high us (reads-rising q.0) q.2 h (some-known _ _ m c.if-is_none.false)
    ∙ c.loop-key.invariant

pub returns : goal.returns
returns c =
    let a = c.args in
    let us : List Pair = settings (decode a.l.least a.s.now) a.v in
    sym (known_over a.table.now c.loop-key.key a.high us c.loop-key-test.false) ∙ c.loop-key.invariant
