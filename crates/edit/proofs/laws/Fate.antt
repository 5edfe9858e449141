-- Laws about edit/specs/Fate. Assumes nothing.
use Prim.Native.Nat.{ℕ, ◌^◌, ◌<◌}
use mathlib.Core.Path.{◌≡◌, refl}
use mathlib.Core.Bool.{Bool, true, false, ◌&&◌}
use Rattle.std.specs.Prelude.{Option, Some, None}
use lib.Dec.{eqb}
use native.Mathlib.Omega.{arith}
use borrow.Author.Tests.{ne_eqb}
use Rattle.model.specs.declared.Entry.{Entry}
use Rattle.model.specs.Basic.{pick}
use Rattle.model.specs.Entry.{live_at, alive, ended_at}
use Rattle.model.specs.Calls.{revived}
use Rattle.page.specs.Read.{FieldsFit}
use Rattle.edit.specs.declared.sift.Rule.{Rule}
use Rattle.edit.specs.declared.sift.Rule.TheVariants.{Kill, End, Back}
use Rattle.page.specs.Apart.{Apart}
use Rattle.edit.specs.Fate.{among_of, end_if, fate_of, end_of, stay}

-- what is left of an entry, if anything is, fits its bits
abbrev pub Sized : Option Entry → Type 0
Sized None = Unit {0}
Sized (Some e) = FieldsFit e

pub fate-sized : (r : Rule) (w : ℕ) (e : Entry) → FieldsFit e → w < 2 ^ 20 → Sized (fate_of r w e)
unfolding fate_of
fate-sized r w e z h = go r
  where
    new : (a : Bool) (f : Entry) → FieldsFit f → Sized (pick a None (Some f))
    new true f y = tt
    new false f y = y

    ended : (b : Bool) → Sized (end_if b w e)
    ended true = new (eqb e.start w) (ended_at w e) (record { key = z.key; start = z.start; end = h; value = z.value })
    ended false = z

    back : (b : Bool) → pick b alive e.end < 2 ^ 20
    back true = omega arith
    back false = z.end

    go : (r : Rule) → Sized (fate_of r w e)
    go Kill = ended (live_at w e)
    go (End n a b) = ended (live_at w e && among_of e.key n a b)
    go Back = new (eqb e.start w) (revived w e) (record { key = z.key; start = z.start; end = back (eqb e.end w); value = z.value })

pub end_fits : (r : Rule) (w end : ℕ) → end < 2 ^ 20 → w < 2 ^ 20 → end_of r w end < 2 ^ 20
unfolding end_of
end_fits r w end he hw = go r
  where
    back : (b : Bool) → pick b alive end < 2 ^ 20
    back true = omega arith
    back false = he

    go : (r : Rule) → end_of r w end < 2 ^ 20
    go Kill = hw
    go (End n a b) = he
    go Back = back (eqb end w)

-- ---- entries that stay as they are

pub stay-other : (n a b w : ℕ) (e : Entry) → among_of e.key n a b ≡ false → fate_of (End n a b) w e ≡ stay e
unfolding fate_of
stay-other n a b w e h = rw h (go (live_at w e))
  where
    go : (b : Bool) → end_if (b && false) w e ≡ stay e
    go true = refl
    go false = refl

pub stay-apart : (w : ℕ) (e : Entry) → Apart w e → fate_of Back w e ≡ stay e
unfolding fate_of
stay-apart w e h = rw (ne_eqb e.start w h.start, ne_eqb e.end w h.end)
