-- Laws about edit/specs/Same. Assumes nothing.
use Prim.Native.Nat.{ℕ, zero, suc}
use mathlib.Core.Path.{◌≡◌, refl}
use mathlib.Core.Bool.{Bool, true, false, ◌&&◌, ◌||◌, not}
use mathlib.Core.List.{List, [], ◌∷◌, ◌++◌, map}
use lib.Dec.{eqb}
use native.Mathlib.Omega.{arith}
use borrow.Author.Tests.{le-leb}
use Rattle.std.specs.Prelude.{Some, None}
use Rattle.model.specs.declared.Entry.{Entry}
use Rattle.model.specs.Basic.{pick, has, those, keep}
use Rattle.model.specs.Entry.{live_at, ended_at, end_one, end_those}
use Rattle.model.specs.Page.{Page, active, free, killed, gone_if, gone}
use Rattle.model.specs.Calls.{back_by, back, restored, restored_entries, revived}
use Rattle.edit.specs.declared.sift.Rule.TheVariants.{Kill, End, Back}
use Rattle.edit.specs.Fate.{fate_of, end_of, left, end_if, among_of}
use Rattle.edit.specs.Sift.{sifted, sifted_page, freed_or_sifted}
use Rattle.edit.specs.Same.{first_of}

end-one : (b : Bool) (w : ℕ) (e : Entry) (es : List Entry) → left (end_if b w e) ++ es ≡ end_one b (eqb e.start w) w e es
end-one false w e es = refl
end-one true w e es = go (eqb e.start w)
  where
    go : (a : Bool) → left (pick a None (Some (ended_at w e))) ++ es ≡ end_one true a w e es
    go true = refl
    go false = refl

kills : (w : ℕ) (es : List Entry) → sifted Kill w es ≡ end_those (live_at w) w es
unfolding sifted fate_of
kills w [] = refl
kills w (e ∷ es) = rw (kills w es) (end-one (live_at w e) w e (end_those (live_at w) w es))

pub killed-is : (w : ℕ) (p : Page) → sifted_page Kill w p ≡ killed w p
unfolding sifted_page end_of
killed-is w p = rw (kills w p.entries)

pub among-is : (k n a b : ℕ) → among_of k n a b ≡ has k (first_of n a b)
among-is k zero a b = refl
among-is k (suc zero) a b = refl
among-is k (suc (suc n)) a b = rw (le-leb 1 (suc (suc n)) (omega arith), le-leb 2 (suc (suc n)) (omega arith)) (two (eqb k a) (eqb k b))
  where
    two : (x y : Bool) → (x || y) ≡ (x || (y || false))
    two true y = refl
    two false true = refl
    two false false = refl

pub ends : (n a b w : ℕ) (es : List Entry) → sifted (End n a b) w es
    ≡ end_those (λ (e : Entry). live_at w e && has e.key (first_of n a b)) w es
unfolding sifted fate_of
ends n a b w [] = refl
ends n a b w (e ∷ es) =
    rw (ends n a b w es, among-is e.key n a b)
    (end-one (live_at w e && has e.key (first_of n a b)) w e (end_those (λ (e : Entry). live_at w e && has e.key (first_of n a b)) w es))

-- no key, no end
pub none_end : (a b w : ℕ) (es : List Entry) → sifted (End 0 a b) w es ≡ es
unfolding sifted fate_of
none_end a b w [] = refl
none_end a b w (e ∷ es) = rw (none_end a b w es) (go (live_at w e))
  where
    go : (x : Bool) → left (end_if (x && among_of e.key 0 a b) w e) ++ es ≡ e ∷ es
    go true = refl
    go false = refl

backs : (w : ℕ) (es : List Entry) → sifted Back w es ≡ restored_entries w es
unfolding sifted fate_of
backs w [] = refl
backs w (e ∷ es) = rw (backs w es) (go (eqb e.start w))
  where
    go : (a : Bool) → left (pick a None (Some (revived w e))) ++ restored_entries w es
        ≡ map (revived w) (keep (not a) e (those (λ (e : Entry). not (eqb e.start w)) es))
    go true = refl
    go false = refl

pub restored-is : (w : ℕ) (p : Page) → sifted_page Back w p ≡ restored w p
unfolding sifted_page end_of
restored-is w p = rw (backs w p.entries)

-- an active page goes, or comes back, as a free one

pub gone-is : (w : ℕ) (p : Page) → freed_or_sifted Kill w p ≡ gone w p
gone-is w p = rw (killed-is w p) (at (active w p))
  where
    at : (b : Bool) → pick b free (killed w p) ≡ gone_if b w p
    at true = refl
    at false = refl

pub back_is : (w : ℕ) (p : Page) → freed_or_sifted Back w p ≡ back w p
back_is w p = rw (restored-is w p) (at (active w p))
  where
    at : (b : Bool) → pick b free (restored w p) ≡ back_by b w p
    at true = refl
    at false = refl
