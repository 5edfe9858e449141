-- No range of a store of up to 256 pages outgrows a list of 10,040 numbers.
-- Assumes nothing.
use Prim.Native.Nat.{ℕ, ◌*◌, ◌-◌, ◌≤◌}
use native.Mathlib.Omega.{arith}
use mathlib.Core.Bool.{Bool, true, false, ◌&&◌, ◌||◌}
use mathlib.Core.Path.{◌≡◌, refl, ap, sym, ◌∙◌, subst}
use mathlib.Core.Logic.{◌≢◌}
use mathlib.Core.List.{List, [], ◌∷◌}
use lib.Dec.{leb, ltb}
use lib.ListN.{length}
use borrow.Author.Tests.{le-ltb}
use Rattle.model.specs.declared.Pair.{Pair}
use Rattle.model.specs.Store.{last}
use Rattle.model.specs.Walk.{key_limit, settings, between}
use Rattle.model.specs.Calls
use Rattle.model.specs.Calls.{rule, first_of, unreadable}
use Rattle.model.specs.Editions.{least_of}
use Rattle.model.specs.Ended.{Ended}
use Rattle.model.proofs.sound.Most.{settings-most}
use Rattle.model.proofs.sound.ByRule.{readable_of}
use Rattle.model.proofs.lists.Lists.{few-those}
use Rattle.promises.specs.Accepts.{Accepts, store_of}
use Rattle.promises.specs.Beside.{from_lent}
use Rattle.promises.specs.Room.{NoRangeOutgrows}
use Rattle.promises.proofs.Known.{four}
use Rattle.promises.proofs.Lending.{held-sound}
use Rattle.promises.proofs.Agreed.{lent-agreed}
use Rattle.promises.proofs.Answering.{answers}

most-settings : (b : List ℕ) → Accepts b → (v : ℕ) → (store_of b).oldest ≤ v → v ≤ last (store_of b)
    → length (settings (store_of b) v) ≤ (length (store_of b).pages - 5) * (5 * least_of b)
most-settings b ok v f h = settings-most (least_of b) (omega (arith, four b)) (store_of b) (held-sound b ok) v (record { from = f; upto = h })

few-settings : (b : List ℕ) → Accepts b → least_of b ≡ 4 → length (store_of b).pages ≤ 256 → (v : ℕ) → (store_of b).oldest ≤ v
    → v ≤ last (store_of b) → length (settings (store_of b) v) ≤ 5020
few-settings b ok one small v f h =
    let most : length (settings (store_of b) v) ≤ (length (store_of b).pages - 5) * (5 * 4)
    = subst (λ (l : ℕ). length (settings (store_of b) v) ≤ (length (store_of b).pages - 5) * (5 * l)) one (most-settings b ok v f h) in
    omega arith

-- a list with the room does not give 14
with-room : (a c : Bool) (room : ℕ) (xs : List Pair) → (c ≡ false → 2 * length xs ≤ room)
    → (Calls.ranged_by (first_of (rule 5 a ∷ rule 6 c ∷ [])) room xs).number ≢ 14
unfolding Calls.ranged_by Calls.ranged_in
with-room true c room xs h e = let z : ◌≡◌ {A = ℕ} 5 14 = e in omega arith
with-room false true room xs h e = let z : ◌≡◌ {A = ℕ} 6 14 = e in omega arith
with-room false false room xs h e =
    let z : ◌≡◌ {A = ℕ} 0 14 = subst (λ (b : Bool). (Calls.ranged_in (first_of (rule 14 b ∷ [])) xs).number ≡ 14)
    (le-ltb room (2 * length xs) (h refl)) e in
    omega arith

pub no-range-outgrows : NoRangeOutgrows
no-range-outgrows = record {
  most = most-settings;
  console = few-settings;
  room = λ b ok one small lo hi v ns long e.
      let found : length (between lo hi (settings (store_of b) v)) ≤ length (settings (store_of b) v)
      = few-those (λ (x : Pair). leb lo x.key && leb x.key hi) (settings (store_of b) v) in
      with-room (leb key_limit lo || leb key_limit hi || ltb hi lo) (unreadable (store_of b) v) (length ns)
      (between lo hi (settings (store_of b) v))
      (λ z. omega (arith, few-settings b ok one small v (readable_of (store_of b) v z).from (readable_of (store_of b) v z).upto))
      (sym (ap (λ (x : Ended). x.number) ((answers (from_lent b) (lent-agreed b ok)).range lo hi v ns)) ∙ e);
}
