-- What a rule or an entering pair leaves of a page can be held. Assumes nothing.
use Prim.Native.Nat.{ℕ, zero, suc, ◌*◌, ◌^◌, ◌<◌}
use mathlib.Core.Bool.{Bool, true, false}
use mathlib.Core.List.{List, [], ◌∷◌, ◌++◌}
use lib.ListN.{length, get_or}
use native.Mathlib.Omega.{arith}
use Rattle.model.specs.declared.Entry.{Entry}
use Rattle.model.specs.declared.Pair.{Pair}
use Rattle.std.specs.Prelude.{Option, Some, None}
use Rattle.model.specs.Entry.{before, born, placed, enter}
use Rattle.model.specs.Page.{Page}
use Rattle.model.specs.Layout.{unused}
use Rattle.model.proofs.lists.Lists.{length-enter}
use Rattle.page.specs.Read.{FieldsFit}
use Rattle.page.proofs.laws.Read.{sized-unused}
use Rattle.page.specs.Exact.{Valid}
use Rattle.edit.specs.declared.sift.Rule.{Rule}
use Rattle.edit.specs.Fate.{fate_of, left}
use Rattle.edit.proofs.laws.Fate.{Sized, fate-sized, end_fits}
use Rattle.edit.specs.Sift.{sifted, sifted_page}
use Rattle.edit.proofs.laws.Sift.{sifted-short}
use Rattle.edit.specs.Place.{entered}

abbrev pub AllSized : List Entry → Type 0
AllSized es = (k : ℕ) → FieldsFit (get_or es k unused)

pub sized-cons : (e : Entry) (es : List Entry) → FieldsFit e → AllSized es → AllSized (e ∷ es)
sized-cons e es z h zero = z
sized-cons e es z h (suc k) = h k

sized-left : (f : Option Entry) (es : List Entry) → Sized f → AllSized es → AllSized (left f ++ es)
sized-left (Some e) es z h = sized-cons e es z h
sized-left None es z h = h

sized-placed : (b : Bool) (e x : Entry) (xs ys : List Entry) → FieldsFit e → AllSized (x ∷ xs) → AllSized ys → AllSized (placed b e x xs ys)
sized-placed true e x xs ys z h g = sized-cons e (x ∷ xs) z h
sized-placed false e x xs ys z h g = sized-cons x ys (h 0) g

sized-sifted : (r : Rule) (w : ℕ) (es : List Entry) → w < 2 ^ 20 → AllSized es → AllSized (sifted r w es)
unfolding sifted
sized-sifted r w [] hw h = λ k. sized-unused
sized-sifted r w (e ∷ es) hw h =
    sized-left (fate_of r w e) (sifted r w es) (fate-sized r w e (h 0) hw)
    (sized-sifted r w es hw (λ k. h (suc k)))

sized-enter : (e : Entry) (es : List Entry) → FieldsFit e → AllSized es → AllSized (enter e es)
sized-enter e [] z h = sized-cons e [] z h
sized-enter e (x ∷ xs) z h = sized-placed (before e x) e x xs (enter e xs) z h (sized-enter e xs z (λ k. h (suc k)))

pub valid-sifted : (least : ℕ) (r : Rule) (w : ℕ) (p : Page) → w < 2 ^ 20 → Valid least p → Valid least (sifted_page r w p)
unfolding sifted_page
valid-sifted least r w p hw v =
    record {
      level = v.level;
      start = v.start;
      end = end_fits r w p.end v.end hw;
      room = omega (arith, sifted-short r w p.entries, v.room);
      sized = sized-sifted r w p.entries hw v.sized;
    }

-- an entry for a pair that its bits can hold
pub born-fits : (w : ℕ) (x : Pair) → x.key < 2 ^ 24 → x.value < 2 ^ 32 → w < 2 ^ 20 → FieldsFit (born w x)
born-fits w x hk hx hw = record { key = hk; start = hw; end = omega arith; value = hx }

pub valid-entered : (least w : ℕ) (x : Pair) (p : Page) → w < 2 ^ 20 → x.key < 2 ^ 24 → x.value < 2 ^ 32 → length p.entries < 5 * least
    → Valid least p → Valid least (entered w x p)
unfolding entered
valid-entered least w x p hw hk hx room v =
    record {
      level = v.level;
      start = v.start;
      end = v.end;
      room = omega (arith, length-enter (born w x) p.entries);
      sized = sized-enter (born w x) p.entries (born-fits w x hk hx hw) v.sized;
    }
