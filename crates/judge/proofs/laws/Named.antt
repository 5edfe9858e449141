-- Rules 4 to 6 as `check` names them, where `quick` does not say that they hold: by the notes, by the reach walk at the last version, by
-- the sums and the slots. Assumes nothing.
use Prim.Native.Nat.{ℕ, ◌≤◌}
use native.Mathlib.Omega.{arith}
use mathlib.Core.Bool.{Bool, true, false, ◌&&◌}
use mathlib.Core.Path.{◌≡◌, refl, sym, ◌∙◌}
use mathlib.Core.List.{List}
use lib.ListN.{drop}
use Rattle.model.specs.declared.Header.{Header}
use Rattle.model.specs.Store.{last_of}
use Rattle.model.specs.Sound.{rule2, rule3, rule4, rule5, rule6}
use Rattle.model.specs.Layout.{decode, read_header}
use Rattle.model.specs.Clean.{clean}
use Rattle.spans.specs.Quick.{spans_met, slots_fine, quick}
use Rattle.model.proofs.lists.Lists.{both_true}
use Rattle.spans.proofs.laws.Quick.{quick-rules}
use Rattle.model.proofs.sound.Judging.{clean-first, lower-four, lower-five, lower-six}
use Rattle.model.specs.Inner.{lower_in}
use Rattle.notes.specs.Pass.{told}
use Rattle.notes.proofs.laws.Six.{six-by}
use Rattle.reach.specs.Versions.{version_ok}
use Rattle.reach.proofs.laws.Rules.{six-missed}

-- ---- none of 4 to 6

pub of-quick : (least : ℕ) (b : List ℕ) → 2 ≤ least → clean least b ≡ true → rule2 (decode least b) ≡ true → rule3 (decode least b) ≡ true
    → quick least (decode least b) ≡ true
    → (rule4 (decode least b) ≡ true) × (rule5 least (decode least b) ≡ true) × (rule6 (decode least b) ≡ true)
of-quick least b two r1 r2 r3 h =
    let s = decode least b in
    let (r45, r6) = both_true (rule4 s && rule5 least s) (rule6 s) (sym (quick-rules least two s (clean-first least b r1) r2 r3) ∙ h) in
    let (r4, r5) = both_true (rule4 s) (rule5 least s) r45 in (r4, r5, r6)

-- ---- rules 4 and 5

module _ (least : ℕ) (b : List ℕ) (r1 : clean least b ≡ true) (r2 : rule2 (decode least b) ≡ true) (r3 : rule3 (decode least b) ≡ true)
    (r : ℕ) (e : r ≡ told (rule4 (decode least b)) (rule5 least (decode least b))) where
  pub named_some : (r ≡ 0 → ⊥) → r ≡ lower_in least b
  named_some n = at (rule4 (decode least b)) refl (rule5 least (decode least b)) refl e
    where
      at : (x : Bool) → rule4 (decode least b) ≡ x → (y : Bool) → rule5 least (decode least b) ≡ y → r ≡ told x y → r ≡ lower_in least b
      at false p y q g = g ∙ sym (lower-four least b r1 r2 r3 p)
      at true p false q g = g ∙ sym (lower-five least b r1 r2 r3 p q)
      at true p true q g = absurd (n g)

  pub named_none : r ≡ 0 → (rule4 (decode least b) ≡ true) × (rule5 least (decode least b) ≡ true)
  named_none z = at (rule4 (decode least b)) refl (rule5 least (decode least b)) refl e
    where
      at : (x : Bool) → rule4 (decode least b) ≡ x → (y : Bool) → rule5 least (decode least b) ≡ y → r ≡ told x y
          → (rule4 (decode least b) ≡ true) × (rule5 least (decode least b) ≡ true)
      at false p y q g = absurd (omega arith)
      at true p false q g = absurd (omega arith)
      at true p true q g = (p, q)

  -- ---- rule 6

  module _ (z : r ≡ 0) where
    pub six-last : (h : Header) (v : ℕ) → h ≡ read_header least b → v ≡ last_of h.opened h.current → h.oldest ≤ v
        → version_ok least 6 b v ≡ false → 6 ≡ lower_in least b
    six-last h v q k low f =
        let (r4, r5) = named_none z in sym (lower-six least b r1 r2 r3 r4 r5 (six-missed least b h q v low (omega (arith, k)) f))

    module _ (two : 2 ≤ least) (d : Bool)
        (q : d ≡ (spans_met (decode least b) 5 (drop 5 (decode least b).pages)
        && slots_fine least (decode least b).oldest (decode least b).pages (decode least b).slots)) where
      sixth : rule6 (decode least b) ≡ d
      sixth = let (r4, r5) = named_none z in six-by least two (decode least b) (clean-first least b r1) r2 r3 r4 r5 ∙ sym q

      pub six-led : d ≡ false → 6 ≡ lower_in least b
      six-led f = let (r4, r5) = named_none z in sym (lower-six least b r1 r2 r3 r4 r5 (sixth ∙ f))

      pub six-none : d ≡ true
          → (rule4 (decode least b) ≡ true) × (rule5 least (decode least b) ≡ true) × (rule6 (decode least b) ≡ true)
      six-none f = let (r4, r5) = named_none z in (r4, r5, sixth ∙ f)
