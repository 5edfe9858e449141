-- Laws about quick/specs/Noted. Assumes nothing.
use Prim.Native.Nat.{ℕ, ◌<◌}
use native.Mathlib.Omega.{arith}
use mathlib.Core.Bool.{Bool, true, false, ◌&&◌, and-false}
use mathlib.Core.Path.{◌≡◌, refl, ap, sym, ◌∙◌}
use borrow.Author.Tests.{not-true, not-false, ne_eqb}
use lib.Dec.{eqb}
use lib.ListN.{drop}
use Rattle.std.specs.Prelude.{Option, None, Some, IfSome, is_some, not}
use Rattle.model.specs.Store.{Store}
use Rattle.model.specs.Sound.{rule4, rule5, rule6}
use Rattle.spans.specs.Quick.{spans_met, slots_fine, quick}
use Rattle.spans.proofs.laws.Quick.{quick-rules}
use Rattle.notes.specs.Pass.{told, rule_in}
use Rattle.notes.proofs.laws.Six.{quick-by}
use Rattle.quick.specs.Noted.{ThreeRules}

module _ (least : ℕ) (s : Store) (h : ThreeRules least s) where
  by : quick least s ≡ (spans_met s 5 (drop 5 s.pages) && slots_fine least s.oldest s.pages s.slots && (rule4 s && rule5 least s))
  by = quick-by least h.two s h.first h.second h.third

  pub not-led : (spans_met s 5 (drop 5 s.pages) && slots_fine least s.oldest s.pages s.slots) ≡ false → false ≡ quick least s
  not-led e = sym (by ∙ ap (λ (b : Bool). b && (rule4 s && rule5 least s)) e)

  pub noted : (r : Bool) → r ≡ (rule4 s && rule5 least s)
      → (spans_met s 5 (drop 5 s.pages) && slots_fine least s.oldest s.pages s.slots) ≡ true → r ≡ quick least s
  noted r q e = q ∙ sym (by ∙ ap (λ (b : Bool). b && (rule4 s && rule5 least s)) e)

  -- the same by check's pass, of which `none` says that it names no rule
  pub noted-none : (r : Option ℕ) (none : Bool) → is_some r ≡ not none → rule_in r ≡ told (rule4 s) (rule5 least s)
      → IfSome r (λ rule. 0 < rule) → (spans_met s 5 (drop 5 s.pages) && slots_fine least s.oldest s.pages s.slots) ≡ true
      → none ≡ quick least s
  noted-none r none is q some =
      noted none (at r (sym is) some ∙ ap (λ (m : ℕ). eqb m 0) q ∙ by_told (rule4 s) (rule5 least s))
    where
      at : (r : Option ℕ) → not none ≡ is_some r → IfSome r (λ rule. 0 < rule) → none ≡ eqb (rule_in r) 0
      at None is some = not-false none is
      at (Some n) is some = not-true none is ∙ sym (ne_eqb n 0 (λ q. omega arith))

      by_told : (x y : Bool) → eqb (told x y) 0 ≡ (x && y)
      by_told true true = refl
      by_told true false = refl
      by_told false y = refl

  pub not-reached : rule6 s ≡ false → false ≡ quick least s
  not-reached e =
      sym (quick-rules least h.two s h.first h.second h.third ∙ ap (λ (b : Bool). rule4 s && rule5 least s && b) e
      ∙ and-false (rule4 s && rule5 least s))
