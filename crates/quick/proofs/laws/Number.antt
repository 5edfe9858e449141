-- Laws about quick/specs/Number. Assumes nothing.
use Prim.Native.Nat.{ℕ, ◌≤◌}
use native.Mathlib.Omega.{arith}
use mathlib.Core.Bool.{Bool, true, false, ◌&&◌}
use mathlib.Core.Path.{◌≡◌, refl, ap, sym, ◌∙◌}
use mathlib.Core.List.{List}
use lib.ListN.{drop}
use Rattle.model.specs.Basic.{pick, in_order}
use Rattle.model.specs.Page.{Page}
use Rattle.model.specs.Store.{Store}
use Rattle.model.specs.Sound.{rule2, rule3, rule7, pages_pass}
use Rattle.model.specs.Layout.{decode}
use Rattle.model.specs.Clean.{clean}
use Rattle.model.specs.Counted.{rule8}
use Rattle.model.proofs.lists.Lists.{both_true}
use Rattle.model.specs.Judged.{length_ok, magic_ok, edition_ok, judged}
use Rattle.spans.proofs.laws.OfBytes.{number-quickly}
use Rattle.spans.specs.Quick.{kept, apart, children_fine, slots_fine, spans_met, quick, quick_in}
use Rattle.quick.specs.Number.{refused_by}

-- ---- rules 4 to 6

-- where sums and slots are found right, the pages are left
pub quick-pages : (least : ℕ) (s : Store) → (spans_met s 5 (drop 5 s.pages) && slots_fine least s.oldest s.pages s.slots) ≡ true
    → quick least s
    ≡ pages_pass (λ (p : Page). in_order apart (kept s.oldest p.entries)
    && children_fine least s.oldest s.pages p.level (kept s.oldest p.entries)) s
unfolding quick
quick-pages least s e =
    ap (λ (b : Bool). b
    && pages_pass (λ (p : Page). in_order apart (kept s.oldest p.entries)
    && children_fine least s.oldest s.pages p.level (kept s.oldest p.entries)) s) e

-- ---- rules 1 to 7

module _ (least : ℕ) (b : List ℕ) where
  pub in-first : clean least b ≡ false → quick_in least b ≡ false
  unfolding quick_in
  in-first x = rw x

  pub in_rest : clean least b ≡ true → quick_in least b
      ≡ (rule2 (decode least b) && rule3 (decode least b) && quick least (decode least b) && rule7 (decode least b))
  unfolding quick_in
  in_rest x = rw x

  pub in_clean : quick_in least b ≡ true → clean least b ≡ true
  unfolding quick_in
  in_clean e =
      let s = decode least b in
      let (q, r7) = both_true (clean least b && rule2 s && rule3 s && quick least s) (rule7 s) e in
      (both_true (clean least b) (rule2 s)
      (both_true (clean least b && rule2 s) (rule3 s) (both_true (clean least b && rule2 s && rule3 s) (quick least s) q).0).0).0

  -- ---- the number, with rule 8

  module _ (n : ℕ) (q : n ≡ refused_by (length_ok least b) (magic_ok b) (edition_ok least b)) where
    pub refused-number : 2 ≤ least → (n ≡ 0 → ⊥) → n ≡ (judged least b).number
    refused-number two u = at (length_ok least b) (magic_ok b) (edition_ok least b) q ∙ sym (number-quickly least two b)
      where
        at : (x y z : Bool) → n ≡ refused_by x y z → n ≡ pick x (pick y (pick z (pick (quick_in least b && rule8 least b) 0 4) 3) 2) 1
        at false y z e = e
        at true false z e = e
        at true true false e = e
        at true true true e = absurd (u e)

    pub not-refused : n ≡ 0 → (length_ok least b ≡ true) × (magic_ok b ≡ true) × (edition_ok least b ≡ true)
    not-refused u = at (length_ok least b) (magic_ok b) (edition_ok least b) refl refl refl q
      where
        at : (x y z : Bool) → length_ok least b ≡ x → magic_ok b ≡ y → edition_ok least b ≡ z → n ≡ refused_by x y z
            → (length_ok least b ≡ true) × (magic_ok b ≡ true) × (edition_ok least b ≡ true)
        at false y z f g h e = absurd (omega arith)
        at true false z f g h e = absurd (omega arith)
        at true true false f g h e = absurd (omega arith)
        at true true true f g h e = (f, g, h)

    pub ruled-number : 2 ≤ least → n ≡ 0 → (judged least b).number ≡ pick (quick_in least b && rule8 least b) 0 4
    ruled-number two u = let (f, g, h) = not-refused u in number-quickly least two b ∙ rw (f, g, h)
