-- "End 1,048,575 means alive.": where rule 1 holds, the entries with that end are those alive at the last version. "A killed page has 0."
-- Assumes nothing.
use Prim.Native.Nat.{ℕ, ◌≤◌}
use native.Mathlib.Omega.{arith}
use mathlib.Core.Bool.{Bool, true, false, ◌&&◌, not}
use mathlib.Core.Path.{◌≡◌, refl, ap, ◌∙◌}
use mathlib.Core.Logic.{◌⊎◌, inl, inr}
use mathlib.Core.List.{List, [], ◌∷◌}
use lib.Dec.{leb, ltb, eqb}
use borrow.Author.Tests.{leb-true, eq-eqb, ne_eqb, le-leb, lt-ltb, le-ltb}
use Rattle.model.specs.Basic.{all, keep, pick, those}
use Rattle.model.specs.declared.Entry.{Entry}
use Rattle.model.specs.Entry.{alive, live_at}
use Rattle.model.specs.Page.{Page, is_free}
use Rattle.model.specs.Store.{Store, page, last}
use Rattle.model.specs.Walk.{key_limit}
use Rattle.model.specs.Sound.{is_page, span_ok, entry_ok, inside, leads_well, skipped, lies_well}
use Rattle.model.specs.Layout.{lives}
use Rattle.model.specs.ByRule.{Sound}
use Rattle.model.proofs.lists.Lists.{both_true, all_cons}
use Rattle.model.proofs.lists.Members.{either_true}
use Rattle.model.proofs.sound.ByRule.{Span, span_of, old-last}

module _ (l size level : ℕ) (low : l ≤ 1048574) where
  pub alive-last : (e : Entry) → entry_ok l size level e ≡ true → live_at l e ≡ lives e
  alive-last e ok = at span.ends
    where
      span : Span l e.start e.end
      span =
          let kind : Bool = pick (eqb level 1) (leb 1 e.start && ltb e.value 4294967296) (is_page size e.value) in
          span_of l e.start e.end
          (both_true (span_ok l e.start e.end) (ltb e.key key_limit)
          (both_true (span_ok l e.start e.end && ltb e.key key_limit) kind ok).0).0

      starts : leb e.start l ≡ true
      starts = le-leb e.start l span.starts

      at : (e.end ≤ l) ⊎ (e.end ≡ alive) → (leb e.start l && ltb l e.end) ≡ eqb e.end alive
      at (inl x) =
          let gone : eqb e.end alive ≡ false = ne_eqb e.end alive (λ q. omega (arith, low)) in
          let over : ltb l e.end ≡ false = le-ltb l e.end x in
          rw (starts, over, gone)
      at (inr x) =
          let here : eqb e.end alive ≡ true = eq-eqb e.end alive x in
          let on : ltb l e.end ≡ true = lt-ltb l e.end (omega (arith, low)) in
          rw (starts, on, here)

  pub those-last : (es : List Entry) → all (entry_ok l size level) es ≡ true → those (live_at l) es ≡ those lives es
  those-last [] ok = refl
  those-last (e ∷ es) ok =
      let (here, rest) = all_cons (entry_ok l size level) e es ok in
      ap (λ (b : Bool). keep b e (those (live_at l) es)) (alive-last e here) ∙ ap (keep (lives e) e) (those-last es rest)

-- ---- a page that ended: what stands in it ended with it at the latest, by rule 3, or by the oldest version

none-live : (s : Store) (p : Page) (l : ℕ) → p.end ≤ l → s.oldest ≤ l → (es : List Entry) → all (lies_well s p) es ≡ true
    → those (live_at l) es ≡ []
none-live s p l h o [] ok = refl
none-live s p l h o (e ∷ es) ok =
    let (here, rest) = all_cons (lies_well s p) e es ok in
    let over : ltb l e.end ≡ false = le-ltb l e.end (ends (either_true (skipped s p e) (inside e p && leads_well s p e) here)) in
    rw over (dead (leb e.start l)) ∙ none-live s p l h o es rest
  where
    ends : (skipped s p e ≡ true) ⊎ ((inside e p && leads_well s p e) ≡ true) → e.end ≤ l
    ends (inl x) = omega (arith, leb-true e.end s.oldest (both_true (not (eqb p.level 1)) (leb e.end s.oldest) x).1)
    ends (inr x) =
        omega (
          arith,
          leb-true e.end p.end
              (both_true (leb p.start e.start) (leb e.end p.end) (both_true (inside e p) (leads_well s p e) x).0).1,
        )

    dead : (b : Bool) → keep (b && false) e (those (live_at l) es) ≡ those (live_at l) es
    dead true = refl
    dead false = refl

pub killed-none : (least : ℕ) (s : Store) → Sound least s → (n : ℕ) → is_free (page s.pages n) ≡ false
    → ((page s.pages n).end ≡ alive → ⊥)
    → those (live_at (last s)) (page s.pages n).entries ≡ []
killed-none least s d n u k = at (span_of (last s) p.start p.end (d.pages n u).span).ends
  where
    p : Page
    p = page s.pages n

    at : (p.end ≤ last s) ⊎ (p.end ≡ alive) → those (live_at (last s)) p.entries ≡ []
    at (inl h) = none-live s p (last s) h (old-last least s d.old-low) p.entries (d.spans n u)
    at (inr e) = absurd (k e)
