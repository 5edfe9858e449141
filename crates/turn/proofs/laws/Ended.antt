-- Every page of a sound store is so: "An entry's span lies in its page's span", and a free page has no entries. Assumes nothing.
use Prim.Native.Nat.{ℕ, ◌≤◌, ◌<◌}
use native.Mathlib.Omega.{arith}
use mathlib.Core.Bool.{Bool, true, false}
use mathlib.Core.Path.{◌≡◌, refl}
use mathlib.Core.Logic.{◌⊎◌, inl, inr}
use mathlib.Core.List.{List, [], ◌∷◌}
use lib.Dec.{leb}
use lib.ListN.{length}
use borrow.Author.Tests.{leb-true, leb-false}
use Rattle.model.specs.Basic.{all}
use Rattle.model.specs.declared.Entry.{Entry}
use Rattle.model.specs.Entry.{alive}
use Rattle.model.specs.Page.{Page, free, is_free}
use Rattle.model.specs.Store.{Store, page, last_of, last}
use Rattle.model.specs.Sound.{entry_ok, lies_well}
use Rattle.model.specs.Layout.{decode_page}
use Rattle.model.specs.Calls.{back}
use Rattle.model.specs.ByRule.{Sound}
use Rattle.model.proofs.lists.Lists.{both_true}
use Rattle.model.proofs.lists.Members.{bool_cases}
use Rattle.model.proofs.sound.ByRule.{GoodEntry, entry-ok, span_of}
use Rattle.page.specs.Head.{read_head}
use Rattle.turn.proofs.laws.Partly.{free_back}
use Rattle.turn.proofs.laws.Touched.{Still, still-more, still-page}
use Rattle.turn.specs.Past.{Past, AllPast}

-- by the front as it is read
pub past-read : (least w : ℕ) (p : List ℕ) → ((read_head least p).end ≡ alive → ⊥) → ((read_head least p).end ≡ w → ⊥)
    → Past w (decode_page least p) → back w (decode_page least p) ≡ decode_page least p
unfolding decode_page read_head
past-read least w p g h x = x.stays g h

-- An entry that rule 3 speaks of ends with its page at the latest; one that it skips, by the oldest version.
module _ (s : Store) (p : Page) (w : ℕ) (h : p.end < w) (o : s.oldest < w) where
  ends-before : (e : Entry) → GoodEntry s p e → e.end < w
  ends-before e g = at (bool_cases (leb e.end s.oldest))
    where
      at : (leb e.end s.oldest ≡ true) ⊎ (leb e.end s.oldest ≡ false) → e.end < w
      at (inl z) = omega (arith, o, leb-true e.end s.oldest z)
      at (inr z) = omega (arith, h, g.sooner (inr (leb-false e.end s.oldest z)))

  stills : (es : List Entry) → all (entry_ok (last s) (length s.pages) p.level) es ≡ true → all (lies_well s p) es ≡ true → Still w es
  stills [] a b = refl
  stills (e ∷ es) a b =
      let (x, xs) = both_true (entry_ok (last s) (length s.pages) p.level e)
      (all (entry_ok (last s) (length s.pages) p.level) es) a in
      let (y, ys) = both_true (lies_well s p e) (all (lies_well s p) es) b in
      let g = entry-ok s p e x y in
      let f = ends-before e g in
      still-more w e es (λ (z : e.start ≡ w). omega (arith, z, g.span.some, f)) (λ (z : e.end ≡ w). omega (arith, z, f))
      (stills es xs ys)

-- an end that is neither comes before w
earlier : (l b w : ℕ) → l ≤ w → (b ≤ l) ⊎ (b ≡ alive) → (b ≡ alive → ⊥) → (b ≡ w → ⊥) → b < w
earlier l b w h (inr x) g f = absurd (g x)
earlier l b w h (inl x) g f = at (bool_cases (leb w b))
  where
    at : (leb w b ≡ true) ⊎ (leb w b ≡ false) → b < w
    at (inl z) = absurd (f (omega (arith, h, x, leb-true w b z)))
    at (inr z) = leb-false w b z

last-most : (s : Store) (w : ℕ) → s.current < w → last s ≤ w
last-most s w h = at s.opened
  where
    at : (b : Bool) → last_of b s.current ≤ w
    at true = omega (arith, h)
    at false = omega (arith, h)

module _ (least : ℕ) (s : Store) (d : Sound least s) (w : ℕ) (some : s.oldest < w) (open-now : s.current < w) where
  past : (n : ℕ) → Past w (page s.pages n)
  past n = by (is_free (page s.pages n)) refl
    where
      by : (f : Bool) → is_free (page s.pages n) ≡ f → Past w (page s.pages n)
      by true e =
          rw (d.zeros n e) (record { stays = λ (g : free.end ≡ alive → ⊥) (f : free.end ≡ w → ⊥). free_back w (omega (arith, some)) })
      by false e =
          let p : Page = page s.pages n in
          let g = d.pages n e in
          let t = span_of (last s) p.start p.end g.span in
          record {
            stays = λ (x : p.end ≡ alive → ⊥) (f : p.end ≡ w → ⊥). stay p
                (earlier (last s) p.end w (last-most s w open-now) t.ends x f) t.some
                (stills s p w (earlier (last s) p.end w (last-most s w open-now) t.ends x f) some p.entries g.entries
                (d.spans n e));
          }
        where
          stay : (p : Page) → p.end < w → p.start < p.end → Still w p.entries → back w p ≡ p
          stay p h t = still-page w p (λ (z : p.start ≡ w). omega (arith, z, h, t)) (λ (z : p.end ≡ w). omega (arith, z, h))

  pub all_past : AllPast w s.pages
  all_past = record { at = past }
