-- The bytes of a sound store have right live counts: rule 8 holds of them.
-- Assumes nothing.
use Prim.Native.Nat.{ℕ, zero, suc, ◌+◌, ◌-◌, ◌≤◌, ◌<◌}
use native.Mathlib.Omega.{arith}
use mathlib.Core.Bool.{Bool, true, false, ◌||◌}
use mathlib.Core.Path.{◌≡◌, refl, ap, sym, ◌∙◌, subst}
use mathlib.Core.List.{List}
use lib.Dec.{eqb}
use lib.ListN.{length}
use borrow.Author.Tests.{eq-eqb}
use Rattle.model.specs.Basic.{those}
use Rattle.model.specs.declared.Entry.{Entry}
use Rattle.model.specs.Limits.{live_shown}
use Rattle.model.specs.Entry.{live_at}
use Rattle.model.specs.Page.{Page, is_free}
use Rattle.model.specs.Store.{Store, page, last}
use Rattle.model.specs.Layout.{lives, live_in, live_of, page_of, encode_page, decode_page, encode, size_of}
use Rattle.model.specs.Counted.{counted_page, counted_pages, rule8}
use Rattle.model.specs.ByRule.{Sound}
use Rattle.model.proofs.lists.Lists.{both-intro}
use Rattle.model.proofs.sound.Counted.{those-last}
use Rattle.page.proofs.laws.Exact.{decode-encode, encode-live}
use Rattle.store.specs.Holds.{Holds}
use Rattle.store.proofs.laws.Holds.{page-encoded, decode-encoded}
use Rattle.written.proofs.laws.Spare.{encoded-size}

pages-counted : (least v : ℕ) (b : List ℕ) (n k : ℕ) → ((m : ℕ) → n ≤ m → m < n + k → counted_page least v (page_of least b m) ≡ true)
    → counted_pages least v b n k ≡ true
unfolding counted_pages
pages-counted least v b n zero h = refl
pages-counted least v b n (suc k) h =
    both-intro _ _ (h n (omega arith) (omega arith)) (pages-counted least v b (n + 1) k (λ m l z. h m (omega arith) (omega arith)))

-- a page that holds p has the right live count, if the entries of p that live are those alive at v
page-counted : (least v : ℕ) (b : List ℕ) (p : Page) → decode_page least b ≡ p → live_of least b ≡ live_in least p.entries
    → (is_free p ≡ false → those (live_at v) p.entries ≡ those lives p.entries) → counted_page least v b ≡ true
unfolding counted_page live_in
page-counted least v b p e l same =
    subst (λ (q : Page). (is_free q || eqb (live_of least b) (live_shown least (length (those (live_at v) q.entries)))) ≡ true) (sym e)
    (at (is_free p) refl)
  where
    at : (f : Bool) → is_free p ≡ f → (f || eqb (live_of least b) (live_shown least (length (those (live_at v) p.entries)))) ≡ true
    at true f = refl
    at false f = eq-eqb _ _ (l ∙ ap (λ (x : List Entry). live_shown least (length x)) (sym (same f)))

module _ (least : ℕ) (four : 4 ≤ least) (eight : least ≤ 8) (s : Store) (d : Sound least s) (v : Holds least s) where
  counted-at : (m : ℕ) → 5 ≤ m → m < length s.pages → counted_page least (last s) (page_of least (encode least s) m) ≡ true
  counted-at m l h =
      let p : Page = page s.pages m in
      ap (counted_page least (last s)) (page-encoded least four eight s v m l h)
      ∙ page-counted least (last s) (encode_page least p) p (decode-encode least four eight p (v.pages m))
      (encode-live least four eight p (v.pages m))
      (λ u. those-last (last s) (length s.pages) p.level d.last-low p.entries (d.pages m u).entries)

  pub all-counted : rule8 least (encode least s) ≡ true
  unfolding rule8
  all-counted =
      rw (decode-encoded least four eight s v)
      (pages-counted least (last s) (encode least s) 5 (size_of least (encode least s) - 5)
      (λ m l h. counted-at m l (omega (arith, encoded-size least four eight s v, v.five))))
