-- Laws about store/specs/Pages. Assumes nothing.
use Prim.Native.Nat.{ℕ, ◌+◌, ◌*◌, ◌<◌, ◌≤◌}
use mathlib.Core.Path.{◌≡◌, refl, ap, sym, ◌∙◌}
use mathlib.Core.List.{List, [], ◌∷◌, ◌++◌, append-nil}
use native.Mathlib.Nat.{add-mul}
use lib.ListN.{length, get_or, set}
use Rattle.bits.proofs.laws.Rows.{Even, rows-length, row-part, row-with}
use Rattle.model.specs.Basic.{flat_map}
use Rattle.model.specs.Page.{Page, free}
use Rattle.model.specs.Layout.{page_of, with_page, pages_bytes, encode_page}
use Rattle.page.proofs.laws.Exact.{encode-length}
use Rattle.store.specs.Pages.{AllValid}

pages-rows : (least : ℕ) (ps : List Page) → pages_bytes least ps ≡ flat_map (encode_page least) ps
unfolding pages_bytes
pages-rows least [] = refl
pages-rows least (p ∷ ps) = ap (λ (y : List ℕ). encode_page least p ++ y) (pages-rows least ps)

behind-all : (least : ℕ) (h : List ℕ) (ps : List Page) → h ++ pages_bytes least ps ≡ h ++ (flat_map (encode_page least) ps ++ [])
behind-all least h ps = ap (λ (y : List ℕ). h ++ y) (pages-rows least ps ∙ sym (append-nil (flat_map (encode_page least) ps)))

module _ (least : ℕ) (four : 4 ≤ least) (ps : List Page) (v : AllValid least ps) where
  even : Even (encode_page least) free (64 * least) ps
  even k = encode-length least four (get_or ps k free) (v k).room

  pub pages-length : length (pages_bytes least ps) ≡ length ps * (64 * least)
  pages-length = rw (pages-rows least ps) (rows-length (encode_page least) free (64 * least) ps even)

  module _ (h : List ℕ) (a : ℕ) (whole : length h ≡ a * (64 * least)) (k : ℕ) (lt : k < length ps) where
    at : (a + k) * (64 * least) ≡ length h + k * (64 * least)
    at = add-mul a k (64 * least) ∙ ap (λ (x : ℕ). x + k * (64 * least)) (sym whole)

    pub page-of : page_of least (h ++ pages_bytes least ps) (a + k) ≡ encode_page least (get_or ps k free)
    unfolding page_of
    page-of = rw (at, behind-all least h ps) (row-part (encode_page least) free (64 * least) h [] ps k lt even)

    pub with-page : (q : Page) → with_page least (h ++ pages_bytes least ps) (a + k) (encode_page least q) ≡ h ++ pages_bytes least (set ps k q)
    unfolding with_page
    with-page q =
        rw (at, behind-all least h ps, behind-all least h (set ps k q)) (row-with (encode_page least) free (64 * least) h [] ps k lt even q)
