-- Laws about local/specs/Seventh. Assumes nothing.
use Prim.Native.Nat.{ℕ, suc, ◌-◌}
use mathlib.Core.Bool.{Bool, true, false, ◌||◌, not}
use mathlib.Core.Path.{◌≡◌, refl, ap, sym, ◌∙◌}
use mathlib.Core.List.{List}
use lib.Dec.{eqb}
use Rattle.model.specs.Basic.{all}
use Rattle.model.specs.declared.Header.{Header}
use Rattle.model.specs.Store.{last_of}
use Rattle.model.specs.Sound.{rule7}
use Rattle.model.specs.Layout.{page_of, read_entries, decode_page, read_header, read_pages, decode, size_of}
use Rattle.page.proofs.laws.Read.{level-of, start_of, entries-of}
use Rattle.store.proofs.laws.Read.{behind, current-of, opened_of}
use Rattle.local.specs.Local.{head_at, level_at, count_at}
use Rattle.local.specs.Seventh.{is_young, young_ok}

module _ (least : ℕ) (s : List ℕ) (n w : ℕ) where
  pub young-is : young_ok w (decode_page least (page_of least s n))
      ≡ (eqb (level_at least s n) 0
      || (not (eqb (head_at least s n).start w) || all (is_young w) (read_entries (page_of least s n) 128 (count_at least s n))))
  unfolding young_ok
  young-is = rw (level-of least (page_of least s n), start_of least (page_of least s n), entries-of least (page_of least s n))

module _ (least : ℕ) (s : List ℕ) (h : Header) (is : h ≡ read_header least s) where
  opened-is : (decode least s).opened ≡ h.opened
  opened-is = opened_of least s ∙ ap (λ (x : Header). x.opened) (sym is)

  pub seven-is : (w : ℕ) → w ≡ last_of h.opened h.current
      → rule7 (decode least s) ≡ (not h.opened || all (young_ok w) (read_pages least s 5 (size_of least s - 5)))
  unfolding rule7 young_ok
  seven-is w e = rw (opened-is, behind least s) (at h.opened refl)
    where
      at : (b : Bool) → h.opened ≡ b
          → (not b || all (young_ok (suc (decode least s).current)) (read_pages least s 5 (size_of least s - 5)))
          ≡ (not b || all (young_ok w) (read_pages least s 5 (size_of least s - 5)))
      at false o = refl
      at true o =
          ap (λ (n : ℕ). all (young_ok n) (read_pages least s 5 (size_of least s - 5)))
          (ap suc (current-of least s ∙ ap (λ (x : Header). x.current) (sym is)) ∙ sym (e ∙ ap (λ (b : Bool). last_of b h.current) o))
