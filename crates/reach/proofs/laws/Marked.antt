-- The verdict at one version, by a walk and its marks. Assumes nothing.
use Prim.Native.Nat.{ℕ, zero, suc, ◌+◌, ◌-◌}
use mathlib.Core.Bool.{Bool, false, ◌&&◌, not}
use mathlib.Core.Path.{◌≡◌, refl, ap, sym, ◌∙◌}
use mathlib.Core.List.{List, [], ◌∷◌, map}
use native.Mathlib.Numerals.{add-one, sub-one}
use lib.Dec.{eqb}
use lib.ListN.{get_or, drop}
use Rattle.model.specs.Basic.{all, any, has}
use Rattle.model.specs.Entry.{within}
use Rattle.model.specs.Page.{Page}
use Rattle.model.specs.Walk.{Seen, seen, root_at, height_of}
use Rattle.model.specs.Sound.{same, reached_well}
use Rattle.model.specs.Layout.{page_of, read_pages, decode, size_of}
use Rattle.page.proofs.laws.Read.{level-of, start_of, end-of}
use Rattle.store.proofs.laws.Read.{behind, page-at}
use Rattle.local.specs.Local.{head_at, level_at}
use Rattle.std.specs.Prelude.{None, Some}
use Rattle.std.specs.List.{list_all, range_with_len}
use Rattle.reach.specs.Pending.{passes, whole, whole_in, is_number, Tells}
use Rattle.reach.proofs.laws.Stretch.{over-one}
use Rattle.notes.specs.Ready.{RootFine}
use Rattle.reach.specs.Versions.{marked_well, version_ok}

-- ---- marks

-- each is read in turn
module _ (least : ℕ) (s : List ℕ) (v : ℕ) (marks : List Bool) where
  abbrev pub mark_test : ℕ → Bool
  mark_test n = same (not (eqb (level_at least s n) 0) && within (head_at least s n).start (head_at least s n).end v) (get_or marks n false)

  pub marked-all : (n k : ℕ) → list_all mark_test (range_with_len n k) ≡ marked_well v marks n (read_pages least s n k)
  unfolding marked_well read_pages
  marked-all n zero = refl
  marked-all n (suc k) =
      rw (
        ← level-of least (page_of least s n),
        ← start_of least (page_of least s n),
        ← end-of least (page_of least s n),
        marked-all (n + 1) k,
      )

marked-reached : (v : ℕ) (marks : List Bool) (ns : List ℕ) → ((m : ℕ) → get_or marks m false ≡ has m ns) → (n : ℕ) (ps : List Page)
    → marked_well v marks n ps ≡ reached_well v ns n ps
unfolding marked_well
marked-reached v marks ns h n [] = refl
marked-reached v marks ns h n (p ∷ ps) = rw (h n, add-one, marked-reached v marks ns h (suc n) ps)

any-map : (m : ℕ) (xs : List Seen) → any (is_number m) xs ≡ has m (map (λ (x : Seen). x.number) xs)
any-map m [] = refl
any-map m (x ∷ xs) = rw (any-map m xs)

-- ---- the verdict at a version

module _ (least : ℕ) (s : List ℕ) (r up : ℕ) (f : RootFine least s r) (u : up ≡ level_at least s r - 1) where
  seen-whole : (v : ℕ) → r ≡ root_at (decode least s).slots v → seen (decode least s) v ≡ whole least s up v r
  unfolding whole
  seen-whole v e =
      let h : height_of (decode least s).pages r ≡ up
      = rw (page-at least s r f.is_page.0 f.is_page.1, level-of least (page_of least s r)) (sym (u ∙ sub-one (level_at least s r))) in
      rw (← e, h)

  -- rule 6, at one version
  module _ (v : ℕ) (e : r ≡ root_at (decode least s).slots v) where
    one : whole_in least s up v (v + 1) r ≡ whole least s up v r
    unfolding whole_in
    one = over-one (λ (x : ℕ). whole least s up x r) v

    abbrev reach : Bool
    reach = reached_well v (map (λ (x : Seen). x.number) (whole least s up v r)) 5 (drop 5 (decode least s).pages)

    version-is : version_ok least 6 s v ≡ (all (passes least 6) (whole least s up v r) && reach)
    unfolding version_ok
    version-is =
        ap (λ (xs : List Seen). all (passes least 6) xs
        && reached_well v (map (λ (x : Seen). x.number) xs) 5 (drop 5 (decode least s).pages)) (seen-whole v e)

    pub fails : Tells least s r up v (v + 1) 6 None → version_ok least 6 s v ≡ false
    fails t = version-is ∙ ap (λ (b : Bool). b && reach) (sym (rw one at t.verdict))

    module _ (marks : List Bool) (t : Tells least s r up v (v + 1) 6 (Some marks)) where
      marks-are : (m : ℕ) → get_or marks m false ≡ any (is_number m) (whole least s up v r)
      marks-are m = t.marked marks refl m ∙ ap (any (is_number m)) one

      pub passes-six : version_ok least 6 s v ≡ marked_well v marks 5 (read_pages least s 5 (size_of least s - 5))
      passes-six =
          version-is ∙ rw (← rw one at t.verdict, behind least s)
          (sym (marked-reached v marks (map (λ (x : Seen). x.number) (whole least s up v r))
          (λ m. marks-are m ∙ any-map m (whole least s up v r)) 5 (read_pages least s 5 (size_of least s - 5))))
