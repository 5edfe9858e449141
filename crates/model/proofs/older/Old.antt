-- What an update does to a page leaves the entries alive at every older version as they were.
-- Assumes nothing.
use Prim.Native.Nat.{ℕ, ◌<◌}
use native.Mathlib.Omega.{arith}
use mathlib.Core.Bool.{Bool, true, false, ◌&&◌}
use mathlib.Core.Path.{◌≡◌, refl, ap, ◌∙◌}
use mathlib.Core.List.{List, [], ◌∷◌, map}
use lib.Dec.{leb, ltb, eqb}
use borrow.Author.Tests.{ltb-true, leb-true, eqb-true, lt-ltb, lt-leb}
use Rattle.model.specs.Basic.{keep, those, has, all}
use Rattle.model.specs.declared.Entry.{Entry}
use Rattle.model.specs.declared.Pair.{Pair}
use Rattle.model.specs.Entry.{pair_of, within, live_at, born, enter, end_one, end_those}
use Rattle.model.specs.Page.{Page, Change, born_all, pairs_at, changed, killed, filled}
use Rattle.model.proofs.lists.Lists.{both_true, all_cons, map-keep, those-enter}

module _ (v w : ℕ) (old : v < w) where
  -- nothing that starts at w is alive before
  pub unborn : (a b : ℕ) → a ≡ w → within a b v ≡ false
  unborn a b e = rw (lt-leb a v (omega arith))

  -- putting entries in
  pub old-born : (xs : List Pair) (es : List Entry) → those (live_at v) (born_all w xs es) ≡ those (live_at v) es
  old-born [] es = refl
  old-born (x ∷ xs) es = old-born xs (enter (born w x) es) ∙ those-enter (live_at v) (born w x) (unborn w _ refl) es

  -- ending entries that end later
  pub old-end : (g : Entry → Bool) → ((e : Entry) → g e ≡ true → w < e.end) → (es : List Entry)
      → map pair_of (those (live_at v) (end_those g w es)) ≡ map pair_of (those (live_at v) es)
  old-end g later [] = refl
  old-end g later (e ∷ es) = at (g e) (eqb e.start w) refl refl (old-end g later es)
    where
      at : (b c : Bool) → g e ≡ b → eqb e.start w ≡ c
          → map pair_of (those (live_at v) (end_those g w es)) ≡ map pair_of (those (live_at v) es)
          → map pair_of (those (live_at v) (end_one b c w e (end_those g w es))) ≡ map pair_of (keep (live_at v e) e (those (live_at v) es))
      at false c p q ih = simp map-keep (ap (keep (live_at v e) (pair_of e)) ih)
      at true true p q ih = rw (unborn e.start e.end (eqb-true _ _ q)) ih
      at true false p q ih =
          rw (lt-ltb v w old, lt-ltb v e.end (omega (arith, later e p)))
          (simp map-keep (ap (keep (leb e.start v && true) (pair_of e)) ih))

  pub live-later : (e : Entry) → live_at w e ≡ true → w < e.end
  live-later e p = ltb-true _ _ (both_true (leb e.start w) (ltb w e.end) p).1

  -- (a) a change in place
  pub old-changed : (c : Change) (p : Page) → pairs_at v (changed w c p) ≡ pairs_at v p
  old-changed c p =
      ap (map pair_of) (old-born c.take _) ∙ old-end (λ (e : Entry). live_at w e && has e.key c.drop)
      (λ e h. live-later e (both_true (live_at w e) (has e.key c.drop) h).0) p.entries

  pub old-killed : (p : Page) → pairs_at v (killed w p) ≡ pairs_at v p
  old-killed p = old-end (live_at w) live-later p.entries

  -- a page that starts at w shows nothing before
  pub old-filled : (level : ℕ) (xs : List Pair) → pairs_at v (filled w level xs) ≡ []
  old-filled level [] = refl
  old-filled level (x ∷ xs) = rw (unborn w _ refl) (old-filled level xs)

  pub old-none : (es : List Entry) → all (λ (e : Entry). leb w e.start) es ≡ true → map pair_of (those (live_at v) es) ≡ []
  old-none [] h = refl
  old-none (e ∷ es) h =
      let (here, rest) = all_cons (λ (x : Entry). leb w x.start) e es h in
      rw (lt-leb e.start v (omega (arith, leb-true w e.start here))) (old-none es rest)
