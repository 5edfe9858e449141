-- Older versions: pages that abandon leaves alike live alike then, and the directory has the same roots.
-- Assumes nothing.
use Prim.Native.Nat.{ℕ, ◌≤◌, ◌<◌, max}
use native.Mathlib.Omega.{arith}
use mathlib.Core.Bool.{Bool, true, false, ◌&&◌, not}
use mathlib.Core.Path.{◌≡◌, refl, ap, sym, ◌∙◌, subst}
use mathlib.Core.Logic.{◌⊎◌, inl, inr, ◌≢◌}
use mathlib.Core.List.{List, [], ◌∷◌, ◌++◌, map}
use lib.Dec.{leb, ltb, eqb}
use lib.ListN.{get_or, drop, get_or-map}
use borrow.Author.Tests.{ltb-true, leb-true, eqb-true, eqb-false, lt-ltb, le-leb, lt-leb, ne_eqb, not-true}
use Rattle.model.specs.Basic.{all, those, keep, pick, in_order}
use Rattle.model.specs.Entry.{alive, within}
use Rattle.model.specs.Page.{Page, free, is_free, active}
use Rattle.model.specs.declared.Slot.{Slot}
use Rattle.model.specs.Store.{page}
use Rattle.model.specs.Walk.{root_from, root_at}
use Rattle.model.specs.Sound.{first_version}
use Rattle.model.specs.Climb
use Rattle.model.specs.Calls.{revived_end, back_by, back}
use Rattle.model.specs.Inner.{In}
use Rattle.model.specs.ByRule.{lives_at}
use Rattle.model.proofs.lists.Lists.{both_true, both-intro, all_cons}
use Rattle.model.proofs.lists.Members.{not-both, all_in, all-by, in-those, in-append}
use Rattle.model.proofs.lists.Bools.{fails-right}
use Rattle.model.proofs.tree.Local.{all_append}

module _ (v w : ℕ) (old : v < w) (lim : w < alive) where
  -- a page that starts at w does not live before
  pub young-dead : (p : Page) → p.start ≡ w → lives_at v p ≡ false
  young-dead p e = fails-right (not (is_free p)) (within p.start p.end v) (rw (lt-leb p.start v (omega arith)))

  revived-within : (n : ℕ) → ltb v (revived_end w n) ≡ ltb v n
  revived-within n = at (eqb n w) refl
    where
      at : (b : Bool) → eqb n w ≡ b → ltb v (pick b alive n) ≡ ltb v n
      at true e = lt-ltb v alive (omega arith) ∙ sym (lt-ltb v n (omega (arith, eqb-true n w e)))
      at false e = refl

  pub back-lives : (p : Page) → lives_at v (back w p) ≡ lives_at v p
  back-lives p = at (active w p) refl
    where
      at : (b : Bool) → active w p ≡ b → lives_at v (back_by b w p) ≡ lives_at v p
      at true e = sym (young-dead p (eqb-true p.start w e))
      at false e = ap (λ (b : Bool). not (is_free p) && (leb p.start v && b)) (revived-within p.end)

  pub back_level : (p : Page) → lives_at v p ≡ true → (back w p).level ≡ p.level
  back_level p h = at (active w p) refl
    where
      at : (b : Bool) → active w p ≡ b → (back_by b w p).level ≡ p.level
      at true e = absurd (not-both (lives_at v p) h (young-dead p (eqb-true p.start w e)))
      at false e = refl

-- pages left alike by abandon
module _ (w : ℕ) (lim : w < alive) (ps qs : List Page) (same : map (back w) qs ≡ map (back w) ps) where
  back-page : (n : ℕ) → back w free ≡ free → back w (page qs n) ≡ back w (page ps n)
  back-page n z =
      sym (get_or-map (back w) qs n free) ∙ ap (λ (xs : List Page). get_or xs n (back w free)) same ∙ get_or-map (back w) ps n free

  module _ (z : back w free ≡ free) (v : ℕ) (old : v < w) where
    pub lives-alike : (n : ℕ) → lives_at v (page qs n) ≡ lives_at v (page ps n)
    lives-alike n = sym (back-lives v w old lim (page qs n)) ∙ ap (lives_at v) (back-page n z) ∙ back-lives v w old lim (page ps n)

    pub level-alike : (n : ℕ) → lives_at v (page ps n) ≡ true → (page qs n).level ≡ (page ps n).level
    level-alike n h =
        sym (back_level v w old lim (page qs n) (lives-alike n ∙ h)) ∙ ap (λ (p : Page). p.level) (back-page n z)
        ∙ back_level v w old lim (page ps n) h

-- the directory
abbrev pub by_slot : Slot → Slot → Bool
by_slot x y = ltb x.version y.version

root-above : (v r : ℕ) (xs : List Slot) → all (λ (x : Slot). ltb v x.version) xs ≡ true → root_from r xs v ≡ r
root-above v r [] h = refl
root-above v r (x ∷ xs) h =
    let (a, b) = all_cons (λ (y : Slot). ltb v y.version) x xs h in
    ap (λ (b : Bool). root_from (pick b x.root r) xs v) (lt-leb x.version v (ltb-true v x.version a)) ∙ root-above v r xs b

-- each slot's root is the root of its version
pub root-slot : (r : ℕ) (xs : List Slot) → in_order by_slot xs ≡ true → (x : Slot) → In x xs → root_from r xs x.version ≡ x.root
root-slot r [] o x i = absurd i
root-slot r (y ∷ xs) o x (inl e) =
    let (a, b) = both_true (all (by_slot y) xs) (in_order by_slot xs) o in
    subst (λ (z : Slot). root_from r (y ∷ xs) z.version ≡ z.root) (sym e)
    (ap (λ (b : Bool). root_from (pick b y.root r) xs y.version) (le-leb y.version y.version (omega arith))
    ∙ root-above y.version y.root xs a)
root-slot r (y ∷ xs) o x (inr i) = root-slot (pick (leb y.version x.version) y.root r) xs (both_true (all (by_slot y) xs) (in_order by_slot xs) o).1 x i

module _ (w : ℕ) where
  abbrev pub older : Slot → Bool
  older x = not (eqb x.version w)

  root-those : (v r : ℕ) → v < w → (xs : List Slot) → root_from r (those older xs) v ≡ root_from r xs v
  root-those v r h [] = refl
  root-those v r h (x ∷ xs) = at (eqb x.version w) refl (λ q. root-those v q h xs)
    where
      at : (b : Bool) → eqb x.version w ≡ b → ((q : ℕ) → root_from q (those older xs) v ≡ root_from q xs v)
          → root_from r (keep (not b) x (those older xs)) v ≡ root_from (pick (leb x.version v) x.root r) xs v
      at true e ih =
          ih r ∙ ap (λ (b : Bool). root_from (pick b x.root r) xs v)
          (sym (lt-leb x.version v (omega (arith, eqb-true x.version w e))))
      at false e ih = ih _

  root-snoc : (v r n : ℕ) → v < w → (xs : List Slot) → root_from r (xs ++ (record { version = w; root = n } ∷ [])) v ≡ root_from r xs v
  root-snoc v r n h [] = ap (λ (b : Bool). pick b n r) (lt-leb w v h)
  root-snoc v r n h (x ∷ xs) = root-snoc v (pick (leb x.version v) x.root r) n h xs

  pub root-past : (v n : ℕ) → v < w → (xs : List Slot) → root_at (Climb.put_slot w n xs) v ≡ root_at xs v
  unfolding Climb.put_slot
  root-past v n h xs = root-snoc v 0 n h (those older xs) ∙ root-those v 0 h xs

  pub root_kept : (v : ℕ) → v < w → (xs : List Slot) → root_at (those older xs) v ≡ root_at xs v
  root_kept v h xs = root-those v 0 h xs

  -- rule 2 of the slots left, and with the new one
  pub those-rise : (xs : List Slot) → in_order by_slot xs ≡ true → in_order by_slot (those older xs) ≡ true
  those-rise [] o = refl
  those-rise (x ∷ xs) o =
      let (a, b) = both_true (all (by_slot x) xs) (in_order by_slot xs) o in
      at (older x) (all-by (by_slot x) (those older xs) (λ y i. all_in (by_slot x) y xs a (in-those older y xs i).1)) (those-rise xs b)
    where
      at : (b : Bool) → all (by_slot x) (those older xs) ≡ true → in_order by_slot (those older xs) ≡ true
          → in_order by_slot (keep b x (those older xs)) ≡ true
      at true a ih = both-intro _ _ a ih
      at false a ih = ih

  snoc-rise : (n : ℕ) (xs : List Slot) → in_order by_slot xs ≡ true → all (λ (x : Slot). ltb x.version w) xs ≡ true
      → in_order by_slot (xs ++ (record { version = w; root = n } ∷ [])) ≡ true
  snoc-rise n [] o h = refl
  snoc-rise n (x ∷ xs) o h =
      let (a, b) = both_true (all (by_slot x) xs) (in_order by_slot xs) o in
      let (c, d) = all_cons (λ (y : Slot). ltb y.version w) x xs h in
      both-intro _ _ (all_append (by_slot x) xs (record { version = w; root = n } ∷ []) a (both-intro _ _ c refl)) (snoc-rise n xs b d)

  pub put-rise : (n : ℕ) (xs : List Slot) → in_order by_slot xs ≡ true → all (λ (x : Slot). leb x.version w) xs ≡ true
      → in_order by_slot (Climb.put_slot w n xs) ≡ true
  unfolding Climb.put_slot
  put-rise n xs o h =
      snoc-rise n (those older xs) (those-rise xs o)
      (all-by (λ (x : Slot). ltb x.version w) (those older xs) (λ x i. at x (in-those older x xs i)))
    where
      at : (x : Slot) → (older x ≡ true) × In x xs → ltb x.version w ≡ true
      at x z =
          let ne : x.version ≡ w → ⊥ = eqb-false x.version w (not-true (eqb x.version w) z.0) in
          let le : x.version ≤ w = leb-true x.version w (all_in (λ (y : Slot). leb y.version w) x xs h z.1) in
          lt-ltb x.version w (omega arith)

  -- a test on slots
  pub put_all : (f : Slot → Bool) (n : ℕ) (xs : List Slot) → f (record { version = w; root = n }) ≡ true
      → ((x : Slot) → In x xs → x.version ≢ w → f x ≡ true) → all f (Climb.put_slot w n xs) ≡ true
  unfolding Climb.put_slot
  put_all f n xs h g =
      all-by f (those older xs ++ (record { version = w; root = n } ∷ []))
      (λ x i. at x (in-append x (those older xs) (record { version = w; root = n } ∷ []) i))
    where
      at : (x : Slot) → In x (those older xs) ⊎ In x (record { version = w; root = n } ∷ []) → f x ≡ true
      at x (inl i) = let (a, b) = in-those older x xs i in g x b (eqb-false x.version w (not-true (eqb x.version w) a))
      at x (inr (inl e)) = ap f e ∙ h
      at x (inr (inr e)) = absurd e

  pub those-all-of : (f : Slot → Bool) (xs : List Slot) → ((x : Slot) → In x xs → x.version ≢ w → f x ≡ true)
      → all f (those older xs) ≡ true
  those-all-of f xs g =
      all-by f (those older xs)
      (λ x i. let (a, b) = in-those older x xs i in g x b (eqb-false x.version w (not-true (eqb x.version w) a)))

  -- the first slot stays, and the others are above the oldest version
  module _ (old : ℕ) (h : old < w) where
    abbrev newer : List Slot → Bool
    newer ys = all (λ (y : Slot). ltb old y.version) (drop 1 ys)

    first-old : (x : Slot) → x.version ≤ old → older x ≡ true
    first-old x e = ap not (ne_eqb x.version w (λ (z : x.version ≡ w). omega arith))

    pub put_first : (n : ℕ) (xs : List Slot) → first_version old xs ≤ old → first_version old (Climb.put_slot w n xs) ≤ old
    unfolding Climb.put_slot
    put_first n [] e = absurd (omega arith)
    put_first n (x ∷ xs) e =
        subst (λ (b : Bool). first_version old (keep b x (those older xs) ++ (record { version = w; root = n } ∷ [])) ≤ old)
        (sym (first-old x e)) e

    pub those-first : (xs : List Slot) → first_version old xs ≤ old → first_version old (those older xs) ≤ old
    those-first [] e = absurd (omega arith)
    those-first (x ∷ xs) e = subst (λ (b : Bool). first_version old (keep b x (those older xs)) ≤ old) (sym (first-old x e)) e

    those-newer : (xs : List Slot) → all (λ (y : Slot). ltb old y.version) xs ≡ true
        → all (λ (y : Slot). ltb old y.version) (those older xs) ≡ true
    those-newer xs a = all-by _ (those older xs) (λ y i. all_in (λ (z : Slot). ltb old z.version) y xs a (in-those older y xs i).1)

    pub put-newer : (n : ℕ) (xs : List Slot) → first_version old xs ≤ old → newer xs ≡ true → newer (Climb.put_slot w n xs) ≡ true
    unfolding Climb.put_slot
    put-newer n [] e a = absurd (omega arith)
    put-newer n (x ∷ xs) e a =
        subst (λ (b : Bool). newer (keep b x (those older xs) ++ (record { version = w; root = n } ∷ [])) ≡ true) (sym (first-old x e))
        (all_append (λ (y : Slot). ltb old y.version) (those older xs) (record { version = w; root = n } ∷ []) (those-newer xs a)
        (both-intro _ _ (lt-ltb old w h) refl))

    pub kept-newer : (xs : List Slot) → first_version old xs ≤ old → newer xs ≡ true → newer (those older xs) ≡ true
    kept-newer [] e a = absurd (omega arith)
    kept-newer (x ∷ xs) e a = subst (λ (b : Bool). newer (keep b x (those older xs)) ≡ true) (sym (first-old x e)) (those-newer xs a)

-- each slot's root is the root of a version from the oldest on
pub record SlotRooted (old : ℕ) (xs : List Slot) (x : Slot) : Type 0 where
  pub at : ℕ
  pub from : old ≤ at
  pub upto : at ≤ max old x.version
  pub is : root_at xs at ≡ x.root

pub stands : (old : ℕ) (xs : List Slot) → first_version old xs ≤ old → in_order by_slot xs ≡ true
    → all (λ (y : Slot). ltb old y.version) (drop 1 xs) ≡ true → (x : Slot) → In x xs → SlotRooted old xs x
stands old [] e o a x i = absurd i
stands old (y ∷ ys) e o a x (inl z) = record {
  at = old;
  from = omega arith;
  upto = omega arith;
  is = ap (λ (b : Bool). root_from (pick b y.root 0) ys old) (le-leb y.version old e) ∙ root-above old y.root ys a
      ∙ ap (λ (q : Slot). q.root) (sym z);
}
stands old (y ∷ ys) e o a x (inr i) = record {
  at = x.version;
  from = omega (arith, ltb-true old x.version (all_in (λ (q : Slot). ltb old q.version) x ys a i));
  upto = omega arith;
  is = root-slot 0 (y ∷ ys) o x (inr i);
}
