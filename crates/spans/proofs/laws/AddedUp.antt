-- Rule 6 by adding up: a page whose ways in add up to its span is reached at every version of it, from the highest level down.
-- Assumes nothing.
use Prim.Native.Nat.{ℕ, zero, suc, ◌+◌, ◌-◌, ◌≤◌, ◌<◌, max}
use native.Mathlib.Omega.{arith}
use mathlib.Core.Bool.{true, false, ◌&&◌, ◌||◌, not}
use mathlib.Core.Path.{◌≡◌, refl, ap, ap₂, sym, ◌∙◌, subst}
use mathlib.Core.Logic.{◌⊎◌, inl, inr}
use mathlib.Core.List.{List, [], ◌∷◌, map}
use lib.Dec.{leb, ltb, eqb}
use lib.ListN.{length, get_or, drop}
use lib.Seq.{get_or-drop}
use borrow.Author.Tests.{leb-true, leb-false, ltb-true, ltb-false, eqb-true, eq-eqb, not-true}
use Rattle.model.specs.Basic.{all, has}
use Rattle.model.specs.declared.Entry.{Entry}
use Rattle.model.specs.declared.Slot.{Slot}
use Rattle.model.specs.Entry.{alive, within}
use Rattle.model.specs.Page.{Page, free, is_free}
use Rattle.model.specs.Store.{Store, page}
use Rattle.model.specs.Walk.{Seen, seen, seen_under, key_limit}
use Rattle.model.specs.Inner.{In}
use Rattle.model.specs.ByRule.{lives_at, numbers}
use Rattle.spans.specs.Quick.{upto, slot_fine, slots_fine, led_to, spans_met}
use Rattle.model.proofs.lists.Lists.{both_true, both-intro}
use Rattle.model.proofs.lists.Members.{not-both, either_true, either_left, either-right, bool_cases, in_map, map-in, has_in, in-has}
use Rattle.model.proofs.sound.ByRule.{Front}
use Rattle.model.proofs.sound.Walks.{Reach, Self, Above, reach-self, last_step, seen-reached, IsSeen, reached-under}
use Rattle.model.proofs.tree.Bridge.{passes_at}
use Rattle.model.proofs.sound.Ready.{level-used, within_of}
use Rattle.spans.proofs.laws.RulesGive.{leads-of, child-at, page-ends, reach-level, root, height, root-level}
use Rattle.spans.proofs.laws.Sums.{sum_over, sum-add, sum-full, Lies, named_all, routed-all, roots_at, Slots, rooted-sum}
use Rattle.spans.proofs.laws.OneWay.{ways, Reached, Parent, parent-lives, parent-higher, parent-step, ways-some, ways-one}

-- a member by its place
pub in_place : {A : Type 0} (f a : A) (xs : List A) → In a xs → (i : ℕ) × (i < length xs) × (get_or xs i f ≡ a)
in_place f a [] i = absurd i
in_place f a (x ∷ xs) (inl e) = (0, omega arith, sym e)
in_place f a (x ∷ xs) (inr i) = let (k, l, q) = in_place f a xs i in (suc k, omega arith, q)

module _ (least : ℕ) (two : 2 ≤ least) (s : Store) (d : Front least s) where
  abbrev ps : List Page
  ps = s.pages

  -- ---- ways added up

  -- a slot's stretch lies in its page's span
  pub slots-inside : (n a k : ℕ) → max s.oldest (page ps n).start ≡ a → (page ps n).end ≤ a + k → (xs : List Slot)
      → slots_fine least s.oldest ps xs ≡ true
      → Slots (λ (r c e : ℕ). r ≡ n → Lies s.oldest a k c e) xs
  slots-inside n a k p q [] h = tt
  slots-inside n a k p q (x ∷ xs) h =
      let (here, rest) = both_true (slot_fine least (max s.oldest x.version) (upto xs) (page ps x.root))
      (slots_fine least s.oldest ps xs) h in
      (λ z. at here z, slots-inside n a k p q xs rest)
    where
      at : slot_fine least (max s.oldest x.version) (upto xs) (page ps x.root) ≡ true → x.root ≡ n
          → Lies s.oldest a k x.version (upto xs)
      at here z =
          let r = page ps x.root in
          let c : ℕ = max s.oldest x.version in
          let (u, w) = both_true (leb r.start c) (leb (upto xs) r.end)
          (both_true (leb r.start c && leb (upto xs) r.end) _ here).0 in
          let e : r.start ≡ (page ps n).start = ap (λ (m : ℕ). (page ps m).start) z in
          let g : r.end ≡ (page ps n).end = ap (λ (m : ℕ). (page ps m).end) z in
          inl (omega (arith, leb-true r.start c u), omega (arith, leb-true (upto xs) r.end w))

  -- a router's span lies in its page's
  routers-inside : (n a k : ℕ) → max s.oldest (page ps n).start ≡ a → (page ps n).end ≤ a + k → (p : Page) → In p (drop 5 ps)
      → leb p.level 1 ≡ false → (e : Entry) → In e p.entries → e.value ≡ n
      → Lies s.oldest a k e.start e.end
  routers-inside n a k p q r i l e j z = at (bool_cases (ltb s.oldest e.end))
    where
      at : (ltb s.oldest e.end ≡ true) ⊎ (ltb s.oldest e.end ≡ false) → Lies s.oldest a k e.start e.end
      at (inr x) = inr (ltb-false s.oldest e.end x)
      at (inl x) =
          let (m, inn, same) = in_place free r (drop 5 ps) i in
          let is : page ps (5 + m) ≡ r = sym (get_or-drop 5 ps m free) ∙ same in
          let high : 1 < (page ps (5 + m)).level = omega (arith, leb-false r.level 1 l, ap (λ (g : Page). g.level) is) in
          let g = leads-of least two s d (5 + m) ((page ps (5 + m)).level - 2) e (omega arith)
          (subst (λ (b : Page). In e b.entries) (sym is) j) (ltb-true s.oldest e.end x) in
          let u : (page ps e.value).start ≡ (page ps n).start = ap (λ (b : ℕ). (page ps b).start) z in
          let w : (page ps e.value).end ≡ (page ps n).end = ap (λ (b : ℕ). (page ps b).end) z in
          inl (omega (arith, g.later), omega (arith, g.sooner))

  -- from the oldest version on
  abbrev pub since : ℕ → ℕ
  since n = max s.oldest (page ps n).start

  pub led-sum : slots_fine least s.oldest ps s.slots ≡ true → (n : ℕ) → is_free (page ps n) ≡ false
      → sum_over (ways least two s d n) (since n) ((page ps n).end - since n) ≡ led_to s n
  led-sum h n u =
      let a : ℕ = since n in
      let k : ℕ = (page ps n).end - since n in
      let e : (page ps n).end ≤ a + k = omega arith in
      let o : s.oldest ≤ a = omega arith in
      sum-add (λ (v : ℕ). roots_at n v s.slots) (λ (v : ℕ). named_all n v (drop 5 ps)) a k
      ∙ ap₂ ◌+◌ (rooted-sum s.oldest n a k s.slots o (slots-inside n a k refl e s.slots h))
      (routed-all s.oldest n a k (drop 5 ps) o (routers-inside n a k refl e))

  -- ---- the numbers that a walk meets

  pub reached-number : (v n : ℕ) → Reached least two s d v n → has n (numbers s v) ≡ true
  reached-number v n (j, r) =
      in-has n (numbers s v) (at (reached-under ps v (height least two s d v) key_limit (root least two s d v) j n r))
    where
      at : Self ps v (height least two s d v) (root least two s d v) j n
          ⊎ ((x : Seen) × (In x (seen_under (height least two s d v) ps v key_limit (root least two s d v))) × (IsSeen ps v j n x))
          → In n (numbers s v)
      at (inl z) = inl z.number
      at (inr z) =
          inr (subst (λ (k : ℕ). In k
          (map (λ (x : Seen). x.number) (seen_under (height least two s d v) ps v key_limit (root least two s d v)))) z.2.number
          (map-in (λ (x : Seen). x.number) z.0 (seen_under (height least two s d v) ps v key_limit (root least two s d v)) z.1))

  pub number-reached : (v n : ℕ) → has n (numbers s v) ≡ true → Reached least two s d v n
  number-reached v n h =
      let (x, i, e) = in_map (λ (y : Seen). y.number) n (seen s v) (has_in n (numbers s v) h) in
      let o = seen-reached ps v (height least two s d v) 0 key_limit (root least two s d v) true x i in
      (x.up, subst (λ (k : ℕ). Reach ps v (height least two s d v) (root least two s d v) x.up k) (sym e) o.is-reached)

  -- ---- reached and alive

  module _ (passes : (v : ℕ) → s.oldest ≤ v → v < alive → all (passes_at least) (seen s v) ≡ true)
      (root-lives : (v : ℕ) → s.oldest ≤ v → v < alive
      → within (page ps (root least two s d v)).start (page ps (root least two s d v)).end v ≡ true) where
    -- what is reached lives: by rule 3, and a root by its slot
    pub reached-lives : (v n : ℕ) → s.oldest ≤ v → v < alive → Reached least two s d v n → lives_at v (page ps n) ≡ true
    reached-lives v n from low (j, r) =
        both-intro _ _
        (ap not (level-used (page ps n) j
        (reach-level least two s d v from (height least two s d v) (root least two s d v) j n (root-level least two s d v from) r)))
        (at (last_step ps v (height least two s d v) (root least two s d v) j n r))
      where
        at : Self ps v (height least two s d v) (root least two s d v) j n ⊎ Above ps v (height least two s d v) (root least two s d v) j n
            → within (page ps n).start (page ps n).end v ≡ true
        at (inl z) = subst (λ (k : ℕ). within (page ps k).start (page ps k).end v ≡ true) (sym z.number) (root-lives v from low)
        at (inr a) =
            subst (λ (k : ℕ). within (page ps k).start (page ps k).end v ≡ true) a.leads
            (child-at least two s d v from a.parent j a.router
            (reach-level least two s d v from (height least two s d v) (root least two s d v) (suc j) a.parent
            (root-level least two s d v from) a.is-reached) a.is-in).lives

    used-of : (v n : ℕ) → lives_at v (page ps n) ≡ true → is_free (page ps n) ≡ false
    used-of v n h = not-true (is_free (page ps n)) (both_true (not (is_free (page ps n))) (within (page ps n).start (page ps n).end v) h).0

    span-of-life : (v n : ℕ) → lives_at v (page ps n) ≡ true → ((page ps n).start ≤ v) × (v < (page ps n).end)
    span-of-life v n h =
        within_of (page ps n).start (page ps n).end v
        (both_true (not (is_free (page ps n))) (within (page ps n).start (page ps n).end v) h).1

    module _ (slots-fine : slots_fine least s.oldest ps s.slots ≡ true)
        (met : (n : ℕ) → is_free (page ps n) ≡ false → led_to s n ≡ (page ps n).end - since n) where
      -- a page, where those above it are reached
      from-above : (n : ℕ)
          → ((u m : ℕ) → s.oldest ≤ u → (page ps n).level < (page ps m).level → lives_at u (page ps m) ≡ true → Reached least two s d u m)
          → (v : ℕ) → s.oldest ≤ v → lives_at v (page ps n) ≡ true → Reached least two s d v n
      from-above n above v from l = at (ways-some least two s d v from low (passes v from low) n (omega (arith, full)))
        where
          used : is_free (page ps n) ≡ false
          used = used-of v n l

          start : ℕ
          start = since n

          room : ℕ
          room = (page ps n).end - since n

          low : v < alive
          low = omega (arith, (span-of-life v n l).1, page-ends least two s d n used)

          once : (u : ℕ) → start ≤ u → u < start + room → ways least two s d n u ≤ 1
          once u p q =
              let lo : u < alive = omega (arith, page-ends least two s d n used) in
              let old : s.oldest ≤ u = omega arith in
              ways-one least two s d u old lo (passes u old lo) n (λ m. above u m old) (root-lives u old lo)

          full : ways least two s d n v ≡ 1
          full =
              sum-full (ways least two s d n) start room once (led-sum slots-fine n used ∙ met n used) v
              (omega (arith, (span-of-life v n l).0)) (omega (arith, (span-of-life v n l).0, (span-of-life v n l).1))

          at : (root least two s d v ≡ n) ⊎ ((m : ℕ) × Parent least two s d v n m) → Reached least two s d v n
          at (inl e) = (
            height least two s d v,
            subst (Reach ps v (height least two s d v) (root least two s d v) (height least two s d v)) e
                (reach-self ps v (height least two s d v) (root least two s d v)),
          )
          at (inr (m, p)) = parent-step least two s d v from n m p
              (above v m from (parent-higher least two s d v from n m p) (parent-lives least two s d v from n m p))

      -- all pages of levels above 7 - k
      levels-down : (k n : ℕ) → 7 < (page ps n).level + k → (v : ℕ) → s.oldest ≤ v → lives_at v (page ps n) ≡ true
          → Reached least two s d v n
      levels-down zero n h v from l = absurd (omega (arith, (d.pages n (used-of v n l)).low))
      levels-down (suc k) n h v from l = from-above n (λ u m f g z. levels-down k m (omega arith) u f z) v from l

      pub lives-reached : (v n : ℕ) → s.oldest ≤ v → lives_at v (page ps n) ≡ true → Reached least two s d v n
      lives-reached v n from l = levels-down 8 n (omega arith) v from l

      -- rule 6 at v
      pub reached-as : (v n : ℕ) → s.oldest ≤ v → v < alive → lives_at v (page ps n) ≡ has n (numbers s v)
      reached-as v n from low = at (bool_cases (lives_at v (page ps n))) (bool_cases (has n (numbers s v)))
        where
          at : (lives_at v (page ps n) ≡ true) ⊎ (lives_at v (page ps n) ≡ false)
              → (has n (numbers s v) ≡ true) ⊎ (has n (numbers s v) ≡ false) → lives_at v (page ps n) ≡ has n (numbers s v)
          at (inl x) y = x ∙ sym (reached-number v n (lives-reached v n from x))
          at (inr x) (inl y) = absurd (not-both (lives_at v (page ps n)) (reached-lives v n from low (number-reached v n y)) x)
          at (inr x) (inr y) = x ∙ sym y

-- each used page's test
pub met_at : (s : Store) (n : ℕ) (qs : List Page) → spans_met s n qs ≡ true → (i : ℕ) → i < length qs → is_free (page qs i) ≡ false
    → led_to s (n + i) ≡ (page qs i).end - max s.oldest (page qs i).start
met_at s n [] h i l u = absurd (omega arith)
met_at s n (p ∷ qs) h i l u =
    go i l u (both_true (is_free p || eqb (led_to s n) (p.end - max s.oldest p.start)) (spans_met s (suc n) qs) h).0
    (met_at s (suc n) qs (both_true (is_free p || eqb (led_to s n) (p.end - max s.oldest p.start)) (spans_met s (suc n) qs) h).1)
  where
    here : (is_free p ≡ true) ⊎ (eqb (led_to s n) (p.end - max s.oldest p.start) ≡ true) → is_free p ≡ false
        → led_to s n ≡ p.end - max s.oldest p.start
    here (inl e) w = absurd (not-both (is_free p) e w)
    here (inr e) w = eqb-true (led_to s n) (p.end - max s.oldest p.start) e

    go : (i : ℕ) → i < length (p ∷ qs) → is_free (page (p ∷ qs) i) ≡ false
        → (is_free p || eqb (led_to s n) (p.end - max s.oldest p.start)) ≡ true
        → ((k : ℕ) → k < length qs → is_free (page qs k) ≡ false → led_to s (suc n + k) ≡ (page qs k).end - max s.oldest (page qs k).start)
        → led_to s (n + i) ≡ (page (p ∷ qs) i).end - max s.oldest (page (p ∷ qs) i).start
    go zero l u t ih =
        ap (led_to s) (omega arith) ∙ here (either_true (is_free p) (eqb (led_to s n) (p.end - max s.oldest p.start)) t) u
    go (suc k) l u t ih = ap (led_to s) (omega arith) ∙ ih k (omega arith) u

pub at-met : (s : Store) (n : ℕ) (qs : List Page)
    → ((i : ℕ) → i < length qs → is_free (page qs i) ≡ false → led_to s (n + i) ≡ (page qs i).end - max s.oldest (page qs i).start)
    → spans_met s n qs ≡ true
at-met s n [] h = refl
at-met s n (p ∷ qs) h =
    both-intro _ _ (at (bool_cases (is_free p))) (at-met s (suc n) qs (λ i l u. ap (led_to s) (omega arith) ∙ h (suc i) (omega arith) u))
  where
    at : (is_free p ≡ true) ⊎ (is_free p ≡ false) → (is_free p || eqb (led_to s n) (p.end - max s.oldest p.start)) ≡ true
    at (inl e) = either_left (is_free p) _ e
    at (inr e) =
        either-right (is_free p) _
        (eq-eqb (led_to s n) (p.end - max s.oldest p.start) (ap (led_to s) (omega arith) ∙ h 0 (omega arith) e))
