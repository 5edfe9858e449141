-- A change to keys between lo and hi touches nothing outside; and what a page holds is put together and taken apart by key.
-- Assumes nothing.
use Prim.Native.Nat.{ℕ, zero, suc, ◌≤◌, ◌<◌}
use native.Mathlib.Omega.{arith}
use mathlib.Core.Bool.{Bool, true, false, ◌||◌, not}
use mathlib.Core.Path.{◌≡◌, refl, ap, ap₂, sym, ◌∙◌, subst}
use mathlib.Core.Logic.{◌⊎◌, inl, inr}
use mathlib.Core.List.{List, [], ◌∷◌, ◌++◌, map}
use lib.Dec.{leb, ltb, eqb}
use borrow.Author.Tests.{ltb-true, leb-true, lt-ltb, le-ltb, le-leb, ne_eqb, eq-eqb, eqb-true}
use Rattle.model.specs.Basic.{all, has, those, keep, in_order}
use Rattle.model.specs.declared.Pair.{Pair}
use Rattle.model.specs.Entry.{within, placed, enter_pair}
use Rattle.model.specs.Page.{Page, Change, enter_all}
use Rattle.model.specs.Tree.{in_range, Row, Holds}
use Rattle.model.specs.Rules
use Rattle.model.specs.Rules.{same_pair}
use Rattle.model.proofs.lists.Lists.{both_true, both-intro, all_cons}
use Rattle.model.proofs.tree.Tree.{Tree, widen, row-append, row-split, row-keys}

abbrev pub applied : Change → List Pair → List Pair
applied c xs = enter_all c.take (those (λ (x : Pair). not (has x.key c.drop)) xs)

module _ {A : Type 0} where
  pub those-append : (f : A → Bool) (xs ys : List A) → those f (xs ++ ys) ≡ those f xs ++ those f ys
  those-append f [] ys = refl
  those-append f (x ∷ xs) ys = at (f x) (those-append f xs ys)
    where
      at : (b : Bool) → those f (xs ++ ys) ≡ those f xs ++ those f ys → keep b x (those f (xs ++ ys)) ≡ keep b x (those f xs) ++ those f ys
      at true ih = ap {B = List A} (λ (zs : List A). x ∷ zs) ih
      at false ih = ih

  pub those-all : (f : A → Bool) (xs : List A) → all f xs ≡ true → those f xs ≡ xs
  those-all f [] h = refl
  those-all f (x ∷ xs) h =
      let (here, rest) = all_cons f x xs h in
      rw here (ap {B = List A} (λ (zs : List A). x ∷ zs) (those-all f xs rest))

  pub all_append : (f : A → Bool) (xs ys : List A) → all f xs ≡ true → all f ys ≡ true → all f (xs ++ ys) ≡ true
  all_append f [] ys a b = b
  all_append f (x ∷ xs) ys a b =
      let (here, rest) = all_cons f x xs a in
      both-intro _ _ here (all_append f xs ys rest b)

  pub all_left : (f : A → Bool) (xs ys : List A) → all f (xs ++ ys) ≡ true → all f xs ≡ true
  all_left f [] ys h = refl
  all_left f (x ∷ xs) ys h =
      let (here, rest) = all_cons f x (xs ++ ys) h in
      both-intro _ _ here (all_left f xs ys rest)

  pub all_right : (f : A → Bool) (xs ys : List A) → all f (xs ++ ys) ≡ true → all f ys ≡ true
  all_right f [] ys h = h
  all_right f (x ∷ xs) ys h = all_right f xs ys (all_cons f x (xs ++ ys) h).1

module _ (lo hi : ℕ) where
  -- one pair put in between
  enter-right : (p : Pair) (top : ℕ) → p.key < hi → (xs after : List Pair) → in_range hi top after ≡ true
      → enter_pair p (xs ++ after) ≡ enter_pair p xs ++ after
  enter-right p top h [] [] a = refl
  enter-right p top h [] (y ∷ ys) a =
      let (here, rest) = all_cons (λ (x : Pair). within hi top x.key) y ys a in
      rw (lt-ltb p.key y.key (omega (arith, leb-true hi y.key (both_true (leb hi y.key) (ltb y.key top) here).0)))
  enter-right p top h (x ∷ xs) after a = at (ltb p.key x.key) (enter-right p top h xs after a)
    where
      at : (b : Bool) → enter_pair p (xs ++ after) ≡ enter_pair p xs ++ after
          → placed b p x (xs ++ after) (enter_pair p (xs ++ after)) ≡ placed b p x xs (enter_pair p xs) ++ after
      at true ih = refl
      at false ih = ap (λ (zs : List Pair). x ∷ zs) ih

  enter-left : (p : Pair) (bot : ℕ) → lo ≤ p.key → (before xs : List Pair) → in_range bot lo before ≡ true
      → enter_pair p (before ++ xs) ≡ before ++ enter_pair p xs
  enter-left p bot h [] xs a = refl
  enter-left p bot h (y ∷ ys) xs a =
      let (here, rest) = all_cons (λ (x : Pair). within bot lo x.key) y ys a in
      rw (le-ltb p.key y.key (omega (arith, ltb-true y.key lo (both_true (leb bot y.key) (ltb y.key lo) here).1)))
      (ap (λ (zs : List Pair). y ∷ zs) (enter-left p bot h ys xs rest))

  enter-between : (bot top : ℕ) (ps before xs after : List Pair) → in_range lo hi ps ≡ true → in_range bot lo before ≡ true
      → in_range hi top after ≡ true
      → enter_all ps (before ++ (xs ++ after)) ≡ before ++ (enter_all ps xs ++ after)
  enter-between bot top [] before xs after i b a = refl
  enter-between bot top (p ∷ ps) before xs after i b a =
      let (here, rest) = all_cons (λ (x : Pair). within lo hi x.key) p ps i in
      let (low, high) = both_true (leb lo p.key) (ltb p.key hi) here in
      ap (enter_all ps)
      (enter-left p bot (leb-true lo p.key low) before (xs ++ after) b
      ∙ ap (λ (zs : List Pair). before ++ zs) (enter-right p top (ltb-true p.key hi high) xs after a))
      ∙ enter-between bot top ps before (enter_pair p xs) after rest b a

  -- keys outside are not among those dropped
  has-not : (k : ℕ) (ks : List ℕ) → all (within lo hi) ks ≡ true → (k < lo) ⊎ (hi ≤ k) → has k ks ≡ false
  has-not k [] i o = refl
  has-not k (j ∷ ks) i o = rw (ne_eqb k j (λ (e : k ≡ j). at e o)) (has-not k ks (all_cons (within lo hi) j ks i).1 o)
    where
      in-j : (leb lo j ≡ true) × (ltb j hi ≡ true)
      in-j = both_true (leb lo j) (ltb j hi) (all_cons (within lo hi) j ks i).0

      at : k ≡ j → (k < lo) ⊎ (hi ≤ k) → ⊥
      at e (inl h) = omega (arith, leb-true lo j in-j.0)
      at e (inr h) = omega (arith, ltb-true j hi in-j.1)

  stay : (ks : List ℕ) → all (within lo hi) ks ≡ true → (a b : ℕ) → (b ≤ lo) ⊎ (hi ≤ a) → (xs : List Pair) → in_range a b xs ≡ true
      → all (λ (x : Pair). not (has x.key ks)) xs ≡ true
  stay ks i a b o [] h = refl
  stay ks i a b o (x ∷ xs) h =
      let (here, rest) = all_cons (λ (y : Pair). within a b y.key) x xs h in
      let (low, high) = both_true (leb a x.key) (ltb x.key b) here in
      both-intro _ _ (ap not (has-not x.key ks i (at low high o))) (stay ks i a b o xs rest)
    where
      at : leb a x.key ≡ true → ltb x.key b ≡ true → (b ≤ lo) ⊎ (hi ≤ a) → (x.key < lo) ⊎ (hi ≤ x.key)
      at low high (inl p) = inl (omega (arith, ltb-true x.key b high))
      at low high (inr p) = inr (omega (arith, leb-true a x.key low))

  -- A change to keys from lo up to hi is one to what stands there.
  pub applied-between : (bot top : ℕ) (c : Change) → all (within lo hi) c.drop ≡ true → in_range lo hi c.take ≡ true
      → (before xs after : List Pair)
      → in_range bot lo before ≡ true → in_range hi top after ≡ true → applied c (before ++ (xs ++ after)) ≡ before ++ (applied c xs ++ after)
  applied-between bot top c d t before xs after b a =
      ap (enter_all c.take)
      (those-append f before (xs ++ after)
      ∙ ap₂ ◌++◌ (those-all f before (stay c.drop d bot lo (inl (omega arith)) before b))
      (those-append f xs after ∙ ap (λ (zs : List Pair). those f xs ++ zs)
      (those-all f after (stay c.drop d hi top (inr (omega arith)) after a))))
      ∙ enter-between bot top c.take before (those f xs) after t b a
    where
      f : Pair → Bool
      f x = not (has x.key c.drop)

-- two pairs that pass the test are one
pub same-pair : (x y : Pair) → same_pair x y ≡ true → x ≡ y
same-pair x y h =
    let (k, v) = both_true (eqb x.key y.key) (eqb x.value y.value) h in
    λ i. record { key = eqb-true x.key y.key k i; value = eqb-true x.value y.value v i }

other_key : (x y : Pair) → (x.key ≡ y.key → ⊥) → same_pair x y ≡ false
other_key x y n = rw (ne_eqb x.key y.key n)

same_self : (x : Pair) → same_pair x x ≡ true
same_self x =
    both-intro (eqb x.key x.key) (eqb x.value x.value) (eq-eqb x.key x.key refl) (eq-eqb x.value x.value refl)

same_pair-sym : (x y : Pair) → same_pair y x ≡ same_pair x y
same_pair-sym x y = at (same_pair x y) (same_pair y x) refl refl
  where
    at : (a b : Bool) → same_pair x y ≡ a → same_pair y x ≡ b → b ≡ a
    at true true p q = refl
    at false false p q = refl
    at true false p q = sym q ∙ ap (λ (z : Pair). same_pair y z) (same-pair x y p) ∙ same_self y
    at false true p q = sym (sym p ∙ ap (λ (z : Pair). same_pair x z) (same-pair y x q) ∙ same_self x)

-- The old routers give way to the new: one for one, one for two, two for one, two for two.
pub exchange-11 : (r n : Pair) → applied (Rules.exchange (r ∷ []) (n ∷ [])) (r ∷ []) ≡ n ∷ []
unfolding Rules.exchange
exchange-11 r n = rw (same_pair-sym r n) (at (same_pair r n) refl)
  where
    at : (b : Bool) → same_pair r n ≡ b
        → enter_all (keep (not (b || false)) n [])
        (those (λ (x : Pair). not (has x.key (map (λ (y : Pair). y.key) (keep (not (b || false)) r [])))) (r ∷ [])) ≡ n ∷ []
    at true p = ap (λ (x : Pair). x ∷ []) (same-pair r n p)
    at false p = rw (eq-eqb r.key r.key refl)

pub exchange-12 : (r n m : Pair) → r.key ≡ n.key → n.key < m.key → applied (Rules.exchange (r ∷ []) (n ∷ m ∷ [])) (r ∷ []) ≡ n ∷ m ∷ []
unfolding Rules.exchange
exchange-12 r n m e h = at (same_pair r n) refl
  where
    at : (b : Bool) → same_pair r n ≡ b → applied (Rules.exchange (r ∷ []) (n ∷ m ∷ [])) (r ∷ []) ≡ n ∷ m ∷ []
    at true p =
        rw (same_pair-sym r n, p, other_key m r (λ z. omega arith), le-ltb m.key r.key (omega arith))
        (ap (λ (x : Pair). x ∷ m ∷ []) (same-pair r n p))
    at false p =
        rw (
          same_pair-sym r n,
          p,
          other_key m r (λ z. omega arith),
          other_key r m (λ z. omega arith),
          eq-eqb r.key r.key refl,
          le-ltb m.key n.key (omega arith),
        )

pub exchange-21 : (r q n : Pair) → r.key ≡ n.key → r.key < q.key → applied (Rules.exchange (r ∷ q ∷ []) (n ∷ [])) (r ∷ q ∷ []) ≡ n ∷ []
unfolding Rules.exchange
exchange-21 r q n e h = at (same_pair r n) refl
  where
    at : (b : Bool) → same_pair r n ≡ b → applied (Rules.exchange (r ∷ q ∷ []) (n ∷ [])) (r ∷ q ∷ []) ≡ n ∷ []
    at true p =
        rw (
          same_pair-sym r n,
          p,
          other_key q n (λ z. omega arith),
          eq-eqb q.key q.key refl,
          ne_eqb r.key q.key (λ z. omega arith),
        ) (ap (λ (x : Pair). x ∷ []) (same-pair r n p))
    at false p =
        rw (
          same_pair-sym r n,
          p,
          other_key q n (λ z. omega arith),
          other_key n q (λ z. omega arith),
          eq-eqb r.key r.key refl,
          eq-eqb q.key q.key refl,
          ne_eqb q.key r.key (λ z. omega arith),
        )

pub exchange-22 : (r q n m : Pair) → r.key ≡ n.key → r.key < q.key → n.key < m.key
    → applied (Rules.exchange (r ∷ q ∷ []) (n ∷ m ∷ [])) (r ∷ q ∷ []) ≡ n ∷ m ∷ []
unfolding Rules.exchange
exchange-22 r q n m e h g = at (same_pair r n) (same_pair q m) refl refl
  where
    at : (a b : Bool) → same_pair r n ≡ a → same_pair q m ≡ b → applied (Rules.exchange (r ∷ q ∷ []) (n ∷ m ∷ [])) (r ∷ q ∷ []) ≡ n ∷ m ∷ []
    at true true p s =
        rw (same_pair-sym r n, same_pair-sym q m, p, other_key q n (λ z. omega arith), s, other_key m r (λ z. omega arith))
        (ap₂ {C = List Pair} (λ (x y : Pair). x ∷ y ∷ []) (same-pair r n p) (same-pair q m s))
    at true false p s =
        rw (
          same_pair-sym r n,
          same_pair-sym q m,
          p,
          other_key q n (λ z. omega arith),
          s,
          other_key m r (λ z. omega arith),
          ne_eqb r.key q.key (λ z. omega arith),
          eq-eqb q.key q.key refl,
          le-ltb m.key r.key (omega arith),
        )
        (ap (λ (x : Pair). x ∷ m ∷ []) (same-pair r n p))
    at false true p s =
        rw (
          same_pair-sym r n,
          same_pair-sym q m,
          p,
          other_key q n (λ z. omega arith),
          s,
          other_key m r (λ z. omega arith),
          other_key n q (λ z. omega arith),
          other_key r m (λ z. omega arith),
          ne_eqb q.key r.key (λ z. omega arith),
          eq-eqb r.key r.key refl,
          lt-ltb n.key q.key (omega arith),
        )
        (ap (λ (x : Pair). n ∷ x ∷ []) (same-pair q m s))
    at false false p s =
        rw (
          same_pair-sym r n,
          same_pair-sym q m,
          p,
          other_key q n (λ z. omega arith),
          s,
          other_key m r (λ z. omega arith),
          other_key n q (λ z. omega arith),
          other_key r m (λ z. omega arith),
          ne_eqb q.key r.key (λ z. omega arith),
          eq-eqb q.key q.key refl,
          eq-eqb r.key r.key refl,
          le-ltb m.key n.key (omega arith),
        )

-- what a page holds, by key
pub order-append : (lo mid hi : ℕ) (xs ys : List Pair) → in_range lo mid xs ≡ true → in_range mid hi ys ≡ true
    → in_order (λ (x y : Pair). ltb x.key y.key) xs ≡ true → in_order (λ (x y : Pair). ltb x.key y.key) ys ≡ true
    → in_order (λ (x y : Pair). ltb x.key y.key) (xs ++ ys) ≡ true
order-append lo mid hi [] ys a b o p = p
order-append lo mid hi (x ∷ xs) ys a b o p =
    let (here, rest) = all_cons (λ (y : Pair). within lo mid y.key) x xs a in
    let (low, high) = both_true (leb lo x.key) (ltb x.key mid) here in
    let (first, later) = both_true (all (λ (y : Pair). ltb x.key y.key) xs) (in_order (λ (u v : Pair). ltb u.key v.key) xs) o in
    both-intro _ _ (all_append (λ (y : Pair). ltb x.key y.key) xs ys first (over (ltb-true x.key mid high) ys b))
    (order-append lo mid hi xs ys rest b later p)
  where
    over : x.key < mid → (zs : List Pair) → in_range mid hi zs ≡ true → all (λ (y : Pair). ltb x.key y.key) zs ≡ true
    over h [] i = refl
    over h (z ∷ zs) i =
        let (here, rest) = all_cons (λ (y : Pair). within mid hi y.key) z zs i in
        both-intro _ _
        (lt-ltb x.key z.key (omega (arith, leb-true mid z.key (both_true (leb mid z.key) (ltb z.key hi) here).0)))
        (over h zs rest)

module _ (least w : ℕ) (ps : List Page) where
  pub holds-append : (l lo mid hi : ℕ) (us vs xs ys : List Pair) → lo ≤ mid → mid ≤ hi → Holds least w l ps lo mid us xs
      → Holds least w l ps mid hi vs ys → Holds least w l ps lo hi (us ++ vs) (xs ++ ys)
  holds-append zero lo mid hi us vs xs ys p q a b = record {
    same = ap₂ ◌++◌ a.same b.same;
    keys = all_append (λ (x : Pair). within lo hi x.key) us vs (widen lo mid lo hi us (omega arith) q a.keys)
        (widen mid hi lo hi vs p (omega arith) b.keys);
    rising = order-append lo mid hi us vs a.keys b.keys a.rising b.rising;
  }
  holds-append (suc l) lo mid hi us vs xs ys p q a b = row-append (Tree least w l ps) hi mid us vs lo xs ys a b

  pub holds-keys : (l lo hi : ℕ) (us xs : List Pair) → Holds least w l ps lo hi us xs → in_range lo hi us ≡ true
  holds-keys zero lo hi us xs a = a.keys
  holds-keys (suc l) lo hi us xs a = row-keys (Tree least w l ps) hi us lo xs a

  pub record Cut (l lo hi : ℕ) (us : List Pair) (v : Pair) (vs zs : List Pair) : Type 0 where
    pub first : List Pair
    pub second : List Pair
    pub one : Holds least w l ps lo v.key us first
    pub two : Holds least w l ps v.key hi (v ∷ vs) second
    pub both : zs ≡ first ++ second

  order-cut : (us : List Pair) (v : Pair) (vs : List Pair) → in_order (λ (x y : Pair). ltb x.key y.key) (us ++ (v ∷ vs)) ≡ true
      → all (λ (x : Pair). ltb x.key v.key) us ≡ true
  order-cut [] v vs o = refl
  order-cut (u ∷ us) v vs o =
      let (first, later) = both_true (all (λ (y : Pair). ltb u.key y.key) (us ++ (v ∷ vs)))
      (in_order (λ (x y : Pair). ltb x.key y.key) (us ++ (v ∷ vs))) o in
      both-intro _ _
      (all_cons (λ (y : Pair). ltb u.key y.key) v vs (all_right (λ (y : Pair). ltb u.key y.key) us (v ∷ vs) first)).0
      (order-cut us v vs later)

  order-left : (us vs : List Pair) → in_order (λ (x y : Pair). ltb x.key y.key) (us ++ vs) ≡ true
      → in_order (λ (x y : Pair). ltb x.key y.key) us ≡ true
  order-left [] vs o = refl
  order-left (u ∷ us) vs o =
      let (first, later) = both_true (all (λ (y : Pair). ltb u.key y.key) (us ++ vs))
      (in_order (λ (x y : Pair). ltb x.key y.key) (us ++ vs)) o in
      both-intro _ _ (all_left (λ (y : Pair). ltb u.key y.key) us vs first) (order-left us vs later)

  order-right : (us vs : List Pair) → in_order (λ (x y : Pair). ltb x.key y.key) (us ++ vs) ≡ true
      → in_order (λ (x y : Pair). ltb x.key y.key) vs ≡ true
  order-right [] vs o = o
  order-right (u ∷ us) vs o =
      order-right us vs
      (both_true (all (λ (y : Pair). ltb u.key y.key) (us ++ vs)) (in_order (λ (x y : Pair). ltb x.key y.key) (us ++ vs)) o).1

  narrow-low : (lo hi k : ℕ) (us : List Pair) → in_range lo hi us ≡ true → all (λ (x : Pair). ltb x.key k) us ≡ true
      → in_range lo k us ≡ true
  narrow-low lo hi k [] a b = refl
  narrow-low lo hi k (u ∷ us) a b =
      let (here, rest) = all_cons (λ (y : Pair). within lo hi y.key) u us a in
      let (less, more) = all_cons (λ (y : Pair). ltb y.key k) u us b in
      both-intro _ _ (both-intro _ _ (both_true (leb lo u.key) (ltb u.key hi) here).0 less) (narrow-low lo hi k us rest more)

  narrow_high : (lo hi : ℕ) (v : Pair) (vs : List Pair) → in_range lo hi vs ≡ true → all (λ (x : Pair). ltb v.key x.key) vs ≡ true
      → in_range v.key hi vs ≡ true
  narrow_high lo hi v [] a b = refl
  narrow_high lo hi v (u ∷ us) a b =
      let (here, rest) = all_cons (λ (y : Pair). within lo hi y.key) u us a in
      let (less, more) = all_cons (λ (y : Pair). ltb v.key y.key) u us b in
      both-intro _ _
      (both-intro _ _ (le-leb v.key u.key (omega (arith, ltb-true v.key u.key less)))
      (both_true (leb lo u.key) (ltb u.key hi) here).1) (narrow_high lo hi v us rest more)

  pub holds-cut : (l lo hi : ℕ) (us : List Pair) (v : Pair) (vs zs : List Pair) → Holds least w l ps lo hi (us ++ (v ∷ vs)) zs
      → Cut l lo hi us v vs zs
  holds-cut zero lo hi us v vs zs a =
      let (kv, kvs) = all_cons (λ (y : Pair). within lo hi y.key) v vs
      (all_right (λ (y : Pair). within lo hi y.key) us (v ∷ vs) a.keys) in
      let o = order-right us (v ∷ vs) a.rising in
      record {
        first = us;
        second = v ∷ vs;
        one = record {
          same = refl;
          keys = narrow-low lo hi v.key us
              (all_left (λ (y : Pair). within lo hi y.key) us (v ∷ vs) a.keys) (order-cut us v vs a.rising);
          rising = order-left us (v ∷ vs) a.rising;
        };
        two = record {
          same = refl;
          keys = both-intro _ _
              (both-intro _ _ (le-leb v.key v.key (omega arith)) (both_true (leb lo v.key) (ltb v.key hi) kv).1)
              (narrow_high lo hi v vs kvs
              (both_true (all (λ (y : Pair). ltb v.key y.key) vs) (in_order (λ (x y : Pair). ltb x.key y.key) vs) o).0);
          rising = o;
        };
        both = sym a.same;
      }
  holds-cut (suc l) lo hi us v vs zs a =
      let s = row-split (Tree least w l ps) hi us (v ∷ vs) lo zs a in
      record {
        first = s.first;
        second = s.second;
        one = subst (λ (k : ℕ). Row (Tree least w l ps) k us lo s.first) (sym s.two.low) s.one;
        two = subst (λ (k : ℕ). Row (Tree least w l ps) hi (v ∷ vs) k s.second) (sym s.two.low) s.two;
        both = s.both;
      }
