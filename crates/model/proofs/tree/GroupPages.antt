-- A group of pages rebuilt: what becomes of each page, and where each gathered pair stands.
-- Assumes nothing.
use Prim.Native.Nat.{ℕ, suc, ◌+◌, ◌*◌, ◌/◌, ◌≤◌, ◌<◌}
use native.Mathlib.Omega.{arith}
use mathlib.Core.Bool.{Bool, true, false, not}
use mathlib.Core.Path.{◌≡◌, refl, ap, sym, ◌∙◌, subst}
use mathlib.Core.Logic.{◌⊎◌, inl, inr, ◌≢◌}
use mathlib.Core.List.{List, [], ◌∷◌, ◌++◌, map}
use lib.Dec.{leb, ltb}
use lib.ListN.{length, get_or, set, take, drop, length-set, length-drop, take-append-drop}
use lib.Seq.{get_or-set_same, get_or-set_other, get_or-drop, drop-cons, length-take-le}
use borrow.Author.Tests.{leb-true, leb-false, eqb-true, le-leb, lt-ltb, ltb-true, ne_eqb}
use Rattle.model.specs.Basic.{keep, those, all, in_order}
use Rattle.model.specs.declared.Pair.{Pair}
use Rattle.model.specs.Entry.{pair}
use Rattle.model.specs.Page.{Page, free, is_free, active, filled, gone}
use Rattle.model.specs.Store.{page, free_from, free_ones}
use Rattle.model.specs.Walk.{key_limit}
use Rattle.model.specs.Rules
use Rattle.model.specs.Rules.{retire, usable, Rebuilt, rebuilt, short, low_key}
use Rattle.model.specs.Inner.{In}
use Rattle.model.proofs.lists.Lists.{both_true, both-intro, all_cons}
use Rattle.model.proofs.lists.Members.{in-append, in-those}
use Rattle.model.proofs.lists.Bools.{same?}
use Rattle.model.proofs.tree.Local.{all_left, all_right}
use Rattle.model.proofs.tree.Edit.{lt}
use Rattle.model.proofs.tree.GroupShows.{Olds, lone, twin, Apart}
use Rattle.model.proofs.kept.OnePage.{kind_ok}

abbrev pub values : List Pair → List ℕ
values rs = map (λ (r : Pair). r.value) rs

abbrev pub Distinct : List Pair → Type 0
Distinct [] = Unit {0}
Distinct (r ∷ []) = Unit {0}
Distinct (r ∷ q ∷ rs) = r.value ≢ q.value

pub page-set-at : (ps : List Page) (n m : ℕ) (q : Page) → n < length ps
    → ((m ≡ n) × (page (set ps n q) m ≡ q)) ⊎ ((m ≢ n) × (page (set ps n q) m ≡ page ps m))
page-set-at ps n m q h = at (same? m n)
  where
    at : (m ≡ n) ⊎ (m ≢ n) → ((m ≡ n) × (page (set ps n q) m ≡ q)) ⊎ ((m ≢ n) × (page (set ps n q) m ≡ page ps m))
    at (inl e) = inl (e, ap (page (set ps n q)) e ∙ get_or-set_same ps n q free h)
    at (inr d) = inr (d, get_or-set_other ps n m q free d)

rising-left : (xs ys : List Pair) → in_order lt (xs ++ ys) ≡ true → in_order lt xs ≡ true
rising-left [] ys o = refl
rising-left (x ∷ xs) ys o =
    let (a, b) = both_true (all (lt x) (xs ++ ys)) (in_order lt (xs ++ ys)) o in
    both-intro _ _ (all_left (lt x) xs ys a) (rising-left xs ys b)

rising-right : (xs ys : List Pair) → in_order lt (xs ++ ys) ≡ true → in_order lt ys ≡ true
rising-right [] ys o = o
rising-right (x ∷ xs) ys o = rising-right xs ys (both_true (all (lt x) (xs ++ ys)) (in_order lt (xs ++ ys)) o).1

-- the free pages
in-free : (ps : List Page) (k : ℕ) (qs : List Page) → ((i : ℕ) → page qs i ≡ page ps (k + i))
    → ((i : ℕ) → i < length qs → k + i < length ps) → (n : ℕ) → In n (free_from k qs)
    → ((page ps n).level ≡ 0) × (k ≤ n) × (n < length ps)
in-free ps k [] h g n i = absurd i
in-free ps k (q ∷ qs) h g n i =
    at (is_free q) refl i
    (λ j. in-free ps (suc k) qs (λ m. h (suc m) ∙ ap (page ps) (omega arith)) (λ m z. omega (arith, g (suc m) (omega arith))) n j)
  where
    at : (b : Bool) → is_free q ≡ b → In n (keep b k (free_from (suc k) qs))
        → (In n (free_from (suc k) qs) → ((page ps n).level ≡ 0) × (suc k ≤ n) × (n < length ps))
        → ((page ps n).level ≡ 0) × (k ≤ n) × (n < length ps)
    at true e (inl z) ih =
        let here : (page ps n).level ≡ 0 = ap (λ (i : ℕ). (page ps i).level) z
        ∙ ap (λ (p : Page). p.level) (sym (h 0 ∙ ap (page ps) (omega arith))) ∙ eqb-true q.level 0 e in
        (here, omega arith, omega (arith, g 0 (omega arith)))
    at true e (inr z) ih = let (a, b, c) = ih z in (a, omega arith, c)
    at false e z ih = let (a, b, c) = ih z in (a, omega arith, c)

pub in-frees : (ps : List Page) (n : ℕ) → In n (free_ones ps) → ((page ps n).level ≡ 0) × (5 ≤ n) × (n < length ps)
in-frees ps n i = in-free ps 5 (drop 5 ps) (λ i. get_or-drop 5 ps i free) (λ i h. omega (arith, length-drop 5 ps)) n i

module _ (least : ℕ) (two-or-more : 2 ≤ least) (w : ℕ) (N : ℕ) where
  pub record Fill (level : ℕ) (xs : List Pair) : Type 0 where
    pub few : length xs ≤ 5 * least
    pub rise : in_order lt xs ≡ true
    pub kinds : all (kind_ok N level) xs ≡ true

  -- a page that may be written anew
  pub data Spare (ps : List Page) (rs : List Pair) (m : ℕ) : Type 0 where
    unused : (page ps m).level ≡ 0 → 5 ≤ m → m < length ps → Spare ps rs m
    member : In m (values rs) → active w (page ps m) ≡ true → Spare ps rs m

  pub in-usable : (ps : List Page) (rs : List Pair) (n : ℕ) → In n (usable w ps rs) → Spare ps rs n
  unfolding Rules.usable
  in-usable ps rs n i = at (in-append n (those (λ (k : ℕ). active w (page ps k)) (values rs)) (free_ones ps) i)
    where
      at : In n (those (λ (k : ℕ). active w (page ps k)) (values rs)) ⊎ In n (free_ones ps) → Spare ps rs n
      at (inl j) = let (a, b) = in-those (λ (k : ℕ). active w (page ps k)) n (values rs) j in member b a
      at (inr j) = let (a, b, c) = in-frees ps n j in unused a b c

  pub data Now (ps qs : List Page) (level : ℕ) (rs news : List Pair) (m : ℕ) : Type 0 where
    same : page qs m ≡ page ps m → (In m (values rs) → ⊥) → Now ps qs level rs news m
    went : In m (values rs) → page qs m ≡ gone w (page ps m) → Now ps qs level rs news m
    came : (xs : List Pair) → page qs m ≡ filled w level xs → Spare ps rs m → Fill level xs → In m (values news) → Now ps qs level rs news m

  pub record InNew (qs : List Page) (level : ℕ) (news : List Pair) (x : Pair) : Type 0 where
    pub number : ℕ
    pub pairs : List Pair
    pub wrote : page qs number ≡ filled w level pairs
    pub is-in : In x pairs
    pub new : In number (values news)

  pub record Redone (ps qs : List Page) (level : ℕ) (rs us news : List Pair) : Type 0 where
    pub now : (m : ℕ) → Now ps qs level rs news m
    pub kept : (x : Pair) → In x us → InNew qs level news x
    pub long : length qs ≡ length ps
    pub kinds : all (kind_ok N (suc level)) news ≡ true
    pub news-few : length news ≤ 2

  abbrev pub RedoneOr : List Page → ℕ → List Pair → List Pair → Rebuilt → Type 0
  RedoneOr ps level rs us (rebuilt qs news) = Redone ps qs level rs us news
  RedoneOr ps level rs us short = Unit {0}

  module _ (ps : List Page) (l : ℕ) (rs : List Pair) (shape : Olds rs) (distinct : Distinct rs)
      (members : (m : ℕ) → In m (values rs) → m < length ps)
      (numbers : (m : ℕ) → Spare ps rs m → (5 ≤ m) × (m < N)) (low : low_key rs < key_limit) where
    Gone : ℕ → Type 0
    Gone m =
        ((In m (values rs)) × (page (retire w ps rs) m ≡ gone w (page ps m)))
        ⊎ ((In m (values rs) → ⊥) × (page (retire w ps rs) m ≡ page ps m))

    retired-one : (r : Pair) → r.value < length ps → (m : ℕ)
        → ((In m (values (r ∷ []))) × (page (retire w ps (r ∷ [])) m ≡ gone w (page ps m)))
        ⊎ ((In m (values (r ∷ [])) → ⊥) × (page (retire w ps (r ∷ [])) m ≡ page ps m))
    retired-one r h m = at (page-set-at ps r.value m (gone w (page ps r.value)) h)
      where
        not : m ≢ r.value → In m (values (r ∷ [])) → ⊥
        not d (inl e) = d e
        not d (inr e) = e

        at : ((m ≡ r.value) × (page (set ps r.value (gone w (page ps r.value))) m ≡ gone w (page ps r.value)))
            ⊎ ((m ≢ r.value) × (page (set ps r.value (gone w (page ps r.value))) m ≡ page ps m))
            → ((In m (values (r ∷ []))) × (page (retire w ps (r ∷ [])) m ≡ gone w (page ps m)))
            ⊎ ((In m (values (r ∷ [])) → ⊥) × (page (retire w ps (r ∷ [])) m ≡ page ps m))
        at (inl z) = inl (inl z.0, z.1 ∙ ap (λ (i : ℕ). gone w (page ps i)) (sym z.0))
        at (inr z) = inr (not z.0, z.1)

    retired-two : (r q : Pair) → r.value < length ps → q.value < length ps → r.value ≢ q.value → (m : ℕ)
        → ((In m (values (r ∷ q ∷ []))) × (page (retire w ps (r ∷ q ∷ [])) m ≡ gone w (page ps m)))
        ⊎ ((In m (values (r ∷ q ∷ [])) → ⊥) × (page (retire w ps (r ∷ q ∷ [])) m ≡ page ps m))
    retired-two r q h k d m =
        at (page-set-at ps₁ q.value m (gone w (page ps₁ q.value))
        (subst (λ (i : ℕ). q.value < i) (sym (length-set ps r.value (gone w (page ps r.value)))) k)) (retired-one r h m)
      where
        ps₁ : List Page
        ps₁ = set ps r.value (gone w (page ps r.value))

        other : page ps₁ q.value ≡ page ps q.value
        other = get_or-set_other ps r.value q.value (gone w (page ps r.value)) free (λ (e : q.value ≡ r.value). d (sym e))

        by : m ≢ q.value → page (retire w ps (r ∷ q ∷ [])) m ≡ page ps₁ m
            → ((In m (values (r ∷ []))) × (page ps₁ m ≡ gone w (page ps m))) ⊎ ((In m (values (r ∷ [])) → ⊥) × (page ps₁ m ≡ page ps m))
            → ((In m (values (r ∷ q ∷ []))) × (page (retire w ps (r ∷ q ∷ [])) m ≡ gone w (page ps m)))
            ⊎ ((In m (values (r ∷ q ∷ [])) → ⊥) × (page (retire w ps (r ∷ q ∷ [])) m ≡ page ps m))
        by n e (inl (inl y, z)) = inl (inl y, e ∙ z)
        by n e (inl (inr y, z)) = absurd y
        by n e (inr y) = inr (not, e ∙ y.1)
          where
            not : In m (values (r ∷ q ∷ [])) → ⊥
            not (inl z) = y.0 (inl z)
            not (inr (inl z)) = n z
            not (inr (inr z)) = z

        at : ((m ≡ q.value) × (page (set ps₁ q.value (gone w (page ps₁ q.value))) m ≡ gone w (page ps₁ q.value)))
            ⊎ ((m ≢ q.value) × (page (set ps₁ q.value (gone w (page ps₁ q.value))) m ≡ page ps₁ m))
            → ((In m (values (r ∷ []))) × (page ps₁ m ≡ gone w (page ps m))) ⊎ ((In m (values (r ∷ [])) → ⊥) × (page ps₁ m ≡ page ps m))
            → ((In m (values (r ∷ q ∷ []))) × (page (retire w ps (r ∷ q ∷ [])) m ≡ gone w (page ps m)))
            ⊎ ((In m (values (r ∷ q ∷ [])) → ⊥) × (page (retire w ps (r ∷ q ∷ [])) m ≡ page ps m))
        at (inl z) o = inl (inr (inl z.0), z.1 ∙ ap (gone w) other ∙ ap (λ (i : ℕ). gone w (page ps i)) (sym z.0))
        at (inr z) o = by z.0 z.1 o

    retired-by : (qs : List Pair) → Olds qs → Distinct qs → ((m : ℕ) → In m (values qs) → m < length ps) → (m : ℕ)
        → ((In m (values qs)) × (page (retire w ps qs) m ≡ gone w (page ps m)))
        ⊎ ((In m (values qs) → ⊥) × (page (retire w ps qs) m ≡ page ps m))
    retired-by qs (lone r) d h m = retired-one r (h r.value (inl refl)) m
    retired-by qs (twin r q k) d h m = retired-two r q (h r.value (inl refl)) (h q.value (inr (inl refl))) d m

    retired-at : (m : ℕ) → Gone m
    unfolding Gone
    retired-at m = retired-by rs shape distinct members m

    retired-long : length (retire w ps rs) ≡ length ps
    retired-long = go rs ps
      where
        go : (qs : List Pair) (us : List Page) → length (retire w us qs) ≡ length us
        go [] us = refl
        go (r ∷ qs) us = go qs _ ∙ length-set us r.value _

    spare-in : (m : ℕ) → Spare ps rs m → m < length ps
    spare-in m (unused a b c) = c
    spare-in m (member a b) = members m a

    number-kind : (k m : ℕ) → k < key_limit → Spare ps rs m → kind_ok N (suc (suc l)) (pair k m) ≡ true
    number-kind k m h s =
        let (a, b) = numbers m s in
        rw (ne_eqb (suc (suc l)) 1 (λ (z : suc (suc l) ≡ 1). omega arith))
        (both-intro _ _ (lt-ltb k key_limit h) (both-intro _ _ (le-leb 5 m a) (lt-ltb m N b)))

    redone-one : (us : List Pair) (n : ℕ) → Spare ps rs n → Fill (suc l) us
        → Redone ps (set (retire w ps rs) n (filled w (suc l) us)) (suc l) rs us (pair (low_key rs) n ∷ [])
    unfolding Gone
    redone-one us n s f = record {
      now = λ m. at m (page-set-at R n m F inn) (retired-at m);
      kept = λ x i. record { number = n; pairs = us; wrote = get_or-set_same R n F free inn; is-in = i; new = inl refl };
      long = length-set R n F ∙ retired-long;
      kinds = both-intro _ _ (number-kind (low_key rs) n low s) refl;
      news-few = omega arith;
    }
      where
        R : List Page
        R = retire w ps rs

        F : Page
        F = filled w (suc l) us

        inn : n < length R
        inn = subst (λ (i : ℕ). n < i) (sym retired-long) (spare-in n s)

        at : (m : ℕ) → ((m ≡ n) × (page (set R n F) m ≡ F)) ⊎ ((m ≢ n) × (page (set R n F) m ≡ page R m)) → Gone m
            → Now ps (set R n F) (suc l) rs (pair (low_key rs) n ∷ []) m
        at m (inl z) g = came us z.1 (subst (Spare ps rs) (sym z.0) s) f (inl z.0)
        at m (inr z) (inl g) = went g.0 (z.1 ∙ g.1)
        at m (inr z) (inr g) = same (z.1 ∙ g.1) g.0

    redone-two : (xs ys : List Pair) (n m : ℕ) → n ≢ m → Spare ps rs n → Spare ps rs m → Fill (suc l) xs → Fill (suc l) ys
        → low_key ys < key_limit
        → Redone ps (set (set (retire w ps rs) n (filled w (suc l) xs)) m (filled w (suc l) ys)) (suc l) rs (xs ++ ys)
        (pair (low_key rs) n ∷ pair (low_key ys) m ∷ [])
    unfolding Gone
    redone-two xs ys n m d s t f g k = record {
      now = λ i. at i (page-set-at R₁ m i G inm) (page-set-at R n i F inn) (retired-at i);
      kept = λ x i. keep_at x (in-append x xs ys i);
      long = length-set R₁ m G ∙ length-set R n F ∙ retired-long;
      kinds = both-intro _ _ (number-kind (low_key rs) n low s) (both-intro _ _ (number-kind (low_key ys) m k t) refl);
      news-few = omega arith;
    }
      where
        R : List Page
        R = retire w ps rs

        F : Page
        F = filled w (suc l) xs

        G : Page
        G = filled w (suc l) ys

        R₁ : List Page
        R₁ = set R n F

        inn : n < length R
        inn = subst (λ (i : ℕ). n < i) (sym retired-long) (spare-in n s)

        inm : m < length R₁
        inm = subst (λ (i : ℕ). m < i) (sym (length-set R n F ∙ retired-long)) (spare-in m t)

        keep_at : (x : Pair) → In x xs ⊎ In x ys → InNew (set R₁ m G) (suc l) (pair (low_key rs) n ∷ pair (low_key ys) m ∷ []) x
        keep_at x (inl i) =
            record {
              number = n;
              pairs = xs;
              wrote = get_or-set_other R₁ m n G free d ∙ get_or-set_same R n F free inn;
              is-in = i;
              new = inl refl;
            }
        keep_at x (inr i) = record { number = m; pairs = ys; wrote = get_or-set_same R₁ m G free inm; is-in = i; new = inr (inl refl) }

        at : (i : ℕ) → ((i ≡ m) × (page (set R₁ m G) i ≡ G)) ⊎ ((i ≢ m) × (page (set R₁ m G) i ≡ page R₁ i))
            → ((i ≡ n) × (page R₁ i ≡ F)) ⊎ ((i ≢ n) × (page R₁ i ≡ page R i)) → Gone i
            → Now ps (set R₁ m G) (suc l) rs (pair (low_key rs) n ∷ pair (low_key ys) m ∷ []) i
        at i (inl z) y o = came ys z.1 (subst (Spare ps rs) (sym z.0) t) g (inr (inl z.0))
        at i (inr z) (inl y) o = came xs (z.1 ∙ y.1) (subst (Spare ps rs) (sym y.0) s) f (inl y.0)
        at i (inr z) (inr y) (inl o) = went o.0 (z.1 ∙ y.1 ∙ o.1)
        at i (inr z) (inr y) (inr o) = same (z.1 ∙ y.1 ∙ o.1) o.0

    pub redone-by : (b : Bool) (us : List Pair) (ns : List ℕ) → leb (length us) (4 * least) ≡ b → ((n : ℕ) → In n ns → Spare ps rs n)
        → Apart ns
        → length us ≤ 8 * least → in_order lt us ≡ true → all (kind_ok N (suc l)) us ≡ true
        → RedoneOr ps (suc l) rs us (Rules.rebuild_with w (suc l) ps rs (Rules.parts_by b us) ns)
    unfolding Rules.rebuild_with Rules.parts_by
    redone-by true us [] e s a big o k = tt
    redone-by true us (n ∷ ns) e s a big o k =
        redone-one us n (s n (inl refl)) (record { few = omega (arith, leb-true (length us) (4 * least) e); rise = o; kinds = k })
    redone-by false us [] e s a big o k = tt
    redone-by false us (n ∷ []) e s a big o k = tt
    redone-by false us (n ∷ m ∷ ns) e s a big o k =
        let h : ℕ = (length us + 1) / 2 in
        let parts : take h us ++ drop h us ≡ us = take-append-drop h us in
        let o' = subst (λ (xs : List Pair). in_order lt xs ≡ true) (sym parts) o in
        let k' = subst (λ (xs : List Pair). all (kind_ok N (suc l)) xs ≡ true) (sym parts) k in
        let more : 4 * least < length us = leb-false (length us) (4 * least) e in
        let cut : drop h us ≡ get_or us h (pair 0 0) ∷ drop (suc h) us = drop-cons us h (pair 0 0) (omega arith) in
        let right : all (kind_ok N (suc l)) (drop h us) ≡ true = all_right (kind_ok N (suc l)) (take h us) (drop h us) k' in
        let first : kind_ok N (suc l) (get_or us h (pair 0 0)) ≡ true
        = (all_cons (kind_ok N (suc l)) (get_or us h (pair 0 0)) (drop (suc h) us)
        (subst (λ (xs : List Pair). all (kind_ok N (suc l)) xs ≡ true) cut right)).0 in
        subst (λ (vs : List Pair). Redone ps (set (set (retire w ps rs) n (filled w (suc l) (take h us))) m (filled w (suc l) (drop h us)))
        (suc l) rs vs (pair (low_key rs) n ∷ pair (low_key (drop h us)) m ∷ [])) parts
        (redone-two (take h us) (drop h us) n m a (s n (inl refl)) (s m (inr (inl refl)))
        (record {
          few = omega (arith, length-take-le h us (omega arith));
          rise = rising-left (take h us) (drop h us) o';
          kinds = all_left (kind_ok N (suc l)) (take h us) (drop h us) k';
        })
        (record { few = omega (arith, length-drop h us); rise = rising-right (take h us) (drop h us) o'; kinds = right })
        (subst (λ (xs : List Pair). low_key xs < key_limit) (sym cut)
        (ltb-true _ key_limit (both_true (ltb (get_or us h (pair 0 0)).key key_limit) _ first).0)))
