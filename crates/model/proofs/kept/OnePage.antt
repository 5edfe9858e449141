-- What rule 1 and the first part of rule 3 ask of one page, kept by what an update does to a page.
-- Assumes nothing.
use Prim.Native.Nat.{ℕ, suc, ◌*◌, ◌≤◌, ◌<◌}
use native.Mathlib.Omega.{arith}
use mathlib.Core.Bool.{Bool, true, false, ◌&&◌, not}
use mathlib.Core.Path.{◌≡◌, refl, ap, sym, ◌∙◌, subst}
use mathlib.Core.Logic.{◌⊎◌, inl, inr, ◌≢◌}
use mathlib.Core.List.{List, [], ◌∷◌, map}
use lib.Dec.{leb, ltb, eqb}
use lib.ListN.{length}
use borrow.Author.Tests.{ltb-true, ltb-false, eqb-true, eqb-false, lt-ltb, le-leb, eq-eqb}
use Rattle.model.specs.Basic.{those, has, pick, all, in_order}
use Rattle.model.specs.declared.Entry.{Entry}
use Rattle.model.specs.declared.Pair.{Pair}
use Rattle.model.specs.Entry.{pair_of, alive, live_at, born, before, placed, enter, enter_pair, end_one, end_those, ended_at}
use Rattle.model.specs.Page.{Page, Change, born_all, enter_all, pairs_at, changed, wanted, killed, filled}
use Rattle.model.specs.Walk.{key_limit}
use Rattle.model.specs.Inner.{In}
use Rattle.model.proofs.lists.Lists.{both_true, both-intro, all-enter, all_end, shorter}
use Rattle.model.proofs.lists.Members.{not-both, either_true, either_left, either-right, bool_cases, all_in, all-by, in_map, map-in}
use Rattle.model.proofs.lists.Members.{in-those, those-in}
use Rattle.model.proofs.tree.Place.{by_key, shown, show-enter, show-end, born-live}
use Rattle.model.proofs.tree.Edit.{lt}
use Rattle.model.proofs.sound.ByRule.{Span, Spoken, Young}

-- a pair that may stand in a page of a level, in a store of N pages
abbrev pub kind_ok : ℕ → ℕ → Pair → Bool
kind_ok N level x = ltb x.key key_limit && pick (eqb level 1) (ltb x.value 4294967296) (leb 5 x.value && ltb x.value N)

pub record EntryFit (N w old : ℕ) (p : Page) (e : Entry) : Type 0 where
  pub span : Span w e.start e.end
  pub kind : kind_ok N p.level (pair_of e) ≡ true
  pub leaf : p.level ≡ 1 → 1 ≤ e.start
  pub later : Spoken old p.level e → p.start ≤ e.start
  pub sooner : Spoken old p.level e → e.end ≤ p.end
  pub young : p.start ≡ w → Young w e

pub record PageFit (least N w old : ℕ) (p : Page) : Type 0 where
  pub few : length p.entries ≤ 5 * least
  pub span : Span w p.start p.end
  pub order : in_order before p.entries ≡ true
  pub entries : (e : Entry) → In e p.entries → EntryFit N w old p e

-- the order of entries
abbrev Before : Entry → Entry → Type 0
Before e f = (e.key < f.key) ⊎ ((e.key ≡ f.key) × (e.start < f.start))

before-is : (e f : Entry) → before e f ≡ true → Before e f
before-is e f h = at (either_true (ltb e.key f.key) (eqb e.key f.key && ltb e.start f.start) h)
  where
    at : (ltb e.key f.key ≡ true) ⊎ ((eqb e.key f.key && ltb e.start f.start) ≡ true)
        → (e.key < f.key) ⊎ ((e.key ≡ f.key) × (e.start < f.start))
    at (inl z) = inl (ltb-true e.key f.key z)
    at (inr z) =
        let (a, b) = both_true (eqb e.key f.key) (ltb e.start f.start) z in
        inr (eqb-true e.key f.key a, ltb-true e.start f.start b)

is-before : (e f : Entry) → Before e f → before e f ≡ true
is-before e f (inl h) = either_left (ltb e.key f.key) _ (lt-ltb e.key f.key h)
is-before e f (inr h) =
    either-right (ltb e.key f.key) _ (both-intro _ _ (eq-eqb e.key f.key h.0) (lt-ltb e.start f.start h.1))

before-trans : (e f g : Entry) → Before e f → Before f g → Before e g
before-trans e f g (inl a) (inl b) = inl (omega arith)
before-trans e f g (inl a) (inr b) = inl (omega (arith, b.0))
before-trans e f g (inr a) (inl b) = inl (omega (arith, a.0))
before-trans e f g (inr a) (inr b) = inr (a.0 ∙ b.0, omega (arith, a.1, b.1))

-- members after the steps of a change
in-placed : {A : Type 0} (c : Bool) (b x : A) (xs ys : List A) (e : A) → In e (placed c b x xs ys) → (In e ys → (e ≡ b) ⊎ In e xs)
    → (e ≡ b) ⊎ In e (x ∷ xs)
in-placed true b x xs ys e (inl z) f = inl z
in-placed true b x xs ys e (inr z) f = inr z
in-placed false b x xs ys e (inl z) f = inr (inl z)
in-placed false b x xs ys e (inr z) f = by (f z)
  where
    by : (e ≡ b) ⊎ In e xs → (e ≡ b) ⊎ In e (x ∷ xs)
    by (inl q) = inl q
    by (inr q) = inr (inr q)

pub in-enter : (b e : Entry) (es : List Entry) → In e (enter b es) → (e ≡ b) ⊎ In e es
in-enter b e [] (inl z) = inl z
in-enter b e [] (inr z) = absurd z
in-enter b e (x ∷ xs) i = in-placed (before b x) b x xs (enter b xs) e i (λ j. in-enter b e xs j)

pub in-born : (w : ℕ) (xs : List Pair) (e : Entry) (es : List Entry) → In e (born_all w xs es)
    → ((x : Pair) × (In x xs) × (e ≡ born w x)) ⊎ In e es
in-born w [] e es i = inr i
in-born w (x ∷ xs) e es i = at (in-born w xs e (enter (born w x) es) i)
  where
    by : (e ≡ born w x) ⊎ In e es → ((y : Pair) × (In y (x ∷ xs)) × (e ≡ born w y)) ⊎ In e es
    by (inl q) = inl (x, inl refl, q)
    by (inr q) = inr q

    at : ((y : Pair) × (In y xs) × (e ≡ born w y)) ⊎ In e (enter (born w x) es) → ((y : Pair) × (In y (x ∷ xs)) × (e ≡ born w y)) ⊎ In e es
    at (inl z) = inl (z.0, inr z.1, z.2)
    at (inr z) = by (in-enter (born w x) e es z)

-- an entry that stayed, or that was ended
pub data Since (g : Entry → Bool) (w : ℕ) (e' e : Entry) : Type 0 where
  stayed : e' ≡ e → g e ≡ false → Since g w e' e
  ended : e' ≡ ended_at w e → g e ≡ true → e.start ≢ w → Since g w e' e

pub in_end : (g : Entry → Bool) (w : ℕ) (e' : Entry) (es : List Entry) → In e' (end_those g w es)
    → (e : Entry) × (In e es) × (Since g w e' e)
in_end g w e' [] i = absurd i
in_end g w e' (x ∷ xs) i = at (g x) (eqb x.start w) refl refl i (λ j. in_end g w e' xs j)
  where
    more : (e : Entry) × (In e xs) × (Since g w e' e) → (e : Entry) × (In e (x ∷ xs)) × (Since g w e' e)
    more z = (z.0, inr z.1, z.2)

    at : (b c : Bool) → g x ≡ b → eqb x.start w ≡ c → In e' (end_one b c w x (end_those g w xs))
        → (In e' (end_those g w xs) → (e : Entry) × (In e xs) × (Since g w e' e))
        → (e : Entry) × (In e (x ∷ xs)) × (Since g w e' e)
    at false c p q (inl z) ih = (x, inl refl, stayed z p)
    at false c p q (inr z) ih = more (ih z)
    at true true p q z ih = more (ih z)
    at true false p q (inl z) ih = (x, inl refl, ended z p (eqb-false x.start w q))
    at true false p q (inr z) ih = more (ih z)

-- order
ends-order : (g : Entry → Bool) (w : ℕ) (es : List Entry) → in_order before es ≡ true → in_order before (end_those g w es) ≡ true
ends-order g w [] o = refl
ends-order g w (e ∷ es) o =
    let (first, later) = both_true (all (before e) es) (in_order before es) o in
    at (g e) (eqb e.start w) (all_end (before e) g w (λ x h. h) es first) (ends-order g w es later)
  where
    at : (b c : Bool) → all (before e) (end_those g w es) ≡ true → in_order before (end_those g w es) ≡ true
        → in_order before (end_one b c w e (end_those g w es)) ≡ true
    at false c f ih = both-intro _ _ f ih
    at true true f ih = ih
    at true false f ih = both-intro _ _ f ih

enter-order : (w : ℕ) (x : Pair) (es : List Entry) → in_order before es ≡ true
    → ((e : Entry) → In e es → (e.start ≤ w) × (e.key ≡ x.key → e.start ≢ w))
    → in_order before (enter (born w x) es) ≡ true
enter-order w x [] o h = refl
enter-order w x (e ∷ es) o h =
    let (first, later) = both_true (all (before e) es) (in_order before es) o in
    at (before (born w x) e) refl first later (enter-order w x es later (λ f i. h f (inr i)))
  where
    turn : before (born w x) e ≡ false → before e (born w x) ≡ true
    turn z = is-before e (born w x) (by (bool_cases (ltb e.key x.key)))
      where
        not_first : before (born w x) e ≡ true → ⊥
        not_first y = not-both (before (born w x) e) y z

        same : x.key < e.key → ⊥
        same l = not_first (is-before (born w x) e (inl l))

        by : (ltb e.key x.key ≡ true) ⊎ (ltb e.key x.key ≡ false) → (e.key < x.key) ⊎ ((e.key ≡ x.key) × (e.start < w))
        by (inl y) = inl (ltb-true e.key x.key y)
        by (inr y) =
            let le : x.key ≤ e.key = ltb-false e.key x.key y in
            let eq : e.key ≡ x.key = equal le (bool_cases (ltb x.key e.key)) in
            let (a, b) = h e (inl refl) in
            inr (eq, less a (b eq))
          where
            equal : x.key ≤ e.key → (ltb x.key e.key ≡ true) ⊎ (ltb x.key e.key ≡ false) → e.key ≡ x.key
            equal le (inl q) = absurd (same (ltb-true x.key e.key q))
            equal le (inr q) = let ge : e.key ≤ x.key = ltb-false x.key e.key q in omega arith

            less : e.start ≤ w → e.start ≢ w → e.start < w
            less a b = omega arith

    at : (b : Bool) → before (born w x) e ≡ b → all (before e) es ≡ true → in_order before es ≡ true
        → in_order before (enter (born w x) es) ≡ true
        → in_order before (placed b (born w x) e es (enter (born w x) es)) ≡ true
    at true z f l ih =
        both-intro _ _
        (both-intro _ _ z
        (all-by (before (born w x)) es
        (λ y i. is-before (born w x) y
        (before-trans (born w x) e y (before-is (born w x) e z) (before-is e y (all_in (before e) y es f i))))))
        (both-intro _ _ f l)
    at false z f l ih = both-intro _ _ (all-enter (before e) (born w x) (turn z) es f) ih

-- pairs put in by key: where the outcome rises strictly, no key stood there before
pub enter-in : (p y : Pair) (us : List Pair) → In y us → In y (enter_pair p us)
enter-in p y [] i = absurd i
enter-in p y (u ∷ us) i = at (ltb p.key u.key) i (λ j. enter-in p y us j)
  where
    at : (b : Bool) → In y (u ∷ us) → (In y us → In y (enter_pair p us)) → In y (placed b p u us (enter_pair p us))
    at true j ih = inr j
    at false (inl j) ih = inl j
    at false (inr j) ih = inr (ih j)

pub enter-self : (p : Pair) (us : List Pair) → In p (enter_pair p us)
enter-self p [] = inl refl
enter-self p (u ∷ us) = at (ltb p.key u.key) (enter-self p us)
  where
    at : (b : Bool) → In p (enter_pair p us) → In p (placed b p u us (enter_pair p us))
    at true ih = inl refl
    at false ih = inr ih

pub entered-in : (p y : Pair) (us : List Pair) → In y (enter_pair p us) → (y ≡ p) ⊎ In y us
entered-in p y [] (inl z) = inl z
entered-in p y [] (inr z) = absurd z
entered-in p y (u ∷ us) i = in-placed (ltb p.key u.key) p u us (enter_pair p us) y i (λ j. entered-in p y us j)

pub enter_all-in : (xs : List Pair) (y : Pair) (us : List Pair) → In y (enter_all xs us) → In y xs ⊎ In y us
enter_all-in [] y us i = inr i
enter_all-in (x ∷ xs) y us i = at (enter_all-in xs y (enter_pair x us) i)
  where
    by : (y ≡ x) ⊎ In y us → In y (x ∷ xs) ⊎ In y us
    by (inl z) = inl (inl z)
    by (inr z) = inr z

    at : In y xs ⊎ In y (enter_pair x us) → In y (x ∷ xs) ⊎ In y us
    at (inl z) = inl (inr z)
    at (inr z) = by (entered-in x y us z)

unentered : (p : Pair) (us : List Pair) → in_order lt (enter_pair p us) ≡ true
    → (in_order lt us ≡ true) × ((y : Pair) → In y us → y.key ≢ p.key)
unentered p [] h = (refl, λ y i. absurd i)
unentered p (u ∷ us) h = at (ltb p.key u.key) refl h (λ z. unentered p us z)
  where
    at : (b : Bool) → ltb p.key u.key ≡ b → in_order lt (placed b p u us (enter_pair p us)) ≡ true
        → (in_order lt (enter_pair p us) ≡ true → (in_order lt us ≡ true) × ((y : Pair) → In y us → y.key ≢ p.key))
        → (in_order lt (u ∷ us) ≡ true) × ((y : Pair) → In y (u ∷ us) → y.key ≢ p.key)
    at true e z ih =
        let (a, b) = both_true (all (lt p) (u ∷ us)) (in_order lt (u ∷ us)) z in
        (b, λ y i (q : y.key ≡ p.key). omega (arith, ltb-true p.key y.key (all_in (lt p) y (u ∷ us) a i)))
    at false e z ih =
        let (a, b) = both_true (all (lt u) (enter_pair p us)) (in_order lt (enter_pair p us)) z in
        let (o, n) = ih b in (
          both-intro _ _ (all-by (lt u) us (λ y i. all_in (lt u) y (enter_pair p us) a (enter-in p y us i))) o,
          λ y i. by y i n (ltb-true u.key p.key (all_in (lt u) p (enter_pair p us) a (enter-self p us))),
        )
      where
        by : (y : Pair) → In y (u ∷ us) → ((y : Pair) → In y us → y.key ≢ p.key) → u.key < p.key → y.key ≢ p.key
        by y (inl q) n l = λ (z : y.key ≡ p.key). omega (arith, ap (λ (x : Pair). x.key) q)
        by y (inr q) n l = n y q

unentered_all : (xs us : List Pair) → in_order lt (enter_all xs us) ≡ true → in_order lt us ≡ true
unentered_all [] us h = h
unentered_all (x ∷ xs) us h = (unentered x us (unentered_all xs (enter_pair x us) h)).0

module _ (w : ℕ) (lim : w < alive) where
  -- entries that start at w are alive then
  pub record Lively (e : Entry) : Type 0 where
    pub starts : e.start ≤ w
    pub live : e.start ≡ w → live_at w e ≡ true

  born-lively : (x : Pair) → Lively (born w x)
  born-lively x = record { starts = omega arith; live = λ _. born-live w lim x }

  all-starts : (es : List Entry) → ((e : Entry) → In e es → Lively e) → all (λ (e : Entry). leb e.start w) es ≡ true
  all-starts es h = all-by (λ (e : Entry). leb e.start w) es (λ e i. le-leb e.start w (h e i).starts)

  lively-enter : (x : Pair) (es : List Entry) → ((e : Entry) → In e es → Lively e) → (e : Entry) → In e (enter (born w x) es) → Lively e
  lively-enter x es h e i = at (in-enter (born w x) e es i)
    where
      at : (e ≡ born w x) ⊎ In e es → Lively e
      at (inl z) = subst Lively (sym z) (born-lively x)
      at (inr z) = h e z

  by_key_lem : (es : List Entry) → in_order before es ≡ true → in_order (by_key w) es ≡ true
  by_key_lem [] h = refl
  by_key_lem (e ∷ es) h =
      let (a, b) = both_true (all (before e) es) (in_order before es) h in
      both-intro _ _ (all-by (by_key w e) es (λ f i. le-leb e.key f.key (at f (before-is e f (all_in (before e) f es a i)))))
      (by_key_lem es b)
    where
      at : (f : Entry) → Before e f → e.key ≤ f.key
      at f (inl z) = omega arith
      at f (inr z) = omega (arith, z.0)

  born-order : (xs : List Pair) (es : List Entry) → in_order before es ≡ true → ((e : Entry) → In e es → Lively e)
      → in_order lt (enter_all xs (shown w es)) ≡ true
      → in_order before (born_all w xs es) ≡ true
  born-order [] es o h r = o
  born-order (x ∷ xs) es o h r =
      let e : shown w (enter (born w x) es) ≡ enter_pair x (shown w es) = show-enter w lim x es (by_key_lem es o) (all-starts es h) in
      let (q, n) = unentered x (shown w es) (unentered_all xs (enter_pair x (shown w es)) r) in
      born-order xs (enter (born w x) es)
      (enter-order w x es o
      (λ f i. (
        (h f i).starts,
        λ same z. n (pair_of f)
            (map-in pair_of f (those (live_at w) es) (those-in (live_at w) f es ((h f i).live z) i)) same,
      )))
      (lively-enter x es h) (subst (λ (us : List Pair). in_order lt (enter_all xs us) ≡ true) (sym e) r)

  module _ (least N : ℕ) (pos : 1 ≤ w) (old : ℕ) (low-old : old < w) where
    lively-of : (p : Page) → PageFit least N w old p → (e : Entry) → In e p.entries → Lively e
    lively-of p g e i =
        record {
          starts = (g.entries e i).span.starts;
          live = λ z. both-intro _ _ (le-leb e.start w (omega arith)) (lt-ltb w e.end (omega (arith, (g.entries e i).span.some)));
        }

    -- one alive at w has not ended by the oldest version
    late-live : (e : Entry) → live_at w e ≡ true → old < e.end
    late-live e h = omega (arith, ltb-true w e.end (both_true (leb e.start w) (ltb w e.end) h).1)

    -- an entry ended at w
    ended-fit : (p q : Page) (e : Entry) → q.level ≡ p.level → q.start ≡ p.start → w ≤ q.end → e.start ≢ w → (Spoken old p.level e)
        → EntryFit N w old p e → EntryFit N w old q (ended_at w e)
    ended-fit p q e l s h n k g = record {
      span = record { starts = g.span.starts; ends = inl (omega arith); some = less g.span.starts };
      kind = subst (λ (k : ℕ). kind_ok N k (pair_of e) ≡ true) (sym l) g.kind;
      leaf = λ z. g.leaf (sym l ∙ z);
      later = λ _. omega (arith, g.later k);
      sooner = λ _. h;
      young = λ z. absurd (n (g.young (sym s ∙ z)).starts);
    }
      where
        less : e.start ≤ w → e.start < w
        less a = omega arith

    stay-fit : (p q : Page) (e : Entry) → q.level ≡ p.level → q.start ≡ p.start → (Spoken old p.level e → e.end ≤ q.end)
        → EntryFit N w old p e → EntryFit N w old q e
    stay-fit p q e l s h g =
        record {
          span = g.span;
          kind = subst (λ (k : ℕ). kind_ok N k (pair_of e) ≡ true) (sym l) g.kind;
          leaf = λ z. g.leaf (sym l ∙ z);
          later = λ z. omega (arith, g.later (spoken-at l z));
          sooner = λ z. h (spoken-at l z);
          young = λ z. g.young (sym s ∙ z);
        }
      where
        spoken-at : q.level ≡ p.level → Spoken old q.level e → Spoken old p.level e
        spoken-at l (inl z) = inl (sym l ∙ z)
        spoken-at l (inr z) = inr z

    born-fit : (q : Page) (x : Pair) → q.start ≤ w → alive ≤ q.end → kind_ok N q.level x ≡ true → EntryFit N w old q (born w x)
    born-fit q x s h k =
        record {
          span = record { starts = omega arith; ends = inr refl; some = lim };
          kind = k;
          leaf = λ _. pos;
          later = λ _. s;
          sooner = λ _. h;
          young = λ _. record { starts = refl; endless = refl };
        }

    -- a change in place
    pub changed-fit : (c : Change) (p : Page) → PageFit least N w old p → p.end ≡ alive → length (changed w c p).entries ≤ 5 * least
        → all (kind_ok N p.level) c.take ≡ true
        → in_order lt (wanted w c p) ≡ true → PageFit least N w old (changed w c p)
    changed-fit c p g h few kinds rise = record {
      few = few;
      span = g.span;
      order = born-order c.take (end_those drop w p.entries) (ends-order drop w p.entries g.order) lively
          (subst (λ (us : List Pair). in_order lt (enter_all c.take us) ≡ true)
          (sym (show-end w (λ (x : Pair). has x.key c.drop) p.entries)) rise);
      entries = λ e i. at e (in-born w c.take e (end_those drop w p.entries) i);
    }
      where
        drop : Entry → Bool
        drop e = live_at w e && has e.key c.drop

        stood : (e : Entry) → In e (end_those drop w p.entries) → EntryFit N w old (changed w c p) e
        stood e' i = by (in_end drop w e' p.entries i)
          where
            by : (e : Entry) × (In e p.entries) × (Since drop w e' e) → EntryFit N w old (changed w c p) e'
            by (e, j, z) = from z
              where
                from : Since drop w e' e → EntryFit N w old (changed w c p) e'
                from (stayed q y) =
                    subst (EntryFit N w old (changed w c p)) (sym q)
                    (stay-fit p (changed w c p) e refl refl (g.entries e j).sooner (g.entries e j))
                from (ended q y n) =
                    subst (EntryFit N w old (changed w c p)) (sym q)
                    (ended-fit p (changed w c p) e refl refl (omega arith) n (inr (late-live e (both_true (live_at w e) _ y).0))
                    (g.entries e j))

        lively : (e : Entry) → In e (end_those drop w p.entries) → Lively e
        lively e i =
            let f = stood e i in
            record {
              starts = f.span.starts;
              live = λ z. both-intro _ _ (le-leb e.start w (omega arith))
                  (lt-ltb w e.end (omega (arith, f.span.some)));
            }

        at : (e : Entry) → ((x : Pair) × (In x c.take) × (e ≡ born w x)) ⊎ In e (end_those drop w p.entries)
            → EntryFit N w old (changed w c p) e
        at e (inl z) =
            subst (EntryFit N w old (changed w c p)) (sym z.2)
            (born-fit (changed w c p) z.0 g.span.starts (omega arith) (all_in (kind_ok N p.level) z.0 c.take kinds z.1))
        at e (inr z) = stood e z

    -- a page killed
    pub killed-fit : (p : Page) → PageFit least N w old p → p.start < w → PageFit least N w old (killed w p)
    killed-fit p g h = record {
      few = omega (arith, g.few, shorter (live_at w) w p.entries);
      span = record { starts = omega arith; ends = inl (omega arith); some = h };
      order = ends-order (live_at w) w p.entries g.order;
      entries = λ e i. by e (in_end (live_at w) w e p.entries i);
    }
      where
        by : (e' : Entry) → (e : Entry) × (In e p.entries) × (Since (live_at w) w e' e) → EntryFit N w old (killed w p) e'
        by e' (e, j, z) = from z
          where
            from : Since (live_at w) w e' e → EntryFit N w old (killed w p) e'
            from (stayed q y) =
                subst (EntryFit N w old (killed w p)) (sym q)
                (stay-fit p (killed w p) e refl refl (λ _. dead (bool_cases (ltb w e.end))) (g.entries e j))
              where
                dead : (ltb w e.end ≡ true) ⊎ (ltb w e.end ≡ false) → e.end ≤ w
                dead (inl k) = absurd (not-both (live_at w e) (both-intro _ _ (le-leb e.start w (g.entries e j).span.starts) k) y)
                dead (inr k) = ltb-false w e.end k
            from (ended q y n) =
                subst (EntryFit N w old (killed w p)) (sym q)
                (ended-fit p (killed w p) e refl refl (omega arith) n (inr (late-live e y)) (g.entries e j))

    -- a page filled
    filled-order : (xs : List Pair) → in_order lt xs ≡ true → in_order before (map (born w) xs) ≡ true
    filled-order [] o = refl
    filled-order (x ∷ xs) o =
        let (a, b) = both_true (all (lt x) xs) (in_order lt xs) o in
        both-intro _ _ (all-by (before (born w x)) (map (born w) xs) (λ e i. at e (in_map (born w) e xs i) a)) (filled-order xs b)
      where
        at : (e : Entry) → (y : Pair) × (In y xs) × (e ≡ born w y) → all (lt x) xs ≡ true → before (born w x) e ≡ true
        at e z a =
            subst (λ (f : Entry). before (born w x) f ≡ true) (sym z.2)
            (either_left (ltb x.key z.0.key) _ (all_in (lt x) z.0 xs a z.1))

    length-map : (xs : List Pair) → length (map (born w) xs) ≡ length xs
    length-map [] = refl
    length-map (x ∷ xs) = ap suc (length-map xs)

    pub filled-fit : (level : ℕ) (xs : List Pair) → length xs ≤ 5 * least → in_order lt xs ≡ true → all (kind_ok N level) xs ≡ true
        → PageFit least N w old (filled w level xs)
    filled-fit level xs few o kinds = record {
      few = omega (arith, length-map xs);
      span = record { starts = omega arith; ends = inr refl; some = lim };
      order = filled-order xs o;
      entries = λ e i. at e (in_map (born w) e xs i);
    }
      where
        at : (e : Entry) → (x : Pair) × (In x xs) × (e ≡ born w x) → EntryFit N w old (filled w level xs) e
        at e z =
            subst (EntryFit N w old (filled w level xs)) (sym z.2)
            (born-fit (filled w level xs) z.0 (omega arith) (omega arith) (all_in (kind_ok N level) z.0 xs kinds z.1))

    -- the pairs that a page shows fit its level
    pub shown-kinds : (p : Page) → PageFit least N w old p → all (kind_ok N p.level) (pairs_at w p) ≡ true
    shown-kinds p g = all-by (kind_ok N p.level) (pairs_at w p) (λ x i. at x (in_map pair_of x (those (live_at w) p.entries) i))
      where
        at : (x : Pair) → (e : Entry) × (In e (those (live_at w) p.entries)) × (x ≡ pair_of e) → kind_ok N p.level x ≡ true
        at x z =
            subst (λ (y : Pair). kind_ok N p.level y ≡ true) (sym z.2)
            (g.entries z.0 (in-those (live_at w) z.0 p.entries z.1).1).kind

    pub wanted-kinds : (c : Change) (p : Page) → PageFit least N w old p → all (kind_ok N p.level) c.take ≡ true
        → all (kind_ok N p.level) (wanted w c p) ≡ true
    wanted-kinds c p g t = all-by (kind_ok N p.level) (wanted w c p) (λ x i. at x (enter_all-in c.take x _ i))
      where
        at : (x : Pair) → In x c.take ⊎ In x (those (λ (y : Pair). not (has y.key c.drop)) (pairs_at w p))
            → kind_ok N p.level x ≡ true
        at x (inl i) = all_in (kind_ok N p.level) x c.take t i
        at x (inr i) = all_in (kind_ok N p.level) x (pairs_at w p) (shown-kinds p g) (in-those _ x (pairs_at w p) i).1
