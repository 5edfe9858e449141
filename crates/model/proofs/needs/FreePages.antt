-- The free pages counted: a group rebuilt leaves as many as its usable pages are more than those that it fills.
-- Assumes nothing.
use Prim.Native.Nat.{ℕ, zero, suc, ◌+◌, ◌*◌, ◌-◌, ◌≤◌, ◌<◌}
use native.Mathlib.Omega.{arith}
use mathlib.Core.Bool.{Bool, true, false}
use mathlib.Core.Option.{Option, none, some}
use mathlib.Core.Path.{◌≡◌, refl, ap, sym, ◌∙◌, subst}
use mathlib.Core.Logic.{◌⊎◌, inl, inr, ◌≢◌}
use mathlib.Core.List.{List, [], ◌∷◌, ◌++◌}
use lib.Dec.{leb, lit<}
use lib.ListN.{length, get_or, set, drop, length-set, length-drop, length-append}
use lib.Seq.{get_or-set_same, get_or-set_other, get_or-drop, drop-set-add}
use borrow.Author.Tests.{eq-eqb, ne_eqb}
use Rattle.model.specs.Basic.{keep, pick}
use Rattle.model.specs.declared.Pair.{Pair}
use Rattle.model.specs.Page.{Page, free, is_free, active, filled, gone_if, gone}
use Rattle.model.specs.Store.{page, free_from, free_ones}
use Rattle.model.specs.Walk.{Around}
use Rattle.model.specs.Rules
use Rattle.model.specs.Rules.{retire, usable, Parts, one, two, routers_to, Rebuilt, rebuilt, short}
use Rattle.model.specs.Needs.{fills, actives}
use Rattle.model.specs.Layout.{bit}
use Rattle.model.specs.Inner.{In}
use Rattle.model.proofs.lists.Members.{in-append, in-those}
use Rattle.model.proofs.lists.Bools.{same?}
use Rattle.model.proofs.tree.Shows.{in_list}
use Rattle.model.proofs.tree.GroupShows.{Apart}
use Rattle.model.proofs.tree.GroupPages.{values, in-frees}
use Rattle.model.proofs.tree.Numbers.{frees_all}
use Rattle.model.proofs.older.Undo.{Next, AroundLives}

abbrev pub frees : List Page → ℕ
frees ps = length (free_ones ps)

count-keep : (b : Bool) (n : ℕ) (ns : List ℕ) → length (keep b n ns) ≡ bit b + length ns
count-keep true n ns = omega arith
count-keep false n ns = omega arith

-- one page written
from-set : (k : ℕ) (ps : List Page) (n : ℕ) (q : Page) → n < length ps
    → length (free_from k (set ps n q)) + bit (is_free (page ps n)) ≡ length (free_from k ps) + bit (is_free q)
from-set k [] n q h = absurd (omega arith)
from-set k (p ∷ ps) zero q h = omega (arith, count-keep (is_free q) k (free_from (suc k) ps), count-keep (is_free p) k (free_from (suc k) ps))
from-set k (p ∷ ps) (suc n) q h =
    omega (
      arith,
      count-keep (is_free p) k (free_from (suc k) (set ps n q)),
      count-keep (is_free p) k (free_from (suc k) ps),
      from-set (suc k) ps n q (omega arith),
    )

pub frees-set : (ps : List Page) (n : ℕ) (q : Page) → 5 ≤ n → n < length ps
    → frees (set ps n q) + bit (is_free (page ps n)) ≡ frees ps + bit (is_free q)
frees-set ps n q five h =
    let e : n ≡ 5 + (n - 5) = omega arith in
    subst (λ (m : ℕ). frees (set ps m q) + bit (is_free (page ps m)) ≡ frees ps + bit (is_free q)) (sym e)
    (rw (drop-set-add 5 ps (n - 5) q, ← get_or-drop 5 ps (n - 5) free) (from-set 5 (drop 5 ps) (n - 5) q (omega (arith, length-drop 5 ps))))

-- a page that goes
free-gone : (w : ℕ) (p : Page) → is_free p ≡ true → is_free (gone w p) ≡ true
free-gone w p h = at (active w p)
  where
    at : (b : Bool) → is_free (gone_if b w p) ≡ true
    at true = refl
    at false = h

gone-free : (w l : ℕ) (p : Page) → p.level ≡ suc l → is_free (gone w p) ≡ active w p
gone-free w l p e = at (active w p)
  where
    at : (b : Bool) → is_free (gone_if b w p) ≡ b
    at true = refl
    at false = ne_eqb p.level 0 (λ (z : p.level ≡ 0). omega arith)

module _ (w : ℕ) where
  -- free pages stay free while a group retires, and its active pages become free
  pub retire-free : (rs : List Pair) (ps : List Page) (n : ℕ) → n < length ps → is_free (page ps n) ≡ true
      → is_free (page (retire w ps rs) n) ≡ true
  retire-free [] ps n h f = f
  retire-free (r ∷ rs) ps n h f =
      retire-free rs _ n (omega (arith, length-set ps r.value (gone w (page ps r.value)))) (at (same? n r.value))
    where
      at : (n ≡ r.value) ⊎ (n ≢ r.value) → is_free (page (set ps r.value (gone w (page ps r.value))) n) ≡ true
      at (inl e) =
          subst (λ (m : ℕ). is_free (page (set ps r.value (gone w (page ps r.value))) m) ≡ true) (sym e)
          (ap is_free (get_or-set_same ps r.value (gone w (page ps r.value)) free (omega arith))
          ∙ free-gone w (page ps r.value) (ap (λ (m : ℕ). is_free (page ps m)) (sym e) ∙ f))
      at (inr d) = ap is_free (get_or-set_other ps r.value n (gone w (page ps r.value)) free d) ∙ f

  pub retire-active : (rs : List Pair) (ps : List Page) (n : ℕ) → n < length ps → In n (values rs) → active w (page ps n) ≡ true
      → is_free (page (retire w ps rs) n) ≡ true
  retire-active [] ps n h i a = absurd i
  retire-active (r ∷ rs) ps n h i a = at (same? n r.value) i (λ k j b. retire-active rs _ n k j b)
    where
      qs : List Page
      qs = set ps r.value (gone w (page ps r.value))

      inn : n < length qs
      inn = omega (arith, length-set ps r.value (gone w (page ps r.value)))

      at : (n ≡ r.value) ⊎ (n ≢ r.value) → (n ≡ r.value) ⊎ In n (values rs)
          → (n < length qs → In n (values rs) → active w (page qs n) ≡ true → is_free (page (retire w qs rs) n) ≡ true)
          → is_free (page (retire w qs rs) n) ≡ true
      at (inl e) j ih =
          let b : active w (page ps r.value) ≡ true = ap (λ (m : ℕ). active w (page ps m)) (sym e) ∙ a in
          retire-free rs qs n inn (subst (λ (m : ℕ). is_free (page qs m) ≡ true) (sym e)
          (ap is_free (get_or-set_same ps r.value (gone w (page ps r.value)) free (omega arith))
          ∙ ap (λ (c : Bool). is_free (gone_if c w (page ps r.value))) b))
      at (inr d) (inl e) ih = absurd (d e)
      at (inr d) (inr j) ih = ih inn j (ap (active w) (get_or-set_other ps r.value n (gone w (page ps r.value)) free d) ∙ a)

  pub length-retire : (rs : List Pair) (ps : List Page) → length (retire w ps rs) ≡ length ps
  length-retire [] ps = refl
  length-retire (r ∷ rs) ps = length-retire rs _ ∙ length-set ps r.value _

  -- The pages of a group: one, or two that differ, all of one level.
  pub record GroupMember (l : ℕ) (ps : List Page) (n : ℕ) : Type 0 where
    pub level : (page ps n).level ≡ suc l
    pub five : 5 ≤ n

  pub data Pages (l : ℕ) (ps : List Page) : List Pair → Type 0 where
    lone : {r : Pair} → GroupMember l ps r.value → Pages l ps (r ∷ [])
    twin : {r q : Pair} → GroupMember l ps r.value → GroupMember l ps q.value → q.value ≢ r.value → Pages l ps (r ∷ q ∷ [])

  module _ (l : ℕ) (ps : List Page) where
    -- one page goes
    gone-count : (qs : List Page) (n : ℕ) → page qs n ≡ page ps n → length qs ≡ length ps → GroupMember l ps n
        → frees (set qs n (gone w (page qs n))) ≡ bit (active w (page ps n)) + frees qs
    gone-count qs n e k m =
        let level : (page qs n).level ≡ suc l = ap (λ (p : Page). p.level) e ∙ m.level in
        let used : is_free (page qs n) ≡ false = ne_eqb (page qs n).level 0 (λ (z : (page qs n).level ≡ 0). omega arith) in
        let now : is_free (gone w (page qs n)) ≡ active w (page ps n) = gone-free w l (page qs n) level ∙ ap (active w) e in
        omega (arith, frees-set qs n (gone w (page qs n)) m.five (in_list qs n l level), ap bit used, ap bit now)

    one_more : (a : Bool) (n : ℕ) → length (keep a n []) ≡ bit a
    one_more true n = refl
    one_more false n = refl

    two-more : (a b : Bool) (n m : ℕ) → length (keep a n (keep b m [])) ≡ bit a + bit b
    two-more true true n m = refl
    two-more true false n m = refl
    two-more false b n m = omega (arith, one_more b m)

    -- a group retires: its active pages are free
    pub retire-count : {rs : List Pair} → Pages l ps rs → frees (retire w ps rs) ≡ length (actives w ps rs) + frees ps
    retire-count (lone {r} m) = omega (arith, gone-count ps r.value refl refl m, one_more (active w (page ps r.value)) r.value)
    retire-count (twin {r} {q} m k d) =
        let qs : List Page = set ps r.value (gone w (page ps r.value)) in
        omega (
          arith,
          gone-count ps r.value refl refl m,
          gone-count qs q.value (get_or-set_other ps r.value q.value (gone w (page ps r.value)) free d)
              (length-set ps r.value (gone w (page ps r.value))) k,
          two-more (active w (page ps r.value)) (active w (page ps q.value)) r.value q.value,
        )

    pub usable-count : (rs : List Pair) → length (usable w ps rs) ≡ length (actives w ps rs) + frees ps
    unfolding Rules.usable
    usable-count rs = length-append (actives w ps rs) (free_ones ps)

    pub member-at : {rs : List Pair} → Pages l ps rs → (n : ℕ) → In n (values rs) → GroupMember l ps n
    member-at (lone m) n (inl e) = subst (GroupMember l ps) (sym e) m
    member-at (lone m) n (inr i) = absurd i
    member-at (twin m k d) n (inl e) = subst (GroupMember l ps) (sym e) m
    member-at (twin m k d) n (inr (inl e)) = subst (GroupMember l ps) (sym e) k
    member-at (twin m k d) n (inr (inr i)) = absurd i

    -- a page that a group may use is free once the group has retired
    pub record Usable (rs : List Pair) (n : ℕ) : Type 0 where
      pub five : 5 ≤ n
      pub in-pages : n < length ps
      pub stays_free : is_free (page (retire w ps rs) n) ≡ true

    pub usable-free : {rs : List Pair} → Pages l ps rs → (n : ℕ) → In n (usable w ps rs) → Usable rs n
    unfolding Rules.usable
    usable-free {rs} g n i = at (in-append n (actives w ps rs) (free_ones ps) i)
      where
        at : In n (actives w ps rs) ⊎ In n (free_ones ps) → Usable rs n
        at (inl j) =
            let (a, v) = in-those (λ (k : ℕ). active w (page ps k)) n (values rs) j in
            let m = member-at g n v in
            let inn : n < length ps = in_list ps n l m.level in
            record { five = m.five; in-pages = inn; stays_free = retire-active rs ps n inn v a }
        at (inr j) =
            let (e, five, inn) = in-frees ps n j in
            record { five = five; in-pages = inn; stays_free = retire-free rs ps n inn (eq-eqb (page ps n).level 0 e) }

    -- the first two that a group may use differ
    zero-free : (n : ℕ) → In n (free_ones ps) → (page ps n).level ≡ 0
    zero-free n i = (in-frees ps n i).0

    apart-free : Apart (free_ones ps)
    apart-free = (frees_all 0 0 (lit< tt) (λ (m : ℕ). Unit {0}) ps 0 (λ m e. tt)).apart

    first-apart : (n : ℕ) (ns : List ℕ) → (page ps n).level ≡ suc l → ((m : ℕ) → In m ns → (page ps m).level ≡ 0) → Apart (n ∷ ns)
    first-apart n [] e z = tt
    first-apart n (m ∷ ns) e z = λ (s : n ≡ m). omega (arith, ap (λ (i : ℕ). (page ps i).level) s, z m (inl refl))

    apart-one : (a : Bool) (n : ℕ) → (page ps n).level ≡ suc l → Apart (keep a n [] ++ free_ones ps)
    apart-one true n e = first-apart n (free_ones ps) e zero-free
    apart-one false n e = apart-free

    apart-two : (a b : Bool) (n m : ℕ) → (page ps n).level ≡ suc l → (page ps m).level ≡ suc l → m ≢ n
        → Apart (keep a n (keep b m []) ++ free_ones ps)
    apart-two true true n m e f d = λ (s : n ≡ m). d (sym s)
    apart-two true false n m e f d = first-apart n (free_ones ps) e zero-free
    apart-two false b n m e f d = apart-one b m f

    usable-apart : {rs : List Pair} → Pages l ps rs → Apart (usable w ps rs)
    unfolding Rules.usable
    usable-apart (lone {r} m) = apart-one (active w (page ps r.value)) r.value m.level
    usable-apart (twin {r} {q} m k d) =
        apart-two (active w (page ps r.value)) (active w (page ps q.value)) r.value q.value m.level k.level d

-- how many pages the parts are
abbrev pub size_of : Parts → ℕ
size_of (one x) = 1
size_of (two x y) = 2

pub fills-size : (least : ℕ) (xs : List Pair) → fills least xs ≡ size_of (Rules.parts least xs)
unfolding Rules.parts Rules.parts_by
fills-size least xs = at (leb (length xs) (4 * least))
  where
    at : (b : Bool) → pick b 1 2 ≡ size_of (Rules.parts_by b xs)
    at true = refl
    at false = refl

-- Of the usable pages ns a group fills the first ones, and the others are free; or there are too few.
abbrev pub Counted : List Pair → Parts → List ℕ → Rebuilt → Type 0
Counted rs x ns (rebuilt qs news) = (frees qs + size_of x ≡ length ns) × (news ≡ routers_to rs x (get_or ns 0 0) (get_or ns 1 0))
Counted rs x ns short = length ns < size_of x

module _ (w l level : ℕ) (ps : List Page) (rs : List Pair) (up : level ≡ suc l) where
  filled-count : (qs : List Page) (n : ℕ) (x : List Pair) → 5 ≤ n → n < length qs → is_free (page qs n) ≡ true
      → frees (set qs n (filled w level x)) + 1 ≡ frees qs
  filled-count qs n x five h f =
      omega (arith, frees-set qs n (filled w level x) five h, ap bit f, ap bit (ne_eqb level 0 (λ (z : level ≡ 0). omega arith)))

  counted-by : (x : Parts) (ns : List ℕ) → ((n : ℕ) → In n ns → Usable w l ps rs n) → Apart ns → frees (retire w ps rs) ≡ length ns
      → Counted rs x ns (Rules.rebuild_with w level ps rs x ns)
  unfolding Rules.rebuild_with Rules.routers_to
  counted-by (one x) [] u d e = omega arith
  counted-by (one x) (n ∷ ns) u d e =
      let a = u n (inl refl) in
      (filled-count (retire w ps rs) n x a.five (omega (arith, length-retire w rs ps, a.in-pages)) a.stays_free ∙ e, refl)
  counted-by (two x y) [] u d e = omega arith
  counted-by (two x y) (n ∷ []) u d e = omega arith
  counted-by (two x y) (n ∷ m ∷ ns) u d e =
      let a = u n (inl refl) in
      let b = u m (inr (inl refl)) in
      let R : List Page = retire w ps rs in
      let S : List Page = set R n (filled w level x) in
      let other : page S m ≡ page R m = get_or-set_other R n m (filled w level x) free (λ (z : m ≡ n). d (sym z)) in
      let first : frees S + 1 ≡ frees R = filled-count R n x a.five (omega (arith, length-retire w rs ps, a.in-pages)) a.stays_free in
      let second : frees (set S m (filled w level y)) + 1 ≡ frees S
      = filled-count S m y b.five (omega (arith, length-set R n (filled w level x), length-retire w rs ps, b.in-pages))
      (ap is_free other ∙ b.stays_free) in
      (omega arith, refl)

  pub rebuilt-counts : (least : ℕ) (us : List Pair) → Pages w l ps rs
      → Counted rs (Rules.parts least us) (usable w ps rs) (Rules.rebuild least w level ps (record { routers = rs; pairs = us }))
  unfolding Rules.rebuild
  rebuilt-counts least us g =
      counted-by (Rules.parts least us) (usable w ps rs) (usable-free w l ps g) (usable-apart w l ps g)
      (retire-count w l ps g ∙ sym (usable-count w l ps rs))

-- ---- the pages that a page on the way gathers

-- "root and router page numbers run from 5"
abbrev pub HighNext : Option Pair → Type 0
HighNext none = Unit {0}
HighNext (some x) = 5 ≤ x.value

pub record High (a : Around) : Type 0 where
  pub own : 5 ≤ a.own.value
  pub left : HighNext a.left
  pub right : HighNext a.right

abbrev pub Highs : List Around → Type 0
Highs [] = Unit {0}
Highs (a ∷ up) = High a × Highs up

module _ (least u : ℕ) where
  abbrev w : ℕ
  w = suc u

  module _ (l : ℕ) (ps : List Page) (a : Around) (s : AroundLives least u l ps a) (h : High a) where
    own-member : GroupMember w l ps a.own.value
    own-member = record { level = s.own.level; five = h.own }

    near-pages : (want : List Pair) (x y : Option Pair) → Next least u l ps a.own.value x → Next least u l ps a.own.value y
        → HighNext x → HighNext y
        → Pages w l ps (Rules.with_neighbour w ps a want x y).routers
    unfolding Rules.with_neighbour
    near-pages want x (some r) p q m n = twin own-member (record { level = q.0.level; five = n }) q.1
    near-pages want (some r) none p q m n =
        twin (record { level = p.0.level; five = m }) own-member (λ (e : a.own.value ≡ r.value). p.1 (sym e))
    near-pages want none none p q m n = lone own-member

    pub gather-pages : (b : Bool) (want : List Pair) → Pages w l ps (Rules.gather_by b w ps a want).routers
    unfolding Rules.gather_by
    gather-pages true want = near-pages want a.left a.right s.left s.right h.left h.right
    gather-pages false want = lone own-member
