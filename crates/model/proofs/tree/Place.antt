-- A change made in place shows, at the open version, the wanted list.
-- Assumes nothing.
use Prim.Native.Nat.{ℕ, ◌<◌}
use native.Mathlib.Omega.{arith}
use mathlib.Core.Bool.{Bool, true, false, ◌&&◌, ◌||◌, not}
use mathlib.Core.Path.{◌≡◌, refl, ap, sym, ◌∙◌}
use mathlib.Core.List.{List, [], ◌∷◌, map}
use lib.Dec.{leb, ltb, eqb}
use borrow.Author.Tests.{ltb-true, ltb-false, leb-true, lt-ltb, le-ltb, le-leb}
use Rattle.model.specs.Basic.{keep, those, has, all, in_order}
use Rattle.model.specs.declared.Entry.{Entry}
use Rattle.model.specs.declared.Pair.{Pair}
use Rattle.model.specs.Entry.{pair_of, alive, live_at, born, before, placed, enter, enter_pair, end_one, end_those, ended_at}
use Rattle.model.specs.Page.{Page, Change, born_all, enter_all, pairs_at, changed, wanted, filled}
use Rattle.model.proofs.lists.Lists.{both_true, both-intro, all_cons, all-enter, all_end}

module _ (w : ℕ) where
  abbrev pub shown : List Entry → List Pair
  shown es = map pair_of (those (live_at w) es)

  ended-dead : (e : Entry) → live_at w (ended_at w e) ≡ false
  ended-dead e = at (leb e.start w)
    where
      at : (b : Bool) → (b && ltb w w) ≡ false
      at true = le-ltb w w (omega arith)
      at false = refl

  -- ending at w takes out of what is shown
  pub show-end : (h : Pair → Bool) (es : List Entry)
      → shown (end_those (λ (e : Entry). live_at w e && h (pair_of e)) w es) ≡ those (λ (x : Pair). not (h x)) (shown es)
  show-end h [] = refl
  show-end h (e ∷ es) = at (live_at w e) (h (pair_of e)) (eqb e.start w) refl refl (show-end h es)
    where
      rest : List Entry
      rest = end_those (λ (x : Entry). live_at w x && h (pair_of x)) w es

      at : (a b c : Bool) → live_at w e ≡ a → h (pair_of e) ≡ b → shown rest ≡ those (λ (x : Pair). not (h x)) (shown es)
          → shown (end_one (a && b) c w e rest) ≡ those (λ (x : Pair). not (h x)) (map pair_of (keep a e (those (live_at w) es)))
      at false b c p q ih = rw p ih
      at true false c p q ih = rw (p, q) (ap (λ (xs : List Pair). pair_of e ∷ xs) ih)
      at true true true p q ih = rw q ih
      at true true false p q ih = rw (q, ended-dead e) ih

  -- entries by key, which is all that is asked of their order here
  abbrev pub by_key : Entry → Entry → Bool
  by_key e f = leb e.key f.key

  above : (k : ℕ) (e : Entry) (es : List Entry) → all (by_key e) es ≡ true → k < e.key → all (λ (x : Entry). ltb k x.key) es ≡ true
  above k e [] o h = refl
  above k e (f ∷ es) o h =
      let (here, rest) = all_cons (by_key e) f es o in
      both-intro _ _ (lt-ltb k f.key (omega (arith, leb-true e.key f.key here))) (above k e es rest h)

  enter-first : (x : Pair) (es : List Entry) → all (λ (e : Entry). ltb x.key e.key) es ≡ true → enter_pair x (shown es) ≡ x ∷ shown es
  enter-first x [] h = refl
  enter-first x (e ∷ es) h =
      let (here, rest) = all_cons (λ (y : Entry). ltb x.key y.key) e es h in
      at (live_at w e) here (enter-first x es rest)
    where
      at : (b : Bool) → ltb x.key e.key ≡ true → enter_pair x (shown es) ≡ x ∷ shown es
          → enter_pair x (map pair_of (keep b e (those (live_at w) es))) ≡ x ∷ map pair_of (keep b e (those (live_at w) es))
      at true here ih = rw here
      at false here ih = ih

  pub born-live : w < alive → (x : Pair) → live_at w (born w x) ≡ true
  born-live h x = both-intro _ _ (le-leb w w (omega arith)) (lt-ltb w alive h)

  -- an entry of w stands before one that starts by w only if its key is smaller
  before-born : (x : Pair) (e : Entry) → leb e.start w ≡ true → before (born w x) e ≡ ltb x.key e.key
  before-born x e h = rw (le-ltb w e.start (leb-true _ _ h)) (at (ltb x.key e.key) (eqb x.key e.key))
    where
      at : (a b : Bool) → (a || (b && false)) ≡ a
      at true b = refl
      at false true = refl
      at false false = refl

  -- putting in at w puts into what is shown
  pub show-enter : w < alive → (x : Pair) (es : List Entry) → in_order by_key es ≡ true → all (λ (e : Entry). leb e.start w) es ≡ true
      → shown (enter (born w x) es) ≡ enter_pair x (shown es)
  show-enter lim x [] o h = rw (born-live lim x)
  show-enter lim x (e ∷ es) o h =
      let (here, rest) = all_cons (λ (y : Entry). leb y.start w) e es h in
      let (first, later) = both_true (all (by_key e) es) (in_order by_key es) o in
      rw (before-born x e here) (at (ltb x.key e.key) (live_at w e) refl refl first (show-enter lim x es later rest))
    where
      at : (a b : Bool) → ltb x.key e.key ≡ a → live_at w e ≡ b → all (by_key e) es ≡ true
          → shown (enter (born w x) es) ≡ enter_pair x (shown es)
          → shown (placed a (born w x) e es (enter (born w x) es)) ≡ enter_pair x (map pair_of (keep (live_at w e) e (those (live_at w) es)))
      at true b p q f ih =
          rw (born-live lim x) (sym (enter-first x (e ∷ es) (both-intro _ _ p (above x.key e es f (ltb-true x.key e.key p)))))
      at false true p q f ih = rw (q, p) (ap (λ (xs : List Pair). pair_of e ∷ xs) ih)
      at false false p q f ih = rw q ih

  -- the order stays
  pub order-enter : (x : Pair) (es : List Entry) → in_order by_key es ≡ true → all (λ (e : Entry). leb e.start w) es ≡ true
      → in_order by_key (enter (born w x) es) ≡ true
  order-enter x [] o h = refl
  order-enter x (e ∷ es) o h =
      let (here, rest) = all_cons (λ (y : Entry). leb y.start w) e es h in
      let (first, later) = both_true (all (by_key e) es) (in_order by_key es) o in
      rw (before-born x e here) (at (ltb x.key e.key) refl first later (order-enter x es later rest))
    where
      up : x.key < e.key → (ys : List Entry) → all (by_key e) ys ≡ true → all (by_key (born w x)) ys ≡ true
      up l [] f = refl
      up l (y ∷ ys) f =
          let (a, b) = all_cons (by_key e) y ys f in
          both-intro _ _ (le-leb x.key y.key (omega (arith, leb-true e.key y.key a))) (up l ys b)

      at : (b : Bool) → ltb x.key e.key ≡ b → all (by_key e) es ≡ true → in_order by_key es ≡ true
          → in_order by_key (enter (born w x) es) ≡ true
          → in_order by_key (placed b (born w x) e es (enter (born w x) es)) ≡ true
      at true p f l ih =
          let less : x.key < e.key = ltb-true x.key e.key p in
          both-intro _ _ (both-intro _ _ (le-leb x.key e.key (omega arith)) (up less es f)) (both-intro _ _ f l)
      at false p f l ih = both-intro _ _ (all-enter (by_key e) (born w x) (le-leb e.key x.key (ltb-false x.key e.key p)) es f) ih

  pub show-born : w < alive → (xs : List Pair) (es : List Entry) → in_order by_key es ≡ true → all (λ (e : Entry). leb e.start w) es ≡ true
      → shown (born_all w xs es) ≡ enter_all xs (shown es)
  show-born lim [] es o h = refl
  show-born lim (x ∷ xs) es o h =
      show-born lim xs (enter (born w x) es) (order-enter x es o h)
      (all-enter (λ (e : Entry). leb e.start w) (born w x) (le-leb w w (omega arith)) es h)
      ∙ ap (enter_all xs) (show-enter lim x es o h)

  pub order-end : (g : Entry → Bool) (es : List Entry) → in_order by_key es ≡ true → in_order by_key (end_those g w es) ≡ true
  order-end g [] o = refl
  order-end g (e ∷ es) o =
      let (first, later) = both_true (all (by_key e) es) (in_order by_key es) o in
      at (g e) (eqb e.start w) (all_end (by_key e) g w (λ x h. h) es first) (order-end g es later)
    where
      at : (b c : Bool) → all (by_key e) (end_those g w es) ≡ true → in_order by_key (end_those g w es) ≡ true
          → in_order by_key (end_one b c w e (end_those g w es)) ≡ true
      at false c f ih = both-intro _ _ f ih
      at true true f ih = ih
      at true false f ih = both-intro _ _ f ih

  -- A change made in place shows the wanted list.
  pub show-changed : w < alive → (c : Change) (p : Page) → in_order by_key p.entries ≡ true
      → all (λ (e : Entry). leb e.start w) p.entries ≡ true
      → pairs_at w (changed w c p) ≡ wanted w c p
  show-changed lim c p o h =
      show-born lim c.take _ (order-end _ p.entries o) (all_end (λ (e : Entry). leb e.start w) _ w (λ e y. y) p.entries h)
      ∙ ap (enter_all c.take) (show-end (λ (x : Pair). has x.key c.drop) p.entries)

  -- a page of version w shows what it was filled with
  pub show-filled : w < alive → (level : ℕ) (xs : List Pair) → pairs_at w (filled w level xs) ≡ xs
  show-filled lim level [] = refl
  show-filled lim level (x ∷ xs) = rw (born-live lim x) (ap (λ (ys : List Pair). x ∷ ys) (show-filled lim level xs))
