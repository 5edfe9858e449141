-- An abandon after an update leaves what an abandon before it leaves; and at older versions every page shows what it showed.
-- Assumes nothing.
use Prim.Native.Nat.{ℕ, zero, suc, ◌+◌, ◌≤◌, ◌<◌}
use native.Mathlib.Omega.{arith}
use mathlib.Core.Bool.{Bool, true, false, not}
use mathlib.Core.Option.{Option, none, some}
use mathlib.Core.Path.{◌≡◌, refl, ap, sym, ◌∙◌, subst}
use mathlib.Core.Logic.{◌≢◌}
use mathlib.Core.List.{List, [], ◌∷◌, ◌++◌, map}
use lib.Dec.{leb, eqb, eqb-zero-suc}
use lib.ListN.{get_or, set, drop, get_or-map}
use lib.Seq.{map-set_same, get_or-set_other, get_or-drop}
use borrow.Author.Tests.{eq-eqb, eqb-true, le-leb}
use Rattle.model.specs.Basic.{keep, those, all}
use Rattle.model.specs.declared.Entry.{Entry}
use Rattle.model.specs.declared.Pair.{Pair}
use Rattle.model.specs.Entry.{pair, alive, live_at, born, enter}
use Rattle.model.specs.Page.{Page, Change, changed, killed, filled, pairs_at, born_all, free, is_free, active, gone_if, gone}
use Rattle.model.specs.declared.Slot.{Slot}
use Rattle.model.specs.Store.{page, free_from, free_ones, Store, next}
use Rattle.model.specs.Walk.{Around, root_at, way}
use Rattle.model.specs.Rules
use Rattle.model.specs.Climb
use Rattle.model.specs.Rules.{retire, usable, Parts, one, two, Rebuilt, rebuilt, short, Worked, settled, upward, lacking, work}
use Rattle.model.specs.Climb.{Rooted, stays, moves, lacks, Result, done, refused, go_on, climb, update, work_root}
use Rattle.model.specs.Calls.{abandoned, revived_end, restored, restored_entries, back_by, back}
use Rattle.model.proofs.lists.Lists.{both-intro, all-enter, all_end}
use Rattle.model.proofs.older.Old.{old-changed, old-killed, old-filled, old-none}
use Rattle.model.proofs.older.Back.{ends_well, end_same, back-changed, back-killed, well-changed, well-killed, well-filled}

-- a page as rules 1 and 3 have it: a free one is all zero, an end is at most w or alive, and what an active page holds starts no earlier
pub record TamePage (w : ℕ) (p : Page) : Type 0 where
  pub zeroed : is_free p ≡ true → p ≡ free
  pub well : all (ends_well w) p.entries ≡ true
  pub young : active w p ≡ true → all (λ (e : Entry). leb w e.start) p.entries ≡ true

module _ (least u : ℕ) where
  abbrev w : ℕ
  w = suc u

  back-free : back w free ≡ free
  back-free = rw (eqb-zero-suc u, eqb-zero-suc u)

  back-filled : (level : ℕ) (xs : List Pair) → back w (filled w level xs) ≡ free
  back-filled level xs = rw (eq-eqb w w refl)

  restored-path : (p q : Page) → q.level ≡ p.level → q.start ≡ p.start → revived_end w q.end ≡ revived_end w p.end
      → restored_entries w q.entries ≡ restored_entries w p.entries → restored w q ≡ restored w p
  restored-path p q a b c d = λ i. record { level = a i; start = b i; end = c i; entries = d i }

  pub undo-changed : (c : Change) (p : Page) → TamePage w p → back w (changed w c p) ≡ back w p
  undo-changed c p t = at (active w p)
    where
      at : (b : Bool) → back_by b w (changed w c p) ≡ back_by b w p
      at true = refl
      at false = restored-path p (changed w c p) refl refl refl (back-changed w c p t.well)

  pub undo-gone : (p : Page) → TamePage w p → p.end ≡ alive → back w (gone w p) ≡ back w p
  undo-gone p t h = at (active w p) refl
    where
      at : (b : Bool) → active w p ≡ b → back w (gone_if b w p) ≡ back_by b w p
      at true e = back-free
      at false e = rw e (restored-path p (killed w p) refl refl (end_same w p.end h) (back-killed w p t.well))

  tame-free : TamePage w free
  tame-free = record { zeroed = λ _. refl; well = refl; young = λ _. refl }

  used : (p : Page) (l : ℕ) → p.level ≡ suc l → is_free p ≡ true → p ≡ free
  used p l e f = absurd (omega (arith, eqb-true p.level 0 f))

  from-w : (x : Pair) → leb w (born w x).start ≡ true
  from-w x = le-leb w w (omega arith)

  young-born : (xs : List Pair) (es : List Entry) → all (λ (e : Entry). leb w e.start) es ≡ true
      → all (λ (e : Entry). leb w e.start) (born_all w xs es) ≡ true
  young-born [] es y = y
  young-born (x ∷ xs) es y = young-born xs (enter (born w x) es) (all-enter (λ (e : Entry). leb w e.start) (born w x) (from-w x) es y)

  young-changed : (c : Change) (p : Page) → all (λ (e : Entry). leb w e.start) p.entries ≡ true
      → all (λ (e : Entry). leb w e.start) (changed w c p).entries ≡ true
  young-changed c p y = young-born c.take _ (all_end (λ (e : Entry). leb w e.start) _ w (λ e h. h) p.entries y)

  young-filled : (xs : List Pair) → all (λ (e : Entry). leb w e.start) (map (born w) xs) ≡ true
  young-filled [] = refl
  young-filled (x ∷ xs) = both-intro (leb w w) _ (from-w x) (young-filled xs)

  -- an active page shows nothing of old versions, so what becomes of it does not matter there
  old-gone : (v : ℕ) → v < w → (p : Page) → TamePage w p → pairs_at v (gone w p) ≡ pairs_at v p
  old-gone v h p t = at (active w p) refl
    where
      at : (b : Bool) → active w p ≡ b → pairs_at v (gone_if b w p) ≡ pairs_at v p
      at true e = sym (old-none v w h p.entries (t.young e))
      at false e = old-killed v w h p

  tame-changed : (c : Change) (p : Page) (l : ℕ) → p.level ≡ suc l → TamePage w p → TamePage w (changed w c p)
  tame-changed c p l e t =
      record { zeroed = used (changed w c p) l e; well = well-changed w c p t.well; young = λ a. young-changed c p (t.young a) }

  tame-gone : (p : Page) (l : ℕ) → p.level ≡ suc l → TamePage w p → TamePage w (gone w p)
  tame-gone p l e t = at (active w p)
    where
      at : (b : Bool) → TamePage w (gone_if b w p)
      at true = tame-free
      at false =
          record {
            zeroed = used (killed w p) l e;
            well = well-killed w p t.well;
            young = λ a. all_end (λ (x : Entry). leb w x.start) (live_at w) w (λ x y. y) p.entries (t.young a);
          }

  tame-filled : (l : ℕ) (xs : List Pair) → TamePage w (filled w (suc l) xs)
  tame-filled l xs = record { zeroed = used (filled w (suc l) xs) l refl; well = well-filled w (suc l) xs; young = λ a. young-filled xs }

  -- a page of the list after a store
  page-set : (P : Page → Type 0) (ps : List Page) (n m : ℕ) (q : Page) → P q → P (page ps m) → P (page (set ps n q) m)
  page-set P [] n m q a b = b
  page-set P (x ∷ xs) zero zero q a b = a
  page-set P (x ∷ xs) zero (suc m) q a b = b
  page-set P (x ∷ xs) (suc n) zero q a b = b
  page-set P (x ∷ xs) (suc n) (suc m) q a b = page-set P xs n m q a b

  -- From ps to qs: abandon leaves the same, pages above level l are untouched, and all are as rule 1 has them.
  pub record UndoFine (l : ℕ) (ps qs : List Page) : Type 0 where
    pub undone : map (back w) qs ≡ map (back w) ps
    pub above : (m : ℕ) → l < (page ps m).level → page qs m ≡ page ps m
    pub tame : (m : ℕ) → TamePage w (page qs m)
    pub old : (v : ℕ) → v < w → (m : ℕ) → pairs_at v (page qs m) ≡ pairs_at v (page ps m)

  fine-refl : (l : ℕ) (ps : List Page) → ((m : ℕ) → TamePage w (page ps m)) → UndoFine l ps ps
  fine-refl l ps t = record { undone = refl; above = λ m h. refl; tame = t; old = λ v h m. refl }

  get_or-of-map : {B : Type 0} (f : Page → B) (ps qs : List Page) → map f qs ≡ map f ps → (n : ℕ) → f (page qs n) ≡ f (page ps n)
  get_or-of-map {B} f ps qs e n = sym (get_or-map f qs n free) ∙ ap (λ (xs : List B). get_or xs n (f free)) e ∙ get_or-map f ps n free

  -- one page more is written
  fine-set : (l : ℕ) (ps qs : List Page) (n : ℕ) (q : Page) → UndoFine l ps qs → (page ps n).level ≤ l → TamePage w q
      → back w q ≡ back w (page qs n)
      → ((v : ℕ) → v < w → pairs_at v q ≡ pairs_at v (page qs n)) → UndoFine l ps (set qs n q)
  fine-set l ps qs n q f low t e o = record {
    undone = map-set_same (back w) qs n q free e ∙ f.undone;
    above = λ m h. get_or-set_other qs n m q free (λ (e : m ≡ n). omega (arith, ap (λ (i : ℕ). (page ps i).level) e)) ∙ f.above m h;
    tame = λ m. page-set (TamePage w) qs n m q t (f.tame m);
    old = λ v h m. get_or-of-map (pairs_at v) qs (set qs n q) (map-set_same (pairs_at v) qs n q free (o v h)) m ∙ f.old v h m;
  }

  -- what abandon leaves of one page
  undone-at : (l : ℕ) (ps qs : List Page) → UndoFine l ps qs → (n : ℕ) → back w (page qs n) ≡ back w (page ps n)
  undone-at l ps qs f n = get_or-of-map (back w) ps qs f.undone n

  -- a page l levels above the leaves that is alive
  pub record LivePage (l : ℕ) (ps : List Page) (n : ℕ) : Type 0 where
    pub level : (page ps n).level ≡ suc l
    pub endless : (page ps n).end ≡ alive

  gone-fine : (l : ℕ) (ps qs : List Page) (n : ℕ) → UndoFine (suc l) ps qs → LivePage l ps n → page qs n ≡ page ps n
      → UndoFine (suc l) ps (set qs n (gone w (page qs n)))
  gone-fine l ps qs n f g e =
      fine-set (suc l) ps qs n (gone w (page qs n)) f (omega (arith, g.level))
      (tame-gone (page qs n) l (ap (λ (p : Page). p.level) e ∙ g.level) (f.tame n))
      (undo-gone (page qs n) (f.tame n) (ap (λ (p : Page). p.end) e ∙ g.endless)) (λ v h. old-gone v h (page qs n) (f.tame n))

  -- a page that may be written anew
  pub record SpareUnseen (l : ℕ) (ps : List Page) (n : ℕ) : Type 0 where
    pub low : (page ps n).level ≤ suc l
    pub nothing : back w (page ps n) ≡ free
    pub unseen : (v : ℕ) → v < w → pairs_at v (page ps n) ≡ []

  abbrev Every : (ℕ → Type 0) → List ℕ → Type 0
  Every P [] = Unit {0}
  Every P (n ∷ ns) = P n × Every P ns

  every_append : (P : ℕ → Type 0) (ns ms : List ℕ) → Every P ns → Every P ms → Every P (ns ++ ms)
  every_append P [] ms a b = b
  every_append P (n ∷ ns) ms a b = (a.0, every_append P ns ms a.1 b)

  filled-fine : (l : ℕ) (ps qs : List Page) (n level : ℕ) (xs : List Pair) → level ≡ suc l → UndoFine (suc l) ps qs → SpareUnseen l ps n
      → UndoFine (suc l) ps (set qs n (filled w level xs))
  filled-fine l ps qs n level xs e f s =
      fine-set (suc l) ps qs n (filled w level xs) f s.low (subst (λ (k : ℕ). TamePage w (filled w k xs)) (sym e) (tame-filled l xs))
      (back-filled level xs ∙ sym s.nothing ∙ sym (undone-at (suc l) ps qs f n))
      (λ v h. old-filled v w h level xs ∙ sym (s.unseen v h) ∙ sym (f.old v h n))

  abbrev RebuiltFine : ℕ → List Page → Rebuilt → Type 0
  RebuiltFine l ps (rebuilt qs news) = UndoFine (suc l) ps qs
  RebuiltFine l ps short = Unit {0}

  rebuild-fine : (l level : ℕ) (ps : List Page) (rs : List Pair) (x : Parts) (ns : List ℕ) → level ≡ suc l
      → UndoFine (suc l) ps (retire w ps rs) → Every (SpareUnseen l ps) ns
      → RebuiltFine l ps (Rules.rebuild_with w level ps rs x ns)
  unfolding Rules.rebuild_with
  rebuild-fine l level ps rs (one x) [] e f s = tt
  rebuild-fine l level ps rs (one x) (n ∷ ns) e f s = filled-fine l ps _ n level x e f s.0
  rebuild-fine l level ps rs (two x y) [] e f s = tt
  rebuild-fine l level ps rs (two x y) (n ∷ []) e f s = tt
  rebuild-fine l level ps rs (two x y) (n ∷ m ∷ ns) e f s =
      filled-fine l ps _ m level y e (filled-fine l ps _ n level x e f s.0) s.1.0

  -- the pages that may be used
  abbrev AllGood : ℕ → List Page → List Pair → Type 0
  AllGood l ps [] = Unit {0}
  AllGood l ps (r ∷ rs) = LivePage l ps r.value × AllGood l ps rs

  spare-active : (l : ℕ) (ps : List Page) (rs : List Pair) → ((m : ℕ) → TamePage w (page ps m)) → AllGood l ps rs
      → Every (SpareUnseen l ps) (those (λ (n : ℕ). active w (page ps n)) (map (λ (r : Pair). r.value) rs))
  spare-active l ps [] t g = tt
  spare-active l ps (r ∷ rs) t g = at (active w (page ps r.value)) refl (spare-active l ps rs t g.1)
    where
      rest : List ℕ
      rest = those (λ (n : ℕ). active w (page ps n)) (map (λ (q : Pair). q.value) rs)

      at : (b : Bool) → active w (page ps r.value) ≡ b → Every (SpareUnseen l ps) rest
          → Every (SpareUnseen l ps) (keep b r.value rest)
      at true e ih = (
        record {
          low = omega (arith, g.0.level);
          nothing = rw e refl;
          unseen = λ v h. old-none v w h (page ps r.value).entries ((t r.value).young e);
        },
        ih,
      )
      at false e ih = ih

  spare-free : (l : ℕ) (ps : List Page) → ((m : ℕ) → TamePage w (page ps m)) → (n : ℕ) (qs : List Page)
      → ((i : ℕ) → page qs i ≡ page ps (n + i))
      → Every (SpareUnseen l ps) (free_from n qs)
  spare-free l ps t n [] h = tt
  spare-free l ps t n (q ∷ qs) h = at (is_free q) refl (spare-free l ps t (suc n) qs (λ i. h (suc i) ∙ ap (page ps) (omega arith)))
    where
      here : q ≡ page ps n
      here = h 0 ∙ ap (page ps) (omega arith)

      at : (b : Bool) → is_free q ≡ b → Every (SpareUnseen l ps) (free_from (suc n) qs)
          → Every (SpareUnseen l ps) (keep b n (free_from (suc n) qs))
      at true e ih =
          let z : page ps n ≡ free = (t n).zeroed (subst (λ (p : Page). is_free p ≡ true) here e) in (
            record {
              low = omega (arith, ap (λ (p : Page). p.level) z);
              nothing = ap (back w) z ∙ back-free;
              unseen = λ v h. ap (pairs_at v) z;
            },
            ih,
          )
      at false e ih = ih

  page-drop : (ps : List Page) (i : ℕ) → page (drop 5 ps) i ≡ page ps (5 + i)
  page-drop ps i = get_or-drop 5 ps i free

  spare-usable : (l : ℕ) (ps : List Page) (rs : List Pair) → ((m : ℕ) → TamePage w (page ps m)) → AllGood l ps rs
      → Every (SpareUnseen l ps) (usable w ps rs)
  unfolding Rules.usable
  spare-usable l ps rs t g =
      every_append (SpareUnseen l ps) (those (λ (n : ℕ). active w (page ps n)) (map (λ (r : Pair). r.value) rs)) (free_ones ps)
      (spare-active l ps rs t g) (spare-free l ps t 5 (drop 5 ps) (page-drop ps))

  -- the pages around a place on the way down
  abbrev pub Next : ℕ → List Page → ℕ → Option Pair → Type 0
  Next l ps n none = Unit {0}
  Next l ps n (some x) = LivePage l ps x.value × (x.value ≢ n)

  pub record AroundLives (l : ℕ) (ps : List Page) (a : Around) : Type 0 where
    pub own : LivePage l ps a.own.value
    pub left : Next l ps a.own.value a.left
    pub right : Next l ps a.own.value a.right

  pub record GroupFine (l : ℕ) (ps : List Page) (rs : List Pair) : Type 0 where
    pub retired : UndoFine (suc l) ps (retire w ps rs)
    pub good : AllGood l ps rs

  -- what is shown of each outcome
  abbrev pub WorkedFine : ℕ → List Page → Worked → Type 0
  WorkedFine l ps (settled qs) = UndoFine (suc l) ps qs
  WorkedFine l ps (upward c qs) = UndoFine (suc l) ps qs
  WorkedFine l ps lacking = Unit {0}

  pub record UndoKept (ps qs : List Page) : Type 0 where
    pub undone : map (back w) qs ≡ map (back w) ps
    pub old : (v : ℕ) → v < w → (m : ℕ) → pairs_at v (page qs m) ≡ pairs_at v (page ps m)

  kept_by : (l : ℕ) (ps qs : List Page) → UndoFine l ps qs → UndoKept ps qs
  kept_by l ps qs f = record { undone = f.undone; old = f.old }

  abbrev pub RootedFine : List Page → Rooted → Type 0
  RootedFine ps (stays qs) = UndoKept ps qs
  RootedFine ps (moves n qs) = UndoKept ps qs
  RootedFine ps lacks = Unit {0}

  module _ (l : ℕ) (ps : List Page) (t : (m : ℕ) → TamePage w (page ps m)) where
    group-one : (r : Pair) → LivePage l ps r.value → GroupFine l ps (r ∷ [])
    group-one r g = record { retired = gone-fine l ps ps r.value (fine-refl (suc l) ps t) g refl; good = (g, tt) }

    group-two : (r q : Pair) → LivePage l ps r.value → LivePage l ps q.value → q.value ≢ r.value → GroupFine l ps (r ∷ q ∷ [])
    group-two r q g h d = record {
      retired = gone-fine l ps _ q.value (gone-fine l ps ps r.value (fine-refl (suc l) ps t) g refl) h
          (get_or-set_other ps r.value q.value _ free d);
      good = (g, (h, tt));
    }

    group-near : (a : Around) (want : List Pair) (x y : Option Pair) → LivePage l ps a.own.value → Next l ps a.own.value x
        → Next l ps a.own.value y
        → GroupFine l ps (Rules.with_neighbour w ps a want x y).routers
    unfolding Rules.with_neighbour
    group-near a want x (some r) g p q = group-two a.own r g q.0 q.1
    group-near a want (some x) none g p q = group-two x a.own p.0 g (λ (e : a.own.value ≡ x.value). p.1 (sym e))
    group-near a want none none g p q = group-one a.own g

    group-fine : (b : Bool) (a : Around) (want : List Pair) → AroundLives l ps a → GroupFine l ps (Rules.gather_by b w ps a want).routers
    unfolding Rules.gather_by
    group-fine true a want s = group-near a want a.left a.right s.own s.left s.right
    group-fine false a want s = group-one a.own s.own

    rebuilt-fine : (level : ℕ) (g : Rules.Group) → level ≡ suc l → GroupFine l ps g.routers
        → RebuiltFine l ps (Rules.rebuild least w level ps g)
    unfolding Rules.rebuild
    rebuilt-fine level g e f = rebuild-fine l level ps g.routers _ _ e f.retired (spare-usable l ps g.routers t f.good)

    handed : (olds : List Pair) (r : Rebuilt) → RebuiltFine l ps r → WorkedFine l ps (Rules.hand_up olds r)
    unfolding Rules.hand_up
    handed olds (rebuilt qs news) f = f
    handed olds short f = tt

    changed-fine : (c : Change) (n : ℕ) → LivePage l ps n → UndoFine (suc l) ps (set ps n (changed w c (page ps n)))
    changed-fine c n g =
        fine-set (suc l) ps ps n (changed w c (page ps n)) (fine-refl (suc l) ps t) (omega (arith, g.level))
        (tame-changed c (page ps n) l g.level (t n))
        (undo-changed c (page ps n) (t n)) (λ v h. old-changed v w h c (page ps n))

    work-by : (b : Bool) (a : Around) (c : Change) → AroundLives l ps a
        → WorkedFine l ps (Rules.work_by least b w ps a c (page ps a.own.value))
    unfolding Rules.work_by Rules.regroup
    work-by true a c s = changed-fine c a.own.value s.own
    work-by false a c s = handed _ _ (rebuilt-fine _ _ s.own.level (group-fine _ a _ s))

    pub work-fine : (a : Around) (c : Change) → AroundLives l ps a → WorkedFine l ps (work least w ps a c)
    unfolding Rules.work
    work-fine a c s = work-by _ a c s

    -- the root
    topped-fine : (level : ℕ) (qs : List Page) (news : List Pair) (ns : List ℕ) → UndoFine (suc l) ps qs → Every (SpareUnseen l qs) ns
        → RootedFine ps (Climb.topped w level qs news ns)
    unfolding Climb.topped
    topped-fine level qs news [] f s = tt
    topped-fine level qs news (n ∷ ns) f s = record {
      undone = map-set_same (back w) qs n (filled w (suc level) news) free (back-filled (suc level) news ∙ sym s.0.nothing) ∙ f.undone;
      old = λ v h m. get_or-of-map (pairs_at v) qs (set qs n (filled w (suc level) news))
          (map-set_same (pairs_at v) qs n (filled w (suc level) news) free (old-filled v w h (suc level) news ∙ sym (s.0.unseen v h))) m
          ∙ f.old v h m;
    }

    new-root : (level : ℕ) (r : Rebuilt) → RebuiltFine l ps r → RootedFine ps (Climb.new_root w level r)
    unfolding Climb.new_root
    new-root level short f = tt
    new-root level (rebuilt qs []) f = tt
    new-root level (rebuilt qs (x ∷ [])) f = kept_by _ ps qs f
    new-root level (rebuilt qs (x ∷ y ∷ zs)) f = topped-fine level qs _ (free_ones qs) f
        (spare-free l qs f.tame 5 (drop 5 qs) (page-drop qs))

    root-stay : (b : Bool) (r : ℕ) (c : Change) → LivePage l ps r → RootedFine ps (Climb.root_stay least b w ps r c (page ps r))
    unfolding Climb.root_stay
    root-stay true r c g = kept_by _ ps _ (changed-fine c r g)
    root-stay false r c g = new-root _ _ (rebuilt-fine _ _ g.level (group-one (pair 0 r) g))

    root-go : (b : Bool) (r : ℕ) (c : Change) (want : List Pair) → LivePage l ps r
        → RootedFine ps (Climb.root_go least b w ps r c (page ps r) want)
    unfolding Climb.root_go
    root-go true r c [] g = root-stay _ r c g
    root-go true r c (x ∷ []) g = kept_by _ ps _ (gone-fine l ps ps r (fine-refl (suc l) ps t) g refl)
    root-go true r c (x ∷ y ∷ zs) g = root-stay _ r c g
    root-go false r c want g = root-stay _ r c g

    pub root-fine : (r : ℕ) (c : Change) → LivePage l ps r → RootedFine ps (work_root least w ps r c)
    unfolding Climb.work_root
    root-fine r c g = root-go _ r c _ g

  -- the way up
  abbrev pub WayGood : ℕ → List Page → ℕ → List Around → Type 0
  WayGood l ps r [] = LivePage l ps r
  WayGood l ps r (a ∷ up) = AroundLives l ps a × WayGood (suc l) ps r up

  module _ (l : ℕ) (ps qs : List Page) (f : UndoFine (suc l) ps qs) where
    keep-good : (k n : ℕ) → l < k → LivePage k ps n → LivePage k qs n
    keep-good k n h g =
        let e : page qs n ≡ page ps n = f.above n (omega (arith, g.level)) in
        record { level = ap (λ (p : Page). p.level) e ∙ g.level; endless = ap (λ (p : Page). p.end) e ∙ g.endless }

    keep-next : (k n : ℕ) (x : Option Pair) → l < k → Next k ps n x → Next k qs n x
    keep-next k n none h g = tt
    keep-next k n (some x) h g = (keep-good k x.value h g.0, g.1)

    keep-beside : (k : ℕ) (a : Around) → l < k → AroundLives k ps a → AroundLives k qs a
    keep-beside k a h s =
        record { own = keep-good k _ h s.own; left = keep-next k _ a.left h s.left; right = keep-next k _ a.right h s.right }

    pub keep-way : (k r : ℕ) (up : List Around) → l < k → WayGood k ps r up → WayGood k qs r up
    keep-way k r [] h g = keep-good k r h g
    keep-way k r (a ∷ up) h g = (keep-beside k a h g.0, keep-way (suc k) r up (omega arith) g.1)

  kept_trans : (ps qs rs : List Page) → UndoKept ps qs → UndoKept qs rs → UndoKept ps rs
  kept_trans ps qs rs e f = record { undone = f.undone ∙ e.undone; old = λ v h m. f.old v h m ∙ e.old v h m }

  rooted-trans : (ps qs : List Page) (x : Rooted) → UndoKept ps qs → RootedFine qs x → RootedFine ps x
  rooted-trans ps qs (stays rs) e f = kept_trans ps qs rs e f
  rooted-trans ps qs (moves n rs) e f = kept_trans ps qs rs e f
  rooted-trans ps qs lacks e f = tt

  pub climb-fine : (l r : ℕ) (up : List Around) (c : Change) (ps : List Page) → ((m : ℕ) → TamePage w (page ps m)) → WayGood l ps r up
      → RootedFine ps (climb least w r up c ps)
  unfolding climb
  climb-fine l r [] c ps t g = root-fine l ps t r c g
  climb-fine l r (a ∷ up) c ps t g =
      at (work least w ps a c) (work-fine l ps t a c g.0) (λ c' qs. climb-fine (suc l) r up c' qs)
    where
      at : (x : Worked) → WorkedFine l ps x
          → ((c' : Change) (qs : List Page) → ((m : ℕ) → TamePage w (page qs m)) → WayGood (suc l) qs r up
          → RootedFine qs (climb least w r up c' qs))
          → RootedFine ps (go_on x (λ (c' : Change) (qs : List Page). climb least w r up c' qs))
      at (settled qs) f ih = kept_by _ ps qs f
      at (upward c' qs) f ih =
          rooted-trans ps qs (climb least w r up c' qs) (kept_by _ ps qs f)
          (ih c' qs f.tame (keep-way l ps qs f (suc l) r up (omega arith) g.1))
      at lacking f ih = tt

-- the slot goes again
slot-goes : (w n : ℕ) (xs : List Slot) → those (λ (x : Slot). not (eqb x.version w)) (Climb.put_slot w n xs)
    ≡ those (λ (x : Slot). not (eqb x.version w)) xs
unfolding Climb.put_slot
slot-goes w n [] = rw (eq-eqb w w refl)
slot-goes w n (x ∷ xs) = at (not (eqb x.version w)) refl (slot-goes w n xs)
  where
    f : Slot → Bool
    f y = not (eqb y.version w)

    at : (b : Bool) → f x ≡ b → those f (Climb.put_slot w n xs) ≡ those f xs
        → those f (keep b x (those f xs) ++ (record { version = w; root = n } ∷ [])) ≡ keep b x (those f xs)
    at true e ih = rw e (ap {B = List Slot} (λ (ys : List Slot). x ∷ ys) ih)
    at false e ih = ih

-- what the store must be for it, which soundness gives: pages as rule 1 has them, and the way down leads over living pages, one level after
-- the other
pub record UndoReady (least : ℕ) (s : Store) (k : ℕ) : Type 0 where
  pub tame : (m : ℕ) → TamePage (next s) (page s.pages m)
  pub leads : WayGood least s.current 0 s.pages (root_at s.slots (next s)) (way s (next s) k)

abbrev pub Undone : Store → Result → Type 0
Undone s (done t) = abandoned t ≡ abandoned s
Undone s (refused n) = Unit {0}

same_store : (s : Store) (xs : List Slot) (ps : List Page)
    → those (λ (x : Slot). not (eqb x.version (next s))) xs ≡ those (λ (x : Slot). not (eqb x.version (next s))) s.slots
    → map (back (next s)) ps ≡ map (back (next s)) s.pages
    → abandoned (record { current = s.current; opened = s.opened; oldest = s.oldest; slots = xs; pages = ps }) ≡ abandoned s
unfolding abandoned
same_store s xs ps a b = λ i. record { current = s.current; opened = false; oldest = s.oldest; slots = a i; pages = b i }

slotted-undone : (b : Bool) (s : Store) (xs : List Slot) (ps : List Page)
    → those (λ (x : Slot). not (eqb x.version (next s))) xs ≡ those (λ (x : Slot). not (eqb x.version (next s))) s.slots
    → map (back (next s)) ps ≡ map (back (next s)) s.pages → Undone s (Climb.slotted b s xs ps)
unfolding Climb.slotted
slotted-undone true s xs ps a b = same_store s xs ps a b
slotted-undone false s xs ps a b = tt

rooted-undone : (least : ℕ) (s : Store) (x : Rooted) → RootedFine least s.current s.pages x → Undone s (Climb.rooted least s x)
unfolding Climb.rooted
rooted-undone least s (stays ps) f = same_store s s.slots ps refl f.undone
rooted-undone least s (moves n ps) f = slotted-undone _ s _ ps (slot-goes (next s) n s.slots) f.undone
rooted-undone least s lacks f = tt

-- An abandon after an accepted update leaves what an abandon before it leaves.
pub update-undone : (least : ℕ) (s : Store) (k : ℕ) (c : Change) → UndoReady least s k → Undone s (update least s k c)
unfolding Climb.update
update-undone least s k c r = rooted-undone least s _ (climb-fine least s.current 0 _ _ c s.pages r.tame r.leads)
