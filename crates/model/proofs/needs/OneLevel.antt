-- Within one level pages are never both freed and taken (decision 19). A router that "stays untouched" leads to an active page, and a
-- router to an active page starts at the open version (decision 18).
-- Assumes nothing.
use Prim.Native.Nat.{ℕ, zero, suc, ◌≤◌, ◌<◌}
use native.Mathlib.Omega.{arith}
use mathlib.Core.Bool.{Bool, true, false, ◌&&◌, ◌||◌}
use mathlib.Core.Path.{◌≡◌, refl, ap, sym, ◌∙◌, subst}
use mathlib.Core.Logic.{◌⊎◌, inl, inr, ◌≢◌}
use mathlib.Core.List.{List, [], ◌∷◌, ◌++◌}
use lib.Dec.{leb, eqb}
use lib.ListN.{length, set, take, length-set}
use lib.Seq.{get_or-set_same, get_or-set_other}
use borrow.Author.Tests.{eqb-true, leb-true, ne_eqb}
use Rattle.model.specs.Basic.{has}
use Rattle.model.specs.declared.Pair.{Pair}
use Rattle.model.specs.declared.Entry.{Entry}
use Rattle.model.specs.Entry.{pair}
use Rattle.model.specs.Page.{Page, Change, free, is_free, active, filled, gone_if, gone}
use Rattle.model.specs.Store.{Store, page, free_ones, next}
use Rattle.model.specs.Walk.{Around}
use Rattle.model.specs.Sound.{inside}
use Rattle.model.specs.Rules
use Rattle.model.specs.Rules.{retire, usable, Parts, one, two, Rebuilt, rebuilt, short, low_key, rebuild, upward, work}
use Rattle.model.specs.Needs.{actives}
use Rattle.model.specs.Inner.{In}
use Rattle.model.specs.ByRule.{Sound}
use Rattle.model.proofs.lists.Lists.{both_true}
use Rattle.model.proofs.lists.Members.{not-both, either_true, bool_cases, in-append, in-those, those-in, map-in, has_in, in-has}
use Rattle.model.proofs.lists.Bools.{same?}
use Rattle.model.proofs.sound.ByRule.{GoodEntry, entry_of, used-in}
use Rattle.model.proofs.sound.Ready.{level-used, last-is}
use Rattle.model.proofs.tree.GroupPages.{values, in-frees}
use Rattle.model.proofs.older.Undo.{AroundLives}
use Rattle.model.proofs.needs.FreePages.{Pages, member-at, usable-free, retire-free, length-retire, size_of, High, gather-pages}

-- ---- decision 19

in? : (n : ℕ) (ns : List ℕ) → In n ns ⊎ (In n ns → ⊥)
in? n ns = at (bool_cases (has n ns))
  where
    at : (has n ns ≡ true) ⊎ (has n ns ≡ false) → In n ns ⊎ (In n ns → ⊥)
    at (inl e) = inl (has_in n ns e)
    at (inr e) = inr (λ i. not-both (has n ns) (in-has n ns i) e)

-- of those in front none is left out if one behind them is reached
take-front : (j : ℕ) (ns fs : List ℕ) (n : ℕ) → In n (take j (ns ++ fs)) → (In n ns → ⊥) → (m : ℕ) → In m ns → In m (take j (ns ++ fs))
take-front j [] fs n i out m k = absurd k
take-front zero (x ∷ ns) fs n i out m k = absurd i
take-front (suc j) (x ∷ ns) fs n (inl e) out m k = absurd (out (inl e))
take-front (suc j) (x ∷ ns) fs n (inr i) out m (inl e) = inl e
take-front (suc j) (x ∷ ns) fs n (inr i) out m (inr k) = inr (take-front j ns fs n i (λ z. out (inr z)) m k)

abbrev pub Freed : List Page → List Page → ℕ → Type 0
Freed ps qs m = (is_free (page ps m) ≡ false) × (is_free (page qs m) ≡ true)

abbrev pub Taken : List Page → List Page → ℕ → Type 0
Taken ps qs m = (is_free (page ps m) ≡ true) × (is_free (page qs m) ≡ false)

-- a page written, and the others
written : (qs : List Page) (n : ℕ) (q : Page) (m : ℕ) → n < length qs → is_free q ≡ false
    → (m ≡ n → is_free (page (set qs n q) m) ≡ false) × (m ≢ n → page (set qs n q) m ≡ page qs m)
written qs n q m h f = (
  λ e. ap (λ (i : ℕ). is_free (page (set qs n q) i)) e ∙ ap is_free (get_or-set_same qs n q free h) ∙ f,
  λ d. get_or-set_other qs n m q free d,
)

module _ (w : ℕ) where
  -- retiring leaves other pages, and inactive ones used
  retire-other : (rs : List Pair) (ps : List Page) (m : ℕ) → (In m (values rs) → ⊥) → page (retire w ps rs) m ≡ page ps m
  retire-other [] ps m out = refl
  retire-other (r ∷ rs) ps m out =
      retire-other rs _ m (λ i. out (inr i)) ∙ get_or-set_other ps r.value m _ free (λ (e : m ≡ r.value). out (inl e))

  abbrev Idle : Page → Type 0
  Idle p = (is_free p ≡ false) × (active w p ≡ false)

  gone-idle : (p : Page) → Idle p → Idle (gone w p)
  gone-idle p h = subst (λ (b : Bool). Idle (gone_if b w p)) (sym h.1) h

  retire-idle : (rs : List Pair) (ps : List Page) (m : ℕ) → m < length ps → Idle (page ps m) → Idle (page (retire w ps rs) m)
  retire-idle [] ps m h a = a
  retire-idle (r ∷ rs) ps m h a =
      retire-idle rs _ m (omega (arith, length-set ps r.value (gone w (page ps r.value)))) (at (same? m r.value))
    where
      q : Page
      q = gone w (page ps r.value)

      at : (m ≡ r.value) ⊎ (m ≢ r.value) → Idle (page (set ps r.value q) m)
      at (inl e) =
          subst Idle (sym (ap (page (set ps r.value q)) e ∙ get_or-set_same ps r.value q free (omega arith)))
          (gone-idle (page ps r.value) (subst (λ (i : ℕ). Idle (page ps i)) e a))
      at (inr d) = subst Idle (sym (get_or-set_other ps r.value m q free d)) a

module _ (w l level : ℕ) (ps : List Page) (rs : List Pair) (up : level ≡ suc l) (g : Pages w l ps rs) where
  used : (x : List Pair) → is_free (filled w level x) ≡ false
  used x = ne_eqb level 0 (λ (z : level ≡ 0). omega arith)

  -- the pages that a group fills are used, and the others are as they are when it has retired
  pub record Fills (ns : List ℕ) (qs : List Page) : Type 0 where
    pub full : (m : ℕ) → In m ns → is_free (page qs m) ≡ false
    pub rest : (m : ℕ) → (In m ns → ⊥) → page qs m ≡ page (retire w ps rs) m
    pub long : length qs ≡ length ps

  abbrev FillsOr : List ℕ → Rebuilt → Type 0
  FillsOr ns (rebuilt qs news) = Fills ns qs
  FillsOr ns short = Unit {0}

  fills-by : (x : Parts) (ns : List ℕ) → ((n : ℕ) → In n ns → n < length ps)
      → FillsOr (take (size_of x) ns) (Rules.rebuild_with w level ps rs x ns)
  unfolding Rules.rebuild_with
  fills-by (one x) [] u = tt
  fills-by (one x) (n ∷ ns) u =
      let inn : n < length (retire w ps rs) = omega (arith, length-retire w rs ps, u n (inl refl)) in
      record {
        full = λ m i. (written (retire w ps rs) n (filled w level x) m inn (used x)).0 (only m i);
        rest = λ m out. (written (retire w ps rs) n (filled w level x) m inn (used x)).1 (λ (e : m ≡ n). out (inl e));
        long = length-set (retire w ps rs) n (filled w level x) ∙ length-retire w rs ps;
      }
    where
      only : (m : ℕ) → In m (n ∷ []) → m ≡ n
      only m (inl e) = e
      only m (inr i) = absurd i
  fills-by (two x y) [] u = tt
  fills-by (two x y) (n ∷ []) u = tt
  fills-by (two x y) (n ∷ k ∷ ns) u =
      let inn : n < length (retire w ps rs) = omega (arith, length-retire w rs ps, u n (inl refl)) in
      let ink : k < length (set (retire w ps rs) n (filled w level x))
      = omega (arith, length-set (retire w ps rs) n (filled w level x), length-retire w rs ps, u k (inr (inl refl))) in
      record {
        full = λ m i. either m (same? m k) i (written (retire w ps rs) n (filled w level x) m inn (used x))
            (written (set (retire w ps rs) n (filled w level x)) k (filled w level y) m ink (used y));
        rest = λ m out. (written (set (retire w ps rs) n (filled w level x)) k (filled w level y) m ink (used y)).1
            (λ (e : m ≡ k). out (inr (inl e)))
            ∙ (written (retire w ps rs) n (filled w level x) m inn (used x)).1 (λ (e : m ≡ n). out (inl e));
        long = length-set (set (retire w ps rs) n (filled w level x)) k (filled w level y)
            ∙ length-set (retire w ps rs) n (filled w level x) ∙ length-retire w rs ps;
      }
    where
      first : List Page
      first = set (retire w ps rs) n (filled w level x)

      both : List Page
      both = set first k (filled w level y)

      either : (m : ℕ) → (m ≡ k) ⊎ (m ≢ k) → In m (n ∷ k ∷ [])
          → (m ≡ n → is_free (page first m) ≡ false) × (m ≢ n → page first m ≡ page (retire w ps rs) m)
          → (m ≡ k → is_free (page both m) ≡ false) × (m ≢ k → page both m ≡ page first m) → is_free (page both m) ≡ false
      either m (inl e) i a b = b.0 e
      either m (inr d) (inl e) a b = ap is_free (b.1 d) ∙ a.0 e
      either m (inr d) (inr (inl e)) a b = absurd (d e)
      either m (inr d) (inr (inr i)) a b = absurd i

  -- a page that retiring frees is an active one of the group
  freed-active : (m : ℕ) → is_free (page ps m) ≡ false → is_free (page (retire w ps rs) m) ≡ true → In m (actives w ps rs)
  freed-active m u f = at (bool_cases (active w (page ps m))) (in? m (values rs))
    where
      at : (active w (page ps m) ≡ true) ⊎ (active w (page ps m) ≡ false) → In m (values rs) ⊎ (In m (values rs) → ⊥)
          → In m (actives w ps rs)
      at (inl a) (inl i) = those-in (λ (n : ℕ). active w (page ps n)) m (values rs) a i
      at (inl a) (inr out) = absurd (not-both (is_free (page ps m)) (ap is_free (sym (retire-other w rs ps m out)) ∙ f) u)
      at (inr a) i = absurd (not-both (is_free (page (retire w ps rs) m)) f (retire-idle w rs ps m (used-in ps m u) (u, a)).0)

  active-used : (m : ℕ) → In m (actives w ps rs) → is_free (page ps m) ≡ false
  active-used m i =
      let (a, j) = in-those (λ (n : ℕ). active w (page ps n)) m (values rs) i in
      level-used (page ps m) l (member-at w l ps g m j).level

  -- if one is taken, all the active ones are filled, so that none is freed
  once : (j : ℕ) (qs : List Page) → Fills (take j (actives w ps rs ++ free_ones ps)) qs → (m n : ℕ) → Freed ps qs m → Taken ps qs n → ⊥
  once j qs f m n (u, v) (x, y) =
      let inn : n < length ps = omega (arith, used-in qs n y, f.long) in
      at (in? m (take j (actives w ps rs ++ free_ones ps))) (in? n (take j (actives w ps rs ++ free_ones ps))) inn
    where
      at : In m (take j (actives w ps rs ++ free_ones ps)) ⊎ (In m (take j (actives w ps rs ++ free_ones ps)) → ⊥)
          → In n (take j (actives w ps rs ++ free_ones ps)) ⊎ (In n (take j (actives w ps rs ++ free_ones ps)) → ⊥) → n < length ps → ⊥
      at (inl i) k inn = not-both (is_free (page qs m)) v (f.full m i)
      at (inr out) (inr k) inn = not-both (is_free (page qs n)) (ap is_free (f.rest n k) ∙ retire-free w rs ps n inn x) y
      at (inr out) (inl k) inn =
          out (take-front j (actives w ps rs) (free_ones ps) n k (λ i. not-both (is_free (page ps n)) x (active-used n i)) m
          (freed-active m u (sym (ap is_free (f.rest m out)) ∙ v)))

  pub never_both : (least : ℕ) (us : List Pair) (qs : List Page) (news : List Pair)
      → rebuild least w level ps (record { routers = rs; pairs = us }) ≡ rebuilt qs news
      → (m n : ℕ) → Freed ps qs m → Taken ps qs n → ⊥
  unfolding Rules.rebuild Rules.usable
  never_both least us qs news e =
      once (size_of (Rules.parts least us)) qs
      (subst (FillsOr (take (size_of (Rules.parts least us)) (actives w ps rs ++ free_ones ps))) e
      (fills-by (Rules.parts least us) (actives w ps rs ++ free_ones ps) (λ n i. (usable-free w l ps g n i).in-pages)))

-- so it is of a page that is not the root, on the way up from the leaf
module _ (least u l : ℕ) (ps : List Page) (a : Around) (c d : Change) (qs : List Page) where
  handed : (rs : List Pair) (x : Rebuilt) → Rules.hand_up rs x ≡ upward d qs → (news : List Pair) × (x ≡ rebuilt qs news)
  unfolding Rules.hand_up
  handed rs (rebuilt zs news) e = (news, ap (λ (ys : List Page). rebuilt ys news) cc)
  handed rs short e = let z : ◌≡◌ {A = ℕ} 0 1 = cc in absurd (omega arith)

  level_by : (b : Bool) → AroundLives least u l ps a → High a → Rules.work_by least b (suc u) ps a c (page ps a.own.value) ≡ upward d qs
      → (m n : ℕ) → Freed ps qs m → Taken ps qs n → ⊥
  unfolding Rules.work_by Rules.regroup
  level_by true s h e = let z : ◌≡◌ {A = ℕ} 0 1 = cc in absurd (omega arith)
  level_by false s h e =
      let (news, f) = handed _ _ e in
      never_both (suc u) l (page ps a.own.value).level ps _ s.own.level (gather-pages least u l ps a s h _ _) least _ qs news f

  pub level-once : AroundLives least u l ps a → High a → work least (suc u) ps a c ≡ upward d qs → (m n : ℕ) → Freed ps qs m → Taken ps qs n
      → ⊥
  unfolding Rules.work
  level-once s h e = level_by _ s h e

-- ---- decision 18

-- a router that is an old one and a new one leads to a page now used, which is an active one of the group
module _ (w l level : ℕ) (ps : List Page) (rs : List Pair) (g : Pages w l ps rs) where
  abbrev NewIn : List ℕ → Rebuilt → Type 0
  NewIn ns (rebuilt qs news) = (r : Pair) → In r news → In r.value ns
  NewIn ns short = Unit {0}

  new_in : (x : Parts) (ns : List ℕ) → NewIn ns (Rules.rebuild_with w level ps rs x ns)
  unfolding Rules.rebuild_with
  new_in (one x) [] = tt
  new_in (one x) (n ∷ ns) = at
    where
      at : (r : Pair) → In r (pair (low_key rs) n ∷ []) → In r.value (n ∷ ns)
      at r (inl e) = inl (ap (λ (q : Pair). q.value) e)
      at r (inr i) = absurd i
  new_in (two x y) [] = tt
  new_in (two x y) (n ∷ []) = tt
  new_in (two x y) (n ∷ m ∷ ns) = at
    where
      at : (r : Pair) → In r (pair (low_key rs) n ∷ pair (low_key y) m ∷ []) → In r.value (n ∷ m ∷ ns)
      at r (inl e) = inl (ap (λ (q : Pair). q.value) e)
      at r (inr (inl e)) = inr (inl (ap (λ (q : Pair). q.value) e))
      at r (inr (inr i)) = absurd i

  pub untouched-active : (least : ℕ) (us : List Pair) (qs : List Page) (news : List Pair)
      → rebuild least w level ps (record { routers = rs; pairs = us }) ≡ rebuilt qs news
      → (r : Pair) → In r rs → In r news → active w (page ps r.value) ≡ true
  unfolding Rules.rebuild Rules.usable
  untouched-active least us qs news e r i j =
      at (in-append r.value (actives w ps rs) (free_ones ps)
      (subst (NewIn (actives w ps rs ++ free_ones ps)) e (new_in (Rules.parts least us) (actives w ps rs ++ free_ones ps)) r j))
    where
      at : In r.value (actives w ps rs) ⊎ In r.value (free_ones ps) → active w (page ps r.value) ≡ true
      at (inl k) = (in-those (λ (n : ℕ). active w (page ps n)) r.value (values rs) k).0
      at (inr k) =
          absurd (omega (arith, (in-frees ps r.value k).0, (member-at w l ps g r.value (map-in (λ (q : Pair). q.value) r rs i)).level))

-- a live router to an active page starts at the open version
pub router-young : (least : ℕ) → 2 ≤ least → (s : Store) (d : Sound least s) → s.opened ≡ true → (n l : ℕ)
    → (page s.pages n).level ≡ suc (suc l) → (e : Entry) → In e (page s.pages n).entries
    → s.oldest < e.end → active (next s) (page s.pages e.value) ≡ true → e.start ≡ next s
router-young least twice s d o n l up e i live a =
    at (either_true (eqb (page s.pages n).level 1 || leb e.end s.oldest) _ g.leads)
  where
    g : GoodEntry s (page s.pages n) e
    g = entry_of least s d n (level-used (page s.pages n) (suc l) up) e i

    not-out : (eqb (page s.pages n).level 1 ≡ true) ⊎ (leb e.end s.oldest ≡ true) → ⊥
    not-out (inl z) = omega (arith, eqb-true (page s.pages n).level 1 z)
    not-out (inr z) = omega (arith, leb-true e.end s.oldest z)

    at : ((eqb (page s.pages n).level 1 || leb e.end s.oldest) ≡ true)
        ⊎ ((inside e (page s.pages e.value) && eqb (suc (page s.pages e.value).level) (page s.pages n).level) ≡ true)
        → e.start ≡ next s
    at (inl z) = absurd (not-out (either_true (eqb (page s.pages n).level 1) (leb e.end s.oldest) z))
    at (inr z) =
        let (b, c) = both_true (inside e (page s.pages e.value))
        (eqb (suc (page s.pages e.value).level) (page s.pages n).level) z in
        let (x, y) = both_true (leb (page s.pages e.value).start e.start) (leb e.end (page s.pages e.value).end) b in
        omega (
          arith,
          leb-true (page s.pages e.value).start e.start x,
          eqb-true (page s.pages e.value).start (next s) a,
          g.span.starts,
          last-is least twice s d o,
        )
