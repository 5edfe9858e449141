-- What holds of all pages together on the way up, and after it.
-- Assumes nothing.
use Prim.Native.Nat.{ℕ, suc, ◌*◌, ◌≤◌, ◌<◌}
use native.Mathlib.Omega.{arith}
use mathlib.Core.Bool.{Bool, true, false, ◌&&◌, not}
use mathlib.Core.Path.{◌≡◌, refl, ap, sym, ◌∙◌, subst}
use mathlib.Core.Logic.{◌⊎◌, inl, inr, ◌≢◌}
use mathlib.Core.List.{List, [], ◌∷◌, ◌++◌}
use lib.Dec.{leb, ltb, eqb}
use lib.ListN.{length, set, length-set}
use lib.Seq.{get_or-set_same, get_or-set_other}
use borrow.Author.Tests.{ltb-true, eqb-true, eqb-false, lt-ltb, le-leb, eq-eqb, ne_eqb, not-true}
use Rattle.model.specs.Basic.{has, all, in_order}
use Rattle.model.specs.declared.Entry.{Entry}
use Rattle.model.specs.declared.Pair.{Pair}
use Rattle.model.specs.Entry.{pair, alive, within, live_at, born, end_those, ended_at}
use Rattle.model.specs.Page.{Page, Change, free, is_free, active, gone_if, gone, pairs_at, changed, wanted, killed, filled}
use Rattle.model.specs.Store.{page}
use Rattle.model.specs.Inner.{In}
use Rattle.model.specs.ByRule.{lives_at}
use Rattle.model.proofs.lists.Lists.{both_true, both-intro}
use Rattle.model.proofs.lists.Members.{not-both, in_left, in_right, in-append, in_map, map-in}
use Rattle.model.proofs.lists.Bools.{same?}
use Rattle.model.proofs.tree.Place.{by_key, show-changed, show-filled}
use Rattle.model.proofs.tree.Edit.{lt}
use Rattle.model.proofs.tree.Shows.{in_list}
use Rattle.model.proofs.kept.OnePage.{kind_ok, PageFit, in-born, Since, stayed, ended, in_end, changed-fit, killed-fit, filled-fit}
use Rattle.model.proofs.tree.GroupPages.{values, page-set-at, Fill, unused, member, Now, same, went, came, InNew, Redone}

module _ (least : ℕ) (two-or-more : 2 ≤ least) (w : ℕ) (lim : w < alive) (pos : 1 ≤ w) (N : ℕ) (old : ℕ) (low-old : old < w) where
  abbrev pub Lives : List Page → ℕ → Type 0
  Lives ps m = lives_at w (page ps m) ≡ true

  pub lives-used : (p : Page) → lives_at w p ≡ true → is_free p ≡ false
  lives-used p h = not-true (is_free p) (both_true (not (is_free p)) (within p.start p.end w) h).0

  -- what rule 3 does not ask of where it leads: a leaf entry, a router that ended at or before the oldest version
  abbrev pub Skips : ℕ → Entry → Type 0
  Skips level e = (level ≡ 1) ⊎ (e.end ≤ old)

  -- where an entry that starts before w leads
  pub record OldLead (ps : List Page) (level : ℕ) (e : Entry) : Type 0 where
    pub used : is_free (page ps e.value) ≡ false
    pub down : suc (page ps e.value).level ≡ level
    pub starts : (page ps e.value).start ≤ e.start
    pub ends : (e.end ≤ (page ps e.value).end) ⊎ (w ≤ (page ps e.value).end)

  -- a page that lives has a router in a page that lives
  pub record HasRouter (ps : List Page) (W : ℕ → Pair → Type 0) (m : ℕ) : Type 0 where
    pub parent : ℕ
    pub router : Pair
    pub lives : Lives ps parent
    pub level : (page ps parent).level ≡ suc (page ps m).level
    pub shows : W parent router
    pub leads : router.value ≡ m

  abbrev pub Final : List Page → ℕ → Pair → Type 0
  Final ps p x = In x (pairs_at w (page ps p))

  -- page n has still to be made to hold us
  abbrev pub Pend : List Page → ℕ → List Pair → ℕ → Pair → Type 0
  Pend ps n us p x = ((p ≢ n) × In x (pairs_at w (page ps p))) ⊎ ((p ≡ n) × In x us)

  pub record Inv (ps : List Page) (R : ℕ → Type 0) (W : ℕ → Pair → Type 0) : Type 0 where
    pub long : length ps ≡ N
    pub front : (m : ℕ) → m < 5 → is_free (page ps m) ≡ true
    pub zeros : (m : ℕ) → is_free (page ps m) ≡ true → page ps m ≡ free
    pub fit : (m : ℕ) → is_free (page ps m) ≡ false → PageFit least N w old (page ps m)
    pub leads : (m : ℕ) (e : Entry) → is_free (page ps m) ≡ false → In e (page ps m).entries → e.start < w
        → Skips (page ps m).level e ⊎ OldLead ps (page ps m).level e
    pub held : (m : ℕ) → Lives ps m → R m ⊎ HasRouter ps W m

  -- what may become of a page
  pub data PageStep (p q : Page) : Type 0 where
    steady : q.level ≡ p.level → q.start ≡ p.start → q.end ≡ p.end → PageStep p q
    dead : q.level ≡ p.level → q.start ≡ p.start → q.end ≡ w → PageStep p q
    lost : (is_free p ≡ true) ⊎ (p.start ≡ w) → PageStep p q

  step_same : (p q : Page) → q ≡ p → PageStep p q
  step_same p q e = steady (ap (λ (z : Page). z.level) e) (ap (λ (z : Page). z.start) e) (ap (λ (z : Page). z.end) e)

  lead-move : (ps qs : List Page) (level : ℕ) (e : Entry) → e.start < w → OldLead ps level e
      → PageStep (page ps e.value) (page qs e.value) → OldLead qs level e
  lead-move ps qs level e h o (steady a b c) = record {
    used = ap (λ (k : ℕ). eqb k 0) a ∙ o.used;
    down = ap suc a ∙ o.down;
    starts = omega (arith, o.starts);
    ends = at o.ends;
  }
    where
      at : (e.end ≤ (page ps e.value).end) ⊎ (w ≤ (page ps e.value).end)
          → (e.end ≤ (page qs e.value).end) ⊎ (w ≤ (page qs e.value).end)
      at (inl z) = inl (omega arith)
      at (inr z) = inr (omega arith)
  lead-move ps qs level e h o
      (dead a b c) = record {
        used = ap (λ (k : ℕ). eqb k 0) a ∙ o.used;
        down = ap suc a ∙ o.down;
        starts = omega (arith, o.starts);
        ends = inr (omega arith);
      }
  lead-move ps qs level e h o (lost (inl z)) = absurd (not-both (is_free (page ps e.value)) z o.used)
  lead-move ps qs level e h o (lost (inr z)) = absurd (omega (arith, o.starts))

  -- an entry that was ended leads where it led
  lead-ended : (ps : List Page) (level : ℕ) (e : Entry) → w < e.end → OldLead ps level e → OldLead ps level (ended_at w e)
  lead-ended ps level e h o = record { used = o.used; down = o.down; starts = o.starts; ends = at o.ends }
    where
      at : (e.end ≤ (page ps e.value).end) ⊎ (w ≤ (page ps e.value).end)
          → (w ≤ (page ps e.value).end) ⊎ (w ≤ (page ps e.value).end)
      at (inl z) = inr (omega arith)
      at (inr z) = inr z

  live_end : (e : Entry) → live_at w e ≡ true → w < e.end
  live_end e h = ltb-true w e.end (both_true (leb e.start w) (ltb w e.end) h).1

  -- entries of a page after ending some
  lead-since : (ps : List Page) (p : Page) (g : Entry → Bool) → ((e : Entry) → g e ≡ true → w < e.end)
      → ((e : Entry) → In e p.entries → e.start < w → Skips p.level e ⊎ OldLead ps p.level e)
      → (e : Entry) → In e (end_those g w p.entries) → e.start < w → Skips p.level e ⊎ OldLead ps p.level e
  lead-since ps p g y h e' i z = at (in_end g w e' p.entries i)
    where
      ended_at_lem : (e : Entry) → w < e.end → Skips p.level e ⊎ OldLead ps p.level e
          → Skips p.level (ended_at w e) ⊎ OldLead ps p.level (ended_at w e)
      ended_at_lem e l (inl (inl o)) = inl (inl o)
      ended_at_lem e l (inl (inr o)) = absurd (omega arith)
      ended_at_lem e l (inr o) = inr (lead-ended ps p.level e l o)

      at : (e : Entry) × (In e p.entries) × (Since g w e' e) → Skips p.level e' ⊎ OldLead ps p.level e'
      at (e, j, s) = from s
        where
          from : Since g w e' e → Skips p.level e' ⊎ OldLead ps p.level e'
          from (stayed q k) =
              subst (λ (f : Entry). Skips p.level f ⊎ OldLead ps p.level f) (sym q) (h e j (subst (λ (f : Entry). f.start < w) q z))
          from (ended q k n) =
              subst (λ (f : Entry). Skips p.level f ⊎ OldLead ps p.level f) (sym q)
              (ended_at_lem e (y e k) (h e j (subst (λ (f : Entry). f.start < w) q z)))

  or-move : (ps qs : List Page) (level : ℕ) (e : Entry) → e.start < w → ((i : ℕ) → PageStep (page ps i) (page qs i))
      → Skips level e ⊎ OldLead ps level e → Skips level e ⊎ OldLead qs level e
  or-move ps qs level e h f (inl z) = inl z
  or-move ps qs level e h f (inr z) = inr (lead-move ps qs level e h z (f e.value))

  -- a page that goes
  pub gone-cases : (p : Page) → ((p.start ≡ w) × (gone w p ≡ free)) ⊎ ((p.start ≢ w) × (gone w p ≡ killed w p))
  gone-cases p = at (active w p) refl
    where
      at : (b : Bool) → active w p ≡ b → ((p.start ≡ w) × (gone_if b w p ≡ free)) ⊎ ((p.start ≢ w) × (gone_if b w p ≡ killed w p))
      at true e = inl (eqb-true p.start w e, refl)
      at false e = inr (eqb-false p.start w e, refl)

  killed-dead : (p : Page) → lives_at w (killed w p) ≡ true → ⊥
  killed-dead p h =
      omega (arith, ltb-true w w (both_true (leb p.start w) (ltb w w) (both_true (not (is_free p)) (within p.start w w) h).1).1)

  free-dead : lives_at w free ≡ true → ⊥
  free-dead h = not-both false h refl

  pub gone-dead : (p : Page) → lives_at w (gone w p) ≡ true → ⊥
  gone-dead p h = at (gone-cases p)
    where
      at : ((p.start ≡ w) × (gone w p ≡ free)) ⊎ ((p.start ≢ w) × (gone w p ≡ killed w p)) → ⊥
      at (inl z) = free-dead (ap (lives_at w) (sym z.1) ∙ h)
      at (inr z) = killed-dead p (ap (lives_at w) (sym z.1) ∙ h)

  step_gone : (p q : Page) → q ≡ gone w p → PageStep p q
  step_gone p q e = at (gone-cases p)
    where
      at : ((p.start ≡ w) × (gone w p ≡ free)) ⊎ ((p.start ≢ w) × (gone w p ≡ killed w p)) → PageStep p q
      at (inl z) = lost (inr z.0)
      at (inr z) =
          let s : q ≡ killed w p = e ∙ z.1 in
          dead (ap (λ (x : Page). x.level) s) (ap (λ (x : Page). x.start) s) (ap (λ (x : Page). x.end) s)

  filled-lives : (level : ℕ) (xs : List Pair) → lives_at w (filled w (suc level) xs) ≡ true
  filled-lives level xs =
      both-intro _ _ (ap not (ne_eqb (suc level) 0 (λ (z : suc level ≡ 0). omega arith)))
      (both-intro _ _ (le-leb w w (omega arith)) (lt-ltb w alive lim))

  filled-start : (level : ℕ) (xs : List Pair) (e : Entry) → In e (filled w level xs).entries → e.start < w → ⊥
  filled-start level xs e i h = let (x, j, z) = in_map (born w) e xs i in omega (arith, ap (λ (f : Entry). f.start) z)

  -- a change in place
  module _ (ps : List Page) (n l : ℕ) (c : Change) (R : ℕ → Type 0) (v : Inv ps R (Pend ps n (wanted w c (page ps n))))
      (e : (page ps n).level ≡ suc l)
      (order : in_order (by_key w) (page ps n).entries ≡ true) (starts : all (λ (x : Entry). leb x.start w) (page ps n).entries ≡ true)
      (endless : (page ps n).end ≡ alive) (room : length (changed w c (page ps n)).entries ≤ 5 * least)
      (takes : all (kind_ok N (suc l)) c.take ≡ true)
      (rise : in_order lt (wanted w c (page ps n)) ≡ true) where
    abbrev q : Page
    q = changed w c (page ps n)

    abbrev pub placed : List Page
    placed = set ps n q

    used : is_free (page ps n) ≡ false
    used = ne_eqb (page ps n).level 0 (λ (z : (page ps n).level ≡ 0). omega arith)

    inn : n < length ps
    inn = in_list ps n l e

    abbrev At : ℕ → Type 0
    At m = ((m ≡ n) × (page placed m ≡ q)) ⊎ ((m ≢ n) × (page placed m ≡ page ps m))

    at-page : (m : ℕ) → At m
    at-page m = page-set-at ps n m q inn

    steps : (m : ℕ) → PageStep (page ps m) (page placed m)
    steps m = by (at-page m)
      where
        by : At m → PageStep (page ps m) (page placed m)
        by (inl z) =
            steady (ap (λ (x : Page). x.level) z.1 ∙ ap (λ (i : ℕ). (page ps i).level) (sym z.0))
            (ap (λ (x : Page). x.start) z.1 ∙ ap (λ (i : ℕ). (page ps i).start) (sym z.0))
            (ap (λ (x : Page). x.end) z.1 ∙ ap (λ (i : ℕ). (page ps i).end) (sym z.0))
        by (inr z) = step_same (page ps m) (page placed m) z.1

    -- level and span stay
    level-is : (m : ℕ) → (page placed m).level ≡ (page ps m).level
    level-is m = by (at-page m)
      where
        by : At m → (page placed m).level ≡ (page ps m).level
        by (inl z) = ap (λ (x : Page). x.level) z.1 ∙ ap (λ (i : ℕ). (page ps i).level) (sym z.0)
        by (inr z) = ap (λ (x : Page). x.level) z.1

    lives-is : (m : ℕ) → lives_at w (page placed m) ≡ lives_at w (page ps m)
    lives-is m = by (at-page m)
      where
        by : At m → lives_at w (page placed m) ≡ lives_at w (page ps m)
        by (inl z) = ap (lives_at w) z.1 ∙ ap (λ (i : ℕ). lives_at w (page ps i)) (sym z.0)
        by (inr z) = ap (lives_at w) z.1

    free-is : (m : ℕ) → is_free (page placed m) ≡ is_free (page ps m)
    free-is m = ap (λ (k : ℕ). eqb k 0) (level-is m)

    shows-is : pairs_at w (page placed n) ≡ wanted w c (page ps n)
    shows-is = ap (pairs_at w) (get_or-set_same ps n q free inn) ∙ show-changed w lim c (page ps n) order starts

    pub inv-placed : Inv placed R (Final placed)
    inv-placed = record {
      long = length-set ps n q ∙ v.long;
      front = λ m h. free-is m ∙ v.front m h;
      zeros = λ m h. zero-at m h (at-page m);
      fit = λ m u. fit_at m u (at-page m);
      leads = λ m f u i h. lead-at m f u i h (at-page m);
      held = λ m h. held_at m (v.held m (sym (lives-is m) ∙ h));
    }
      where
        zero-at : (m : ℕ) → is_free (page placed m) ≡ true → At m → page placed m ≡ free
        zero-at m h (inl z) =
            absurd (not-both (is_free (page ps m)) (sym (free-is m) ∙ h) (ap (λ (i : ℕ). is_free (page ps i)) z.0 ∙ used))
        zero-at m h (inr z) = z.1 ∙ v.zeros m (sym (free-is m) ∙ h)

        fit_at : (m : ℕ) → is_free (page placed m) ≡ false → At m → PageFit least N w old (page placed m)
        fit_at m u (inl z) = subst (PageFit least N w old) (sym z.1)
            (changed-fit w lim least N pos old low-old c (page ps n) (v.fit n used) endless room
            (subst (λ (k : ℕ). all (kind_ok N k) c.take ≡ true) (sym e) takes) rise)
        fit_at m u (inr z) = subst (PageFit least N w old) (sym z.1) (v.fit m (sym (free-is m) ∙ u))

        drop : Entry → Bool
        drop f = live_at w f && has f.key c.drop

        changed-lead : (f : Entry) → In f q.entries → f.start < w → Skips (page ps n).level f ⊎ OldLead ps (page ps n).level f
        changed-lead f i h = by (in-born w c.take f _ i)
          where
            by : ((x : Pair) × (In x c.take) × (f ≡ born w x))
                ⊎ In f (end_those (λ (g : Entry). live_at w g && has g.key c.drop) w (page ps n).entries)
                → Skips (page ps n).level f ⊎ OldLead ps (page ps n).level f
            by (inl z) = absurd (omega (arith, ap (λ (g : Entry). g.start) z.2))
            by (inr z) =
                lead-since ps (page ps n) (λ (g : Entry). live_at w g && has g.key c.drop)
                (λ g y. live_end g (both_true (live_at w g) (has g.key c.drop) y).0) (λ g j y. v.leads n g used j y) f z h

        lead-at : (m : ℕ) (f : Entry) → is_free (page placed m) ≡ false → In f (page placed m).entries → f.start < w → At m
            → Skips (page placed m).level f ⊎ OldLead placed (page placed m).level f
        lead-at m f u i h (inl z) =
            subst (λ (x : Page). Skips x.level f ⊎ OldLead placed x.level f) (sym z.1)
            (or-move ps placed (page ps n).level f h steps (changed-lead f (subst (λ (x : Page). In f x.entries) z.1 i) h))
        lead-at m f u i h (inr z) =
            subst (λ (x : Page). Skips x.level f ⊎ OldLead placed x.level f) (sym z.1)
            (or-move ps placed (page ps m).level f h steps
            (v.leads m f (sym (free-is m) ∙ u) (subst (λ (x : Page). In f x.entries) z.1 i) h))

        held_at : (m : ℕ) → R m ⊎ HasRouter ps (Pend ps n (wanted w c (page ps n))) m → R m ⊎ HasRouter placed (Final placed) m
        held_at m (inl z) = inl z
        held_at m (inr h) = inr (record {
          parent = h.parent;
          router = h.router;
          lives = lives-is h.parent ∙ h.lives;
          level = level-is h.parent ∙ h.level ∙ ap suc (sym (level-is m));
          shows = by h.shows;
          leads = h.leads;
        })
          where
            by : Pend ps n (wanted w c (page ps n)) h.parent h.router → In h.router (pairs_at w (page placed h.parent))
            by (inl z) = subst (λ (x : Page). In h.router (pairs_at w x)) (sym (get_or-set_other ps n h.parent q free z.0)) z.1
            by (inr z) =
                subst (λ (i : ℕ). In h.router (pairs_at w (page placed i))) (sym z.0) (subst (In h.router) (sym shows-is) z.1)

  -- a group rebuilt
  module _ (ps qs : List Page) (n l : ℕ) (want rs us news : List Pair) (R : ℕ → Type 0) (v : Inv ps R (Pend ps n want))
      (d : Redone least two-or-more w N ps qs (suc l) rs us news)
      (mem : (m : ℕ) → In m (values rs) → (page ps m).level ≡ suc l) (own : (page ps n).level ≡ suc l)
      (own-us : (x : Pair) → In x want → In x us)
      (other-us : (i : ℕ) (x : Pair) → In i (values rs) → i ≢ n → In x (pairs_at w (page ps i)) → In x us) where
    abbrev N' : ℕ → Type 0
    N' m = Now least two-or-more w N ps qs (suc l) rs news m

    used-mem : (m : ℕ) → In m (values rs) → is_free (page ps m) ≡ false
    used-mem m i = ne_eqb (page ps m).level 0 (λ (z : (page ps m).level ≡ 0). omega (arith, mem m i))

    now-step : (m : ℕ) → N' m → PageStep (page ps m) (page qs m)
    now-step m (same e x) = step_same (page ps m) (page qs m) e
    now-step m (went i e) = step_gone (page ps m) (page qs m) e
    now-step m (came xs e (unused a x y) f z) = lost (inl (eq-eqb (page ps m).level 0 a))
    now-step m (came xs e (member i a) f z) = lost (inr (eqb-true (page ps m).start w a))

    steps_all : (m : ℕ) → PageStep (page ps m) (page qs m)
    steps_all m = now-step m (d.now m)

    pub front-redone : (m : ℕ) → m < 5 → is_free (page qs m) ≡ true
    front-redone m h = at (d.now m)
      where
        at : N' m → is_free (page qs m) ≡ true
        at (same e x) = ap is_free e ∙ v.front m h
        at (went i e) = absurd (not-both (is_free (page ps m)) (v.front m h) (used-mem m i))
        at (came xs e (unused a x y) f z) = absurd (omega arith)
        at (came xs e (member i a) f z) = absurd (not-both (is_free (page ps m)) (v.front m h) (used-mem m i))

    zeros-redone : (m : ℕ) → is_free (page qs m) ≡ true → page qs m ≡ free
    zeros-redone m h = at (d.now m)
      where
        by : page qs m ≡ gone w (page ps m) → In m (values rs)
            → (((page ps m).start ≡ w) × (gone w (page ps m) ≡ free))
            ⊎ (((page ps m).start ≢ w) × (gone w (page ps m) ≡ killed w (page ps m))) → page qs m ≡ free
        by e i (inl z) = e ∙ z.1
        by e i (inr z) = absurd (not-both (is_free (page ps m)) (ap is_free (sym (e ∙ z.1)) ∙ h) (used-mem m i))

        at : N' m → page qs m ≡ free
        at (same e x) = e ∙ v.zeros m (ap is_free (sym e) ∙ h)
        at (went i e) = by e i (gone-cases (page ps m))
        at (came xs e s f z) = absurd (not-both (is_free (page qs m)) h (ap is_free e ∙ ne_eqb (suc l) 0 (λ (y : suc l ≡ 0). omega arith)))

    fit-redone : (m : ℕ) → is_free (page qs m) ≡ false → PageFit least N w old (page qs m)
    fit-redone m u = at (d.now m)
      where
        less : (p : Page) → PageFit least N w old p → p.start ≢ w → p.start < w
        less p g y = let h : p.start ≤ w = g.span.starts in omega arith

        by : page qs m ≡ gone w (page ps m) → In m (values rs)
            → (((page ps m).start ≡ w) × (gone w (page ps m) ≡ free))
            ⊎ (((page ps m).start ≢ w) × (gone w (page ps m) ≡ killed w (page ps m))) → PageFit least N w old (page qs m)
        by e i (inl z) = absurd (not-both (is_free (page qs m)) (ap is_free (e ∙ z.1)) u)
        by e i (inr z) =
            let g = v.fit m (used-mem m i) in
            subst (PageFit least N w old) (sym (e ∙ z.1))
            (killed-fit w lim least N pos old low-old (page ps m) g (less (page ps m) g z.0))

        at : N' m → PageFit least N w old (page qs m)
        at (same e x) = subst (PageFit least N w old) (sym e) (v.fit m (ap is_free (sym e) ∙ u))
        at (went i e) = by e i (gone-cases (page ps m))
        at (came xs e s f z) =
            subst (PageFit least N w old) (sym e) (filled-fit w lim least N pos old low-old (suc l) xs f.few f.rise f.kinds)

    leads-redone : (m : ℕ) (e : Entry) → is_free (page qs m) ≡ false → In e (page qs m).entries → e.start < w
        → Skips (page qs m).level e ⊎ OldLead qs (page qs m).level e
    leads-redone m e u i h = at (d.now m)
      where
        by : page qs m ≡ gone w (page ps m) → In m (values rs)
            → (((page ps m).start ≡ w) × (gone w (page ps m) ≡ free))
            ⊎ (((page ps m).start ≢ w) × (gone w (page ps m) ≡ killed w (page ps m)))
            → Skips (page qs m).level e ⊎ OldLead qs (page qs m).level e
        by z j (inl y) = absurd (not-both (is_free (page qs m)) (ap is_free (z ∙ y.1)) u)
        by z j (inr y) =
            let k : page qs m ≡ killed w (page ps m) = z ∙ y.1 in
            subst (λ (x : Page). Skips x.level e ⊎ OldLead qs x.level e) (sym k)
            (or-move ps qs (page ps m).level e h steps_all
            (lead-since ps (page ps m) (live_at w) live_end (λ f t r. v.leads m f (used-mem m j) t r) e
            (subst (λ (x : Page). In e x.entries) k i) h))

        at : N' m → Skips (page qs m).level e ⊎ OldLead qs (page qs m).level e
        at (same z x) = subst (λ (y : Page). Skips y.level e ⊎ OldLead qs y.level e) (sym z)
            (or-move ps qs (page ps m).level e h steps_all
            (v.leads m e (ap is_free (sym z) ∙ u) (subst (λ (y : Page). In e y.entries) z i) h))
        at (went j z) = by z j (gone-cases (page ps m))
        at (came xs z s f y) = absurd (filled-start (suc l) xs e (subst (λ (x : Page). In e x.entries) z i) h)

    pub inv-redone : (R' : ℕ → Type 0) (W : ℕ → Pair → Type 0) → ((m : ℕ) → Lives qs m → R' m ⊎ HasRouter qs W m) → Inv qs R' W
    inv-redone R' W h =
        record { long = d.long ∙ v.long; front = front-redone; zeros = zeros-redone; fit = fit-redone; leads = leads-redone; held = h }

    -- what a page that lives is led to by
    pub record Old (m : ℕ) : Type 0 where
      pub parent : ℕ
      pub router : Pair
      pub stays : page qs parent ≡ page ps parent
      pub apart : In parent (values rs) → ⊥
      pub lives : Lives qs parent
      pub level : (page qs parent).level ≡ suc (page qs m).level
      pub shows : In router (pairs_at w (page ps parent))
      pub leads : router.value ≡ m

    pub record New (m : ℕ) : Type 0 where
      pub router : Pair
      pub stands : InNew least two-or-more w N qs (suc l) news router
      pub level : suc l ≡ suc (page qs m).level
      pub leads : router.value ≡ m

    via : (m : ℕ) → page qs m ≡ page ps m → HasRouter ps (Pend ps n want) m → Old m ⊎ New m
    via m e h = at h.shows
      where
        p : ℕ
        p = h.parent

        x : Pair
        x = h.router

        level-m : (page ps m).level ≡ (page qs m).level
        level-m = ap (λ (z : Page). z.level) (sym e)

        new : In h.router us → (page ps h.parent).level ≡ suc l → New m
        new i z = record { router = h.router; stands = d.kept h.router i; level = sym z ∙ h.level ∙ ap suc level-m; leads = h.leads }

        by : (h.parent ≢ n) → In h.router (pairs_at w (page ps h.parent)) → N' h.parent → Old m ⊎ New m
        by a i (same z y) = inl (record {
          parent = h.parent;
          router = h.router;
          stays = z;
          apart = y;
          lives = ap (lives_at w) z ∙ h.lives;
          level = ap (λ (k : Page). k.level) z ∙ h.level ∙ ap suc level-m;
          shows = i;
          leads = h.leads;
        })
        by a i (went j z) = inr (new (other-us h.parent h.router j a i) (mem h.parent j))
        by a i (came xs z (unused q t y) f k) = absurd (omega (arith, h.level))
        by a i (came xs z (member j y) f k) = inr (new (other-us h.parent h.router j a i) (mem h.parent j))

        at : Pend ps n want h.parent h.router → Old m ⊎ New m
        at (inl z) = by z.0 z.1 (d.now h.parent)
        at (inr z) = inr (new (own-us h.router z.1) (ap (λ (i : ℕ). (page ps i).level) z.0 ∙ own))

    new-shows : (m : ℕ) (k : New m) → (Lives qs k.stands.number) × ((page qs k.stands.number).level ≡ suc l)
        × (In k.router (pairs_at w (page qs k.stands.number)))
    new-shows m k = (
      ap (lives_at w) k.stands.wrote ∙ filled-lives l k.stands.pairs,
      ap (λ (z : Page). z.level) k.stands.wrote,
      subst (In k.router) (sym (ap (pairs_at w) k.stands.wrote ∙ show-filled w lim (suc l) k.stands.pairs)) k.stands.is-in,
    )

    -- each page that lives: new, or led to as before
    pub data LedOrNew (m : ℕ) : Type 0 where
      made : In m (values news) → (page qs m).level ≡ suc l → LedOrNew m
      rooted : R m → (In m (values rs) → ⊥) → LedOrNew m
      older : (In m (values rs) → ⊥) → Old m → LedOrNew m
      newer : New m → LedOrNew m

    pub led : (m : ℕ) → Lives qs m → LedOrNew m
    led m h = at (d.now m)
      where
        on : (In m (values rs) → ⊥) → Old m ⊎ New m → LedOrNew m
        on a (inl o) = older a o
        on a (inr o) = newer o

        by : page qs m ≡ page ps m → (In m (values rs) → ⊥) → R m ⊎ HasRouter ps (Pend ps n want) m → LedOrNew m
        by e a (inl z) = rooted z a
        by e a (inr z) = on a (via m e z)

        at : N' m → LedOrNew m
        at (same e a) = by e a (v.held m (ap (lives_at w) (sym e) ∙ h))
        at (went i e) = absurd (gone-dead (page ps m) (ap (lives_at w) (sym e) ∙ h))
        at (came xs e s f z) = made z (ap (λ (y : Page). y.level) e)

    -- the parent's turn
    module _ (P : ℕ) (D : Change) (before after : List Pair) (level : (page ps P).level ≡ suc (suc l)) (lives : Lives ps P)
        (live : pairs_at w (page ps P) ≡ before ++ (rs ++ after))
        (made-is : wanted w D (page qs P) ≡ before ++ (news ++ after)) where
      parent-stays : page qs P ≡ page ps P
      parent-stays = at (d.now P)
        where
          at : N' P → page qs P ≡ page ps P
          at (same e a) = e
          at (went i e) = absurd (omega (arith, mem P i))
          at (came xs e (unused a x y) f z) = absurd (omega arith)
          at (came xs e (member i a) f z) = absurd (omega (arith, mem P i))

      P-lives : Lives qs P
      P-lives = ap (lives_at w) parent-stays ∙ lives

      P-level : (page qs P).level ≡ suc (suc l)
      P-level = ap (λ (p : Page). p.level) parent-stays ∙ level

      in-made : (x : Pair) → In x (before ++ (rs ++ after)) → (In x.value (values rs) → ⊥) → In x (wanted w D (page qs P))
      in-made x i a = subst (In x) (sym made-is) (at (in-append x before (rs ++ after) i))
        where
          by : In x rs ⊎ In x after → In x (before ++ (news ++ after))
          by (inl j) = absurd (a (map-in (λ (r : Pair). r.value) x rs j))
          by (inr j) = in_right x before (news ++ after) (in_right x news after j)

          at : In x before ⊎ In x (rs ++ after) → In x (before ++ (news ++ after))
          at (inl j) = in_left x before (news ++ after) j
          at (inr j) = by (in-append x rs after j)

      pub inv-up : Inv qs R (Pend qs P (wanted w D (page qs P)))
      inv-up = inv-redone R (Pend qs P (wanted w D (page qs P))) (λ m h. at m (led m h))
        where
          made_held : (m : ℕ) → (page qs m).level ≡ suc l → (y : Pair) × (In y news) × (m ≡ y.value)
              → HasRouter qs (Pend qs P (wanted w D (page qs P))) m
          made_held m e z = record {
            parent = P;
            router = z.0;
            lives = P-lives;
            level = P-level ∙ ap suc (sym e);
            shows = inr (refl, subst (In z.0) (sym made-is) (in_right z.0 before (news ++ after) (in_left z.0 news after z.1)));
            leads = sym z.2;
          }

          old-shows : (m : ℕ) → (In m (values rs) → ⊥) → (o : Old m) → (o.parent ≡ P) ⊎ (o.parent ≢ P)
              → Pend qs P (wanted w D (page qs P)) o.parent o.router
          old-shows m a o (inl z) =
              inr (
                z,
                in-made o.router
                    (subst (In o.router) live (subst (λ (i : ℕ). In o.router (pairs_at w (page ps i))) z o.shows))
                    (λ (j : In o.router.value (values rs)). a (subst (λ (i : ℕ). In i (values rs)) o.leads j)),
              )
          old-shows m a o (inr z) = inl (z, subst (λ (p : Page). In o.router (pairs_at w p)) (sym o.stays) o.shows)

          at : (m : ℕ) → LedOrNew m → R m ⊎ HasRouter qs (Pend qs P (wanted w D (page qs P))) m
          at m (made i e) = inr (made_held m e (in_map (λ (r : Pair). r.value) m news i))
          at m (rooted z a) = inl z
          at m (older a o) =
              inr (record {
                parent = o.parent;
                router = o.router;
                lives = o.lives;
                level = o.level;
                shows = old-shows m a o (same? o.parent P);
                leads = o.leads;
              })
          at m (newer k) =
              let (x, y, z) = new-shows m k in
              inr (record {
                parent = k.stands.number;
                router = k.router;
                lives = x;
                level = y ∙ k.level;
                shows = inl (λ (e : k.stands.number ≡ P). omega (arith, ap (λ (i : ℕ). (page qs i).level) e, P-level, y), z);
                leads = k.leads;
              })

    -- a root rebuilt
    pub inv-root : (R' : ℕ → Type 0) → ((m : ℕ) → In m (values news) → (page qs m).level ≡ suc l → R' m)
        → ((m : ℕ) → R m → (In m (values rs) → ⊥) → R' m) → Inv qs R' (Final qs)
    inv-root R' f g = inv-redone R' (Final qs) (λ m y. at m (led m y))
      where
        at : (m : ℕ) → LedOrNew m → R' m ⊎ HasRouter qs (Final qs) m
        at m (made i e) = inl (f m i e)
        at m (rooted z a) = inl (g m z a)
        at m (older a o) =
            inr (record {
              parent = o.parent;
              router = o.router;
              lives = o.lives;
              level = o.level;
              shows = subst (λ (p : Page). In o.router (pairs_at w p)) (sym o.stays) o.shows;
              leads = o.leads;
            })
        at m (newer k) =
            let (x, y, z) = new-shows m k in
            inr (record { parent = k.stands.number; router = k.router; lives = x; level = y ∙ k.level; shows = z; leads = k.leads })

  -- a root over two new pages
  module _ (qs : List Page) (l n : ℕ) (news : List Pair)
      (v : Inv qs (λ (m : ℕ). (In m (values news)) × ((page qs m).level ≡ suc l)) (Final qs)) (empty : (page qs n).level ≡ 0) (five : 5 ≤ n)
      (inn : n < length qs)
      (fill : Fill least two-or-more w N (suc (suc l)) news) where
    abbrev F : Page
    F = filled w (suc (suc l)) news

    abbrev pub crowned : List Page
    crowned = set qs n F

    abbrev Atₙ : ℕ → Type 0
    Atₙ m = ((m ≡ n) × (page crowned m ≡ F)) ⊎ ((m ≢ n) × (page crowned m ≡ page qs m))

    at_n : (m : ℕ) → Atₙ m
    at_n m = page-set-at qs n m F inn

    crown : page crowned n ≡ F
    crown = get_or-set_same qs n F free inn

    free-n : is_free (page qs n) ≡ true
    free-n = eq-eqb (page qs n).level 0 empty

    crown-steps : (m : ℕ) → PageStep (page qs m) (page crowned m)
    crown-steps m = by (at_n m)
      where
        by : Atₙ m → PageStep (page qs m) (page crowned m)
        by (inl z) = lost (inl (ap (λ (i : ℕ). is_free (page qs i)) z.0 ∙ free-n))
        by (inr z) = step_same (page qs m) (page crowned m) z.1

    pub inv-crowned : Inv crowned (λ (m : ℕ). m ≡ n) (Final crowned)
    inv-crowned = record {
      long = length-set qs n F ∙ v.long;
      front = λ m h. front_at m h (at_n m);
      zeros = λ m h. zero-at m h (at_n m);
      fit = λ m u. fit_at m u (at_n m);
      leads = λ m f u i h. lead-at m f u i h (at_n m);
      held = λ m h. held_at m h (at_n m);
    }
      where
        used-F : is_free F ≡ false
        used-F = ne_eqb (suc (suc l)) 0 (λ (z : suc (suc l) ≡ 0). omega arith)

        front_at : (m : ℕ) → m < 5 → Atₙ m → is_free (page crowned m) ≡ true
        front_at m h (inl z) = absurd (omega (arith, z.0))
        front_at m h (inr z) = ap is_free z.1 ∙ v.front m h

        zero-at : (m : ℕ) → is_free (page crowned m) ≡ true → Atₙ m → page crowned m ≡ free
        zero-at m h (inl z) = absurd (not-both (is_free (page crowned m)) h (ap is_free z.1 ∙ used-F))
        zero-at m h (inr z) = z.1 ∙ v.zeros m (ap is_free (sym z.1) ∙ h)

        fit_at : (m : ℕ) → is_free (page crowned m) ≡ false → Atₙ m → PageFit least N w old (page crowned m)
        fit_at m u (inl z) =
            subst (PageFit least N w old) (sym z.1)
            (filled-fit w lim least N pos old low-old (suc (suc l)) news fill.few fill.rise fill.kinds)
        fit_at m u (inr z) = subst (PageFit least N w old) (sym z.1) (v.fit m (ap is_free (sym z.1) ∙ u))

        lead-at : (m : ℕ) (f : Entry) → is_free (page crowned m) ≡ false → In f (page crowned m).entries → f.start < w → Atₙ m
            → Skips (page crowned m).level f ⊎ OldLead crowned (page crowned m).level f
        lead-at m f u i h (inl z) = absurd (filled-start (suc (suc l)) news f (subst (λ (x : Page). In f x.entries) z.1 i) h)
        lead-at m f u i h (inr z) = subst (λ (x : Page). Skips x.level f ⊎ OldLead crowned x.level f) (sym z.1)
            (or-move qs crowned (page qs m).level f h crown-steps
            (v.leads m f (ap is_free (sym z.1) ∙ u) (subst (λ (x : Page). In f x.entries) z.1 i) h))

        n-lives : Lives crowned n
        n-lives = ap (lives_at w) crown ∙ filled-lives (suc l) news

        not-n : (p : ℕ) → Lives qs p → p ≢ n
        not-n p h e = not-both (is_free (page qs p)) (ap (λ (i : ℕ). is_free (page qs i)) e ∙ free-n) (lives-used (page qs p) h)

        held_at : (m : ℕ) → Lives crowned m → Atₙ m → (m ≡ n) ⊎ HasRouter crowned (Final crowned) m
        held_at m h (inl z) = inl z.0
        held_at m h (inr z) = inr (by (v.held m (ap (lives_at w) (sym z.1) ∙ h)))
          where
            by : ((In m (values news)) × ((page qs m).level ≡ suc l)) ⊎ HasRouter qs (Final qs) m → HasRouter crowned (Final crowned) m
            by (inl y) =
                let (r, i, e) = in_map (λ (r : Pair). r.value) m news y.0 in
                record {
                  parent = n;
                  router = r;
                  lives = n-lives;
                  level = ap (λ (x : Page). x.level) crown ∙ ap suc (sym (ap (λ (x : Page). x.level) z.1 ∙ y.1));
                  shows = subst (In r) (sym (ap (pairs_at w) crown ∙ show-filled w lim (suc (suc l)) news)) i;
                  leads = sym e;
                }
            by (inr k) =
                let e : page crowned k.parent ≡ page qs k.parent
                = get_or-set_other qs n k.parent F free (not-n k.parent k.lives) in
                record {
                  parent = k.parent;
                  router = k.router;
                  lives = ap (lives_at w) e ∙ k.lives;
                  level = ap (λ (x : Page). x.level) e ∙ k.level ∙ ap suc (sym (ap (λ (x : Page). x.level) z.1));
                  shows = subst (λ (x : Page). In k.router (pairs_at w x)) (sym e) k.shows;
                  leads = k.leads;
                }

  -- a root that goes: its one router's page is the root
  module _ (ps : List Page) (r l : ℕ) (x : Pair) (v : Inv ps (λ (m : ℕ). m ≡ r) (Pend ps r (x ∷ []))) (e : (page ps r).level ≡ suc l) where
    abbrev pub deposed : List Page
    deposed = set ps r (gone w (page ps r))

    only : Redone least two-or-more w N ps deposed (suc l) (pair 0 r ∷ []) [] []
    only =
        record {
          now = λ m. at m (page-set-at ps r m (gone w (page ps r)) (in_list ps r l e));
          kept = λ y i. absurd i;
          long = length-set ps r (gone w (page ps r));
          kinds = refl;
          news-few = omega arith;
        }
      where
        not-r : (m : ℕ) → m ≢ r → In m (values (pair 0 r ∷ [])) → ⊥
        not-r m d (inl z) = d z
        not-r m d (inr z) = z

        at : (m : ℕ) → ((m ≡ r) × (page deposed m ≡ gone w (page ps r))) ⊎ ((m ≢ r) × (page deposed m ≡ page ps m))
            → Now least two-or-more w N ps deposed (suc l) (pair 0 r ∷ []) [] m
        at m (inl z) = went (inl z.0) (z.1 ∙ ap (λ (i : ℕ). gone w (page ps i)) (sym z.0))
        at m (inr z) = same z.1 (not-r m z.0)

    -- what the router led to is the root
    moved : Inv ps (λ (m : ℕ). (m ≡ r) ⊎ (m ≡ x.value)) (Pend ps r [])
    moved = record { long = v.long; front = v.front; zeros = v.zeros; fit = v.fit; leads = v.leads; held = λ m h. by m (v.held m h) }
      where
        by : (m : ℕ) → (m ≡ r) ⊎ HasRouter ps (Pend ps r (x ∷ [])) m → ((m ≡ r) ⊎ (m ≡ x.value)) ⊎ HasRouter ps (Pend ps r []) m
        by m (inl z) = inl (inl z)
        by m (inr k) = at k.shows
          where
            led-to : In k.router (x ∷ []) → m ≡ x.value
            led-to (inl z) = sym k.leads ∙ ap (λ (y : Pair). y.value) z
            led-to (inr z) = absurd z

            at : Pend ps r (x ∷ []) k.parent k.router → ((m ≡ r) ⊎ (m ≡ x.value)) ⊎ HasRouter ps (Pend ps r []) m
            at (inl z) =
                inr (record { parent = k.parent; router = k.router; lives = k.lives; level = k.level; shows = inl z; leads = k.leads })
            at (inr z) = inl (inr (led-to z.1))

    mem-r : (m : ℕ) → In m (values (pair 0 r ∷ [])) → (page ps m).level ≡ suc l
    mem-r m (inl z) = ap (λ (i : ℕ). (page ps i).level) z ∙ e
    mem-r m (inr z) = absurd z

    not-other : (i : ℕ) (y : Pair) → In i (values (pair 0 r ∷ [])) → i ≢ r → In y (pairs_at w (page ps i)) → In y []
    not-other i y (inl z) d j = absurd (d z)
    not-other i y (inr z) d j = absurd z

    pub inv-deposed : Inv deposed (λ (m : ℕ). m ≡ x.value) (Final deposed)
    inv-deposed =
        inv-root ps deposed r l [] (pair 0 r ∷ []) [] [] (λ (m : ℕ). (m ≡ r) ⊎ (m ≡ x.value)) moved only mem-r e (λ y i. i) not-other
        (λ (m : ℕ). m ≡ x.value) (λ m i z. absurd i) (λ m z a. by m z a)
      where
        by : (m : ℕ) → (m ≡ r) ⊎ (m ≡ x.value) → (In m (values (pair 0 r ∷ [])) → ⊥) → m ≡ x.value
        by m (inl z) a = absurd (a (inl z))
        by m (inr z) a = z
