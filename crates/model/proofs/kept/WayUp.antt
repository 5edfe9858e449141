-- The way up, step by step: what rules 1, 3 and 6 ask is kept.
-- Assumes nothing.
use Prim.Native.Nat.{ℕ, zero, suc, ◌*◌, ◌≤◌, ◌<◌}
use native.Mathlib.Omega.{arith}
use mathlib.Core.Bool.{Bool, true, false, ◌&&◌, not}
use mathlib.Core.Option.{Option, none, some}
use mathlib.Core.Path.{◌≡◌, refl, ap, sym, ◌∙◌, subst}
use mathlib.Core.Logic.{◌⊎◌, inl, inr, ◌≢◌}
use mathlib.Core.List.{List, [], ◌∷◌, ◌++◌, map}
use lib.Dec.{leb, ltb, lit<}
use lib.ListN.{length, set, length-append}
use lib.Seq.{get_or-set_other}
use borrow.Author.Tests.{ltb-true, ltb-false, leb-true, leb-false, lt-ltb, ne_eqb}
use Rattle.model.specs.Basic.{keep, those, all, any, in_order}
use Rattle.model.specs.declared.Entry.{Entry}
use Rattle.model.specs.declared.Pair.{Pair}
use Rattle.model.specs.Entry.{pair, pair_of, alive, within, live_at}
use Rattle.model.specs.Page.{Page, Change, free, is_free, pairs_at, changed, wanted, killed, filled, gone}
use Rattle.model.specs.Store.{page, free_ones}
use Rattle.model.specs.Walk.{Around, key_limit}
use Rattle.model.specs.Sound.{fewest}
use Rattle.model.specs.Rules
use Rattle.model.specs.Climb
use Rattle.model.specs.Rules.{Group, one, Rebuilt, rebuilt, short, low_key, exchange, same_pair, Worked, settled, upward, lacking}
use Rattle.model.specs.Rules.{roomy, work, usable}
use Rattle.model.specs.Climb.{Rooted, stays, moves, lacks, go_on, climb, work_root}
use Rattle.model.specs.Inner.{In}
use Rattle.model.specs.Tree.{Says, Row, Holds}
use Rattle.model.proofs.lists.Lists.{both_true, both-intro, all_cons}
use Rattle.model.proofs.lists.Members.{not-both, bool_cases, in_left, in_right, in-those, all_in, all-by}
use Rattle.model.proofs.tree.Tree.{Tree, row-keys}
use Rattle.model.proofs.tree.Local.{all_left, all_right, all_append}
use Rattle.model.proofs.tree.Edit.{lt}
use Rattle.model.proofs.tree.Shows.{Touched, spare, Tidy, Top, Some, in_list}
use Rattle.model.proofs.tree.GroupShows.{Olds, lone, twin, Apart, RebuiltShows, raise-by}
use Rattle.model.proofs.tree.Numbers.{Members, moved-retire, length-retire, uses-usable, apart-usable, Unlike}
use Rattle.model.proofs.tree.Climbs
use Rattle.model.proofs.tree.Climbs.{Pending, RebuiltGroup, made_of, rise, standing-lives, GroupOf, group_of, flat}
use Rattle.model.proofs.kept.OnePage.{kind_ok, PageFit, shown-kinds, wanted-kinds}
use Rattle.model.proofs.tree.GroupPages.{values, Distinct, in-frees, Spare, unused, member, in-usable, Now, same, went, came}
use Rattle.model.proofs.tree.GroupPages.{Redone, RedoneOr, redone-by, page-set-at}
use Rattle.model.proofs.kept.AllPages.{Final, Pend, Inv, gone-cases, inv-placed, inv-up, inv-root, inv-crowned, inv-deposed}

-- the keys of a row rise
pub row-order : (S : Says) (hi : ℕ) (rs : List Pair) (lo : ℕ) (zs : List Pair) → Row S hi rs lo zs → in_order lt rs ≡ true
row-order S hi [] lo zs t = refl
row-order S hi (r ∷ rs) lo zs t =
    both-intro _ _
    (all-by (lt r) rs
    (λ x i. lt-ltb r.key x.key
    (at x (all_in (λ (y : Pair). within t.mid hi y.key) x rs (row-keys S hi rs t.mid t.others t.rest) i))))
    (row-order S hi rs t.mid t.others t.rest)
  where
    at : (x : Pair) → within t.mid hi x.key ≡ true → r.key < x.key
    at x h = omega (arith, leb-true t.mid x.key (both_true (leb t.mid x.key) (ltb x.key hi) h).0, t.low, t.room)

pub holds-order : (least w : ℕ) (ps : List Page) (l lo hi : ℕ) (us zs : List Pair) → Holds least w l ps lo hi us zs → in_order lt us ≡ true
holds-order least w ps zero lo hi us zs h = h.rising
holds-order least w ps (suc l) lo hi us zs h = row-order (Tree least w l ps) hi us lo zs h

shown-few : (w : ℕ) (es : List Entry) → length (map pair_of (those (live_at w) es)) ≤ length es
shown-few w [] = omega arith
shown-few w (e ∷ es) = at (live_at w e) (shown-few w es)
  where
    at : (b : Bool) → length (map pair_of (those (live_at w) es)) ≤ length es
        → length (map pair_of (keep b e (those (live_at w) es))) ≤ suc (length es)
    at true ih = omega arith
    at false ih = omega arith

module _ (least : ℕ) (two-or-more : 2 ≤ least) (w : ℕ) (lim : w < alive) (pos : 1 ≤ w) (N : ℕ) (old : ℕ) (low-old : old < w) where
  pub record Keeps (ps : List Page) (r n l : ℕ) (c : Change) : Type 0 where
    pub inv : Inv least two-or-more w lim pos N old low-old ps (λ (m : ℕ). m ≡ r)
        (Pend least two-or-more w lim pos N old low-old ps n (wanted w c (page ps n)))
    pub low : (m : ℕ) → (page ps m).level ≤ 7
    pub takes : all (kind_ok N (suc l)) c.take ≡ true
    pub upper : length (wanted w c (page ps n)) ≤ suc (5 * least)

  pub record ClimbKept (qs : List Page) (n : ℕ) : Type 0 where
    pub inv : Inv least two-or-more w lim pos N old low-old qs (λ (m : ℕ). m ≡ n) (Final least two-or-more w lim pos N old low-old qs)
    pub low : (m : ℕ) → m ≢ n → (page qs m).level ≤ 7

  used : (p : Page) (l : ℕ) → p.level ≡ suc l → is_free p ≡ false
  used p l e = ne_eqb p.level 0 (λ (z : p.level ≡ 0). omega arith)

  endless-by : (p : Page) → PageFit least N w old p → within p.start p.end w ≡ true → p.end ≡ alive
  endless-by p g h = at g.span.ends
    where
      at : (p.end ≤ w) ⊎ (p.end ≡ alive) → p.end ≡ alive
      at (inl z) = absurd (omega (arith, ltb-true w p.end (both_true (leb p.start w) (ltb w p.end) h).1))
      at (inr z) = z

  five-used : (ps : List Page) → ((m : ℕ) → m < 5 → is_free (page ps m) ≡ true) → (m : ℕ) → is_free (page ps m) ≡ false → 5 ≤ m
  five-used ps f m u = at (bool_cases (ltb m 5))
    where
      at : (ltb m 5 ≡ true) ⊎ (ltb m 5 ≡ false) → 5 ≤ m
      at (inl z) = absurd (not-both (is_free (page ps m)) (f m (ltb-true m 5 z)) u)
      at (inr z) = ltb-false m 5 z

  low-redone : (ps qs : List Page) (l : ℕ) (rs us news : List Pair) → Redone least two-or-more w N ps qs (suc l) rs us news
      → ((m : ℕ) → (page ps m).level ≤ 7) → suc l ≤ 7 → (m : ℕ) → (page qs m).level ≤ 7
  low-redone ps qs l rs us news d h k m = at (d.now m)
    where
      by : page qs m ≡ gone w (page ps m) → (((page ps m).start ≡ w) × (gone w (page ps m) ≡ free))
          ⊎ (((page ps m).start ≢ w) × (gone w (page ps m) ≡ killed w (page ps m))) → (page qs m).level ≤ 7
      by e (inl z) = omega (arith, ap (λ (p : Page). p.level) (e ∙ z.1))
      by e (inr z) = omega (arith, ap (λ (p : Page). p.level) (e ∙ z.1), h m)

      at : Now least two-or-more w N ps qs (suc l) rs news m → (page qs m).level ≤ 7
      at (same e x) = omega (arith, ap (λ (p : Page). p.level) e, h m)
      at (went i e) = by e (gone-cases least two-or-more w lim pos N old low-old (page ps m))
      at (came xs e s f z) = omega (arith, ap (λ (p : Page). p.level) e)

  members-in : (T : ℕ → Type 0) (ps : List Page) (l : ℕ) (sp : (m : ℕ) → (page ps m).level ≡ 0 → T m) (rs : List Pair)
      → Members least w lim T ps l sp rs → (m : ℕ) → In m (values rs)
      → ((page ps m).level ≡ suc l) × (m < length ps)
  members-in T ps l sp [] q m i = absurd i
  members-in T ps l sp (r ∷ rs) q m (inl e) =
      (ap (λ (i : ℕ). (page ps i).level) e ∙ q.0.level, subst (λ (i : ℕ). i < length ps) (sym e) q.0.in_list)
  members-in T ps l sp (r ∷ rs) q m (inr i) = members-in T ps l sp rs q.1 m i

  distinct_of : (T : ℕ → Type 0) (ps : List Page) (l : ℕ) (sp : (m : ℕ) → (page ps m).level ≡ 0 → T m) (rs : List Pair) → Olds rs
      → Unlike least w lim T ps l sp rs → Distinct rs
  distinct_of T ps l sp rs (lone r) u = tt
  distinct_of T ps l sp rs (twin r q h) u = u

  -- a page that is not the root
  module _ (ps : List Page) (r l : ℕ) (a : Around) (up : List Around) (c : Change) (total : List Pair)
      (p : Pending least two-or-more w lim ps r l (a ∷ up) c total) (k : Keeps ps r p.n l c) where
    abbrev wish : List Pair
    wish = wanted w c (page ps p.n)

    abbrev v : Inv least two-or-more w lim pos N old low-old ps (λ (m : ℕ). m ≡ r)
        (Pend least two-or-more w lim pos N old low-old ps p.n wish)
    v = k.inv

    own-fit : PageFit least N w old (page ps p.n)
    own-fit = v.fit p.n (used (page ps p.n) l p.level)

    wish-kinds : all (kind_ok N (suc l)) wish ≡ true
    wish-kinds =
        subst (λ (i : ℕ). all (kind_ok N i) wish ≡ true) p.level
        (wanted-kinds w lim least N pos old low-old c (page ps p.n) own-fit
        (subst (λ (i : ℕ). all (kind_ok N i) c.take ≡ true) (sym p.level) k.takes))

    level-kinds : (m : ℕ) → (page ps m).level ≡ suc l → all (kind_ok N (suc l)) (pairs_at w (page ps m)) ≡ true
    level-kinds m e =
        subst (λ (i : ℕ). all (kind_ok N i) (pairs_at w (page ps m)) ≡ true) e
        (shown-kinds w lim least N pos old low-old (page ps m) (v.fit m (used (page ps m) l e)))

    level-few : (m i : ℕ) → (page ps m).level ≡ suc i → length (pairs_at w (page ps m)) ≤ 5 * least
    level-few m i e = omega (arith, shown-few w (page ps m).entries, (v.fit m (used (page ps m) i e)).few)

    pub record GroupIn (rs us : List Pair) : Type 0 where
      pub own-us : (x : Pair) → In x wish → In x us
      pub other-us : (i : ℕ) (x : Pair) → In i (values rs) → i ≢ p.n → In x (pairs_at w (page ps i)) → In x us
      pub bound : length us ≤ 8 * least
      pub kinds : all (kind_ok N (suc l)) us ≡ true

    own_value : a.own.value ≡ p.n
    own_value = p.way.value

    in-alone : length wish ≤ 8 * least → GroupIn (a.own ∷ []) wish
    in-alone h = record { own-us = λ x i. i; other-us = λ i x j d z. absurd (by i j d); bound = h; kinds = wish-kinds }
      where
        by : (i : ℕ) → In i (values (a.own ∷ [])) → i ≢ p.n → ⊥
        by i (inl e) d = d (e ∙ own_value)
        by i (inr e) d = e

    in_near : length wish < 2 * least → (x y : Option Pair)
        → GroupOf least two-or-more w lim ps r l a up c total p (Rules.with_neighbour w ps a wish x y)
        → GroupIn (Rules.with_neighbour w ps a wish x y).routers (Rules.with_neighbour w ps a wish x y).pairs
    unfolding Rules.with_neighbour
    in_near h x (some y) g =
        let e : (page ps y.value).level ≡ suc l = g.members.1.0.level in
        record {
          own-us = λ z i. in_left z wish (pairs_at w (page ps y.value)) i;
          other-us = λ i z j d t. by i z j d t;
          bound = simp length-append (omega (arith, level-few y.value l e));
          kinds = all_append (kind_ok N (suc l)) wish (pairs_at w (page ps y.value)) wish-kinds (level-kinds y.value e);
        }
      where
        by : (i : ℕ) (z : Pair) → In i (values (a.own ∷ y ∷ [])) → i ≢ p.n → In z (pairs_at w (page ps i))
            → In z (wish ++ pairs_at w (page ps y.value))
        by i z (inl e) d t = absurd (d (e ∙ own_value))
        by i z (inr (inl e)) d t = in_right z wish (pairs_at w (page ps y.value)) (subst (λ (m : ℕ). In z (pairs_at w (page ps m))) e t)
        by i z (inr (inr e)) d t = absurd e
    in_near h (some x) none g =
        let e : (page ps x.value).level ≡ suc l = g.members.0.level in
        record {
          own-us = λ z i. in_right z (pairs_at w (page ps x.value)) wish i;
          other-us = λ i z j d t. by i z j d t;
          bound = simp length-append (omega (arith, level-few x.value l e));
          kinds = all_append (kind_ok N (suc l)) (pairs_at w (page ps x.value)) wish (level-kinds x.value e) wish-kinds;
        }
      where
        by : (i : ℕ) (z : Pair) → In i (values (x ∷ a.own ∷ [])) → i ≢ p.n → In z (pairs_at w (page ps i))
            → In z (pairs_at w (page ps x.value) ++ wish)
        by i z (inl e) d t = in_left z (pairs_at w (page ps x.value)) wish (subst (λ (m : ℕ). In z (pairs_at w (page ps m))) e t)
        by i z (inr (inl e)) d t = absurd (d (e ∙ own_value))
        by i z (inr (inr e)) d t = absurd e
    in_near h none none g = in-alone (omega arith)

    pub group-in : (b : Bool) → ltb (length wish) (2 * least) ≡ b
        → GroupOf least two-or-more w lim ps r l a up c total p (Rules.gather_by b w ps a wish)
        → GroupIn (Rules.gather_by b w ps a wish).routers (Rules.gather_by b w ps a wish).pairs
    unfolding Rules.gather_by
    group-in true e g = in_near (ltb-true (length wish) (2 * least) e) a.left a.right g
    group-in false e g = in-alone (omega (arith, k.upper))

    -- what comes of it
    abbrev pub WorkedKeeps : Worked → Type 0
    WorkedKeeps (settled qs) = ClimbKept qs r
    WorkedKeeps (upward d qs) = (p' : Pending least two-or-more w lim qs r (suc l) up d total) × Keeps qs r p'.n (suc l) d
    WorkedKeeps lacking = Unit {0}

    abbrev Touch' : ℕ → ℕ → ℕ → Type 0
    Touch' lo hi m = Touched least w ps (suc l) lo hi m

    handed : (rs us : List Pair) (g : RebuiltGroup least two-or-more w lim ps r l up total rs us) (i : GroupIn rs us) (x : Rebuilt)
        → RebuiltShows least w lim (Touch' g.lo g.hi) ps l g.lo g.hi rs g.gs x
        → RedoneOr least two-or-more w N ps (suc l) rs us x → WorkedKeeps (Rules.hand_up rs x)
    unfolding Rules.hand_up rise Rules.exchange
    handed rs us g i short t d = tt
    handed rs us g i (rebuilt qs news) t d = (
      rise least two-or-more w lim ps qs r l up total rs us news g t,
      record {
        inv = inv-up least two-or-more w lim pos N old low-old ps qs p.n l wish rs us news (λ (m : ℕ). m ≡ r) v d mem p.level
            i.own-us i.other-us g.parent (exchange rs news) g.before g.after g.level
            (both-intro _ _ (ap not (used (page ps g.parent) (suc l) g.level))
            (standing-lives least two-or-more w lim up (suc l) (page ps g.parent) g.standing)) g.live made;
        low = low-redone ps qs l rs us news d k.low (omega (arith, k.low p.n, p.level));
        takes = all-by (kind_ok N (suc (suc l))) (those (λ (z : Pair). not (any (same_pair z) rs)) news)
            (λ y j. all_in (kind_ok N (suc (suc l))) y news d.kinds (in-those (λ (z : Pair). not (any (same_pair z) rs)) y news j).1);
        upper = subst (λ (zs : List Pair). length zs ≤ suc (5 * least)) (sym made)
            (simp length-append
            (omega (
              arith,
              d.news-few,
              old-long g.shape,
              simp length-append at (ap (λ (zs : List Pair). length zs) g.live),
              level-few g.parent (suc l) g.level,
            )));
      },
    )
      where
        mem : (m : ℕ) → In m (values rs) → (page ps m).level ≡ suc l
        mem m j = (members-in (Touch' g.lo g.hi) ps l (λ m z. spare z) rs g.members m j).0

        made : wanted w (exchange rs news) (page qs g.parent) ≡ g.before ++ (news ++ g.after)
        made = made_of least two-or-more w lim ps qs r l up total rs us news g t

        old-long : {zs : List Pair} → Olds zs → 1 ≤ length zs
        old-long (lone y) = omega arith
        old-long (twin y z h) = omega arith

    regrouped : (g : Group) → GroupOf least two-or-more w lim ps r l a up c total p g → GroupIn g.routers g.pairs
        → WorkedKeeps (Rules.regroup least w (suc l) ps g)
    unfolding Rules.regroup Rules.rebuild Rules.parts
    regrouped g q i =
        let rs : List Pair = g.routers in
        let U : ℕ → Type 0 = Touch' q.lo q.hi in
        handed rs g.pairs q i _
        (raise-by least w lim U ps l q.lo q.hi (suc l) rs q.gs refl q.room q.low-key
        (flat least two-or-more w lim ps r l a up c total p q.lo q.hi)
        (moved-retire least w lim U ps l (λ m z. spare z) rs ps q.members (λ m. inl refl))
        (length-retire least w lim U ps l (λ m z. spare z) rs ps) q.shape
        two-or-more (leb (length g.pairs) (4 * least)) g.pairs (usable w ps rs) (λ _. omega (arith, q.enough)) refl
        (uses-usable least w lim U ps l (λ m z. spare z) rs q.members) apart q.some-us q.holds)
        (redone-by least two-or-more w N ps l rs q.shape (distinct_of U ps l (λ m z. spare z) rs q.shape q.unlike)
        (λ m j. (both m j).1) numbers low-key
        (leb (length g.pairs) (4 * least)) g.pairs (usable w ps rs) refl (in-usable least two-or-more w N ps rs) apart i.bound
        (holds-order least w ps l q.lo q.hi g.pairs q.gs q.holds) i.kinds)
      where
        both : (m : ℕ) → In m (values g.routers) → ((page ps m).level ≡ suc l) × (m < length ps)
        both m j = members-in (Touch' q.lo q.hi) ps l (λ m z. spare z) g.routers q.members m j

        apart : Apart (usable w ps g.routers)
        apart = apart-usable least w lim (Touch' q.lo q.hi) ps l (λ m z. spare z) g.routers q.shape q.members q.unlike

        numbers : (m : ℕ) → Spare least two-or-more w N ps g.routers m → (5 ≤ m) × (m < N)
        numbers m (unused z x y) = (x, omega (arith, v.long))
        numbers m (member j z) = (five-used ps v.front m (used (page ps m) l (both m j).0), omega (arith, v.long, (both m j).1))

        router-kinds : all (kind_ok N (suc (suc l))) g.routers ≡ true
        router-kinds =
            let kinds : all (kind_ok N (suc (suc l))) (pairs_at w (page ps q.parent)) ≡ true =
            subst (λ (i : ℕ). all (kind_ok N i) (pairs_at w (page ps q.parent)) ≡ true) q.level
            (shown-kinds w lim least N pos old low-old (page ps q.parent)
            (v.fit q.parent (used (page ps q.parent) (suc l) q.level))) in
            all_left (kind_ok N (suc (suc l))) g.routers q.after
            (all_right (kind_ok N (suc (suc l))) q.before (g.routers ++ q.after)
            (subst (λ (zs : List Pair). all (kind_ok N (suc (suc l))) zs ≡ true) q.live kinds))

        low_of : (zs : List Pair) → Olds zs → all (kind_ok N (suc (suc l))) zs ≡ true → low_key zs < key_limit
        low_of zs (lone x) h =
            ltb-true x.key key_limit (both_true (ltb x.key key_limit) _ (all_cons (kind_ok N (suc (suc l))) x [] h).0).0
        low_of zs (twin x y z) h =
            ltb-true x.key key_limit (both_true (ltb x.key key_limit) _ (all_cons (kind_ok N (suc (suc l))) x (y ∷ []) h).0).0

        low-key : low_key g.routers < key_limit
        low-key = low_of g.routers q.shape router-kinds

    work-by : (b : Bool) → (roomy least w c (page ps p.n) && leb least (length wish)) ≡ b
        → WorkedKeeps (Rules.work_by least b w ps a c (page ps p.n))
    unfolding Rules.work_by
    work-by true t =
        subst (λ (i : ℕ). ClimbKept (set ps i (changed w c (page ps p.n))) r) (sym own_value)
        (record {
          inv = inv-placed least two-or-more w lim pos N old low-old ps p.n l c (λ (m : ℕ). m ≡ r) v p.level p.tidy.order
              p.tidy.starts (endless-by (page ps p.n) own-fit p.lives)
              (leb-true _ (5 * least) (both_true (roomy least w c (page ps p.n)) (leb least (length wish)) t).0) k.takes
              (holds-order least w ps l p.lo p.hi wish p.zs p.holds);
          low = λ m d. low-placed m;
        })
      where
        low-placed : (m : ℕ) → (page (set ps p.n (changed w c (page ps p.n))) m).level ≤ 7
        low-placed m = at (page-set-at ps p.n m (changed w c (page ps p.n)) (in_list ps p.n l p.level))
          where
            at : ((m ≡ p.n) × (page (set ps p.n (changed w c (page ps p.n))) m ≡ changed w c (page ps p.n)))
                ⊎ ((m ≢ p.n) × (page (set ps p.n (changed w c (page ps p.n))) m ≡ page ps m))
                → (page (set ps p.n (changed w c (page ps p.n))) m).level ≤ 7
            at (inl z) = omega (arith, ap (λ (x : Page). x.level) z.1, k.low p.n)
            at (inr z) = omega (arith, ap (λ (x : Page). x.level) z.1, k.low m)
    work-by false t =
        subst (λ (i : ℕ). WorkedKeeps (Rules.regroup least w i ps (Rules.gather_by (ltb (length wish) (2 * least)) w ps a wish)))
        (sym p.level)
        (regrouped (Rules.gather_by (ltb (length wish) (2 * least)) w ps a wish)
        (group_of least two-or-more w lim ps r l a up c total p (ltb (length wish) (2 * least)) refl)
        (group-in (ltb (length wish) (2 * least)) refl
        (group_of least two-or-more w lim ps r l a up c total p (ltb (length wish) (2 * least)) refl)))

    pub work-keeps : WorkedKeeps (work least w ps a c)
    unfolding Rules.work
    work-keeps =
        subst (λ (i : ℕ). WorkedKeeps
        (Rules.work_by least (roomy least w c (page ps i) && leb least (length (wanted w c (page ps i)))) w ps a c (page ps i)))
        (sym own_value) (work-by _ refl)

  -- the root
  abbrev pub RootedKeeps : ℕ → Rooted → Type 0
  RootedKeeps r (stays qs) = ClimbKept qs r
  RootedKeeps r (moves n qs) = ClimbKept qs n
  RootedKeeps r lacks = Unit {0}

  abbrev NewsRise : Rebuilt → Type 0
  NewsRise (rebuilt qs news) = in_order lt news ≡ true
  NewsRise short = Unit {0}

  module _ (ps : List Page) (r l : ℕ) (c : Change) (total : List Pair) (k : Keeps ps r r l c) (level : (page ps r).level ≡ suc l)
      (tidy : Tidy least w (page ps r))
      (full : roomy least w c (page ps r) ≡ false → Some least w (wanted w c (page ps r)))
      (holds : Holds least w l ps 0 key_limit (wanted w c (page ps r)) total)
      (lives : within (page ps r).start (page ps r).end w ≡ true) where
    abbrev hope : List Pair
    hope = wanted w c (page ps r)

    abbrev vr : Inv least two-or-more w lim pos N old low-old ps (λ (m : ℕ). m ≡ r)
        (Pend least two-or-more w lim pos N old low-old ps r hope)
    vr = k.inv

    root-fit : PageFit least N w old (page ps r)
    root-fit = vr.fit r (used (page ps r) l level)

    hope-order : in_order lt hope ≡ true
    hope-order = holds-order least w ps l 0 key_limit hope total holds

    hope-kinds : all (kind_ok N (suc l)) hope ≡ true
    hope-kinds =
        subst (λ (i : ℕ). all (kind_ok N i) hope ≡ true) level
        (wanted-kinds w lim least N pos old low-old c (page ps r) root-fit
        (subst (λ (i : ℕ). all (kind_ok N i) c.take ≡ true) (sym level) k.takes))

    abbrev olds : List Pair
    olds = pair 0 r ∷ []

    mem-olds : (m : ℕ) → In m (values olds) → m ≡ r
    mem-olds m (inl e) = e
    mem-olds m (inr e) = absurd e

    level-olds : (m : ℕ) → In m (values olds) → (page ps m).level ≡ suc l
    level-olds m i = ap (λ (j : ℕ). (page ps j).level) (mem-olds m i) ∙ level

    numbers-root : (m : ℕ) → Spare least two-or-more w N ps olds m → (5 ≤ m) × (m < N)
    numbers-root m (unused z x y) = (x, omega (arith, vr.long))
    numbers-root m (member j z) =
        (five-used ps vr.front m (used (page ps m) l (level-olds m j)), omega (arith, vr.long, in_list ps m l (level-olds m j)))

    abbrev Flat' : ℕ → Type 0
    Flat' m = ((page ps m).level ≡ 0) ⊎ ((page ps m).level ≡ suc l)

    redone-root : (b : Bool) → leb (length hope) (4 * least) ≡ b
        → RedoneOr least two-or-more w N ps (suc l) olds hope
        (Rules.rebuild_with w (suc l) ps olds (Rules.parts_by b hope) (usable w ps olds))
    redone-root b e =
        redone-by least two-or-more w N ps l olds (lone (pair 0 r)) tt (λ m i. in_list ps m l (level-olds m i)) numbers-root
        (lit< tt) b hope (usable w ps olds) e (in-usable least two-or-more w N ps olds)
        (apart-usable least w lim Flat' ps l (λ m z. inl z) olds (lone (pair 0 r))
        (record { touched = inr level; in_list = in_list ps r l level; level = level }, tt) tt)
        (omega (arith, k.upper)) hope-order hope-kinds

    news-rise : (x : Rebuilt) → RebuiltShows least w lim Flat' ps l 0 key_limit olds total x → NewsRise x
    news-rise (rebuilt qs news) t = row-order (Tree least w l qs) key_limit news 0 total t.row
    news-rise short t = tt

    one-rise : (ns : List ℕ) → NewsRise (Rules.rebuild_with w (suc l) ps olds (one hope) ns)
    unfolding Rules.rebuild_with
    one-rise [] = tt
    one-rise (n ∷ ns) = refl

    few-root : 2 < length hope → fewest least true l ≤ length hope
    few-root h = at l
      where
        at : (i : ℕ) → fewest least true i ≤ length hope
        at zero = omega arith
        at (suc i) = omega arith

    rise-root : (b : Bool) → leb (length hope) (4 * least) ≡ b → Some least w hope
        → NewsRise (Rules.rebuild_with w (suc l) ps olds (Rules.parts_by b hope) (usable w ps olds))
    unfolding Rules.parts_by
    rise-root true e some-hope = one-rise (usable w ps olds)
    rise-root false e some-hope =
        subst (λ (i : ℕ). NewsRise (Rules.rebuild_with w i ps olds (Rules.parts_by false hope) (usable w ps olds))) level
        (news-rise (Rules.rebuild_with w (page ps r).level ps olds (Rules.parts_by false hope) (usable w ps olds))
        (Climbs.root-raised least two-or-more w lim ps r l c total level tidy full holds lives
        (few-root (omega (arith, leb-false (length hope) (4 * least) e))) e some-hope))

    R-olds : (m : ℕ) → m ≡ r → (In m (values olds) → ⊥) → ⊥
    R-olds m e a = a (inl e)

    not-others : (i : ℕ) (x : Pair) → In i (values olds) → i ≢ r → In x (pairs_at w (page ps i)) → In x hope
    not-others i x j d t = absurd (d (mem-olds i j))

    crowned-by : (qs : List Page) (news : List Pair) (ns : List ℕ) → ((n : ℕ) → In n ns → In n (free_ones qs))
        → Redone least two-or-more w N ps qs (suc l) olds hope news → in_order lt news ≡ true
        → RootedKeeps r (Climb.topped w (suc l) qs news ns)
    unfolding Climb.topped
    crowned-by qs news [] f d o = tt
    crowned-by qs news (n ∷ ns) f d o =
        let (x, y, z) = in-frees qs n (f n (inl refl)) in
        record {
          inv = inv-crowned least two-or-more w lim pos N old low-old qs l n news
              (inv-root least two-or-more w lim pos N old low-old ps qs r l hope olds hope news (λ (m : ℕ). m ≡ r) vr d level-olds level
              (λ x i. i) not-others
              (λ (m : ℕ). (In m (values news)) × ((page qs m).level ≡ suc l)) (λ m i e. (i, e)) (λ m e a. absurd (R-olds m e a)))
              x y z (record { few = omega (arith, d.news-few); rise = o; kinds = d.kinds });
          low = λ m e. omega (
            arith,
            ap (λ (p : Page). p.level) (get_or-set_other qs n m (filled w (suc (suc l)) news) free e),
            low-redone ps qs l olds hope news d k.low (omega (arith, k.low r, level)) m,
          );
        }

    root-handed : (x : Rebuilt) → RedoneOr least two-or-more w N ps (suc l) olds hope x → NewsRise x
        → RootedKeeps r (Climb.new_root w (suc l) x)
    unfolding Climb.new_root
    root-handed short d o = tt
    root-handed (rebuilt qs []) d o = tt
    root-handed (rebuilt qs (x ∷ [])) d o = record {
      inv = inv-root least two-or-more w lim pos N old low-old ps qs r l hope olds hope (x ∷ []) (λ (m : ℕ). m ≡ r) vr d level-olds level
          (λ x i. i) not-others (λ (m : ℕ). m ≡ x.value) (λ m i e. only m i) (λ m e a. absurd (R-olds m e a));
      low = λ m e. low-redone ps qs l olds hope (x ∷ []) d k.low (omega (arith, k.low r, level)) m;
    }
      where
        only : (m : ℕ) → In m (values (x ∷ [])) → m ≡ x.value
        only m (inl z) = z
        only m (inr z) = absurd z
    root-handed (rebuilt qs (x ∷ y ∷ zs)) d o = crowned-by qs (x ∷ y ∷ zs) (free_ones qs) (λ n i. i) d o

    root-stay : (b : Bool) → roomy least w c (page ps r) ≡ b → RootedKeeps r (Climb.root_stay least b w ps r c (page ps r))
    unfolding Climb.root_stay Rules.rebuild Rules.parts
    root-stay true e = record {
      inv = inv-placed least two-or-more w lim pos N old low-old ps r l c (λ (m : ℕ). m ≡ r) vr level tidy.order tidy.starts
          (endless-by (page ps r) root-fit lives) (leb-true _ (5 * least) e) k.takes hope-order;
      low = λ m d. omega (arith, ap (λ (p : Page). p.level) (get_or-set_other ps r m (changed w c (page ps r)) free d), k.low m);
    }
    root-stay false e =
        subst (λ (i : ℕ). RootedKeeps r
        (Climb.new_root w i (Rules.rebuild_with w i ps olds (Rules.parts_by (leb (length hope) (4 * least)) hope) (usable w ps olds))))
        (sym level)
        (root-handed (Rules.rebuild_with w (suc l) ps olds (Rules.parts_by (leb (length hope) (4 * least)) hope) (usable w ps olds))
        (redone-root (leb (length hope) (4 * least)) refl) (rise-root (leb (length hope) (4 * least)) refl (full e)))

    root-go : (b : Bool) (us : List Pair) → hope ≡ us → RootedKeeps r (Climb.root_go least b w ps r c (page ps r) us)
    unfolding Climb.root_go
    root-go true (x ∷ []) f = record {
      inv = inv-deposed least two-or-more w lim pos N old low-old ps r l x
          (subst (λ (us : List Pair). Inv least two-or-more w lim pos N old low-old ps (λ (m : ℕ). m ≡ r)
          (Pend least two-or-more w lim pos N old low-old ps r us)) f vr) level;
      low = λ m d. low-deposed m (page-set-at ps r m (gone w (page ps r)) (in_list ps r l level));
    }
      where
        gone-low : (((page ps r).start ≡ w) × (gone w (page ps r) ≡ free))
            ⊎ (((page ps r).start ≢ w) × (gone w (page ps r) ≡ killed w (page ps r))) → (gone w (page ps r)).level ≤ 7
        gone-low (inl z) = omega (arith, ap (λ (p : Page). p.level) z.1)
        gone-low (inr z) = omega (arith, ap (λ (p : Page). p.level) z.1, k.low r)

        low-deposed : (m : ℕ) → ((m ≡ r) × (page (set ps r (gone w (page ps r))) m ≡ gone w (page ps r)))
            ⊎ ((m ≢ r) × (page (set ps r (gone w (page ps r))) m ≡ page ps m)) → (page (set ps r (gone w (page ps r))) m).level ≤ 7
        low-deposed m (inl z) =
            omega (arith, ap (λ (p : Page). p.level) z.1, gone-low (gone-cases least two-or-more w lim pos N old low-old (page ps r)))
        low-deposed m (inr z) = omega (arith, ap (λ (p : Page). p.level) z.1, k.low m)
    root-go true [] f = root-stay _ refl
    root-go true (x ∷ y ∷ zs) f = root-stay _ refl
    root-go false us f = root-stay _ refl

    pub root-keeps : RootedKeeps r (work_root least w ps r c)
    unfolding Climb.work_root
    root-keeps = root-go _ _ refl

  pub climb-keeps : (r : ℕ) (up : List Around) (l : ℕ) (c : Change) (ps : List Page) (total : List Pair)
      (p : Pending least two-or-more w lim ps r l up c total) → Keeps ps r p.n l c → RootedKeeps r (climb least w r up c ps)
  unfolding climb
  climb-keeps r [] l c ps total p k =
      let t : Top least w r p.lo p.hi p.n p.xs p.ys = p.way in
      let h₁ = subst (λ (m : ℕ). Holds least w l ps p.lo p.hi (wanted w c (page ps m)) p.zs) t.root p.holds in
      let h₂ = subst (λ (i : ℕ). Holds least w l ps i p.hi (wanted w c (page ps r)) p.zs) t.low h₁ in
      let h₃ = subst (λ (i : ℕ). Holds least w l ps 0 i (wanted w c (page ps r)) p.zs) t.high h₂ in
      root-keeps ps r l c p.zs (subst (λ (m : ℕ). Keeps ps r m l c) t.root k)
      (subst (λ (m : ℕ). (page ps m).level ≡ suc l) t.root p.level) (subst (λ (m : ℕ). Tidy least w (page ps m)) t.root p.tidy)
      (subst (λ (m : ℕ). roomy least w c (page ps m) ≡ false → Some least w (wanted w c (page ps m))) t.root p.anchor) h₃
      (subst (λ (m : ℕ). within (page ps m).start (page ps m).end w ≡ true) t.root p.lives)
  climb-keeps r (a ∷ up) l c ps total p k =
      at (work least w ps a c) (work-keeps ps r l a up c total p k) (λ d qs q. climb-keeps r up (suc l) d qs total q)
    where
      at : (x : Worked) → WorkedKeeps ps r l a up c total p k x
          → ((d : Change) (qs : List Page) (q : Pending least two-or-more w lim qs r (suc l) up d total) → Keeps qs r q.n (suc l) d
          → RootedKeeps r (climb least w r up d qs))
          → RootedKeeps r (go_on x (λ (d : Change) (qs : List Page). climb least w r up d qs))
      at (settled qs) f ih = f
      at (upward d qs) f ih = ih d qs f.0 f.1
      at lacking f ih = tt
