-- An accepted insert or delete leaves a sound store sound.
-- Assumes nothing.
use Prim.Native.Nat.{ℕ, zero, suc, ◌*◌, ◌≤◌, ◌<◌}
use native.Mathlib.Omega.{arith}
use mathlib.Core.Bool.{Bool, true, false, ◌&&◌, ◌||◌, not}
use mathlib.Core.Option.{none}
use mathlib.Core.Path.{◌≡◌, refl, ap, sym, ◌∙◌, subst}
use mathlib.Core.Logic.{◌⊎◌, inl, inr}
use mathlib.Core.List.{List, [], ◌∷◌}
use lib.Dec.{leb, ltb, eqb}
use lib.ListN.{length}
use borrow.Author.Tests.{leb-true, eqb-true, le-leb, lt-ltb, eq-eqb}
use Rattle.model.specs.Basic.{all, has, pick, those}
use Rattle.model.specs.declared.Pair.{Pair}
use Rattle.model.specs.declared.Entry.{Entry}
use Rattle.model.specs.Entry.{pair, alive}
use Rattle.model.specs.Page.{Page, Change, is_free, pairs_at, wanted}
use Rattle.model.specs.declared.Slot.{Slot}
use Rattle.model.specs.Store.{Store, page, next, last}
use Rattle.model.specs.Walk.{root_at, height_of, settings, way, lookup, key_limit}
use Rattle.model.specs.Sound.{is_page, inside}
use Rattle.model.specs.Climb
use Rattle.model.specs.Climb.{Rooted, stays, moves, lacks, Result, done, refused, climb, update}
use Rattle.model.specs.Calls.{raw_insert, insert, delete}
use Rattle.model.specs.ByRule.{Readable, Sound}
use Rattle.model.proofs.lists.Lists.{both_true, both-intro, few-those}
use Rattle.model.proofs.lists.Members.{not-both, either_true, bool_cases, all_in}
use Rattle.model.proofs.sound.ByRule.{GoodEntry, Span, span_of, entry_of, Young, young-of, used-in, high_used}
use Rattle.model.proofs.sound.Walks.{Self, Above, last_step}
use Rattle.model.proofs.tree.Local.{applied}
use Rattle.model.proofs.older.Undo.{climb-fine, RootedFine}
use Rattle.model.proofs.tree.Climbs.{Pending, RootedShows, climb-shows}
use Rattle.model.proofs.tree.UpdateChanges.{Fit, pending, root-new}
use Rattle.model.proofs.tree.Edit.{length-enter_pair}
use Rattle.model.proofs.sound.Ready.{level-used, reached-of, lives-of, reach-level, root-level, ready, fit-insert, fit-delete}
use Rattle.model.proofs.sound.Ready.{insert-by, delete-by, last-is}
use Rattle.model.proofs.kept.OnePage.{kind_ok, EntryFit, PageFit}
use Rattle.model.proofs.kept.AllPages.{Skips, Lives, HasRouter, OldLead, Pend, Inv}
use Rattle.model.proofs.kept.WayUp.{Keeps, RootedKeeps, climb-keeps}
use Rattle.model.proofs.reading.Alike.{Alike}
use Rattle.model.proofs.older.Past.{root-past, put-rise, put_all, put_first, put-newer}
use Rattle.model.proofs.kept.SoundAfter.{two-of, lim, pos, low-old, SlotsOk, sound-after, steady-past}
use Rattle.model.proofs.needs.Sizes.{pairs-few}

module _ (least : ℕ) (four : 4 ≤ least) (s : Store) (d : Sound least s) (o : s.opened ≡ true) where
  abbrev two' : 2 ≤ least
  two' = two-of least four s d o

  abbrev w : ℕ
  w = next s

  abbrev lim' : w < alive
  lim' = lim least four s d o

  abbrev pos' : 1 ≤ w
  pos' = pos least four s d o

  abbrev old' : ℕ
  old' = s.oldest

  abbrev low-old' : old' < w
  low-old' = low-old least four s d o

  abbrev ps : List Page
  ps = s.pages

  abbrev N : ℕ
  N = length s.pages

  abbrev r : ℕ
  r = root_at s.slots w

  last-w : last s ≡ w
  last-w = last-is least two' s d o

  now : Readable s w
  now = record { from = omega (arith, low-old'); upto = omega (arith, last-w) }

  entry-fit : (n : ℕ) (e : Entry) → GoodEntry s (page ps n) e → ((page ps n).start ≡ w → Young w e) → EntryFit N w old' (page ps n) e
  entry-fit n e g y = record {
    span = subst (λ (l : ℕ). Span l e.start e.end) last-w g.span;
    kind = both-intro _ _ (lt-ltb e.key key_limit g.key) (kind (eqb (page ps n).level 1) refl g.kind);
    leaf = λ z. leaf
        (subst (λ (b : Bool). pick b (leb 1 e.start && ltb e.value 4294967296) (is_page (length s.pages) e.value) ≡ true)
        (eq-eqb (page ps n).level 1 z) g.kind);
    later = g.later;
    sooner = g.sooner;
    young = y;
  }
    where
      kind : (b : Bool) → eqb (page ps n).level 1 ≡ b
          → pick b (leb 1 e.start && ltb e.value 4294967296) (is_page (length s.pages) e.value) ≡ true
          → pick b (ltb e.value 4294967296) (leb 5 e.value && ltb e.value N) ≡ true
      kind true z h = (both_true (leb 1 e.start) (ltb e.value 4294967296) h).1
      kind false z h = h

      leaf : (leb 1 e.start && ltb e.value 4294967296) ≡ true → 1 ≤ e.start
      leaf h = leb-true 1 e.start (both_true (leb 1 e.start) (ltb e.value 4294967296) h).0

  page-fit : (n : ℕ) → is_free (page ps n) ≡ false → PageFit least N w old' (page ps n)
  page-fit n u =
      let g = d.pages n u in
      record {
        few = g.few;
        span = subst (λ (l : ℕ). Span l (page ps n).start (page ps n).end) last-w
            (span_of (last s) (page ps n).start (page ps n).end g.span);
        order = g.order;
        entries = λ e i. entry-fit n e (entry_of least s d n u e i) (λ z. young-of least s d o n u z e i);
      }

  lead-of : (m : ℕ) (e : Entry) → is_free (page ps m) ≡ false → GoodEntry s (page ps m) e
      → Skips least two' w lim' pos' N old' low-old' (page ps m).level e
      ⊎ OldLead least two' w lim' pos' N old' low-old' ps (page ps m).level e
  lead-of m e u g = at (page ps m).level refl
    where
      skip : (eqb (page ps m).level 1 ≡ true) ⊎ (leb e.end old' ≡ true) → ((page ps m).level ≡ 1) ⊎ (e.end ≤ old')
      skip (inl q) = inl (eqb-true (page ps m).level 1 q)
      skip (inr q) = inr (leb-true e.end old' q)

      by : (j : ℕ) → (page ps m).level ≡ suc (suc j)
          → ((eqb (page ps m).level 1 || leb e.end old') ≡ true)
          ⊎ ((inside e (page ps e.value) && eqb (suc (page ps e.value).level) (page ps m).level) ≡ true)
          → Skips least two' w lim' pos' N old' low-old' (page ps m).level e
          ⊎ OldLead least two' w lim' pos' N old' low-old' ps (page ps m).level e
      by j z (inl q) = inl (skip (either_true (eqb (page ps m).level 1) (leb e.end old') q))
      by j z (inr q) =
          let (a, b) = both_true (inside e (page ps e.value)) (eqb (suc (page ps e.value).level) (page ps m).level) q in
          let (x, y) = both_true (leb (page ps e.value).start e.start) (leb e.end (page ps e.value).end) a in
          let down : suc (page ps e.value).level ≡ (page ps m).level = eqb-true (suc (page ps e.value).level) (page ps m).level b in
          inr (record {
            used = level-used (page ps e.value) j (omega arith);
            down = down;
            starts = leb-true (page ps e.value).start e.start x;
            ends = inl (leb-true e.end (page ps e.value).end y);
          })

      at : (l : ℕ) → (page ps m).level ≡ l → Skips least two' w lim' pos' N old' low-old' (page ps m).level e
          ⊎ OldLead least two' w lim' pos' N old' low-old' ps (page ps m).level e
      at zero z = absurd (not-both (is_free (page ps m)) (eq-eqb (page ps m).level 0 z) u)
      at (suc zero) z = inl (inl z)
      at (suc (suc j)) z = by j z (either_true (eqb (page ps m).level 1 || leb e.end old') _ g.leads)

  held_by : (n : ℕ) (us : List Pair) → (page ps n).level ≡ 1 → (m : ℕ) → Lives least two' w lim' pos' N old' low-old' ps m
      → (m ≡ r) ⊎ HasRouter least two' w lim' pos' N old' low-old' ps (Pend least two' w lim' pos' N old' low-old' ps n us) m
  held_by n us e m h =
      let (j, q) = reached-of least two' s d w now m h in
      at j (reach-level least two' s d w now.from (height_of ps r) r j m (root-level least two' s d w now.from) q)
      (last_step ps w (height_of ps r) r j m q)
    where
      at : (j : ℕ) → (page ps m).level ≡ suc j → Self ps w (height_of ps r) r j m ⊎ Above ps w (height_of ps r) r j m
          → (m ≡ r) ⊎ HasRouter least two' w lim' pos' N old' low-old' ps (Pend least two' w lim' pos' N old' low-old' ps n us) m
      at j q (inl z) = inl z.number
      at j q (inr a) =
          let level : (page ps a.parent).level ≡ suc (suc j)
          = reach-level least two' s d w now.from (height_of ps r) r (suc j) a.parent (root-level least two' s d w now.from)
          a.is-reached in
          let u : is_free (page ps a.parent) ≡ false = level-used (page ps a.parent) (suc j) level in
          inr (record {
            parent = a.parent;
            router = a.router;
            lives = lives-of least two' s d w now a.parent (high_used s a.parent d.front u) (used-in ps a.parent u) (suc j)
                a.is-reached;
            level = level ∙ ap suc (sym q);
            shows = inl (λ (z : a.parent ≡ n). omega (arith, ap (λ (i : ℕ). (page ps i).level) z), a.is-in);
            leads = a.leads;
          })

  start-inv : (n : ℕ) (us : List Pair) → (page ps n).level ≡ 1
      → Inv least two' w lim' pos' N old' low-old' ps (λ (m : ℕ). m ≡ r) (Pend least two' w lim' pos' N old' low-old' ps n us)
  start-inv n us e = record {
    long = refl;
    front = d.front;
    zeros = d.zeros;
    fit = page-fit;
    leads = λ m f u i h. lead-of m f u (entry_of least s d m u f i);
    held = held_by n us e;
  }

  low-all : (m : ℕ) → (page ps m).level ≤ 7
  low-all m = at (bool_cases (is_free (page ps m)))
    where
      at : (is_free (page ps m) ≡ true) ⊎ (is_free (page ps m) ≡ false) → (page ps m).level ≤ 7
      at (inl z) = omega (arith, eqb-true (page ps m).level 0 z)
      at (inr u) = (d.pages m u).low

  -- what is shown of the store after: it is sound, is at the same version, and shows what it showed at older ones
  pub record Follows (t : Store) : Type 0 where
    pub sound-now : Sound least t
    pub current : t.current ≡ s.current
    pub opened : t.opened ≡ s.opened
    pub oldest : t.oldest ≡ s.oldest
    pub steady : (v : ℕ) → s.oldest ≤ v → v < w → Alike s v t v

  abbrev pub Sounds : Result → Type 0
  Sounds (done t) = Follows t
  Sounds (refused n) = Unit {0}

  slots_same : SlotsOk least four s d o s.slots r
  slots_same =
      record {
        few = d.slots-few;
        begins = d.begins;
        newer = d.newer;
        rises = d.rises;
        upto = subst (λ (l : ℕ). all (λ (x : Slot). leb x.version l) s.slots ≡ true) last-w d.upto;
        now = refl;
        past = λ v h. refl;
      }

  slots-put : (n : ℕ) → length (Climb.put_slot w n s.slots) ≤ 64 * least → SlotsOk least four s d o (Climb.put_slot w n s.slots) n
  slots-put n h =
      let upto : all (λ (x : Slot). leb x.version w) s.slots ≡ true
      = subst (λ (l : ℕ). all (λ (x : Slot). leb x.version l) s.slots ≡ true) last-w d.upto in
      record {
        few = h;
        begins = put_first w old' low-old' n s.slots d.begins;
        newer = put-newer w old' low-old' n s.slots d.begins d.newer;
        rises = put-rise w n s.slots d.rises upto;
        upto = put_all w (λ (x : Slot). leb x.version w) n s.slots (le-leb w w (omega arith))
            (λ x i z. all_in (λ (y : Slot). leb y.version w) x s.slots upto i);
        now = put-now;
        past = λ v z. root-past w v n z s.slots;
      }
    where
      put-now : root_at (Climb.put_slot w n s.slots) w ≡ n
      put-now = root-new w n s.slots

  module _ (k : ℕ) (c : Change) (low : k < key_limit) (f : Fit least s k c) (takes : all (kind_ok N 1) c.take ≡ true)
      (upper : (n : ℕ) → (page ps n).level ≡ 1 → length (wanted w c (page ps n)) ≤ suc (5 * least)) where
    abbrev total : List Pair
    total = applied c (settings s w)

    -- the same, with this file's proofs of the two bounds
    abbrev f' : Fit least s k c
    f' = record {
      two-or-more = two';
      limit = lim';
      shows = f.shows;
      tidy = f.tidy;
      many = f.many;
      key = f.key;
      drops = f.drops;
      takes = f.takes;
      full = f.full;
      counted = f.counted;
      leaf = f.leaf;
    }

    pub pend : Pending least two' w lim' ps r 0 (way s w k) c total
    pend = pending least s k c f'

    pub keeps : Keeps least two' w lim' pos' N old' low-old' ps r pend.n 0 c
    keeps =
        record {
          inv = start-inv pend.n (wanted w c (page ps pend.n)) pend.level;
          low = low-all;
          takes = takes;
          upper = upper pend.n pend.level;
        }

    slotted : (b : Bool) (n : ℕ) (qs : List Page) → leb (length (Climb.put_slot w n s.slots)) (64 * least) ≡ b
        → (SlotsOk least four s d o (Climb.put_slot w n s.slots) n
        → Follows (record {
          current = s.current;
          opened = s.opened;
          oldest = s.oldest;
          slots = Climb.put_slot w n s.slots;
          pages = qs;
        }))
        → Sounds (Climb.slotted b s (Climb.put_slot w n s.slots) qs)
    unfolding Climb.slotted
    slotted true n qs e g = g (slots-put n (leb-true (length (Climb.put_slot w n s.slots)) (64 * least) e))
    slotted false n qs e g = tt

    rooted : (x : Rooted) → RootedShows least two' w lim' r total x → RootedKeeps least two' w lim' pos' N old' low-old' r x
        → RootedFine least s.current ps x → Sounds (Climb.rooted least s x)
    unfolding Climb.rooted
    rooted (stays qs) a b e = record {
      sound-now = sound-after least four s d o s.slots qs r total a b e.undone e.old slots_same;
      current = refl;
      opened = refl;
      oldest = refl;
      steady = steady-past least four s d o s.slots qs r total a b e.undone e.old slots_same;
    }
    rooted (moves n qs) a b e = slotted (leb (length (Climb.put_slot w n s.slots)) (64 * least)) n qs refl (λ ok. record {
      sound-now = sound-after least four s d o (Climb.put_slot w n s.slots) qs n total a b e.undone e.old ok;
      current = refl;
      opened = refl;
      oldest = refl;
      steady = steady-past least four s d o (Climb.put_slot w n s.slots) qs n total a b e.undone e.old ok;
    })
    rooted lacks a b e = tt

    pub update-sound : Sounds (update least s k c)
    unfolding Climb.update
    update-sound =
        let q = ready least two' s d o k low in
        rooted (climb least w r (way s w k) c ps) (climb-shows least two' w lim' r (way s w k) 0 c ps total pend)
        (climb-keeps least two' w lim' pos' N old' low-old' r (way s w k) 0 c ps total pend keeps)
        (climb-fine least s.current 0 r (way s w k) c ps q.tame q.leads)

  few-page : (n : ℕ) → (page ps n).level ≡ 1 → length (pairs_at w (page ps n)) ≤ 5 * least
  few-page n e = omega (arith, pairs-few w (page ps n), (d.pages n (level-used (page ps n) 0 e)).few)

  -- a leaf that has taken its change
  pub insert-few : (k x n : ℕ) → (page ps n).level ≡ 1
      → length (wanted w (record { drop = []; take = pair k x ∷ [] }) (page ps n)) ≤ suc (5 * least)
  insert-few k x n e =
      omega (
        arith,
        length-enter_pair (pair k x) (those (λ (y : Pair). true) (pairs_at w (page ps n))),
        few-those (λ (y : Pair). true) (pairs_at w (page ps n)),
        few-page n e,
      )

  pub delete-few : (k n : ℕ) → (page ps n).level ≡ 1 → length (wanted w (record { drop = k ∷ []; take = [] }) (page ps n)) ≤ suc (5 * least)
  delete-few k n e = omega (arith, few-those (λ (y : Pair). not (has y.key (k ∷ []))) (pairs_at w (page ps n)), few-page n e)

  -- an insert behind its tests, bench keys too
  pub raw-keeps : (k x : ℕ) → k < key_limit → lookup s k w ≡ none → x < 4294967296 → Sounds (raw_insert least s k x)
  raw-keeps k x low absent h =
      update-sound k (record { drop = []; take = pair k x ∷ [] }) low (fit-insert least two' s d o k low x absent)
      (both-intro _ _ (both-intro _ _ (lt-ltb k key_limit low) (lt-ltb x 4294967296 h)) refl)
      (insert-few k x)

  pub insert-keeps : (k x : ℕ) → x < 4294967296 → Sounds (insert least s k x)
  insert-keeps k x h = insert-by Sounds least s k x (λ n. tt) (λ _ low absent. raw-keeps k x low absent h)

  pub delete-keeps : (k : ℕ) → Sounds (delete least s k)
  delete-keeps k = delete-by Sounds least s k (λ n. tt)
      (λ _ low present. update-sound k (record { drop = k ∷ []; take = [] }) low (fit-delete least two' s d o k low) refl
      (delete-few k))
