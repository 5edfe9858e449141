-- What soundness gives to everyone above: page numbers in range, one router for each page, no end on what is alive at last, a
-- neighbour for each router. Beside these: levels fall by one (Fits, `child-of`), what is alive is reached and the other way round
-- (Fits, `reached-of`, `lives-of`), each page is met once (Once, `numbers-once`), no root above level 7 (Count, `root-low`).
-- Assumes nothing.
use Prim.Native.Nat.{ℕ, suc, ◌≤◌, ◌<◌}
use native.Mathlib.Omega.{arith}
use mathlib.Core.Bool.{true, false, not}
use mathlib.Core.Path.{◌≡◌, refl, ap, sym, ◌∙◌, subst}
use mathlib.Core.Logic.{◌⊎◌, inl, inr, ◌≢◌}
use mathlib.Core.List.{List, [], ◌∷◌}
use lib.ListN.{length}
use borrow.Author.Tests.{not-true}
use Rattle.model.specs.declared.Pair.{Pair}
use Rattle.model.specs.declared.Entry.{Entry}
use Rattle.model.specs.Entry.{alive, within, live_at}
use Rattle.model.specs.Page.{Page, is_free, pairs_at}
use Rattle.model.specs.Store.{Store, page, last}
use Rattle.model.specs.Walk.{height_of, key_limit, settings}
use Rattle.model.specs.Inner.{In}
use Rattle.model.specs.ByRule.{Readable, Sound, lives_at}
use Rattle.model.proofs.lists.Lists.{both_true}
use Rattle.model.proofs.sound.ByRule.{span_of, entry_of, used-in, high_used}
use Rattle.model.proofs.sound.Walks.{Reach, Self, Above, last_step}
use Rattle.model.proofs.sound.Ready.{level-used, within_of, shown_by, child-of, root, root-used, root-level, holds-all, lives_by}
use Rattle.model.proofs.sound.Ready.{reached-of, reach-level, many-all}
use Rattle.model.proofs.tree.Parents.{above-one, reach-height}

pub some_in : {A : Type 0} (x : A) (xs : List A) → In x xs → (y : A) × (ys : List A) × (xs ≡ y ∷ ys)
some_in x [] i = absurd i
some_in x (y ∷ ys) i = (y, ys, refl)

module _ (least : ℕ) (two : 2 ≤ least) (s : Store) (d : Sound least s) where
  abbrev pages : List Page
  pages = s.pages

  -- ---- "root and router page numbers run from 5 to below the page count"

  pub record PageNumbered (n : ℕ) : Type 0 where
    pub five : 5 ≤ n
    pub inside : n < length pages

  pub used-number : (n : ℕ) → is_free (page pages n) ≡ false → PageNumbered n
  used-number n u = record { five = high_used s n d.front u; inside = used-in pages n u }

  pub root-number : (v : ℕ) → s.oldest ≤ v → PageNumbered (root least two s d v)
  root-number v from = used-number (root least two s d v) (root-used least two s d v from)

  -- the page that a live router of an index page leads to
  pub router-number : (v : ℕ) → s.oldest ≤ v → (n l : ℕ) (x : Pair) → (page pages n).level ≡ suc (suc l) → In x (pairs_at v (page pages n))
      → PageNumbered x.value
  router-number v from n l x e i =
      used-number x.value (level-used (page pages x.value) l (child-of least two s d v from n l x e i).level)

  -- each page that a walk reaches
  pub reached-number : (v : ℕ) → s.oldest ≤ v → (j m : ℕ)
      → Reach pages v (height_of pages (root least two s d v)) (root least two s d v) j m → PageNumbered m
  reached-number v from j m r =
      used-number m
      (level-used (page pages m) j
      (reach-level least two s d v from (height_of pages (root least two s d v)) (root least two s d v) j m
      (root-level least two s d v from) r))

  -- ---- "End 1,048,575 means alive": what is alive at last has no end

  pub endless-page : (n : ℕ) → lives_at (last s) (page pages n) ≡ true → (page pages n).end ≡ alive
  endless-page n h =
      let (u, w) = both_true (not (is_free (page pages n))) (within (page pages n).start (page pages n).end (last s)) h in
      at (span_of (last s) (page pages n).start (page pages n).end (d.pages n (not-true (is_free (page pages n)) u)).span).ends
      (within_of (page pages n).start (page pages n).end (last s) w).1
    where
      at : ((page pages n).end ≤ last s) ⊎ ((page pages n).end ≡ alive) → last s < (page pages n).end → (page pages n).end ≡ alive
      at (inl z) l = absurd (omega arith)
      at (inr z) l = z

  pub endless-entry : (n : ℕ) → is_free (page pages n) ≡ false → (e : Entry) → In e (page pages n).entries → live_at (last s) e ≡ true
      → e.end ≡ alive
  endless-entry n u e i h = at (entry_of least s d n u e i).span.ends (within_of e.start e.end (last s) h).1
    where
      at : (e.end ≤ last s) ⊎ (e.end ≡ alive) → last s < e.end → e.end ≡ alive
      at (inl z) l = absurd (omega arith)
      at (inr z) l = z

  -- ---- one router

  module _ (v : ℕ) (h : Readable s v) where
    abbrev r : ℕ
    r = root least two s d v

    abbrev height : ℕ
    height = height_of pages r

    -- a page with a live router is reached
    router-above : (m l : ℕ) (x : Pair) → (page pages m).level ≡ suc (suc l) → In x (pairs_at v (page pages m))
        → Reach pages v height r (suc l) m
    router-above m l x e i =
        let w = shown_by v (page pages m) x i in
        let (j, p) = reached-of least two s d v h m
        (lives_by least two s d v h.from m w.entry (level-used (page pages m) (suc l) e) w.is-in w.live) in
        let g : j ≡ suc l = omega (arith, e, reach-level least two s d v h.from height r j m (root-level least two s d v h.from) p) in
        subst (λ (k : ℕ). Reach pages v height r k m) g p

    -- page n has this router alive, in an index page, and no other
    pub record OneRouter (n : ℕ) : Type 0 where
      pub parent : ℕ
      pub router : Pair
      pub is-in : In router (pairs_at v (page pages parent))
      pub leads : router.value ≡ n
      pub level : (page pages parent).level ≡ suc (page pages n).level
      pub only : (m l : ℕ) (x : Pair) → (page pages m).level ≡ suc (suc l) → In x (pairs_at v (page pages m)) → x.value ≡ n
          → (m ≡ parent) × (x ≡ router)

    -- no router alive leads to the root
    pub root-alone : (m l : ℕ) (x : Pair) → (page pages m).level ≡ suc (suc l) → In x (pairs_at v (page pages m)) → x.value ≢ r
    root-alone m l x e i q =
        let p = router-above m l x e i in
        omega (
          arith,
          reach-height least v pages height r (suc l) m p,
          (child-of least two s d v h.from m l x e i).level,
          ap (λ (k : ℕ). (page pages k).level) q,
          root-level least two s d v h.from,
        )

    pub one-router : (n : ℕ) → lives_at v (page pages n) ≡ true → (n ≡ r) ⊎ OneRouter n
    one-router n z = let (j, p) = reached-of least two s d v h n z in at j p (last_step pages v height r j n p)
      where
        at : (j : ℕ) → Reach pages v height r j n → Self pages v height r j n ⊎ Above pages v height r j n → (n ≡ r) ⊎ OneRouter n
        at j p (inl a) = inl a.number
        at j p (inr a) = inr (record {
          parent = a.parent;
          router = a.router;
          is-in = a.is-in;
          leads = a.leads;
          level = up ∙ ap suc (sym own);
          only = λ m l x e i q.
              let k : l ≡ j
              = omega (arith, own, (child-of least two s d v h.from m l x e i).level, ap (λ (u : ℕ). (page pages u).level) q) in
              let b : Above pages v height r j n
              = record {
                parent = m;
                is-reached = subst (λ (u : ℕ). Reach pages v height r (suc u) m) k (router-above m l x e i);
                router = x;
                is-in = i;
                leads = q;
              } in
              above-one least v pages height 0 key_limit r (settings s v) (holds-all least two s d v h) j n b a;
        })
          where
            own : (page pages n).level ≡ suc j
            own = reach-level least two s d v h.from height r j n (root-level least two s d v h.from) p

            up : (page pages a.parent).level ≡ suc (suc j)
            up = reach-level least two s d v h.from height r (suc j) a.parent (root-level least two s d v h.from) a.is-reached

    -- "the live entries of its neighbour under the same parent": a live router is never alone in its page
    pub neighbour : (m l : ℕ) (x : Pair) → (page pages m).level ≡ suc (suc l) → In x (pairs_at v (page pages m))
        → 2 ≤ length (pairs_at v (page pages m))
    neighbour m l x e i =
        let (y, ys, q) = some_in x (pairs_at v (page pages m)) i in
        many-all least two s d v h m l e (record { first = y; others = ys; is = q })
