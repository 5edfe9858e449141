-- How many ways lead to a page at a version: at most one, where the walk passes and reaches all that lives above the page.
-- Assumes nothing.
use Prim.Native.Nat.{ℕ, suc, ◌+◌, ◌-◌, ◌≤◌, ◌<◌}
use native.Mathlib.Omega.{arith}
use mathlib.Core.Bool.{Bool, true, false, ◌&&◌}
use mathlib.Core.Path.{◌≡◌, refl, ap, ap₂, sym, ◌∙◌, subst}
use mathlib.Core.Logic.{◌⊎◌, inl, inr}
use mathlib.Core.List.{List, [], ◌∷◌}
use lib.Dec.{leb, ltb, eqb}
use lib.ListN.{length, drop, length-drop}
use lib.Seq.{get_or-drop}
use borrow.Author.Tests.{leb-true, leb-false, eqb-true, eq-eqb, le-leb, lt-leb, le-ltb}
use Rattle.model.specs.Basic.{all, pick, in_order}
use Rattle.model.specs.declared.Pair.{Pair}
use Rattle.model.specs.declared.Slot.{Slot}
use Rattle.model.specs.Entry.{alive, within}
use Rattle.model.specs.Page.{Page, free, is_free, pairs_at}
use Rattle.model.specs.Store.{Store, page}
use Rattle.model.specs.Walk.{seen, root_at, root_from, key_limit, settings}
use Rattle.model.specs.Sound.{first_version}
use Rattle.spans.specs.Quick.{upto}
use Rattle.model.specs.Inner.{sooner, In}
use Rattle.model.specs.ByRule.{lives_at}
use Rattle.model.proofs.lists.Lists.{both_true}
use Rattle.model.proofs.lists.Members.{bool_cases}
use Rattle.model.proofs.sound.ByRule.{Front}
use Rattle.model.proofs.sound.Walks.{Reach, Self, Above, reach-on, last_step}
use Rattle.model.proofs.tree.Nodes.{reach-node}
use Rattle.model.proofs.kept.WayUp.{holds-order}
use Rattle.model.proofs.tree.Parents.{above-one, reach-height}
use Rattle.model.proofs.tree.Bridge.{passes_at}
use Rattle.model.proofs.sound.Ready.{level-used, of-within}
use Rattle.spans.proofs.laws.Stretches.{rising, shows-of}
use Rattle.spans.proofs.laws.RulesGive.{child-at, lives-with, reach-level, root, height, root-level, holds_at}
use Rattle.spans.proofs.laws.ToWalks.{root-late, late-all}
use Rattle.spans.proofs.laws.Sums.{one, named, named_by, named_all, roots_at, named_in, in-named, named-one, all-some, some-all}
use Rattle.spans.proofs.laws.Sums.{all_one}

-- ---- the slot of a version

within-not : (a b v : ℕ) → v < a → within a b v ≡ false
within-not a b v h = rw (lt-leb a v h)

roots-late : (n v : ℕ) (xs : List Slot) → ((x : Slot) → In x xs → v < x.version) → roots_at n v xs ≡ 0
roots-late n v [] h = refl
roots-late n v (x ∷ xs) h =
    ap₂ (λ (b : Bool) (k : ℕ). pick (eqb x.root n) (one b) 0 + k) (within-not x.version (upto xs) v (h x (inl refl)))
    (roots-late n v xs (λ y i. h y (inr i))) ∙ at (eqb x.root n)
  where
    at : (b : Bool) → pick b 0 0 + 0 ≡ 0
    at true = refl
    at false = refl

module _ (n v : ℕ) (low : v < alive) where
  within-over : (a b : ℕ) → b ≤ v → within a b v ≡ false
  within-over a b p = at (leb a v) (le-ltb v b p)
    where
      at : (t : Bool) → ltb v b ≡ false → (t && ltb v b) ≡ false
      at true e = e
      at false e = refl

  if-zero : (b : Bool) (k : ℕ) → pick b 0 0 + k ≡ k
  if-zero true k = omega arith
  if-zero false k = omega arith

  if-one : (b : Bool) → pick b 1 0 + 0 ≡ one b
  if-one true = refl
  if-one false = refl

  roots-from : (xs : List Slot) (x : Slot) → x.version ≤ v → in_order sooner (x ∷ xs) ≡ true
      → roots_at n v (x ∷ xs) ≡ one (eqb (root_from x.root xs v) n)
  roots-from [] x p o = rw (of-within x.version alive v p low) (if-one (eqb x.root n))
  roots-from (y ∷ ys) x p o =
      let order = (both_true (all (sooner x) (y ∷ ys)) (in_order sooner (y ∷ ys)) o).1 in
      at (leb y.version v) refl order (λ q. roots-from ys y q order)
    where
      at : (t : Bool) → leb y.version v ≡ t → in_order sooner (y ∷ ys) ≡ true
          → (y.version ≤ v → roots_at n v (y ∷ ys) ≡ one (eqb (root_from y.root ys v) n))
          → roots_at n v (x ∷ y ∷ ys) ≡ one (eqb (root_from (pick t y.root x.root) ys v) n)
      at true z order ih =
          let q : y.version ≤ v = leb-true y.version v z in
          ap (λ (b : Bool). pick (eqb x.root n) (one b) 0 + roots_at n v (y ∷ ys)) (within-over x.version y.version q)
          ∙ if-zero (eqb x.root n) (roots_at n v (y ∷ ys)) ∙ ih q
      at false z order ih =
          let l : v < y.version = leb-false y.version v z in
          ap₂ (λ (b : Bool) (k : ℕ). pick (eqb x.root n) (one b) 0 + k) (of-within x.version y.version v p l)
          (roots-late n v (y ∷ ys) (late-all v y ys l order)) ∙ if-one (eqb x.root n)
          ∙ ap (λ (r : ℕ). one (eqb r n)) (sym (root-late v x.root ys (λ w i. late-all v y ys l order w (inr i))))

  -- "The root of v is the last slot at or below v": the one slot in whose stretch v lies
  pub roots-at : (old : ℕ) (xs : List Slot) → old ≤ v → first_version old xs ≤ old → in_order sooner xs ≡ true
      → roots_at n v xs ≡ one (eqb (root_at xs v) n)
  roots-at old [] from e o = absurd (omega arith)
  roots-at old (x ∷ xs) from e o =
      roots-from xs x (omega arith) o ∙ ap (λ (b : Bool). one (eqb (root_from (pick b x.root 0) xs v) n))
      (sym (le-leb x.version v (omega arith)))

-- ---- all ways

module _ (least : ℕ) (two : 2 ≤ least) (s : Store) (d : Front least s) where
  abbrev ps : List Page
  ps = s.pages

  -- the ways to page n at v: as the root, or by a router
  abbrev pub ways : ℕ → ℕ → ℕ
  ways n v = roots_at n v s.slots + named_all n v (drop 5 ps)

  abbrev pub Reached : ℕ → ℕ → Type 0
  Reached v n = (j : ℕ) × (Reach ps v (height least two s d v) (root least two s d v) j n)

  behind : (i : ℕ) → page (drop 5 ps) i ≡ page ps (5 + i)
  behind i = get_or-drop 5 ps i free

  -- a router that leads to page n
  pub record Parent (v n m : ℕ) : Type 0 where
    pub up : ℕ
    pub level : (page ps m).level ≡ suc (suc up)
    pub router : Pair
    pub is-in : In router (pairs_at v (page ps m))
    pub leads : router.value ≡ n

  parent_of : (n v m : ℕ) → 1 ≤ named_by n v (page ps m) → Parent v n m
  parent_of n v m h = at (leb (page ps m).level 1) refl h
    where
      at : (b : Bool) → leb (page ps m).level 1 ≡ b → 1 ≤ pick b 0 (named n (pairs_at v (page ps m))) → Parent v n m
      at true e l = absurd (omega arith)
      at false e l =
          let (x, i, q) = named_in n (pairs_at v (page ps m)) l in
          let high : 1 < (page ps m).level = leb-false (page ps m).level 1 e in
          record { up = (page ps m).level - 2; level = omega arith; router = x; is-in = i; leads = q }

  parent-child : (v : ℕ) → s.oldest ≤ v → (n m : ℕ) (p : Parent v n m) → (page ps n).level ≡ suc p.up
  parent-child v from n m p =
      subst (λ (k : ℕ). (page ps k).level ≡ suc p.up) p.leads
      (child-at least two s d v from m p.up p.router p.level p.is-in).level

  pub parent-lives : (v : ℕ) → s.oldest ≤ v → (n m : ℕ) → Parent v n m → lives_at v (page ps m) ≡ true
  parent-lives v from n m p =
      let w = shows-of v (page ps m).entries p.router p.is-in in
      lives-with least two s d v from m w.entry (level-used (page ps m) (suc p.up) p.level) w.is-in w.live

  pub parent-higher : (v : ℕ) → s.oldest ≤ v → (n m : ℕ) → Parent v n m → (page ps n).level < (page ps m).level
  parent-higher v from n m p = omega (arith, p.level, parent-child v from n m p)

  parent-reach : (v : ℕ) → s.oldest ≤ v → (n m : ℕ) (p : Parent v n m) → Reached v m
      → Reach ps v (height least two s d v) (root least two s d v) (suc p.up) m
  parent-reach v from n m p (j, r) =
      let e : j ≡ suc p.up
      = omega (
        arith,
        p.level,
        reach-level least two s d v from (height least two s d v) (root least two s d v) j m
            (root-level least two s d v from) r,
      ) in
      subst (λ (k : ℕ). Reach ps v (height least two s d v) (root least two s d v) k m) e r

  -- from the parent one step further
  pub parent-step : (v : ℕ) → s.oldest ≤ v → (n m : ℕ) → Parent v n m → Reached v m → Reached v n
  parent-step v from n m p r = (
    p.up,
    subst (Reach ps v (height least two s d v) (root least two s d v) p.up) p.leads
        (reach-on ps v (height least two s d v) (root least two s d v) p.up m p.router (parent-reach v from n m p r) p.is-in),
  )

  module _ (v : ℕ) (from : s.oldest ≤ v) (low : v < alive) (passes : all (passes_at least) (seen s v) ≡ true) where
    -- ---- at least one

    pub ways-some : (n : ℕ) → 1 ≤ ways n v → (root least two s d v ≡ n) ⊎ ((m : ℕ) × Parent v n m)
    ways-some n h = at (eqb (root_at s.slots v) n) refl
      where
        at : (b : Bool) → eqb (root_at s.slots v) n ≡ b → (root least two s d v ≡ n) ⊎ ((m : ℕ) × Parent v n m)
        at true e = inl (eqb-true (root_at s.slots v) n e)
        at false e =
            let z : roots_at n v s.slots ≡ 0 = roots-at n v low s.oldest s.slots from d.begins d.rises ∙ ap one e in
            let (i, l, q) = all-some n v free (drop 5 ps) (omega arith) in
            inr (5 + i, parent_of n v (5 + i) (subst (λ (p : Page). 1 ≤ named_by n v p) (behind i) q))

    root-ways : (n : ℕ) → root least two s d v ≡ n → 1 ≤ ways n v
    root-ways n e =
        let z : roots_at n v s.slots ≡ 1 = roots-at n v low s.oldest s.slots from d.begins d.rises
        ∙ ap one (eq-eqb (root_at s.slots v) n e) in
        omega arith

    router-ways : (n m : ℕ) → 5 ≤ m → m < length ps → Parent v n m → 1 ≤ ways n v
    router-ways n m five l p =
        let e : 5 + (m - 5) ≡ m = omega arith in
        let g : named_by n v (page ps m) ≡ named n (pairs_at v (page ps m))
        = ap (λ (b : Bool). pick b 0 (named n (pairs_at v (page ps m)))) (lt-leb (page ps m).level 1 (omega (arith, p.level))) in
        let h : 1 ≤ named_by n v (page ps m) = omega (arith, in-named n (pairs_at v (page ps m)) p.router p.is-in p.leads) in
        let a = some-all n v free (drop 5 ps) (m - 5) (omega (arith, length-drop 5 ps))
        (subst (λ (q : Page). 1 ≤ named_by n v q) (sym (behind (m - 5) ∙ ap (page ps) e)) h) in
        omega arith

    pub reached-ways : (n : ℕ) → ((m : ℕ) → is_free (page ps m) ≡ false → (5 ≤ m) × (m < length ps)) → Reached v n → 1 ≤ ways n v
    reached-ways n numbered (j, r) = at (last_step ps v (height least two s d v) (root least two s d v) j n r)
      where
        at : Self ps v (height least two s d v) (root least two s d v) j n ⊎ Above ps v (height least two s d v) (root least two s d v) j n
            → 1 ≤ ways n v
        at (inl z) = root-ways n (sym z.number)
        at (inr a) =
            let l = reach-level least two s d v from (height least two s d v) (root least two s d v) (suc j) a.parent
            (root-level least two s d v from) a.is-reached in
            let (five, inn) = numbered a.parent (level-used (page ps a.parent) (suc j) l) in
            router-ways n a.parent five inn (record { up = j; level = l; router = a.router; is-in = a.is-in; leads = a.leads })

    -- ---- at most one

    module _ (n : ℕ) (above : (m : ℕ) → (page ps n).level < (page ps m).level → lives_at v (page ps m) ≡ true → Reached v m)
        (root-lives : within (page ps (root least two s d v)).start (page ps (root least two s d v)).end v ≡ true) where
      reach-parent : (m : ℕ) (p : Parent v n m) → Reach ps v (height least two s d v) (root least two s d v) (suc p.up) m
      reach-parent m p = parent-reach v from n m p (above m (parent-higher v from n m p) (parent-lives v from n m p))

      -- one parent, and one router of it
      same-parent : (m k : ℕ) (p : Parent v n m) (q : Parent v n k) → (m ≡ k) × (p.router ≡ q.router)
      same-parent m k p q =
          let e : q.up ≡ p.up = omega (arith, parent-child v from n m p, parent-child v from n k q) in
          above-one least v ps (height least two s d v) 0 key_limit (root least two s d v) (settings s v)
          (holds_at least two s d v from passes) p.up n
          (record { parent = m; is-reached = reach-parent m p; router = p.router; is-in = p.is-in; leads = p.leads })
          (record {
            parent = k;
            is-reached = subst (λ (u : ℕ). Reach ps v (height least two s d v) (root least two s d v) (suc u) k) e
                (reach-parent k q);
            router = q.router;
            is-in = q.is-in;
            leads = q.leads;
          })

      no-parent : (m : ℕ) → root least two s d v ≡ n → Parent v n m → ⊥
      no-parent m e p =
          omega (
            arith,
            parent-child v from n m p,
            ap (λ (k : ℕ). (page ps k).level) e,
            root-level least two s d v from,
            reach-height least v ps (height least two s d v) (root least two s d v) (suc p.up) m (reach-parent m p),
          )

      rises : (m up : ℕ) → (page ps m).level ≡ suc (suc up) → Reached v m → rising (pairs_at v (page ps m)) ≡ true
      rises m up l (j, r) =
          let g = reach-node least v ps (height least two s d v) (root least two s d v)
          (record {
            lo = 0;
            hi = key_limit;
            zs = settings s v;
            level = root-level least two s d v from;
            holds = holds_at least two s d v from passes;
            lives = root-lives;
          }) j m r in
          holds-order least v ps j g.lo g.hi (pairs_at v (page ps m)) g.zs g.holds

      by_one : (m : ℕ) → named_by n v (page ps m) ≤ 1
      by_one m = at (leb (page ps m).level 1) refl (bool_cases (leb (named n (pairs_at v (page ps m))) 0))
        where
          at : (b : Bool) → leb (page ps m).level 1 ≡ b
              → (leb (named n (pairs_at v (page ps m))) 0 ≡ true) ⊎ (leb (named n (pairs_at v (page ps m))) 0 ≡ false)
              → pick b 0 (named n (pairs_at v (page ps m))) ≤ 1
          at true e z = omega arith
          at false e (inl z) = omega (arith, leb-true (named n (pairs_at v (page ps m))) 0 z)
          at false e (inr z) =
              let l : (page ps m).level ≡ suc (suc ((page ps m).level - 2)) = omega (arith, leb-false (page ps m).level 1 e) in
              let (x, i, q) = named_in n (pairs_at v (page ps m)) (leb-false (named n (pairs_at v (page ps m))) 0 z) in
              let p : Parent v n m = record { up = (page ps m).level - 2; level = l; router = x; is-in = i; leads = q } in
              named-one n (pairs_at v (page ps m))
              (rises m ((page ps m).level - 2) l (above m (parent-higher v from n m p) (parent-lives v from n m p)))
              (λ y w k g a b. (same-parent m m (record { up = (page ps m).level - 2; level = l; router = y; is-in = k; leads = a })
              (record { up = (page ps m).level - 2; level = l; router = w; is-in = g; leads = b })).1)

      routers-one : named_all n v (drop 5 ps) ≤ 1
      routers-one =
          all_one n v free (drop 5 ps) (λ i l. subst (λ (p : Page). named_by n v p ≤ 1) (sym (behind i)) (by_one (5 + i)))
          (λ i j k l x y.
          let e : 5 + i ≡ 5 + j = (same-parent (5 + i) (5 + j) (parent_of n v (5 + i) (subst (λ (p : Page). 1 ≤ named_by n v p) (behind i) x))
          (parent_of n v (5 + j) (subst (λ (p : Page). 1 ≤ named_by n v p) (behind j) y))).0 in
          omega arith)

      pub ways-one : ways n v ≤ 1
      ways-one = at (eqb (root_at s.slots v) n) refl (bool_cases (leb (named_all n v (drop 5 ps)) 0))
        where
          roots : roots_at n v s.slots ≡ one (eqb (root_at s.slots v) n)
          roots = roots-at n v low s.oldest s.slots from d.begins d.rises

          at : (b : Bool) → eqb (root_at s.slots v) n ≡ b
              → (leb (named_all n v (drop 5 ps)) 0 ≡ true) ⊎ (leb (named_all n v (drop 5 ps)) 0 ≡ false) → ways n v ≤ 1
          at false e z = let r : roots_at n v s.slots ≡ 0 = roots ∙ ap one e in omega (arith, routers-one)
          at true e (inl z) =
              let r : roots_at n v s.slots ≡ 1 = roots ∙ ap one e in omega (arith, leb-true (named_all n v (drop 5 ps)) 0 z)
          at true e (inr z) =
              let (i, l, q) = all-some n v free (drop 5 ps) (leb-false (named_all n v (drop 5 ps)) 0 z) in
              absurd (no-parent (5 + i) (eqb-true (root_at s.slots v) n e)
              (parent_of n v (5 + i) (subst (λ (p : Page). 1 ≤ named_by n v p) (behind i) q)))
