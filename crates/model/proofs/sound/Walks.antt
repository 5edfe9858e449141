-- The pages that a walk reaches.
-- Assumes nothing.
use Prim.Native.Nat.{ℕ, zero, suc}
use native.Mathlib.Omega.{arith}
use mathlib.Core.Bool.{Bool, false}
use mathlib.Core.Path.{◌≡◌, refl, ap, sym, subst}
use mathlib.Core.Logic.{◌⊎◌, inl, inr}
use mathlib.Core.List.{List, [], ◌∷◌}
use Rattle.model.specs.declared.Pair.{Pair}
use Rattle.model.specs.Page.{Page, pairs_at}
use Rattle.model.specs.Store.{page}
use Rattle.model.specs.Walk.{Seen, seen_as, seen_under, seen_below, spread}
use Rattle.model.specs.Inner.{In}
use Rattle.model.proofs.lists.Members.{in_left, in_right, in-append}

-- what a walk makes of routers, router by router
pub record Spread {A : Type 0} (f : ℕ → ℕ → ℕ → List A) (a : A) (xs : List Pair) : Type 0 where
  pub router : Pair
  pub is-in : In router xs
  pub lo : ℕ
  pub hi : ℕ
  pub made : In a (f lo hi router.value)

pub in-spread : {A : Type 0} (f : ℕ → ℕ → ℕ → List A) (a : A) (xs : List Pair) (hi : ℕ) → In a (spread f xs hi) → Spread f a xs
in-spread f a [] hi i = absurd i
in-spread f a (x ∷ []) hi i = record { router = x; is-in = inl refl; lo = x.key; hi = hi; made = i }
in-spread f a (x ∷ y ∷ zs) hi i =
    at (in-append a (f x.key y.key x.value) (spread f (y ∷ zs) hi) i) (λ j. in-spread f a (y ∷ zs) hi j)
  where
    at : In a (f x.key y.key x.value) ⊎ In a (spread f (y ∷ zs) hi) → (In a (spread f (y ∷ zs) hi) → Spread f a (y ∷ zs))
        → Spread f a (x ∷ y ∷ zs)
    at (inl j) ih = record { router = x; is-in = inl refl; lo = x.key; hi = y.key; made = j }
    at (inr j) ih = let r = ih j in record { router = r.router; is-in = inr r.is-in; lo = r.lo; hi = r.hi; made = r.made }

-- and back: what every range makes of a router is made
pub spread-in : {A : Type 0} (f : ℕ → ℕ → ℕ → List A) (P : A → Type 0) (r : Pair)
    → ((lo hi : ℕ) → (a : A) × (In a (f lo hi r.value)) × (P a)) → (xs : List Pair) (hi : ℕ) → In r xs
    → (a : A) × (In a (spread f xs hi)) × (P a)
spread-in f P r g [] hi i = absurd i
spread-in {A} f P r g (x ∷ []) hi (inl e) =
    let (a, u, p) = g x.key hi in (a, subst (λ (z : Pair). In a (f x.key hi z.value)) e u, p)
spread-in f P r g (x ∷ []) hi (inr i) = absurd i
spread-in {A} f P r g (x ∷ y ∷ zs) hi (inl e) =
    let (a, u, p) = g x.key y.key in (
      a,
      in_left a (f x.key y.key x.value) (spread f (y ∷ zs) hi)
          (subst (λ (z : Pair). In a (f x.key y.key z.value)) e u),
      p,
    )
spread-in f P r g (x ∷ y ∷ zs) hi (inr i) =
    let (a, u, p) = spread-in f P r g (y ∷ zs) hi i in (a, in_right a (f x.key y.key x.value) (spread f (y ∷ zs) hi) u, p)

module _ (ps : List Page) (v : ℕ) where
  pub record Self (l n j m : ℕ) : Type 0 where
    pub height : j ≡ l
    pub number : m ≡ n

  pub record Deeper (R : ℕ → Type 0) (n : ℕ) : Type 0 where
    pub router : Pair
    pub is-in : In router (pairs_at v (page ps n))
    pub rest : R router.value

  -- page m, j levels above the leaves, is reached from page n, l levels above them
  abbrev pub Reach : ℕ → ℕ → ℕ → ℕ → Type 0
  Reach zero n j m = Self zero n j m
  Reach (suc l) n j m = Self (suc l) n j m ⊎ Deeper (λ (i : ℕ). Reach l i j m) n

  pub reach-self : (l n : ℕ) → Reach l n l n
  reach-self zero n = record { height = refl; number = refl }
  reach-self (suc l) n = inl (record { height = refl; number = refl })

  -- one router further
  pub reach-on : (l n j m : ℕ) (x : Pair) → Reach l n (suc j) m → In x (pairs_at v (page ps m)) → Reach l n j x.value
  reach-on zero n j m x r i = absurd (omega (arith, r.height))
  reach-on (suc l) n j m x (inl r) i =
      let e : l ≡ j = omega (arith, r.height) in
      inr (record {
        router = x;
        is-in = subst (λ (k : ℕ). In x (pairs_at v (page ps k))) r.number i;
        rest = subst (λ (k : ℕ). Reach l x.value k x.value) e (reach-self l x.value);
      })
  reach-on (suc l) n j m x (inr r) i =
      inr (record { router = r.router; is-in = r.is-in; rest = reach-on l r.router.value j m x r.rest i })

  -- the other way round: the last step
  pub record Above (l n j m : ℕ) : Type 0 where
    pub parent : ℕ
    pub is-reached : Reach l n (suc j) parent
    pub router : Pair
    pub is-in : In router (pairs_at v (page ps parent))
    pub leads : router.value ≡ m

  pub last_step : (l n j m : ℕ) → Reach l n j m → Self l n j m ⊎ Above l n j m
  last_step zero n j m r = inl r
  last_step (suc l) n j m (inl r) = inl r
  last_step (suc l) n j m (inr r) = inr (at (last_step l r.router.value j m r.rest))
    where
      at : Self l r.router.value j m ⊎ Above l r.router.value j m → Above (suc l) n j m
      at (inl z) =
          record {
            parent = n;
            is-reached = inl (record { height = ap suc z.height; number = refl });
            router = r.router;
            is-in = r.is-in;
            leads = sym z.number;
          }
      at (inr a) =
          record {
            parent = a.parent;
            is-reached = inr (record { router = r.router; is-in = r.is-in; rest = a.is-reached });
            router = a.router;
            is-in = a.is-in;
            leads = a.leads;
          }

  -- what is seen is reached
  pub record SeenOk (l n : ℕ) (b : Bool) (x : Seen) : Type 0 where
    pub is-reached : Reach l n x.up x.number
    pub pairs : x.pairs ≡ pairs_at v (page ps x.number)

  under-reached : (l : ℕ) (hi n : ℕ) (b : Bool) (x : Seen) → In x (seen_under l ps v hi n) → SeenOk l n b x
  under-reached zero hi n b x i = absurd i
  under-reached (suc l) hi n b x i =
      let s = in-spread (λ (lo hi k : ℕ). seen_as l ps v false lo hi k ∷ seen_under l ps v hi k) x (pairs_at v (page ps n)) hi i in
      at s s.made (λ j. under-reached l s.hi s.router.value b x j)
    where
      at : (s : Spread (λ (lo hi k : ℕ). seen_as l ps v false lo hi k ∷ seen_under l ps v hi k) x (pairs_at v (page ps n)))
          → In x (seen_as l ps v false s.lo s.hi s.router.value ∷ seen_under l ps v s.hi s.router.value)
          → (In x (seen_under l ps v s.hi s.router.value) → SeenOk l s.router.value b x) → SeenOk (suc l) n b x
      at s (inl e) ih = record {
        is-reached = inr
            (record {
              router = s.router;
              is-in = s.is-in;
              rest = subst (λ (y : Seen). Reach l s.router.value y.up y.number) (sym e) (reach-self l s.router.value);
            });
        pairs = subst (λ (y : Seen). y.pairs ≡ pairs_at v (page ps y.number)) (sym e) refl;
      }
      at s (inr j) ih = let o = ih j in
          record { is-reached = inr (record { router = s.router; is-in = s.is-in; rest = o.is-reached }); pairs = o.pairs }

  pub seen-reached : (l lo hi n : ℕ) (b : Bool) (x : Seen) → In x (seen_below l ps v b lo hi n) → SeenOk l n b x
  seen-reached l lo hi n b x (inl e) = record {
    is-reached = subst (λ (y : Seen). Reach l n y.up y.number) (sym e) (reach-self l n);
    pairs = subst (λ (y : Seen). y.pairs ≡ pairs_at v (page ps y.number)) (sym e) refl;
  }
  seen-reached l lo hi n b x (inr i) = under-reached l hi n b x i

  -- what is reached is seen
  pub record IsSeen (j m : ℕ) (x : Seen) : Type 0 where
    pub number : x.number ≡ m
    pub up : x.up ≡ j
    pub root : x.is_root ≡ false
    pub pairs : x.pairs ≡ pairs_at v (page ps m)

  pub reached-under : (l hi n j m : ℕ) → Reach l n j m → Self l n j m ⊎ ((x : Seen) × (In x (seen_under l ps v hi n)) × (IsSeen j m x))
  reached-under zero hi n j m r = inl r
  reached-under (suc l) hi n j m (inl r) = inl r
  reached-under (suc l) hi n j m (inr r) =
      inr (spread-in (λ (lo hi k : ℕ). seen_as l ps v false lo hi k ∷ seen_under l ps v hi k) (IsSeen j m) r.router
      (λ a b. at a b (reached-under l b r.router.value j m r.rest))
      (pairs_at v (page ps n)) hi r.is-in)
    where
      at : (a b : ℕ) → Self l r.router.value j m ⊎ ((x : Seen) × (In x (seen_under l ps v b r.router.value)) × (IsSeen j m x))
          → (x : Seen) × (In x (seen_as l ps v false a b r.router.value ∷ seen_under l ps v b r.router.value)) × (IsSeen j m x)
      at a b (inl z) = (
        seen_as l ps v false a b r.router.value,
        inl refl,
        record {
          number = sym z.number;
          up = sym z.height;
          root = refl;
          pairs = ap (λ (k : ℕ). pairs_at v (page ps k)) (sym z.number);
        },
      )
      at a b (inr z) = (z.0, inr z.1, z.2)
