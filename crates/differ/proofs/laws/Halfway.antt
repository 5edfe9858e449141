-- Two leaves half-way through their merge, and two versions half-way through theirs.
-- Assumes nothing.
use Prim.Native.Nat.{ℕ, ◌+◌, ◌-◌, ◌≤◌, ◌<◌}
use native.Mathlib.Omega.{arith}
use mathlib.Core.Bool.{Bool, true, false}
use mathlib.Core.Path.{◌≡◌, refl, ap, ap₂, sym, ◌∙◌}
use mathlib.Core.List.{List, ◌++◌}
use lib.Dec.{ltb, eqb}
use borrow.Author.Tests.{ltb-true, ltb-false}
use Rattle.model.specs.Basic.{pick}
use Prim.Native.Nat.{min}
use Rattle.model.specs.declared.Pair.{Pair}
use Rattle.model.specs.declared.Delta.{Delta}
use Rattle.model.specs.declared.Limits.{Limits}
use Rattle.model.specs.Walk.{key_limit}
use Rattle.model.specs.Differ.{added, removed}
use Rattle.model.specs.Telling.{Space, Gathers, deltas}
use Rattle.model.proofs.reading.Telling.{space-front, Gathering, gather-start, gather-same, gather-step, gather-end}
use Rattle.walk.specs.Sure.{Walkable}
use Rattle.cursor.specs.declared.Under.{Under}
use Rattle.cursor.specs.First.{at_or_above, leads}
use Rattle.cursor.proofs.laws.First.{above-all}
use Rattle.cursor.specs.Leaf.{Below}
use Rattle.differ.specs.declared.leaves.Ask.{Ask}
use Rattle.differ.specs.declared.leaves.Side.{Side}
use Rattle.differ.specs.Merge.{compared, told, left, Onward}
use Rattle.differ.proofs.laws.Merge.{left-start, left_end, left-on, left_step, above-above}
use Rattle.differ.specs.Side.{rest, Ordered, At}
use Rattle.differ.specs.Listing.{between, left_of}
use Rattle.differ.proofs.laws.Listing.{from_start, from_end}
use Rattle.differ.specs.Leaves.{asked, in_leaves}
use Rattle.differ.proofs.laws.Past as past

-- the smaller of two keys
pub compared-old : (x y : Pair) → (compared x y).key ≤ x.key
compared-old x y = at (ltb x.key y.key) (ltb y.key x.key) refl
  where
    at : (p q : Bool) → ltb y.key x.key ≡ q
        → (pick p (removed x)
        (pick q (added y) (record { key = x.key; kind = pick (eqb x.value y.value) 3 2; old = x.value; new = y.value }))).key
        ≤ x.key
    at true q e = omega arith
    at false true e = omega (arith, ltb-true y.key x.key e)
    at false false e = omega arith

pub compared-new : (x y : Pair) → (compared x y).key ≤ y.key
compared-new x y = at (ltb x.key y.key) refl (ltb y.key x.key) refl
  where
    at : (p : Bool) → ltb x.key y.key ≡ p → (q : Bool) → ltb y.key x.key ≡ q
        → (pick p (removed x)
        (pick q (added y) (record { key = x.key; kind = pick (eqb x.value y.value) 3 2; old = x.value; new = y.value }))).key
        ≤ y.key
    at true e q f = omega (arith, ltb-true x.key y.key e)
    at false e true f = omega arith
    at false e false f = ltb-false y.key x.key f

-- ---- two leaves

module _ (p : List ℕ) (m : ℕ) (q : List ℕ) (n : ℕ) (a : Ask) where
  abbrev olds : ℕ → List Pair
  olds i = rest p m a.old a.low a.high i

  abbrev news : ℕ → List Pair
  news i = rest q n a.new a.low a.high i

  -- all that differs below a key is told, and both sides stand at it
  pub record Halfway (ns₀ ns : List ℕ) (found sum key : ℕ) (x y : Side) : Type 0 where
    pub limit : key ≤ key_limit + 1
    pub old : At p m a.old a.low a.high x
    pub new : At q n a.new a.low a.high y
    pub old-left : rest p m a.old a.low a.high x.place ≡ at_or_above key (rest p m a.old a.low a.high 0)
    pub new-left : rest q n a.new a.low a.high y.place ≡ at_or_above key (rest q n a.new a.low a.high 0)
    pub tells : Gathering deltas a.write ns₀ ns found sum (asked p m q n a) (left (olds 0) (news 0) key)

  module _ (o : Ordered (olds 0)) (w : Ordered (news 0)) where
    pub half-start : {ns : List ℕ} {found : ℕ} → Space deltas a.write ns found (asked p m q n a) → (x y : Side)
        → At p m a.old a.low a.high x × (olds x.place ≡ olds 0)
        → At q n a.new a.low a.high y × (news y.place ≡ news 0) → Halfway ns ns found found 0 x y
    half-start s x y g h = record {
      limit = omega arith;
      old = g.0;
      new = h.0;
      old-left = g.1 ∙ sym (above-all 0 0 key_limit (olds 0) o.low (omega arith));
      new-left = h.1 ∙ sym (above-all 0 0 key_limit (news 0) w.low (omega arith));
      tells = gather-same deltas (sym (left-start (olds 0) (news 0) o.rises w.rises o.low w.low)) (gather-start deltas s);
    }

    module _ {ns₀ ns : List ℕ} {found sum key : ℕ} {x y : Side} (h : Halfway ns₀ ns found sum key x y) where
      pub half-end : key_limit ≤ key → Gathers deltas a.write ns₀ ns found sum (asked p m q n a)
      half-end l =
          gather-end deltas (gather-same deltas (left_end (olds 0) (news 0) o.rises w.rises o.low w.low key l) h.tells)

      module _ (l : key < key_limit) (d : Delta) (e : d ≡ compared x.pair y.pair) where
        at_key : d ≡ compared (leads (at_or_above key (olds 0))) (leads (at_or_above key (news 0)))
        at_key = e ∙ ap₂ compared (h.old.pair ∙ ap leads h.old-left) (h.new.pair ∙ ap leads h.new-left)

        pub half-on : Onward key d.key
        half-on = left-on (olds 0) (news 0) o.rises w.rises o.low w.low key (omega arith) d at_key

        parts : Gathering deltas a.write ns₀ ns found sum (asked p m q n a) (told d ++ left (olds 0) (news 0) (d.key + 1))
        parts =
            gather-same deltas (left_step (olds 0) (news 0) o.rises w.rises o.low w.low key (omega arith) d at_key) h.tells

        pub half-space : Space deltas a.write ns sum (told d)
        half-space = space-front deltas (told d) (left (olds 0) (news 0) (d.key + 1)) parts.space

        pub half-old : d.key + 1 ≤ x.pair.key + 1
        half-old = omega (arith, compared-old x.pair y.pair, ap (λ (c : Delta). c.key) e)

        pub half-new : d.key + 1 ≤ y.pair.key + 1
        half-new = omega (arith, compared-new x.pair y.pair, ap (λ (c : Delta). c.key) e)

        pub half_step : (ns' : List ℕ) (sum' : ℕ) → Gathers deltas a.write ns ns' sum sum' (told d) → (x' y' : Side)
            → At p m a.old a.low a.high x' × (olds x'.place ≡ at_or_above (d.key + 1) (olds x.place))
            → At q n a.new a.low a.high y' × (news y'.place ≡ at_or_above (d.key + 1) (news y.place))
            → Halfway ns₀ ns' found sum' (d.key + 1) x' y'
        half_step ns' sum' t x' y' g k = record {
          limit = omega (arith, half-on.high);
          old = g.0;
          new = k.0;
          old-left = g.1 ∙ ap (at_or_above (d.key + 1)) h.old-left ∙ above-above (d.key + 1) key (olds 0) (omega (arith, half-on.low));
          new-left = k.1 ∙ ap (at_or_above (d.key + 1)) h.new-left ∙ above-above (d.key + 1) key (news 0) (omega (arith, half-on.low));
          tells = gather-step deltas (told d) (left (olds 0) (news 0) (d.key + 1)) parts ns' sum' t;
        }

-- ---- two versions

-- all that differs below a key is told
pub record ToldBelow (l : Limits) (b : List ℕ) (u v : ℕ) (w : Bool) (ns₀ ns : List ℕ) (found key : ℕ) : Type 0 where
  pub limit : key ≤ key_limit
  pub tells : Gathering deltas w ns₀ ns 0 found (between l b u v) (left_of l b u v key)

module _ {l : Limits} {b : List ℕ} {u v : ℕ} (r : Walkable l b u) (q : Walkable l b v) where
  pub between_start : {w : Bool} {ns : List ℕ} → Space deltas w ns 0 (between l b u v) → ToldBelow l b u v w ns ns 0 0
  between_start s = record { limit = omega arith; tells = gather-same deltas (sym (from_start r q)) (gather-start deltas s) }

  pub between-end : {w : Bool} {ns₀ ns : List ℕ} {found key : ℕ} → ToldBelow l b u v w ns₀ ns found key → key_limit ≤ key
      → Gathers deltas w ns₀ ns 0 found (between l b u v)
  between-end {key = key} h l = gather-end deltas (gather-same deltas (from_end r q key l) h.tells)

  module _ {w : Bool} {ns₀ ns : List ℕ} {found key : ℕ} (h : ToldBelow l b u v w ns₀ ns found key) (x y : Under) (g : Below l b u 0 key x)
      (f : Below l b v 0 key y)
      (high : ℕ) (e : high ≡ min x.high y.high) where
    pub high-low : key < high
    high-low = past.high-low r q key x y g f high e

    pub high-top : high ≤ key_limit
    high-top = past.high-top r q key x y g f high e

    abbrev ask : Ask
    ask = record { old = u; new = v; low = key; high = high - 1; write = w }

    parts-of : Gathering deltas w ns₀ ns 0 found (between l b u v) (in_leaves l b ask x y ++ left_of l b u v high)
    parts-of = gather-same deltas (past.stretch-to r q key x y g f high e w) h.tells

    pub between-space : Space deltas w ns found (in_leaves l b ask x y)
    between-space = space-front deltas (in_leaves l b ask x y) (left_of l b u v high) parts-of.space

    pub between_step : (ns' : List ℕ) (found' : ℕ) → Gathers deltas w ns ns' found found' (in_leaves l b ask x y)
        → ToldBelow l b u v w ns₀ ns' found' high
    between_step ns' found' t =
        record { limit = high-top; tells = gather-step deltas (in_leaves l b ask x y) (left_of l b u v high) parts-of ns' found' t }
