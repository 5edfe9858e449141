-- Bytes that differ only in pages off the walk give the same answer: from the pages that a walk visits to those that near reads.
-- Assumes nothing.
use Prim.Native.Nat.{ℕ, zero, suc, pred, ◌+◌, ◌*◌, ◌/◌, ◌%◌, ◌≤◌, ◌<◌}
use native.Mathlib.Omega.{arith}
use mathlib.Core.Bool.{Bool, true, false}
use mathlib.Core.Path.{◌≡◌, refl, ap, sym, ◌∙◌, subst}
use mathlib.Core.Logic.{inl, inr}
use mathlib.Core.List.{List, [], ◌∷◌, ◌++◌}
use lib.Dec.{ltb, eqb}
use lib.ListN.{length, get_or, take, length-take}
use lib.Seq.{ext_get_or, get_or-take}
use Rattle.bits.proofs.laws.Laws.{field-ext}
use Rattle.model.specs.Basic.{pick, flat_map, eq_list}
use Rattle.model.specs.Field.{bit_of, bit_at}
use Rattle.model.specs.Limits.{edition_of}
use Rattle.model.specs.declared.Pair.{Pair}
use Rattle.model.specs.Looked.{Looked}
use Rattle.model.specs.Looked.{Refused}
use Rattle.model.specs.Page.{Page, pairs_at}
use Rattle.model.specs.Store.{page}
use Rattle.model.specs.Walk.{root_at, followed, path_down, lookup_visits, range_path, range_visits}
use Rattle.model.specs.Layout.{magic, page_of, decode}
use Rattle.model.specs.Judged.{magic_ok, edition_ok}
use Rattle.model.specs.Editions.{by_edition, least_of}
use Rattle.model.specs.Lent.{Listed, lookup_lent, range_lent}
use Rattle.model.specs.Any
use Rattle.model.specs.Any.{lookup_any, range_any}
use Rattle.model.specs.Ended.{of_looked, of_listed}
use Rattle.model.specs.Inner.{In}
use Rattle.near.proofs.laws.Off as near
use Rattle.near.proofs.laws.OffRange as across
use Rattle.promises.specs.Accepts.{store_of}
use Rattle.promises.specs.Near.{Each, SameFront, SamePages, OffTheWalk}
use Rattle.promises.proofs.Known.{four}

each-front : {A : Type 0} (f : A → Type 0) (xs ys : List A) → Each f (xs ++ ys) → Each f xs
each-front f [] ys e = tt
each-front f (x ∷ xs) ys e = (e.0, each-front f xs ys e.1)

each-rest : {A : Type 0} (f : A → Type 0) (xs ys : List A) → Each f (xs ++ ys) → Each f ys
each-rest f [] ys e = e
each-rest f (x ∷ xs) ys e = each-rest f xs ys e.1

each-flat : {A B : Type 0} (f : B → Type 0) (g : A → List B) (xs : List A) → Each f (flat_map g xs) → (x : A) → In x xs → Each f (g x)
each-flat f g [] e x i = absurd i
each-flat f g (y ∷ ys) e x (inl q) = subst (λ (z : _). Each f (g z)) (sym q) (each-front f (g y) (flat_map g ys) e)
each-flat f g (y ∷ ys) e x (inr i) = each-flat f g ys (each-rest f (g y) (flat_map g ys) e) x i

some-least : (b : List ℕ) → 1 ≤ least_of b
some-least b = omega (arith, four b)

module _ (least : ℕ) (some : 1 ≤ least) (b c : List ℕ) (s : SameFront least b c) where
  abbrev ps : List Page
  ps = (decode least b).pages

  abbrev same : ℕ → Type 0
  same n = page_of least b n ≡ page_of least c n

  front : near.FrontAlike least b c
  front = record {
    long = s.long;
    front = λ i l. sym (get_or-take (320 * least) b i 0 l) ∙ ap (λ (x : List ℕ). get_or x i 0) s.front ∙ get_or-take (320 * least) c i 0 l;
  }

  module _ (v : ℕ) where
    abbrev root : ℕ
    root = root_at (decode least b).slots v

    -- ---- a lookup

    path-down : (k up n : ℕ) → Each same (path_down up ps v k n) → near.SameDown least some b c front v k up n
    unfolding near.SameDown
    path-down k zero n e = e.0
    path-down k (suc up) n e = (e.0, λ r f. path-down k up _ e.1)

    first-down : (k up n : ℕ) → Each same (path_down up ps v k n) → same n
    first-down k zero n e = e.0
    first-down k (suc up) n e = e.0

    walk-down : (k : ℕ) → SamePages least b c (lookup_visits (decode least b) k v) → near.SameWalk least some b c front v k
    unfolding near.SameWalk
    walk-down k e = (
      first-down k (pred (page ps root).level) root e,
      λ up q. path-down k up root (subst (λ (m : ℕ). Each same (path_down (pred m) ps v k root)) q e),
    )

    lookups : (k : ℕ) → SamePages least b c (lookup_visits (decode least b) k v) → lookup_lent least c k v ≡ lookup_lent least b k v
    lookups k e = sym (near.lookup-off least some b c front v k (walk-down k e))

    -- ---- a range

    path-across : (lo hi up at n : ℕ) → Each same (range_path up ps v hi at n) → across.SameAcross least some b c front v lo hi up at n
    unfolding across.SameAcross
    path-across lo hi zero at n e = e.0
    path-across lo hi (suc up) at n e = (
      e.0,
      λ r f x i. path-across lo hi up x.key x.value
          (each-flat same (λ (y : Pair). range_path up ps v hi y.key y.value) (followed at hi (pairs_at v (page ps n))) e.1 x i),
    )

    first-across : (hi up at n : ℕ) → Each same (range_path up ps v hi at n) → same n
    first-across hi zero at n e = e.0
    first-across hi (suc up) at n e = e.0

    walk-across : (lo hi : ℕ) → SamePages least b c (range_visits (decode least b) lo hi v) → across.SameWalks least some b c front v lo hi
    unfolding across.SameWalks
    walk-across lo hi e = (
      first-across hi (pred (page ps root).level) lo root e,
      λ up q. path-across lo hi up lo root (subst (λ (m : ℕ). Each same (range_path (pred m) ps v hi lo root)) q e),
    )

    ranges : (lo hi : ℕ) → SamePages least b c (range_visits (decode least b) lo hi v) → (ns : List ℕ)
        → range_lent least c lo hi v ns ≡ range_lent least b lo hi v ns
    ranges lo hi e ns = sym (across.range-off least some b c front v lo hi ns (walk-across lo hi e))

-- ---- of the calls: the same front names the same edition

module _ (b c : List ℕ) (s : SameFront (least_of b) b c) where
  near-front : near.FrontAlike (least_of b) b c
  near-front = front (least_of b) (some-least b) b c s

  bit-same : (k : ℕ) → k < 40 → bit_at b k ≡ bit_at c k
  unfolding bit_at
  bit-same k l = ap (λ (x : ℕ). bit_of x (k % 8)) (near-front.front (k / 8) (omega (arith, four b)))

  edition-same : (l : ℕ) → edition_ok l b ≡ edition_ok l c
  unfolding edition_ok
  edition-same l = ap (λ (x : ℕ). eqb x (edition_of l)) (field-ext b c 32 32 8 (λ i h. bit-same (32 + i) (omega arith)))

  magic-same : magic_ok b ≡ magic_ok c
  unfolding magic_ok
  magic-same = ap (λ (x : List ℕ). eq_list x magic) (ext_get_or 0 (take 4 b) (take 4 c) (simp (length-take, s.long)) (λ i l.
      let k : i < 4 = omega (arith, length-take 4 b) in
      get_or-take 4 b i 0 k ∙ near-front.front i (omega (arith, four b)) ∙ sym (get_or-take 4 c i 0 k)))

  -- what the calls by each edition give is the same where it is by the edition named
  by-same : {A : Type 0} (refuse f g : ℕ → A) → f (least_of b) ≡ g (least_of b) → by_edition c refuse f ≡ by_edition b refuse g
  unfolding by_edition
  by-same {A} refuse f g h =
      rw (sym s.long, sym magic-same, sym (edition-same 4), sym (edition-same 8))
      (at (ltb (length b) 5) (magic_ok b) (edition_ok 4 b) (edition_ok 8 b) h)
    where
      at : (p q r t : Bool) → f (pick p 4 (pick q (pick r 4 (pick t 8 4)) 4)) ≡ g (pick p 4 (pick q (pick r 4 (pick t 8 4)) 4))
          → pick p (refuse 1) (pick q (pick r (f 4) (pick t (f 8) (refuse 3))) (refuse 2))
          ≡ pick p (refuse 1) (pick q (pick r (g 4) (pick t (g 8) (refuse 3))) (refuse 2))
      at true q r t h = refl
      at false false r t h = refl
      at false true true t h = h
      at false true false true h = h
      at false true false false h = refl

  lookup-same : (k v : ℕ) → SamePages (least_of b) b c (lookup_visits (store_of b) k v) → lookup_any c k v ≡ lookup_any b k v
  unfolding Any.lookup_any
  lookup-same k v e =
      by-same {A = Looked} (λ (n : ℕ). Refused n) (λ (l : ℕ). lookup_lent l c k v) (λ (l : ℕ). lookup_lent l b k v)
      (lookups (least_of b) (some-least b) b c s v k e)

  range_same : (lo hi v : ℕ) → SamePages (least_of b) b c (range_visits (store_of b) lo hi v) → (ns : List ℕ)
      → range_any c lo hi v ns ≡ range_any b lo hi v ns
  unfolding Any.range_any
  range_same lo hi v e ns =
      by-same {A = Listed} (λ (n : ℕ). record { number = n; count = 0; list = ns }) (λ (l : ℕ). range_lent l c lo hi v ns)
      (λ (l : ℕ). range_lent l b lo hi v ns) (ranges (least_of b) (some-least b) b c s v lo hi e ns)

pub off-the-walk : OffTheWalk
off-the-walk = record {
  lookup = λ b c s k v e ns.
      let q = lookup-same b c s k v e in
      record {
        number = ap (λ (r : Looked). (of_looked b ns r).number) q;
        results = ap (λ (r : Looked). (of_looked b ns r).results) q;
        list = refl;
      };
  range = λ b c s lo hi v e ns.
      let q = range_same b c s lo hi v e ns in
      record {
        number = ap (λ (r : Listed). r.number) q;
        results = ap (λ (r : Listed). (of_listed b r).results) q;
        list = ap (λ (r : Listed). r.list) q;
      };
}
