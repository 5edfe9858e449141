-- From the tests of rules 3 to 5 to what the proofs use.
-- Assumes nothing.
use Prim.Native.Nat.{ℕ, zero, suc, ◌≤◌, ◌<◌}
use native.Mathlib.Omega.{arith}
use mathlib.Core.Bool.{Bool, true, false, ◌&&◌, ◌||◌}
use mathlib.Core.Path.{◌≡◌, refl, subst}
use mathlib.Core.List.{List, [], ◌∷◌}
use lib.Dec.{leb, ltb, eqb, eqb-suc-zero}
use lib.ListN.{length}
use borrow.Author.Tests.{ltb-true, leb-true, eqb-true, le-leb}
use Rattle.model.specs.Basic.{all, flat_map, in_order}
use Rattle.model.specs.declared.Pair.{Pair}
use Rattle.model.specs.Entry.{within}
use Rattle.model.specs.Page.{Page, pairs_at}
use Rattle.model.specs.Store.{page}
use Rattle.model.specs.Sound.{keys_ok, starts_at, fewest}
use Rattle.model.specs.Walk.{Seen, seen_as, seen_under, seen_below, spread, below, key_limit}
use Rattle.model.specs.Tree.{Row, Holds, in_range}
use Rattle.model.proofs.lists.Lists.{both_true, both-intro, all_cons}
use Rattle.model.proofs.tree.Tree.{Tree}
use Rattle.model.proofs.tree.Local.{all_left, all_right}
use Rattle.model.proofs.tree.Shows.{Some, tree_of}

abbrev pub passes_at : ℕ → Seen → Bool
passes_at least x = keys_ok x && leb (fewest least x.is_root x.up) (length x.pairs)

module _ (least : ℕ) (two-or-more : 2 ≤ least) (v : ℕ) (ps : List Page)
    (levels : (m l : ℕ) → (page ps m).level ≡ suc (suc l)
    → all (λ (r : Pair). eqb (page ps r.value).level (suc l) && within (page ps r.value).start (page ps r.value).end v)
    (pairs_at v (page ps m)) ≡ true) where
  abbrev kid : ℕ → Pair → Bool
  kid l r = eqb (page ps r.value).level (suc l) && within (page ps r.value).start (page ps r.value).end v

  kid_of : (l : ℕ) (r : Pair) → kid l r ≡ true → ((page ps r.value).level ≡ suc l)
      × (within (page ps r.value).start (page ps r.value).end v ≡ true)
  kid_of l r h =
      let (a, b) = both_true (eqb (page ps r.value).level (suc l)) (within (page ps r.value).start (page ps r.value).end v) h in
      (eqb-true _ _ a, b)

  abbrev pub passes : Seen → Bool
  passes x = passes_at least x

  abbrev rising : List Pair → Bool
  rising = in_order (λ (x y : Pair). ltb x.key y.key)

  -- the three parts of keys_ok
  pub record Ok (up low high : ℕ) (us : List Pair) : Type 0 where
    pub starts : (eqb up 0 || starts_at low us) ≡ true
    pub keys : in_range low high us ≡ true
    pub order : rising us ≡ true

  ok_of : (b : Bool) (up low high n : ℕ) (us : List Pair)
      → keys_ok (record { number = n; up = up; is_root = b; low = low; high = high; pairs = us }) ≡ true → Ok up low high us
  ok_of b up low high n us h =
      let (p, o) = both_true ((eqb up 0 || starts_at low us) && in_range low high us) (rising us) h in
      let (s, k) = both_true (eqb up 0 || starts_at low us) (in_range low high us) p in
      record { starts = s; keys = k; order = o }

  some_of : (us : List Pair) → leb least (length us) ≡ true → Some least v us
  some_of [] h = absurd (omega (arith, leb-true least 0 h))
  some_of (x ∷ us) h = record { first = x; others = us; is = refl }

  first_of : (b : Bool) (l lo hi n : ℕ) → all passes (seen_below l ps v b lo hi n) ≡ true → passes (seen_as l ps v b lo hi n) ≡ true
  first_of b l lo hi n h = (all_cons passes (seen_as l ps v b lo hi n) (seen_under l ps v hi n) h).0

  rest_of : (b : Bool) (l lo hi n : ℕ) → all passes (seen_below l ps v b lo hi n) ≡ true → all passes (seen_under l ps v hi n) ≡ true
  rest_of b l lo hi n h = (all_cons passes (seen_as l ps v b lo hi n) (seen_under l ps v hi n) h).1

  -- keys that rise stand at or above the first
  from_first : (y : Pair) (rs : List Pair) (hi lo : ℕ) → in_range lo hi (y ∷ rs) ≡ true → rising (y ∷ rs) ≡ true
      → in_range y.key hi (y ∷ rs) ≡ true
  from_first y rs hi lo k o =
      let (ky, krs) = all_cons (λ (z : Pair). within lo hi z.key) y rs k in
      both-intro _ _ (both-intro _ _ (le-leb y.key y.key (omega arith)) (both_true (leb lo y.key) (ltb y.key hi) ky).1)
      (go rs krs (both_true (all (λ (z : Pair). ltb y.key z.key) rs) (rising rs) o).0)
    where
      go : (zs : List Pair) → in_range lo hi zs ≡ true → all (λ (z : Pair). ltb y.key z.key) zs ≡ true → in_range y.key hi zs ≡ true
      go [] a b = refl
      go (z ∷ zs) a b =
          let (az, azs) = all_cons (λ (u : Pair). within lo hi u.key) z zs a in
          let (bz, bzs) = all_cons (λ (u : Pair). ltb y.key u.key) z zs b in
          both-intro _ _
          (both-intro _ _ (le-leb y.key z.key (omega (arith, ltb-true y.key z.key bz)))
          (both_true (leb lo z.key) (ltb z.key hi) az).1) (go zs azs bzs)

  -- the routers of a page one after another
  row_of : (l : ℕ)
      → ((lo hi n : ℕ) → (page ps n).level ≡ suc l → within (page ps n).start (page ps n).end v ≡ true
      → all passes (seen_below l ps v false lo hi n) ≡ true → lo < hi → Tree least v l ps lo hi n (below l ps v n))
      → (rs : List Pair) (x : Pair) (lo hi : ℕ) → x.key ≡ lo → in_range lo hi (x ∷ rs) ≡ true → rising (x ∷ rs) ≡ true
      → all (kid l) (x ∷ rs) ≡ true → all passes (spread (seen_below l ps v false) (x ∷ rs) hi) ≡ true
      → Row (Tree least v l ps) hi (x ∷ rs) lo (flat_map (λ (r : Pair). below l ps v r.value) (x ∷ rs))
  row_of l f [] x lo hi e k o g h =
      let room : lo < hi
      = omega (
        arith,
        ltb-true x.key hi (both_true (leb lo x.key) (ltb x.key hi) (all_cons (λ (y : Pair). within lo hi y.key) x [] k).0).1,
      ) in
      record {
        mid = hi;
        mine = below l ps v x.value;
        others = [];
        low = e;
        room = room;
        here = f lo hi x.value (kid_of l x (all_cons (kid l) x [] g).0).0 (kid_of l x (all_cons (kid l) x [] g).0).1
            (subst (λ (a : ℕ). all passes (seen_below l ps v false a hi x.value) ≡ true) e h) room;
        rest = record { met = refl; nothing = refl };
        all_of = refl;
      }
  row_of l f (y ∷ rs) x lo hi e k o g h =
      let (kx, ky) = all_cons (λ (z : Pair). within lo hi z.key) x (y ∷ rs) k in
      let (ox, oy) = both_true (all (λ (z : Pair). ltb x.key z.key) (y ∷ rs)) (rising (y ∷ rs)) o in
      let (gx, gy) = all_cons (kid l) x (y ∷ rs) g in
      let less : x.key < y.key = ltb-true x.key y.key (all_cons (λ (z : Pair). ltb x.key z.key) y rs ox).0 in
      let room : lo < y.key = omega arith in
      let mine = all_left passes (seen_below l ps v false x.key y.key x.value) (spread (seen_below l ps v false) (y ∷ rs) hi) h in
      let others = all_right passes (seen_below l ps v false x.key y.key x.value) (spread (seen_below l ps v false) (y ∷ rs) hi) h in
      record {
        mid = y.key;
        mine = below l ps v x.value;
        others = flat_map (λ (r : Pair). below l ps v r.value) (y ∷ rs);
        low = e;
        room = room;
        here = f lo y.key x.value (kid_of l x gx).0 (kid_of l x gx).1
            (subst (λ (a : ℕ). all passes (seen_below l ps v false a y.key x.value) ≡ true) e mine) room;
        rest = row_of l f rs y y.key hi refl (from_first y rs hi lo ky oy) oy gy others;
        all_of = refl;
      }

  row-all : (l : ℕ)
      → ((lo hi n : ℕ) → (page ps n).level ≡ suc l → within (page ps n).start (page ps n).end v ≡ true
      → all passes (seen_below l ps v false lo hi n) ≡ true → lo < hi → Tree least v l ps lo hi n (below l ps v n))
      → (rs : List Pair) (lo hi : ℕ) → Some least v rs → Ok (suc l) lo hi rs
      → all (kid l) rs ≡ true → all passes (spread (seen_below l ps v false) rs hi) ≡ true
      → Row (Tree least v l ps) hi rs lo (flat_map (λ (r : Pair). below l ps v r.value) rs)
  row-all l f [] lo hi s o g h = absurd (none s.is)
    where
      none : ◌≡◌ {A = List Pair} [] (s.first ∷ s.others) → ⊥
      none e = let z : ◌≡◌ {A = ℕ} 0 1 = cc in omega arith
  row-all l f (x ∷ rs) lo hi s o g h =
      row_of l f rs x lo hi (eqb-true x.key lo (subst (λ (b : Bool). (b || eqb x.key lo) ≡ true) (eqb-suc-zero l) o.starts))
      o.keys o.order g h

  -- A page whose walk passes is a tree that shows what the walk gives.
  pub tree-passes : (l lo hi n : ℕ) → (page ps n).level ≡ suc l → within (page ps n).start (page ps n).end v ≡ true
      → all passes (seen_below l ps v false lo hi n) ≡ true → lo < hi → Tree least v l ps lo hi n (below l ps v n)
  tree-passes zero lo hi n e z h room =
      let (k, c) = both_true (keys_ok (seen_as zero ps v false lo hi n)) _ (first_of false zero lo hi n h) in
      let ok = ok_of false zero lo hi n (pairs_at v (page ps n)) k in
      tree_of least v ps zero lo hi n _ room e (record { lives = z; many = leb-true least (length (pairs_at v (page ps n))) c })
      (some_of (pairs_at v (page ps n)) c) (record { same = refl; keys = ok.keys; rising = ok.order })
  tree-passes (suc l) lo hi n e z h room =
      let (k, c) = both_true (keys_ok (seen_as (suc l) ps v false lo hi n)) _ (first_of false (suc l) lo hi n h) in
      let some = some_of (pairs_at v (page ps n)) c in
      tree_of least v ps (suc l) lo hi n _ room e (record { lives = z; many = leb-true least (length (pairs_at v (page ps n))) c }) some
      (row-all l (λ a b m p q z y. tree-passes l a b m p q z y) (pairs_at v (page ps n)) lo hi some
      (ok_of false (suc l) lo hi n (pairs_at v (page ps n)) k) (levels n l e)
      (rest_of false (suc l) lo hi n h))

  some-two : (us : List Pair) → leb 2 (length us) ≡ true → Some least v us
  some-two [] h = absurd (omega (arith, leb-true 2 0 h))
  some-two (x ∷ us) h = record { first = x; others = us; is = refl }

  -- A root whose walk passes shows what the walk gives.
  pub root-passes : (l n : ℕ) → (page ps n).level ≡ suc l → all passes (seen_below l ps v true 0 key_limit n) ≡ true
      → Holds least v l ps 0 key_limit (pairs_at v (page ps n)) (below l ps v n)
  root-passes zero n e h =
      let (k, c) = both_true (keys_ok (seen_as zero ps v true 0 key_limit n)) _ (first_of true zero 0 key_limit n h) in
      let ok = ok_of true zero 0 key_limit n (pairs_at v (page ps n)) k in
      record { same = refl; keys = ok.keys; rising = ok.order }
  root-passes (suc l) n e h =
      let (k, c) = both_true (keys_ok (seen_as (suc l) ps v true 0 key_limit n)) _ (first_of true (suc l) 0 key_limit n h) in
      row-all l (λ a b m p q z y. tree-passes l a b m p q z y) (pairs_at v (page ps n)) 0 key_limit (some-two (pairs_at v (page ps n)) c)
      (ok_of true (suc l) 0 key_limit n (pairs_at v (page ps n)) k) (levels n l e)
      (rest_of true (suc l) 0 key_limit n h)
