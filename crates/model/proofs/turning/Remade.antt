-- "makes the open version's settings equal", on plain settings: the deletes of what goes are due one after another, so are the inserts of
-- what comes, and they leave the other version's settings. And what comes, told anew after the deletes, is the same.
-- Assumes nothing.
use Prim.Native.Nat.{ℕ, ◌+◌}
use native.Mathlib.Omega.{arith}
use mathlib.Core.Bool.{Bool, true, false}
use mathlib.Core.Path.{◌≡◌, refl, ap, ap₂, sym, ◌∙◌, subst}
use mathlib.Core.List.{List, [], ◌∷◌, ◌++◌, map}
use lib.Dec.{ltb, eqb}
use lib.ListN.{length}
use borrow.Author.Tests.{ltb-true, le-ltb, eqb-true, eq-eqb, ne_eqb}
use Rattle.model.specs.Basic.{all, those, pick}
use Rattle.model.specs.declared.Pair.{Pair}
use Rattle.model.specs.declared.Delta.{Delta}
use Rattle.model.specs.Entry.{pair, enter_pair}
use Rattle.model.specs.Differ.{changed, differ}
use Rattle.model.specs.Return.{goes, comes}
use Rattle.model.specs.Inner.{rising}
use Rattle.model.specs.Remade.{ended, asked, Ends, Sets}
use Rattle.model.proofs.lists.Lists.{both_true, both-intro, all_cons}
use Rattle.model.proofs.lists.Members.{all_in, all-by, in-those}
use Rattle.model.proofs.lists.Merging.{above, find-above, old-first, new-first, both_first, by-merge}
use Rattle.model.proofs.reading.Differs.{keys-so, without, in-front}

pub all-those : (f g : Delta → Bool) (ds : List Delta) → all f ds ≡ true → all f (those g ds) ≡ true
all-those f g ds h = all-by f (those g ds) (λ d i. all_in f d ds h (in-those g d ds i).1)

module _ (f : Pair → Bool) where
  -- ---- behind a setting with a smaller key they are the same

  abbrev Behind : Pair → List Delta → Type 0
  Behind x ds = all (λ (d : Delta). ltb x.key d.key) ds ≡ true

  ends-behind : (x : Pair) (us : List Pair) (ds : List Delta) (vs : List Pair) → Behind x ds → Ends f us ds vs → Ends f (x ∷ us) ds (x ∷ vs)
  ends-behind x us [] vs h e = ap (λ (zs : List Pair). x ∷ zs) e
  ends-behind x us (d ∷ ds) vs h (p, q, r) =
      let (a, b) = all_cons (λ (e : Delta). ltb x.key e.key) d ds h in
      let n : eqb x.key d.key ≡ false = ne_eqb x.key d.key
      (λ (e : x.key ≡ d.key). omega (arith, ltb-true x.key d.key a)) in
      (p, rw n q, rw n (ends-behind x (ended d us) ds vs b r))

  sets_behind : (x : Pair) (us : List Pair) (ds : List Delta) (vs : List Pair) → Behind x ds → Sets f us ds vs → Sets f (x ∷ us) ds (x ∷ vs)
  sets_behind x us [] vs h e = ap (λ (zs : List Pair). x ∷ zs) e
  sets_behind x us (d ∷ ds) vs h (p, q, r) =
      let (a, b) = all_cons (λ (e : Delta). ltb x.key e.key) d ds h in
      let n : eqb x.key d.key ≡ false = ne_eqb x.key d.key
      (λ (e : x.key ≡ d.key). omega (arith, ltb-true x.key d.key a)) in
      let l : ltb d.key x.key ≡ false = le-ltb d.key x.key (omega (arith, ltb-true x.key d.key a)) in
      (p, rw n q, rw l (sets_behind x (enter_pair (asked d) us) ds vs b r))

  -- ---- from the settings of one version to those of another, by way of what both have

  pub record Way (us ws : List Pair) (ds : List Delta) : Type 0 where
    pub mid : List Pair
    pub ends : Ends f us (those goes ds) mid
    pub sets : Sets f mid (those comes ds) ws
    pub anew : map asked (those comes (differ mid ws)) ≡ map asked (those comes ds)
    pub fewer : length us ≡ length (those goes ds) + length mid
    pub more : length ws ≡ length (those comes ds) + length mid
    pub later : (k : ℕ) → above k us ≡ true → above k mid ≡ true

  abbrev Ways : List Pair → List Pair → Type 0
  Ways us ws = all f us ≡ true → all f ws ≡ true → rising us ≡ true → rising ws ≡ true → Way us ws (differ us ws)

  old-way : (x : Pair) (xs ws : List Pair) → above x.key xs ≡ true → above x.key ws ≡ true → Ways xs ws → Ways (x ∷ xs) ws
  old-way x xs ws a b ih i j r q =
      let (fx, i') = all_cons f x xs i in
      let w = ih i' j (both_true (above x.key xs) (rising xs) r).1 q in
      let e : eqb x.key x.key ≡ true = eq-eqb x.key x.key refl in
      subst (Way (x ∷ xs) ws) (sym (old-first x xs ws b)) (record {
        mid = w.mid;
        ends = (
          fx,
          rw e refl,
          subst (λ (us : List Pair). Ends f us (those goes (differ xs ws)) w.mid)
              (sym (rw e (without x.key xs a))) w.ends,
        );
        sets = w.sets;
        anew = w.anew;
        fewer = omega (arith, w.fewer);
        more = w.more;
        later = λ k h. w.later k (all_cons (λ (y : Pair). ltb k y.key) x xs h).1;
      })

  new-way : (us : List Pair) (y : Pair) (ys : List Pair) → above y.key us ≡ true → above y.key ys ≡ true → Ways us ys
      → Ways us (y ∷ ys)
  new-way us y ys a b ih i j r q =
      let (fy, j') = all_cons f y ys j in
      let q' = (both_true (above y.key ys) (rising ys) q).1 in
      let w = ih i j' r q' in
      let h : above y.key w.mid ≡ true = w.later y.key a in
      let keys : Behind y (those comes (differ us ys))
      = all-those (λ (d : Delta). ltb y.key d.key) comes (differ us ys) (keys-so (ltb y.key) us ys r q' a b) in
      subst (Way us (y ∷ ys)) (sym (new-first us y ys a)) (record {
        mid = w.mid;
        ends = w.ends;
        sets = (
          fy,
          find-above y.key w.mid h,
          subst (λ (vs : List Pair). Sets f vs (those comes (differ us ys)) (y ∷ ys))
              (sym (in-front y w.mid h)) (sets_behind y w.mid (those comes (differ us ys)) ys keys w.sets),
        );
        anew = ap (λ (ds : List Delta). map asked (those comes ds)) (new-first w.mid y ys h) ∙ ap (λ (ps : List Pair). y ∷ ps) w.anew;
        fewer = w.fewer;
        more = omega (arith, w.more);
        later = w.later;
      })

  both-way : (x : Pair) (xs : List Pair) (y : Pair) (ys : List Pair) → x.key ≡ y.key → above x.key xs ≡ true → above y.key ys ≡ true
      → Ways xs ys → Ways (x ∷ xs) (y ∷ ys)
  both-way x xs y ys e a b ih i j r q =
      let (fx, i') = all_cons f x xs i in
      let (fy, j') = all_cons f y ys j in
      let r' = (both_true (above x.key xs) (rising xs) r).1 in
      let q' = (both_true (above y.key ys) (rising ys) q).1 in
      subst (Way (x ∷ xs) (y ∷ ys)) (sym (both_first x xs y ys e b))
      (at (ih i' j' r' q') fx fy (keys-so (ltb x.key) xs ys r' q' a (rw e b)) (eqb x.value y.value) refl)
    where
      at : Way xs ys (differ xs ys) → f x ≡ true → f y ≡ true → all (λ (d : Delta). ltb x.key d.key) (differ xs ys) ≡ true
          → (t : Bool) → eqb x.value y.value ≡ t
          → Way (x ∷ xs) (y ∷ ys) (pick t [] (changed x y.value ∷ []) ++ differ xs ys)
      at w fx fy k true v =
          let same : x ≡ y = ap₂ (λ (n m : ℕ). record { key = n; value = m }) e (eqb-true x.value y.value v) in
          record {
            mid = x ∷ w.mid;
            ends = ends-behind x xs (those goes (differ xs ys)) w.mid
                (all-those (λ (d : Delta). ltb x.key d.key) goes (differ xs ys) k) w.ends;
            sets =
                subst (λ (z : Pair). Sets f (x ∷ w.mid) (those comes (differ xs ys)) (z ∷ ys)) same
                (sets_behind x w.mid (those comes (differ xs ys)) ys
                (all-those (λ (d : Delta). ltb x.key d.key) comes (differ xs ys) k) w.sets);
            anew =
                ap (λ (ds : List Delta). map asked (those comes ds))
                (both_first x w.mid y ys e b ∙ ap (λ (c : Bool). pick c [] (changed x y.value ∷ []) ++ differ w.mid ys) v)
                ∙ w.anew;
            fewer = omega (arith, w.fewer);
            more = omega (arith, w.more);
            later = λ n h. let (p, o) = all_cons (λ (z : Pair). ltb n z.key) x xs h in both-intro (ltb n x.key) _ p (w.later n o);
          }
      at w fx fy k false v =
          let h : above x.key w.mid ≡ true = w.later x.key a in
          let one : eqb x.key x.key ≡ true = eq-eqb x.key x.key refl in
          let is : pair x.key y.value ≡ y = ap (λ (n : ℕ). pair n y.value) e in
          record {
            mid = w.mid;
            ends = (
              fx,
              rw one refl,
              subst (λ (us : List Pair). Ends f us (those goes (differ xs ys)) w.mid)
                  (sym (rw one (without x.key xs a))) w.ends,
            );
            sets = (
              subst (λ (z : Pair). f z ≡ true) (sym is) fy,
              find-above x.key w.mid h,
              subst (λ (vs : List Pair). Sets f vs (those comes (differ xs ys)) (y ∷ ys))
                  (sym (in-front (pair x.key y.value) w.mid h))
                  (subst (λ (z : Pair). Sets f (pair x.key y.value ∷ w.mid) (those comes (differ xs ys)) (z ∷ ys)) is
                  (sets_behind (pair x.key y.value) w.mid (those comes (differ xs ys)) ys
                  (all-those (λ (d : Delta). ltb x.key d.key) comes (differ xs ys) k) w.sets)),
            );
            anew =
                ap (λ (ds : List Delta). map asked (those comes ds))
                (new-first w.mid y ys (subst (λ (n : ℕ). above n w.mid ≡ true) e h))
                ∙ ap₂ (λ (z : Pair) (ps : List Pair). z ∷ ps) (sym is) w.anew;
            fewer = omega (arith, w.fewer);
            more = omega (arith, w.more);
            later = λ n o. w.later n (all_cons (λ (z : Pair). ltb n z.key) x xs o).1;
          }

  pub the-way : (us ws : List Pair) → all f us ≡ true → all f ws ≡ true → rising us ≡ true → rising ws ≡ true → Way us ws (differ us ws)
  the-way us ws i j r q =
      by-merge Ways (λ i j r q. record { mid = []; ends = refl; sets = refl; anew = refl; fewer = refl; more = refl; later = λ k h. refl })
      old-way new-way both-way us ws r q i j r q
