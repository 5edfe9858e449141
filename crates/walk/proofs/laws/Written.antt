-- Laws about walk/specs/Written. Assumes nothing.
use Prim.Native.Nat.{ℕ, suc, ◌+◌, ◌*◌, ◌^◌, ◌≤◌}
use native.Mathlib.Omega.{arith}
use mathlib.Core.Bool.{Bool, true, false}
use mathlib.Core.Path.{◌≡◌, refl, ap, sym, ◌∙◌}
use mathlib.Core.List.{List, [], ◌∷◌, ◌++◌}
use lib.ListN.{length, set, drop, length-append}
use lib.Seq.{sets, length-sets, sets-eq}
use Rattle.model.specs.declared.Pair.{Pair}
use Rattle.model.specs.Calls.{pair_numbers}
use Rattle.model.proofs.lists.Lists.{flat_append, sets-append}
use Rattle.walk.specs.Written.{numbers, written, PairSpace, PairGathers}

pub length-numbers : (xs : List Pair) → length (numbers xs) ≡ 2 * length xs
length-numbers [] = refl
length-numbers (x ∷ xs) = omega (arith, length-numbers xs)

pub written_none : (w : Bool) (ns : List ℕ) (k : ℕ) → written w ns k [] ≡ ns
unfolding written
written_none true ns k = refl
written_none false ns k = refl

pub written-append : (w : Bool) (ns : List ℕ) (k : ℕ) (xs ys : List Pair)
    → written w ns k (xs ++ ys) ≡ written w (written w ns k xs) (k + length xs) ys
unfolding written
written-append true ns k xs ys =
    let e : 2 * k + length (numbers xs) ≡ 2 * (k + length xs) = omega (arith, length-numbers xs) in
    ap (sets ns (2 * k)) (flat_append pair_numbers xs ys) ∙ sets-append ns (2 * k) (numbers xs) (numbers ys)
    ∙ ap (λ (i : ℕ). sets (sets ns (2 * k) (numbers xs)) i (numbers ys)) e
written-append false ns k xs ys = refl

pub written_step : (w : Bool) (ns : List ℕ) (k : ℕ) (x : Pair) (ys : List Pair)
    → written w ns k (x ∷ ys) ≡ written w (written w ns k (x ∷ [])) (k + 1) ys
written_step w ns k x ys = written-append w ns k (x ∷ []) ys

pub length-written : (w : Bool) (ns : List ℕ) (k : ℕ) (xs : List Pair) → length (written w ns k xs) ≡ length ns
unfolding written
length-written true ns k xs = length-sets ns (2 * k) (numbers xs)
length-written false ns k xs = refl

-- one setting
pub put_both : (ns : List ℕ) (k : ℕ) (x : Pair) → set (set ns (2 * k) x.key) (2 * k + 1) x.value ≡ written true ns k (x ∷ [])
unfolding written
put_both ns k x = let e : 2 * k + 1 ≡ suc (2 * k) = omega arith in rw e

pub put-none : (ns : List ℕ) (k : ℕ) (x : Pair) → ns ≡ written false ns k (x ∷ [])
unfolding written
put-none ns k x = refl

-- all of them, in a list that holds them
pub written_all : (ns : List ℕ) (xs : List Pair) → 2 * length xs ≤ length ns
    → written true ns 0 xs ≡ numbers xs ++ drop (length (numbers xs)) ns
unfolding written
written_all ns xs h =
    let e : 0 + length (numbers xs) ≡ length (numbers xs) = omega arith in
    sets-eq (numbers xs) ns 0 (omega (arith, length-numbers xs)) ∙ ap (λ (i : ℕ). numbers xs ++ drop i ns) e

pub written-not : (ns : List ℕ) (xs : List Pair) → written false ns 0 xs ≡ ns
unfolding written
written-not ns xs = refl

-- where they are only counted no room is wanted
pub none-room : {ns : List ℕ} {xs : List Pair} → length xs ≤ 2 ^ 40 → PairSpace false ns 0 xs
none-room h = record { few = omega arith; room = λ e. absurd (let z : ◌≡◌ {A = ℕ} 0 1 = cc in omega arith) }

module _ {w : Bool} {ns : List ℕ} {k : ℕ} (xs ys : List Pair) (s : PairSpace w ns k (xs ++ ys)) where
  pub space-front : PairSpace w ns k xs
  space-front = record { few = omega (arith, s.few, length-append xs ys); room = λ e. omega (arith, s.room e, length-append xs ys) }

  pub space-rest : (ns' : List ℕ) → length ns' ≡ length ns → PairSpace w ns' (k + length xs) ys
  space-rest ns' l =
      record { few = omega (arith, s.few, length-append xs ys); room = λ e. omega (arith, s.room e, length-append xs ys, l) }

pub gathers-append : {w : Bool} {ns ns1 ns2 : List ℕ} {k k1 k2 : ℕ} {xs ys : List Pair} → PairGathers w ns ns1 k k1 xs
    → PairGathers w ns1 ns2 k1 k2 ys → PairGathers w ns ns2 k k2 (xs ++ ys)
gathers-append {w} {ns} {k = k} {xs = xs} {ys = ys} a b = record {
  count = omega (arith, a.count, b.count, length-append xs ys);
  list = b.list ∙ rw (a.list, a.count) (sym (written-append w ns k xs ys));
}

pub gathers-length : {w : Bool} {ns ns1 : List ℕ} {k k1 : ℕ} {xs : List Pair} → PairGathers w ns ns1 k k1 xs → length ns1 ≡ length ns
gathers-length {w} {ns} {k = k} {xs = xs} g = ap (λ (zs : List ℕ). length zs) g.list ∙ length-written w ns k xs

pub gathers-space : {w : Bool} {ns ns1 : List ℕ} {k k1 : ℕ} (xs ys : List Pair) → PairSpace w ns k (xs ++ ys) → PairGathers w ns ns1 k k1 xs
    → PairSpace w ns1 k1 ys
gathers-space {w} {ns} {ns1} {k} {k1} xs ys s g = rw g.count (space-rest xs ys s ns1 (gathers-length g))

-- what a loop that gathers has: what is left of the whole, behind the first k, with the list as it is now
pub record PairGathering (w : Bool) (ns₀ ns : List ℕ) (k₀ k : ℕ) (whole left : List Pair) : Type 0 where
  pub count : k₀ + length whole ≡ k + length left
  pub list : written w ns₀ k₀ whole ≡ written w ns k left
  pub same : length ns ≡ length ns₀
  pub space : PairSpace w ns k left

pub gather-start : {w : Bool} {ns : List ℕ} {k : ℕ} {xs : List Pair} → PairSpace w ns k xs → PairGathering w ns ns k k xs xs
gather-start s = record { count = refl; list = refl; same = refl; space = s }

module _ {w : Bool} {ns₀ ns : List ℕ} {k₀ k : ℕ} {whole : List Pair} where
  -- the first of what is left is written
  pub gather-step : (xs ys : List Pair) → PairGathering w ns₀ ns k₀ k whole (xs ++ ys) → (ns' : List ℕ) (k' : ℕ)
      → PairGathers w ns ns' k k' xs → PairGathering w ns₀ ns' k₀ k' whole ys
  gather-step xs ys g ns' k' r = record {
    count = omega (arith, g.count, r.count, length-append xs ys);
    list = g.list ∙ written-append w ns k xs ys ∙ rw (r.list, r.count);
    same = gathers-length r ∙ g.same;
    space = gathers-space xs ys g.space r;
  }

  pub gather-same : {xs ys : List Pair} → xs ≡ ys → PairGathering w ns₀ ns k₀ k whole xs → PairGathering w ns₀ ns k₀ k whole ys
  gather-same e g = rw e at g

  pub gather-end : PairGathering w ns₀ ns k₀ k whole [] → PairGathers w ns₀ ns k₀ k whole
  gather-end g = record { count = omega (arith, g.count); list = sym (g.list ∙ written_none w ns k) }
