-- What a call that tells (specs/Told) leaves in the caller's list, for things of any kind: they are counted first, and written in a second
-- pass, one behind the other.
-- Assumes nothing.
use Prim.Native.Nat.{ℕ, ◌+◌, ◌*◌, ◌^◌, ◌≤◌, ◌<◌}
use native.Mathlib.Omega.{arith}
use native.Mathlib.Nat.{mul-add, mul-suc, mul-zero}
use mathlib.Core.Bool.{Bool, true, false}
use mathlib.Core.Path.{◌≡◌, refl, ap, sym, ◌∙◌}
use mathlib.Core.List.{List, [], ◌∷◌, ◌++◌, append-nil}
use lib.ListN.{length, drop, length-append}
use lib.Seq.{sets, length-sets, sets-eq}
use borrow.Author.Tests.{lt-ltb, le-ltb}
use Rattle.model.specs.Calls.{rule, first_of}
use Rattle.model.specs.Told.{told_in, told_by}
use Rattle.model.specs.Telling.{Shape, all_numbers, written, Space, Gathers}
use Rattle.model.specs.Lent.{listed}
use Rattle.model.proofs.lists.Lists.{flat_append, sets-append}

module _ {A : Type 0} (t : Shape A) where
  -- what a loop that gathers has: what is left of the whole, behind the first k, with the list as it is now
  pub record Gathering (w : Bool) (ns₀ ns : List ℕ) (k₀ k : ℕ) (whole left : List A) : Type 0 where
    pub count : k₀ + length whole ≡ k + length left
    pub list : written t w ns₀ k₀ whole ≡ written t w ns k left
    pub same : length ns ≡ length ns₀
    pub space : Space t w ns k left

  pub length-numbers : (xs : List A) → length (all_numbers t xs) ≡ t.each * length xs
  length-numbers [] = sym (mul-zero t.each)
  length-numbers (x ∷ xs) =
      omega (arith, length-append (t.numbers x) (all_numbers t xs), length-numbers xs, t.size x, mul-suc t.each (length xs))

  pub written_none : (w : Bool) (ns : List ℕ) (k : ℕ) → written t w ns k [] ≡ ns
  unfolding written
  written_none true ns k = refl
  written_none false ns k = refl

  written-append : (w : Bool) (ns : List ℕ) (k : ℕ) (xs ys : List A)
      → written t w ns k (xs ++ ys) ≡ written t w (written t w ns k xs) (k + length xs) ys
  unfolding written
  written-append true ns k xs ys =
      let e : t.each * k + length (all_numbers t xs) ≡ t.each * (k + length xs)
      = omega (arith, length-numbers xs, mul-add t.each k (length xs)) in
      ap (sets ns (t.each * k)) (flat_append t.numbers xs ys) ∙ sets-append ns (t.each * k) (all_numbers t xs) (all_numbers t ys)
      ∙ ap (λ (i : ℕ). sets (sets ns (t.each * k) (all_numbers t xs)) i (all_numbers t ys)) e
  written-append false ns k xs ys = refl

  length-written : (w : Bool) (ns : List ℕ) (k : ℕ) (xs : List A) → length (written t w ns k xs) ≡ length ns
  unfolding written
  length-written true ns k xs = length-sets ns (t.each * k) (all_numbers t xs)
  length-written false ns k xs = refl

  -- ---- one thing, or none

  pub write-one : (ns : List ℕ) (k : ℕ) (x : A) → sets ns (t.each * k) (t.numbers x) ≡ written t true ns k (x ∷ [])
  unfolding written
  write-one ns k x = ap (sets ns (t.each * k)) (sym (append-nil (t.numbers x)))

  pub write-not : (ns : List ℕ) (k : ℕ) (xs : List A) → written t false ns k xs ≡ ns
  unfolding written
  write-not ns k xs = refl

  -- ---- a loop that gathers

  -- where things are only counted no room is wanted
  pub none-room : {ns : List ℕ} {xs : List A} → length xs ≤ 2 ^ 40 → Space t false ns 0 xs
  none-room h = record { few = omega arith; room = λ e. absurd (let z : ◌≡◌ {A = ℕ} 0 1 = cc in omega arith) }

  module _ {w : Bool} {ns : List ℕ} {k : ℕ} (xs ys : List A) (s : Space t w ns k (xs ++ ys)) where
    pub space-front : Space t w ns k xs
    space-front = record {
      few = omega (arith, s.few, length-append xs ys);
      room = λ e. omega (
        arith,
        s.room e,
        length-append xs ys,
        mul-add t.each k (length (xs ++ ys)),
        mul-add t.each k (length xs),
        more,
      );
    }
      where
        more : t.each * length (xs ++ ys) ≡ t.each * length xs + t.each * length ys
        more = ap (λ (n : ℕ). t.each * n) (length-append xs ys) ∙ mul-add t.each (length xs) (length ys)

    space-rest : (ns' : List ℕ) → length ns' ≡ length ns → Space t w ns' (k + length xs) ys
    space-rest ns' l =
        let e : k + length (xs ++ ys) ≡ k + length xs + length ys = omega (arith, length-append xs ys) in
        record { few = omega (arith, s.few, length-append xs ys); room = λ z. omega (arith, rw e at (s.room z), l) }

  gathers-length : {w : Bool} {ns ns1 : List ℕ} {k k1 : ℕ} {xs : List A} → Gathers t w ns ns1 k k1 xs → length ns1 ≡ length ns
  gathers-length {w} {ns} {k = k} {xs = xs} g = ap (λ (zs : List ℕ). length zs) g.list ∙ length-written w ns k xs

  pub gather-start : {w : Bool} {ns : List ℕ} {k : ℕ} {xs : List A} → Space t w ns k xs → Gathering w ns ns k k xs xs
  gather-start s = record { count = refl; list = refl; same = refl; space = s }

  module _ {w : Bool} {ns₀ ns : List ℕ} {k₀ k : ℕ} {whole : List A} where
    -- the first of what is left is written
    pub gather-step : (xs ys : List A) → Gathering w ns₀ ns k₀ k whole (xs ++ ys) → (ns' : List ℕ) (k' : ℕ) → Gathers t w ns ns' k k' xs
        → Gathering w ns₀ ns' k₀ k' whole ys
    gather-step xs ys g ns' k' r = record {
      count = omega (arith, g.count, r.count, length-append xs ys);
      list = g.list ∙ written-append w ns k xs ys ∙ rw (r.list, r.count);
      same = gathers-length r ∙ g.same;
      space = rw r.count (space-rest xs ys g.space ns' (gathers-length r));
    }

    pub gather-same : {xs ys : List A} → xs ≡ ys → Gathering w ns₀ ns k₀ k whole xs → Gathering w ns₀ ns k₀ k whole ys
    gather-same e g = rw e at g

    pub gather-end : Gathering w ns₀ ns k₀ k whole [] → Gathers t w ns₀ ns k₀ k whole
    gather-end g = record { count = omega (arith, g.count); list = sym (g.list ∙ written_none w ns k) }

  -- ---- counted, then written

  written_all : (ns : List ℕ) (xs : List A) → t.each * length xs ≤ length ns
      → written t true ns 0 xs ≡ all_numbers t xs ++ drop (length (all_numbers t xs)) ns
  unfolding written
  written_all ns xs h =
      let z : t.each * 0 ≡ 0 = mul-zero t.each in
      let e : 0 + length (all_numbers t xs) ≡ length (all_numbers t xs) = omega arith in
      rw z (sets-eq (all_numbers t xs) ns 0 (omega (arith, length-numbers xs)) ∙ ap (λ (i : ℕ). all_numbers t xs ++ drop i ns) e)

  module _ {ns ns1 : List ℕ} {r : ℕ} {xs : List A} (g : Gathers t false ns ns1 0 r xs) where
    pub counted : r ≡ length xs
    counted = omega (arith, g.count)

    untouched : ns1 ≡ ns
    untouched = g.list ∙ write-not ns 0 xs

    -- "14 is given when the list holds fewer": nothing is written
    pub told-short : length ns1 < t.each * r → record { number = 14; count = r; list = ns1 }
        ≡ listed ns (told_by t.numbers t.each 0 (length ns) xs)
    unfolding told_in told_by
    told-short h =
        let e : length ns < t.each * length xs = rw (counted, untouched) at h in
        rw (counted, untouched)
        (sym (ap (λ (b : Bool). listed ns (told_in t.numbers (first_of (rule 14 b ∷ [])) xs))
        (lt-ltb (length ns) (t.each * length xs) e)))

    module _ (h : t.each * r ≤ length ns1) where
      pub second-space : length xs ≤ 2 ^ 40 → Space t true ns1 0 xs
      second-space few = let e : 0 + length xs ≡ r = omega (arith, counted) in record { few = omega arith; room = λ z. rw e h }

      pub told-all : {ns2 : List ℕ} {r2 : ℕ} → Gathers t true ns1 ns2 0 r2 xs
          → record { number = 0; count = r; list = ns2 } ≡ listed ns (told_by t.numbers t.each 0 (length ns) xs)
      unfolding told_in told_by
      told-all {ns2} k =
          let room : t.each * length xs ≤ length ns = rw (counted, untouched) at h in
          let e : ns2 ≡ all_numbers t xs ++ drop (length (all_numbers t xs)) ns = k.list
          ∙ ap (λ (ms : List ℕ). written t true ms 0 xs) untouched ∙ written_all ns xs room in
          rw (counted, e)
          (sym (ap (λ (b : Bool). listed ns (told_in t.numbers (first_of (rule 14 b ∷ [])) xs))
          (le-ltb (length ns) (t.each * length xs) room)))
