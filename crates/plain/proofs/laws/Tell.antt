-- Laws about plain/specs/Tell. Assumes nothing.
use Prim.Native.Nat.{ℕ, zero, suc, ◌+◌, ◌*◌, ◌-◌, ◌^◌, ◌≤◌, ◌<◌}
use native.Mathlib.Omega.{arith}
use mathlib.Core.Bool.{Bool, true, false, ◌||◌}
use mathlib.Core.Option.{Option, none, some}
use mathlib.Core.Path.{◌≡◌, refl, ap, ap₂, sym, ◌∙◌}
use mathlib.Core.List.{List, [], ◌∷◌, ◌++◌, append_assoc}
use lib.Dec.{leb, ltb, eqb}
use lib.Seq.{sets, sets-eq, drop-drop}
use borrow.Rule.Slice.PartMut.{put_mid}
use lib.ListN.{length, take, drop, length-append}
use borrow.Author.Tests.{leb-false, ltb-false}
use Rattle.model.specs.Basic.{pick, flat_map, count}
use Rattle.model.specs.declared.Pair.{Pair}
use Rattle.model.specs.declared.Entry.{Entry}
use Rattle.model.specs.declared.Delta.{Delta}
use Rattle.model.specs.Walk.{key_limit}
use Rattle.model.specs.Calls.{rule, first_of, pair_numbers, ranged_in, ranged_by, bad_range}
use Rattle.model.specs.Told.{told_in, told_by}
use Rattle.model.specs.Differ.{delta_numbers, says_of}
use Rattle.model.specs.Lent.{Listed, listed}
use Rattle.model.specs.Telling.{Shape, written}
use Rattle.model.proofs.reading.Telling.{write-one, write-not}
use Rattle.model.proofs.lists.Members.{neither}
use Rattle.plain.specs.Plain.{Plain, unreadable, value_at, setting, settings, keys, differs, range, difference}
use Rattle.plain.specs.Scan.{SkipsKeys}
use Rattle.plain.proofs.laws.Scan.{told, told-end, told-step, told-skip, saying, keys-limit}

-- ---- laws

-- one thing's numbers, written or not
pub put-one : {A : Type 0} (t : Shape A) (w : Bool) (ns : List ℕ) (k : ℕ) (x : A)
    → pick w (sets ns (t.each * k) (t.numbers x)) ns ≡ written t w ns k (x ∷ [])
put-one t true ns k x = write-one t ns k x
put-one t false ns k x = sym (write-not t ns k (x ∷ []))

-- a part of a list, written over
pub mid-sets : (ns vs : List ℕ) (i k : ℕ) → length vs ≡ k → i + k ≤ length ns → put_mid i k ns vs ≡ sets ns i vs
mid-sets ns vs i k e h =
    ap (λ (us : List ℕ). take i ns ++ (vs ++ us)) (drop-drop k i ns)
    ∙ ap (λ (n : ℕ). take i ns ++ (vs ++ drop (i + n) ns)) (sym e)
    ∙ sym (append_assoc (take i ns) vs (drop (i + length vs) ns)) ∙ sym (sets-eq vs ns i (omega (arith, e)))

-- the settings from key a on
abbrev pub showing : ℕ → List Entry → ℕ → List Pair
showing v es k = setting k (value_at k v es)

pub showing-skip : (a r hi v : ℕ) (es : List Entry) → SkipsKeys a r v v es → told (showing v es) a (suc hi) ≡ told (showing v es) r (suc hi)
showing-skip a r hi v es s = told-skip (showing v es) a r (suc hi) s.behind (λ k x y. ap (setting k) (s.old k x y))

pub showing-step : (k hi v : ℕ) (es : List Entry) → k ≤ hi → {o : Option ℕ} → o ≡ value_at k v es
    → told (showing v es) k (suc hi) ≡ setting k o ++ told (showing v es) (k + 1) (suc hi)
showing-step k hi v es h e =
    told-step (showing v es) k (suc hi) (omega arith)
    ∙ ap (λ (x : Option ℕ). setting k x ++ told (showing v es) (k + 1) (suc hi)) (sym e)

pub showing-end : (k hi v : ℕ) (es : List Entry) → hi < k → told (showing v es) k (suc hi) ≡ []
showing-end k hi v es h = told-end (showing v es) k (suc hi) h

pub saying-step : (k u v : ℕ) (es : List Entry) → k < key_limit → {o p : Option ℕ} → o ≡ value_at k u es → p ≡ value_at k v es
    → told (saying u v es) k keys ≡ says_of k o p ++ told (saying u v es) (k + 1) keys
saying-step k u v es h e f =
    told-step (saying u v es) k keys (omega (arith, h, keys-limit))
    ∙ ap₂ (λ (x y : Option ℕ). says_of k x y ++ told (saying u v es) (k + 1) keys) (sym e) (sym f)

-- at most one for each key
few : {A : Type 0} (f : ℕ → List A) → ((k : ℕ) → length (f k) ≤ 1) → (n a : ℕ) → length (flat_map f (count a n)) ≤ n
few f h zero a = omega arith
few f h (suc n) a = omega (arith, length-append (f a) (flat_map f (count (suc a) n)), h a, few f h n (suc a))

pub settings-few : (lo hi v : ℕ) (es : List Entry) → hi < key_limit → length (settings lo hi v es) ≤ 2 ^ 40
settings-few lo hi v es h = omega (arith, few (showing v es) (λ k. one k (value_at k v es)) (suc hi - lo) lo)
  where
    one : (k : ℕ) (o : Option ℕ) → length (setting k o) ≤ 1
    one k none = omega arith
    one k (some x) = omega arith

says-one : (k : ℕ) (o p : Option ℕ) → length (says_of k o p) ≤ 1
says-one k none none = omega arith
says-one k none (some y) = omega arith
says-one k (some x) none = omega arith
says-one k (some x) (some y) = at (eqb x y)
  where
    at : (b : Bool) → length {A = Delta} (pick b [] (record { key = k; kind = 2; old = x; new = y } ∷ [])) ≤ 1
    at true = omega arith
    at false = omega arith

pub differs-few : (u v : ℕ) (es : List Entry) → length (differs u v es) ≤ 2 ^ 40
differs-few u v es =
    let most : length (differs u v es) ≤ keys = few (saying u v es) (λ k. says-one k (value_at k u es) (value_at k v es)) keys 0 in
    omega (arith, most, keys-limit)

ranged-told : (n room : ℕ) (us : List Pair) → ranged_by n room us ≡ told_by pair_numbers 2 n room us
unfolding ranged_by told_by ranged_in told_in
ranged-told zero room us = at (first_of (rule 14 (ltb room (2 * length us)) ∷ []))
  where
    at : (m : ℕ) → ranged_in m us ≡ told_in pair_numbers m us
    at zero = refl
    at (suc m) = refl
ranged-told (suc n) room us = refl

-- ---- the calls

module _ (p : Plain) (lo hi v : ℕ) (ns : List ℕ) where
  abbrev ranging : ℕ → Listed
  ranging n = listed ns (ranged_by n (length ns) (settings lo hi v p.items))

  pub range-five : bad_range lo hi ≡ true → record { number = 5; count = 0; list = ns } ≡ listed ns (range p lo hi v (length ns))
  unfolding range ranged_by
  range-five h = ap (λ (b : Bool). ranging (first_of (rule 5 b ∷ rule 6 (unreadable p v) ∷ []))) (sym h)

  pub range-six : bad_range lo hi ≡ false → unreadable p v ≡ true
      → record { number = 6; count = 0; list = ns } ≡ listed ns (range p lo hi v (length ns))
  unfolding range ranged_by
  range-six h i = ap₂ (λ (b c : Bool). ranging (first_of (rule 5 b ∷ rule 6 c ∷ []))) (sym h) (sym i)

  pub range-done : bad_range lo hi ≡ false → unreadable p v ≡ false
      → listed ns (told_by pair_numbers 2 0 (length ns) (settings lo hi v p.items)) ≡ listed ns (range p lo hi v (length ns))
  unfolding range
  range-done h i =
      sym (ap (listed ns) (ranged-told 0 (length ns) (settings lo hi v p.items)))
      ∙ ap₂ (λ (b c : Bool). ranging (first_of (rule 5 b ∷ rule 6 c ∷ []))) (sym h) (sym i)

module _ (p : Plain) (u v : ℕ) (ns : List ℕ) where
  abbrev differing : ℕ → Listed
  differing n = listed ns (told_by delta_numbers 4 n (length ns) (differs u v p.items))

  pub difference-old : unreadable p u ≡ true → record { number = 6; count = 0; list = ns } ≡ listed ns (difference p u v (length ns))
  unfolding difference told_by
  difference-old h = ap (λ (b : Bool). differing (first_of (rule 6 (b || unreadable p v) ∷ []))) (sym h)

  pub difference-new : unreadable p u ≡ false → unreadable p v ≡ true
      → record { number = 6; count = 0; list = ns } ≡ listed ns (difference p u v (length ns))
  unfolding difference told_by
  difference-new h i = ap₂ (λ (b c : Bool). differing (first_of (rule 6 (b || c) ∷ []))) (sym h) (sym i)

  pub difference-done : unreadable p u ≡ false → unreadable p v ≡ false → differing 0 ≡ listed ns (difference p u v (length ns))
  unfolding difference
  difference-done h i = ap₂ (λ (b c : Bool). differing (first_of (rule 6 (b || c) ∷ []))) (sym h) (sym i)

pub range-fits : (lo hi : ℕ) → bad_range lo hi ≡ false → (hi < key_limit) × (lo ≤ hi)
range-fits lo hi h =
    let f = neither (leb key_limit lo || leb key_limit hi) (ltb hi lo) h in
    let g = neither (leb key_limit lo) (leb key_limit hi) f.0 in
    (leb-false key_limit hi g.1, ltb-false hi lo f.1)
