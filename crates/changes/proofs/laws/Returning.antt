-- Laws about changes/specs/Returning. Assumes nothing.
use Prim.Native.Nat.{ℕ, ◌+◌}
use native.Mathlib.Omega.{arith}
use mathlib.Core.Bool.{Bool, true, false, not}
use mathlib.Core.Path.{◌≡◌, refl, ap, ap₂, sym, ◌∙◌}
use mathlib.Core.List.{List, [], ◌∷◌}
use Rattle.model.specs.Store.{next}
use Rattle.model.specs.Walk.{settings}
use Rattle.model.specs.Layout.{read_header, decode}
use Rattle.model.specs.Judged.{judged}
use Rattle.model.specs.declared.Header.{Header}
use Rattle.model.specs.declared.Limits.{Limits}
use Rattle.model.specs.Limits.{Edition}
use Rattle.model.specs.Calls.{rule, first_of, beyond}
use Rattle.model.specs.Lent.{Outcome, leaving, left_by, return_lent}
use Rattle.model.specs.Differ.{differ}
use Rattle.model.specs.Return.{Came, carried, or_abandoned, unless, returned}
use Rattle.model.proofs.sound.ByRule.{kept_of}
use Rattle.back.specs.Going.{Going}
use Rattle.reads.specs.Guard.{guarded}
use Rattle.reads.proofs.laws.Guard.{chain-number, by-guard, guard-sound, guard-chain}
use Rattle.changes.proofs.laws.Turning.{Goes, refused-so, done-so, current-in, flag, beyond-of}
use Rattle.changes.specs.Returning.{returning}

-- by what its tests come to
abbrev two : Bool → Bool → ℕ
two x y = first_of (rule 6 x ∷ rule 7 (not y) ∷ [])

module _ (least : ℕ) (b : List ℕ) (v : ℕ) where
  -- what both passes come to
  abbrev came : Came
  came =
      or_abandoned (carried least (differ (settings (decode least b) (next (decode least b))) (settings (decode least b) v))
      (decode least b))

  return-guard : Goes least b (return_lent least b v) (returning v) (left_by least b came)
  unfolding return_lent returned
  return-guard = by-guard least b (returning v) {A = Outcome} (λ n. leaving n b) (λ (k : ℕ). left_by least b (unless k came)) (λ n. refl)

  module _ (n : ℕ) (e : n ≡ guarded least b (returning v)) where
    pub return_refused : (n ≡ 0 → ⊥) → leaving n b ≡ return_lent least b v
    return_refused z = refused-so least b (return_lent least b v) (returning v) (left_by least b came) return-guard n e z

    pub return-done : n ≡ 0 → (w : ℕ) → w ≡ next (decode least b) → (r : ℕ) (b' : List ℕ)
        → r ≡ (left_by least b
        (or_abandoned (carried least (differ (settings (decode least b) w) (settings (decode least b) v)) (decode least b)))).number
        → b' ≡ (left_by least b
        (or_abandoned (carried least (differ (settings (decode least b) w) (settings (decode least b) v)) (decode least b)))).store
        → leaving r b' ≡ return_lent least b v
    return-done z w q r b' x y =
        ap₂ leaving x y
        ∙ ap (λ (u : ℕ). left_by least b
        (or_abandoned (carried least (differ (settings (decode least b) u) (settings (decode least b) v)) (decode least b)))) q
        ∙ done-so least b (return_lent least b v) (returning v) (left_by least b came) return-guard n e z

  -- what the guard gives
  module _ (j : (judged least b).number ≡ 0) (h : Header) (e : h ≡ read_header least b) where
    chain : (x y : Bool) → beyond h.current h.oldest v ≡ x → (decode least b).opened ≡ y → two x y ≡ guarded least b (returning v)
    chain x y f o = sym (ap₂ two (beyond-of least b j h e v ∙ f) o) ∙ chain-number least b (returning v) j

    pub gives-six : beyond h.current h.oldest v ≡ true → 6 ≡ guarded least b (returning v)
    gives-six f = chain true (decode least b).opened f refl

    pub gives-seven : beyond h.current h.oldest v ≡ false → h.opened ≡ false → 7 ≡ guarded least b (returning v)
    gives-seven f o = chain false false f (flag least b j h e false o)

    pub gives_none : beyond h.current h.oldest v ≡ false → h.opened ≡ true → 0 ≡ guarded least b (returning v)
    gives_none f o = chain false true f (flag least b j h e true o)

-- what the guard's 0 says
none-holds : (x y : Bool) → two x y ≡ 0 → (x ≡ false) × (y ≡ true)
none-holds true y e = absurd (omega arith)
none-holds false false e = absurd (omega arith)
none-holds false true e = (refl, refl)

pub goes_back : {l : Limits} → Edition l → (b : List ℕ) (v : ℕ) → guarded l.least b (returning v) ≡ 0 → (h : Header)
    → h ≡ read_header l.least b → Going l b v (h.current + 1)
goes_back {l} d b v z h e =
    let (p, q) = none-holds (beyond (decode l.least b).current (decode l.least b).oldest v) (decode l.least b).opened
    (guard-chain l.least b (returning v) z) in
    record {
      edition = d;
      sound = guard-sound l.least b (returning v) z;
      opened = q;
      old = kept_of (decode l.least b) v p;
      is-next = omega (arith, current-in l.least b, ap (λ (y : Header). y.current) e);
    }
