-- Laws about changes/specs/Pruning. Assumes nothing.
use Prim.Native.Nat.{ℕ, ◌≤◌, ◌<◌}
use native.Mathlib.Omega.{arith}
use mathlib.Core.Bool.{Bool, true, false}
use mathlib.Core.Path.{◌≡◌, refl, ap, ap₂, sym, ◌∙◌}
use mathlib.Core.List.{List, [], ◌∷◌}
use borrow.Author.Tests.{le-leb, lt-leb}
use Rattle.model.specs.Basic.{pick}
use Rattle.model.specs.Store.{Store}
use Rattle.model.specs.Layout.{read_header, decode, encode}
use Rattle.model.specs.Judged.{judged}
use Rattle.model.specs.declared.Header.{Header}
use Rattle.model.specs.Climb.{done}
use Rattle.model.specs.Calls.{rule, numbered, first_of, beyond, pruned, prune}
use Rattle.model.specs.Lent.{leaving, lent, prune_lent}
use Rattle.model.proofs.sound.ByRule.{kept_of}
use Rattle.reads.specs.Guard.{guarded}
use Rattle.reads.proofs.laws.Guard.{chain-number, lent-guard, guard-chain}
use Rattle.changes.proofs.laws.Turning.{Goes, refused-so, done-so, flag, beyond-of}
use Rattle.changes.specs.Pruning.{pruning}

-- by what its tests come to
abbrev two : Bool → Bool → ℕ
two x y = first_of (rule 6 x ∷ rule 8 y ∷ [])

module _ (least : ℕ) (b : List ℕ) (v : ℕ) where
  -- edition 1
  pub prune-first : least ≤ 4 → leaving 3 b ≡ prune_lent least b v
  unfolding prune_lent
  prune-first h = sym (ap (λ (x : Bool). pick x (leaving 3 b) (lent least (λ (s : Store). prune least s v) b)) (le-leb least 4 h))

  module _ (h : 4 < least) where
    so : prune least (decode least b) v ≡ numbered (pruning v (decode least b)) (done (pruned (decode least b) v))
    unfolding prune
    so = ap (λ (x : Bool). numbered (rule 3 x ∷ pruning v (decode least b)) (done (pruned (decode least b) v))) (lt-leb least 4 h)

    prune-guard : Goes least b (prune_lent least b v) (pruning v) (leaving 0 (encode least (pruned (decode least b) v)))
    unfolding prune_lent
    prune-guard =
        ap (λ (x : Bool). pick x (leaving 3 b) (lent least (λ (s : Store). prune least s v) b)) (lt-leb least 4 h)
        ∙ lent-guard least b (pruning v) (λ (s : Store). prune least s v) (λ (s : Store). done (pruned s v))
        (omega arith, (omega arith, tt)) so

    -- by the number that the guard gave
    module _ (n : ℕ) (e : n ≡ guarded least b (pruning v)) where
      pub prune-refused : (n ≡ 0 → ⊥) → leaving n b ≡ prune_lent least b v
      prune-refused z =
          refused-so least b (prune_lent least b v) (pruning v) (leaving 0 (encode least (pruned (decode least b) v))) prune-guard n e z

      pub prune-done : n ≡ 0 → (b' : List ℕ) → b' ≡ encode least (pruned (decode least b) v) → leaving 0 b' ≡ prune_lent least b v
      prune-done z b' f =
          ap (leaving 0) f ∙ done-so least b (prune_lent least b v) (pruning v)
          (leaving 0 (encode least (pruned (decode least b) v))) prune-guard n e z

  -- what the guard gives
  module _ (j : (judged least b).number ≡ 0) (h : Header) (e : h ≡ read_header least b) where
    chain : (x y : Bool) → beyond h.current h.oldest v ≡ x → (decode least b).opened ≡ y → two x y ≡ guarded least b (pruning v)
    chain x y f o = sym (ap₂ two (beyond-of least b j h e v ∙ f) o) ∙ chain-number least b (pruning v) j

    pub gives-six : beyond h.current h.oldest v ≡ true → 6 ≡ guarded least b (pruning v)
    gives-six f = chain true (decode least b).opened f refl

    pub gives-eight : beyond h.current h.oldest v ≡ false → h.opened ≡ true → 8 ≡ guarded least b (pruning v)
    gives-eight f o = chain false true f (flag least b j h e true o)

    pub gives_none : beyond h.current h.oldest v ≡ false → h.opened ≡ false → 0 ≡ guarded least b (pruning v)
    gives_none f o = chain false false f (flag least b j h e false o)

  -- what the guard's 0 says
  none-holds : (x y : Bool) → two x y ≡ 0 → x ≡ false
  none-holds true y e = absurd (omega arith)
  none-holds false y e = refl

  pub upto-current : guarded least b (pruning v) ≡ 0 → v ≤ (decode least b).current
  upto-current z =
      (kept_of (decode least b) v
      (none-holds (beyond (decode least b).current (decode least b).oldest v) (decode least b).opened
      (guard-chain least b (pruning v) z))).upto
