-- Laws about reads/specs/Guard. Assumes nothing.
use Prim.Native.Nat.{ℕ, zero, suc, ◌<◌}
use native.Mathlib.Omega.{arith}
use mathlib.Core.Bool.{Bool, true, false}
use mathlib.Core.Path.{◌≡◌, refl, ap, sym, ◌∙◌}
use mathlib.Core.List.{List, [], ◌∷◌}
use borrow.Author.Tests.{eqb-true}
use Rattle.model.specs.declared.Limits.{Limits}
use Rattle.model.specs.Store.{Store}
use Rattle.model.specs.Layout.{decode}
use Rattle.model.specs.declared.refusal.Refusal.{Refusal}
use Rattle.model.specs.Refusals.{number_of}
use Rattle.model.specs.Judged.{judged, is_sound}
use Rattle.model.specs.Climb.{Result, refused}
use Rattle.model.specs.Calls.{Rule, first_of, numbered}
use Rattle.model.specs.Lent.{Outcome, left, judged_first, lent}
use Rattle.model.proofs.sound.Judging.{zero-sound}
use Rattle.store.proofs.laws.Refused.{refuses-some}
use Rattle.reads.specs.Guard.{guarded, Sure}

-- one that is not owes nothing
pub not-sure : (l : Limits) (b : List ℕ) → Sure l b false
not-sure l b h = absurd (let z : ◌≡◌ {A = ℕ} 0 1 = cc in omega arith)

-- ---- refused or not

pub refused-by {ℓ} : {A : Type ℓ} (n : ℕ) (refuse : ℕ → A) (go : A) → (n ≡ 0 → ⊥) → refuse n ≡ judged_first n refuse go
refused-by zero refuse go z = absurd (z refl)
refused-by (suc n) refuse go z = refl

pub goes_by {ℓ} : {A : Type ℓ} (n : ℕ) (refuse : ℕ → A) (go : A) → n ≡ 0 → go ≡ judged_first n refuse go
goes_by n refuse go z = sym (ap (λ (k : ℕ). judged_first k refuse go) z)

pub sound-zero : (least : ℕ) (b : List ℕ) → is_sound least b ≡ true → (judged least b).number ≡ 0
unfolding is_sound
sound-zero least b h = eqb-true (judged least b).number 0 h

module _ (least : ℕ) (b : List ℕ) (rules : Store → List Rule) where
  -- the guard as the code has it: a number of check's that is not 0, else the chain
  pub judged-number : ((judged least b).number ≡ 0 → ⊥) → (judged least b).number ≡ guarded least b rules
  unfolding guarded
  judged-number z = refused-by (judged least b).number (λ n. n) (first_of (rules (decode least b))) z

  pub judge-refused : (x : Refusal) → number_of x ≡ (judged least b).number → number_of x ≡ guarded least b rules
  judge-refused x e = e ∙ judged-number (λ z. refuses-some x (e ∙ z))

  pub chain-number : (judged least b).number ≡ 0 → first_of (rules (decode least b)) ≡ guarded least b rules
  unfolding guarded
  chain-number z = goes_by (judged least b).number (λ n. n) (first_of (rules (decode least b))) z

  -- a call that judges first and then goes by its chain is a call that goes by its guard
  pub by-guard {ℓ} : {A : Type ℓ} (refuse : ℕ → A) (go : ℕ → A) → ((n : ℕ) → go (suc n) ≡ refuse (suc n))
      → judged_first (judged least b).number refuse (go (first_of (rules (decode least b))))
      ≡ judged_first (guarded least b rules) refuse (go 0)
  unfolding guarded
  by-guard {A} refuse go same = at (judged least b).number (first_of (rules (decode least b)))
    where
      at : (m k : ℕ) → judged_first m refuse (go k) ≡ judged_first (judged_first m (λ n. n) k) refuse (go 0)
      at (suc m) k = refl
      at zero zero = refl
      at zero (suc k) = same k

  -- 0: the store is sound, and no rule of the chain holds
  at_zero : (m k : ℕ) → judged_first m (λ n. n) k ≡ 0 → (m ≡ 0) × (k ≡ 0)
  at_zero zero k e = (refl, e)
  at_zero (suc m) k e = absurd (omega arith)

  pub guard-sound : guarded least b rules ≡ 0 → is_sound least b ≡ true
  unfolding guarded
  guard-sound e = zero-sound least b (at_zero (judged least b).number (first_of (rules (decode least b))) e).0

  pub guard-chain : guarded least b rules ≡ 0 → first_of (rules (decode least b)) ≡ 0
  unfolding guarded
  guard-chain e = (at_zero (judged least b).number (first_of (rules (decode least b))) e).1

-- ---- the chain of a call that may change the store

-- a chain's number taken before a result
abbrev pub unless : ℕ → Result → Result
unless zero r = r
unless (suc n) r = refused (suc n)

-- each rule of a chain has a number
abbrev pub Numbered : List Rule → Type 0
Numbered [] = Unit {0}
Numbered (x ∷ xs) = (0 < x.number) × Numbered xs

chain-result : (rs : List Rule) (r : Result) → Numbered rs → numbered rs r ≡ unless (first_of rs) r
chain-result [] r n = refl
chain-result (x ∷ xs) r n = at x.number x.holds n.0 (chain-result xs r n.1)
  where
    at : (m : ℕ) (h : Bool) → 0 < m → numbered xs r ≡ unless (first_of xs) r
        → ◌≡◌ {A = Result} (elim h [ true ↦ refused m | false ↦ numbered xs r ]) (unless (elim h [ true ↦ m | false ↦ first_of xs ]) r)
    at zero h p ih = absurd (omega arith)
    at (suc m) true p ih = refl
    at (suc m) false p ih = ih

-- the call goes by its guard
pub lent-guard : (least : ℕ) (b : List ℕ) (rules : Store → List Rule) (f to : Store → Result) → Numbered (rules (decode least b))
    → f (decode least b) ≡ numbered (rules (decode least b)) (to (decode least b))
    → lent least f b ≡ judged_first (guarded least b rules) (λ n. record { number = n; store = b }) (left least b (to (decode least b)))
unfolding lent
lent-guard least b rules f to n e =
    ap (λ (r : Result). judged_first (judged least b).number (λ k. record { number = k; store = b }) (left least b r))
    (e ∙ chain-result (rules (decode least b)) (to (decode least b)) n)
    ∙ by-guard least b rules {A = Outcome} (λ k. record { number = k; store = b })
    (λ (k : ℕ). left least b (unless k (to (decode least b)))) (λ k. refl)
