-- Laws about changes/specs/Turning. Assumes nothing.
use Prim.Native.Nat.{ℕ, ◌≤◌, ◌<◌}
use native.Mathlib.Omega.{arith}
use mathlib.Core.Bool.{Bool, true, false, not}
use mathlib.Core.Path.{◌≡◌, refl, ap, ap₂, sym, ◌∙◌}
use mathlib.Core.List.{List, [], ◌∷◌}
use lib.Dec.{leb}
use borrow.Author.Tests.{le-leb, lt-leb}
use Rattle.model.specs.declared.Header.{Header}
use Rattle.model.specs.Store.{Store}
use Rattle.model.specs.Layout.{read_header, decode, encode}
use Rattle.model.specs.Judged.{judged}
use Rattle.model.specs.Climb.{done}
use Rattle.model.specs.Calls.{Rule, rule, first_of, beyond, begin, committed, commit, abandon, abandoned}
use Rattle.model.specs.Lent.{Outcome, leaving, judged_first, open_lent, commit_lent, abandon_lent}
use Rattle.turn.specs.Turned.{begun}
use Rattle.reads.specs.Guard.{guarded}
use Rattle.reads.proofs.laws.Guard.{refused-by, goes_by, chain-number, lent-guard, guard-chain}
use Rattle.changes.specs.Turning.{opening, closing, committing}

module _ (least : ℕ) (b : List ℕ) where
  -- a call that is its guard, and then comes to an outcome
  abbrev pub Goes : Outcome → (Store → List Rule) → Outcome → Type 0
  Goes call rules out = call ≡ judged_first (guarded least b rules) (λ n. leaving n b) out

  -- that is to leave the store t
  abbrev leaves : Store → Outcome
  leaves t = leaving 0 (encode least t)

  open-guard : Goes (open_lent least b) opening (leaves (begun (decode least b)))
  unfolding open_lent begin
  open-guard = lent-guard least b opening begin (λ (s : Store). done (begun s)) (omega arith, (omega arith, tt)) refl

  commit-guard : Goes (commit_lent least b) committing (leaves (committed (decode least b)))
  unfolding commit_lent commit
  commit-guard = lent-guard least b committing commit (λ (s : Store). done (committed s)) (omega arith, (omega arith, tt)) refl

  abandon-guard : Goes (abandon_lent least b) closing (leaves (abandoned (decode least b)))
  unfolding abandon_lent abandon
  abandon-guard = lent-guard least b closing abandon (λ (s : Store). done (abandoned s)) (omega arith, tt) refl

  -- by the number that the guard gave
  module _ (call : Outcome) (rules : Store → List Rule) (out : Outcome) (g : Goes call rules out) (n : ℕ)
      (e : n ≡ guarded least b rules) where
    by_number : judged_first n (λ m. leaving m b) out ≡ call
    by_number = rw e (sym g)

    pub refused-so : (n ≡ 0 → ⊥) → leaving n b ≡ call
    refused-so z = refused-by n (λ m. leaving m b) out z ∙ by_number

    pub done-so : n ≡ 0 → out ≡ call
    done-so z = goes_by n (λ m. leaving m b) out z ∙ by_number

  module _ (n : ℕ) where
    pub open-refused : n ≡ guarded least b opening → (n ≡ 0 → ⊥) → leaving n b ≡ open_lent least b
    open-refused e z = refused-so (open_lent least b) opening (leaves (begun (decode least b))) open-guard n e z

    pub open_done : n ≡ guarded least b opening → n ≡ 0 → (b' : List ℕ) → b' ≡ encode least (begun (decode least b))
        → leaving 0 b' ≡ open_lent least b
    open_done e z b' f = ap (leaving 0) f ∙ done-so (open_lent least b) opening (leaves (begun (decode least b))) open-guard n e z

    pub commit-refused : n ≡ guarded least b committing → (n ≡ 0 → ⊥) → leaving n b ≡ commit_lent least b
    commit-refused e z = refused-so (commit_lent least b) committing (leaves (committed (decode least b))) commit-guard n e z

    pub commit-done : n ≡ guarded least b committing → n ≡ 0 → (b' : List ℕ) → b' ≡ encode least (committed (decode least b))
        → leaving 0 b' ≡ commit_lent least b
    commit-done e z b' f =
        ap (leaving 0) f ∙ done-so (commit_lent least b) committing (leaves (committed (decode least b))) commit-guard n e z

    pub abandon-refused : n ≡ guarded least b closing → (n ≡ 0 → ⊥) → leaving n b ≡ abandon_lent least b
    abandon-refused e z = refused-so (abandon_lent least b) closing (leaves (abandoned (decode least b))) abandon-guard n e z

    pub abandon-done : n ≡ guarded least b closing → n ≡ 0 → (b' : List ℕ) → b' ≡ encode least (abandoned (decode least b))
        → leaving 0 b' ≡ abandon_lent least b
    abandon-done e z b' f =
        ap (leaving 0) f ∙ done-so (abandon_lent least b) closing (leaves (abandoned (decode least b))) abandon-guard n e z

  -- ---- what the guards give

  opened_in : (decode least b).opened ≡ (read_header least b).opened
  unfolding decode
  opened_in = refl

  pub current-in : (decode least b).current ≡ (read_header least b).current
  unfolding decode
  current-in = refl

  module _ (j : (judged least b).number ≡ 0) (h : Header) (e : h ≡ read_header least b) where
    pub flag : (x : Bool) → h.opened ≡ x → (decode least b).opened ≡ x
    flag x f = opened_in ∙ sym (ap (λ (y : Header). y.opened) e) ∙ f

    pub version : (decode least b).current ≡ h.current
    version = current-in ∙ sym (ap (λ (y : Header). y.current) e)

    pub beyond-of : (v : ℕ) → beyond (decode least b).current (decode least b).oldest v ≡ beyond h.current h.oldest v
    unfolding decode
    beyond-of v = sym (ap (λ (y : Header). beyond y.current y.oldest v) e)

    abbrev two : Bool → Bool → ℕ
    two x y = first_of (rule 8 x ∷ rule 9 y ∷ [])

    pub gives-eight : h.opened ≡ true → 8 ≡ guarded least b opening
    gives-eight f = sym (ap (λ (x : Bool). two x (leb 1048574 (decode least b).current)) (flag true f)) ∙ chain-number least b opening j

    pub gives-nine : h.opened ≡ false → 1048574 ≤ h.current → 9 ≡ guarded least b opening
    gives-nine f l = sym (ap₂ two (flag false f) (le-leb 1048574 (decode least b).current (rw version l))) ∙ chain-number least b opening j

    pub gives-open : h.opened ≡ false → h.current < 1048574 → 0 ≡ guarded least b opening
    gives-open f l = sym (ap₂ two (flag false f) (lt-leb 1048574 (decode least b).current (rw version l))) ∙ chain-number least b opening j

    pub gives-seven : h.opened ≡ false → 7 ≡ guarded least b closing
    gives-seven f = sym (ap (λ (x : Bool). first_of (rule 7 (not x) ∷ [])) (flag false f)) ∙ chain-number least b closing j

    pub gives-close : h.opened ≡ true → 0 ≡ guarded least b closing
    gives-close f = sym (ap (λ (x : Bool). first_of (rule 7 (not x) ∷ [])) (flag true f)) ∙ chain-number least b closing j

  -- ---- what the guard's 0 says

  seven-not : (x : Bool) → first_of (rule 7 (not x) ∷ []) ≡ 0 → x ≡ true
  seven-not true e = refl
  seven-not false e = absurd (omega arith)

  pub is_open : guarded least b closing ≡ 0 → (decode least b).opened ≡ true
  is_open z = seven-not (decode least b).opened (guard-chain least b closing z)
