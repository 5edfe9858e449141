-- Rule 6 said by the walk's tests. Assumes nothing.
use Prim.Native.Nat.{ℕ, suc, ◌+◌, ◌-◌, ◌≤◌}
use mathlib.Core.Bool.{Bool, true, false, ◌&&◌}
use mathlib.Core.Path.{◌≡◌, refl, ap, ap₂, sym, ◌∙◌}
use mathlib.Core.List.{List, [], ◌∷◌}
use mathlib.Core.Logic.{◌⊎◌, inl, inr}
use native.Mathlib.Omega.{arith}
use native.Mathlib.Numerals.{add-one}
use lib.ListN.{drop}
use borrow.Author.Tests.{ne_eqb}
use Rattle.model.specs.declared.Header.{Header}
use Rattle.model.specs.declared.Pair.{Pair}
use Rattle.model.specs.Basic.{all, count}
use Rattle.model.specs.Store.{last_of}
use Rattle.model.specs.Walk.{Seen, seen}
use Rattle.model.specs.Sound.{reached_well, versions, rule6}
use Rattle.model.specs.Layout.{read_header, decode}
use Rattle.model.specs.ByRule.{numbers}
use Rattle.model.proofs.lists.Members.{bool_cases, not-both, all_in, in_count}
use Rattle.store.proofs.laws.Read.{oldest-of}
use Rattle.local.proofs.laws.First.{last-is}
use Rattle.reach.specs.Pending.{open_ok, step_ok, chain_ok, passes}
use Rattle.reach.specs.Versions.{version_ok}
use Rattle.reach.proofs.laws.Tests.{all-ext, all_true}

chain-other : (rule low high : ℕ) (xs : List Pair) → (rule ≡ 4 → ⊥) → chain_ok rule low high xs ≡ true
unfolding chain_ok step_ok
chain-other rule low high [] e = refl
chain-other rule low high (x ∷ xs) e = rw (ne_eqb rule 4 e, chain-other rule low high xs e)

module _ (least : ℕ) where
  pub passes-six : (x : Seen) → passes least 6 x ≡ true
  unfolding passes open_ok
  passes-six x = rw (chain-other 6 x.low x.high x.pairs (λ e. omega arith))

  -- over the versions as the code counts them, up to the last of the header h
  module _ (s : List ℕ) (h : Header) (e : h ≡ read_header least s) where
    abbrev upto : List ℕ
    upto = count h.oldest (last_of h.opened h.current + 1 - h.oldest)

    versions-are : versions (decode least s) ≡ upto
    versions-are =
        rw add-one
        (ap₂ (λ (o n : ℕ). count o (suc n - o)) (oldest-of least s ∙ ap (λ (x : Header). x.oldest) (sym e))
        (last-is least s ∙ ap (λ (x : Header). last_of x.opened x.current) (sym e)))

    pub six-is : rule6 (decode least s) ≡ all (version_ok least 6 s) upto
    unfolding rule6 version_ok
    six-is =
        all-ext (λ (v : ℕ). reached_well v (numbers (decode least s) v) 5 (drop 5 (decode least s).pages)) (version_ok least 6 s)
        (λ v. sym (ap (λ (b : Bool). b && reached_well v (numbers (decode least s) v) 5 (drop 5 (decode least s).pages))
        (all_true (passes least 6) passes-six (seen (decode least s) v)))) (versions (decode least s))
        ∙ ap (all (version_ok least 6 s)) versions-are

    -- a version at which it is broken
    pub six-missed : (v : ℕ) → h.oldest ≤ v → v ≤ last_of h.opened h.current → version_ok least 6 s v ≡ false
        → rule6 (decode least s) ≡ false
    six-missed v low high f = at (bool_cases (rule6 (decode least s)))
      where
        at : (rule6 (decode least s) ≡ true) ⊎ (rule6 (decode least s) ≡ false) → rule6 (decode least s) ≡ false
        at (inl t) =
            absurd (not-both (version_ok least 6 s v)
            (all_in (version_ok least 6 s) v upto (sym six-is ∙ t)
            (in_count v h.oldest (last_of h.opened h.current + 1 - h.oldest) (omega (arith, low, high))
            (omega (arith, low, high)))) f)
        at (inr t) = t
