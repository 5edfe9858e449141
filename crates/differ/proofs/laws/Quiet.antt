-- Laws about differ/specs/Quiet. Assumes nothing.
use Rattle.std.specs.List.{list_all, range_with_len}
use Prim.Native.Nat.{ℕ, zero, suc, ◌+◌}
use native.Mathlib.Omega.{arith}
use mathlib.Core.Bool.{Bool, true, false, ◌&&◌, not}
use mathlib.Core.Path.{◌≡◌, refl, ap, sym, ◌∙◌}
use mathlib.Core.List.{List, [], ◌∷◌}
use Rattle.model.specs.Basic.{all, pick}
use Rattle.model.specs.declared.Pair.{Pair}
use Rattle.model.specs.declared.Entry.{Entry}
use Rattle.model.specs.Entry.{pair_of, live_at}
use Rattle.model.proofs.lists.Lists.{both_true}
use Rattle.walk.specs.Live.{live}
use Rattle.walk.proofs.laws.Live.{live_on, live-off}
use Rattle.walk.specs.Scan.{entry, from}
use Rattle.walk.proofs.laws.Scan.{from_step, from_end}
use Rattle.differ.specs.Quiet.{moves, quiet}

pub quiet-shows : (u v : ℕ) (es : List Entry) → quiet u v es ≡ true → live u es ≡ live v es
unfolding quiet
quiet-shows u v [] h = refl
quiet-shows u v (e ∷ es) h =
    let (a, b) = both_true (not (moves u v e)) (all (λ (d : Entry). not (moves u v d)) es) h in
    at (live_at u e) refl (live_at v e) refl a (quiet-shows u v es b)
  where
    at : (s : Bool) → live_at u e ≡ s → (t : Bool) → live_at v e ≡ t → not (pick s (not t) t) ≡ true → live u es ≡ live v es
        → live u (e ∷ es) ≡ live v (e ∷ es)
    at true p true q h ih = live_on u e es p ∙ ap (λ (zs : List Pair). pair_of e ∷ zs) ih ∙ sym (live_on v e es q)
    at true p false q h ih = absurd (let z : ◌≡◌ {A = ℕ} 0 1 = cc in omega arith)
    at false p true q h ih = absurd (let z : ◌≡◌ {A = ℕ} 0 1 = cc in omega arith)
    at false p false q h ih = live-off u e es p ∙ ih ∙ sym (live-off v e es q)

-- place by place
module _ (p : List ℕ) (n u v : ℕ) where
  pub quiet-places : (k i : ℕ) → i + k ≡ n → list_all (λ (j : ℕ). not (moves u v (entry p j))) (range_with_len i k) ≡ quiet u v (from p i n)
  unfolding quiet
  quiet-places zero i e = sym (ap (quiet u v) (from_end p n i (omega arith)))
  quiet-places (suc k) i e =
      ap (λ (b : Bool). not (moves u v (entry p i)) && b) (quiet-places k (i + 1) (omega arith))
      ∙ sym (ap (quiet u v) (from_step p n i (omega arith)))
