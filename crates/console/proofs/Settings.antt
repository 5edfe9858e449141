-- The settings of a list, one more at a time. Assumes nothing.
use Prim.Native.Nat.{ℕ, zero, suc, ◌+◌, ◌*◌, ◌<◌, ◌≤◌}
use mathlib.Core.Path.{◌≡◌, refl, ap, sym, ◌∙◌}
use mathlib.Core.List.{List, [], ◌∷◌, ◌++◌, append-nil, append_assoc}
use lib.ListN.{length, take, get_or, take-append-drop}
use native.Mathlib.Nat.{add-zero}
use native.Mathlib.Omega.{arith}
use Rattle.model.specs.Basic.{flat_map}
use Rattle.lines.specs.declared.Answer.TheVariants.{Setting}
use Rattle.lines.specs.Answers.{text_of, Put}
use Rattle.lines.specs.Session.{settings}
use Rattle.lines.proofs.Laying.{then-put}

twice : ℕ → ℕ
twice zero = 0
twice (suc i) = suc (suc (twice i))

twice-is : (i : ℕ) → twice i ≡ 2 * i
unfolding twice
twice-is zero = refl
twice-is (suc i) = omega (arith, twice-is i)

-- the text of the first i settings
abbrev pub shown : List ℕ → ℕ → List ℕ
shown l i = flat_map text_of (settings (take (2 * i) l))

abbrev text : List ℕ → ℕ → List ℕ
text l n = flat_map text_of (settings (take n l))

one_more : (i : ℕ) (l : List ℕ) → suc (twice i) < length l
    → text l (suc (suc (twice i))) ≡ text l (twice i) ++ text_of (Setting (get_or l (twice i) 0) (get_or l (suc (twice i)) 0))
unfolding twice
one_more i [] h = absurd (omega arith)
one_more i (k ∷ []) h = absurd (omega arith)
one_more zero (k ∷ v ∷ l) h = append-nil (text_of (Setting k v))
one_more (suc i) (k ∷ v ∷ l) h =
    ap (λ (x : List ℕ). text_of (Setting k v) ++ x) (one_more i l (omega arith))
    ∙ sym (append_assoc (text_of (Setting k v)) (text l (twice i)) (text_of (Setting (get_or l (twice i) 0) (get_or l (suc (twice i)) 0))))

shown-more : (l : List ℕ) (i : ℕ) → 2 * i + 1 < length l
    → shown l (i + 1) ≡ shown l i ++ text_of (Setting (get_or l (2 * i) 0) (get_or l (2 * i + 1) 0))
shown-more l i h =
    let even : 2 * i ≡ twice i = sym (twice-is i) in
    let odd : 2 * i + 1 ≡ suc (twice i) = omega arith in
    let next : 2 * (i + 1) ≡ suc (suc (twice i)) = omega arith in
    rw (next, odd, even) (one_more i l (omega arith))

pub put-none : (d : List ℕ) (at : ℕ) → Put d at [] d at
put-none d at = record { out = sym (rw (append-nil, add-zero) (take-append-drop at d)); behind = sym (add-zero at) }

pub put-more : {d d₁ d₂ : List ℕ} {at e f : ℕ} (l : List ℕ) (i : ℕ) → 2 * i + 1 < length l → Put d at (shown l i) d₁ e
    → Put d₁ e (text_of (Setting (get_or l (2 * i) 0) (get_or l (2 * i + 1) 0))) d₂ f → at + length (shown l i) ≤ length d
    → Put d at (shown l (i + 1)) d₂ f
put-more l i h p q room = rw (shown-more l i h) (then-put p q room)
