-- Laws about prune/specs/Shift. Assumes nothing.
use Prim.Native.Nat.{ℕ, zero, suc, ◌+◌, ◌*◌, ◌-◌, ◌≤◌, ◌<◌}
use native.Mathlib.Omega.{arith}
use mathlib.Core.Path.{◌≡◌, refl, ap, sym, ◌∙◌}
use mathlib.Core.List.{List, [], ◌∷◌, ◌++◌, append_assoc}
use lib.ListN.{length, get_or, set, take, drop, replicate, length-append, length-drop, length-replicate, replicate-append-replicate}
use lib.Seq.{get_or-drop}
use Rattle.model.specs.declared.Slot.{Slot}
use Rattle.model.specs.Layout.{no_slot}
use Rattle.store.proofs.laws.Slots.{directory}
use Rattle.prune.specs.Shift.{shifted}

-- the first i of one list, and the rest of another
unfoldable pub mix : ℕ → List Slot → List Slot → List Slot
mix i ys xs = take i ys ++ drop i xs

-- the first i places moved
unfoldable pub stage : ℕ → ℕ → List Slot → List Slot
stage k i xs = mix i (shifted k xs) xs

pub shifted-length : (k : ℕ) (xs : List Slot) → k ≤ length xs → length (shifted k xs) ≡ length xs
unfolding shifted
shifted-length k xs h = length-append (drop k xs) (replicate k no_slot) ∙ omega (arith, h, length-drop k xs, length-replicate k no_slot)

get_none : (m i : ℕ) → get_or (replicate m no_slot) i no_slot ≡ no_slot
get_none zero i = refl
get_none (suc m) zero = refl
get_none (suc m) (suc i) = get_none m i

get-padded : (ys : List Slot) (m i : ℕ) → get_or (ys ++ replicate m no_slot) i no_slot ≡ get_or ys i no_slot
get-padded [] m i = get_none m i
get-padded (y ∷ ys) m zero = refl
get-padded (y ∷ ys) m (suc i) = get-padded ys m i

shifted_at : (k : ℕ) (xs : List Slot) (i : ℕ) → get_or (shifted k xs) i no_slot ≡ get_or xs (i + k) no_slot
unfolding shifted
shifted_at k xs i =
    let e : k + i ≡ i + k = omega arith in
    get-padded (drop k xs) k i ∙ get_or-drop k xs i no_slot ∙ ap (λ (n : ℕ). get_or xs n no_slot) e

mix-length : (i : ℕ) (ys xs : List Slot) → length ys ≡ length xs → length (mix i ys xs) ≡ length xs
unfolding mix
mix-length zero ys xs e = refl
mix-length (suc i) [] [] e = refl
mix-length (suc i) [] (x ∷ xs) e = absurd (omega arith)
mix-length (suc i) (y ∷ ys) [] e = absurd (omega arith)
mix-length (suc i) (y ∷ ys) (x ∷ xs) e = ap suc (mix-length i ys xs (omega arith))

mix-behind : (i j : ℕ) (ys xs : List Slot) → length ys ≡ length xs → i ≤ j → get_or (mix i ys xs) j no_slot ≡ get_or xs j no_slot
unfolding mix
mix-behind zero j ys xs e h = refl
mix-behind (suc i) j [] [] e h = refl
mix-behind (suc i) j [] (x ∷ xs) e h = absurd (omega arith)
mix-behind (suc i) j (y ∷ ys) [] e h = absurd (omega arith)
mix-behind (suc i) zero (y ∷ ys) (x ∷ xs) e h = absurd (omega arith)
mix-behind (suc i) (suc j) (y ∷ ys) (x ∷ xs) e h = mix-behind i j ys xs (omega arith) (omega arith)

mix-step : (i : ℕ) (ys xs : List Slot) → length ys ≡ length xs → i < length xs → set (mix i ys xs) i (get_or ys i no_slot) ≡ mix (suc i) ys xs
unfolding mix
mix-step i [] [] e h = absurd (omega arith)
mix-step i [] (x ∷ xs) e h = absurd (omega arith)
mix-step i (y ∷ ys) [] e h = absurd (omega arith)
mix-step zero (y ∷ ys) (x ∷ xs) e h = refl
mix-step (suc i) (y ∷ ys) (x ∷ xs) e h = ap (λ (zs : List Slot). y ∷ zs) (mix-step i ys xs (omega arith) (omega arith))

mix_all : (i : ℕ) (ys xs : List Slot) → length ys ≡ length xs → length xs ≤ i → mix i ys xs ≡ ys
unfolding mix
mix_all zero [] [] e h = refl
mix_all zero [] (x ∷ xs) e h = absurd (omega arith)
mix_all zero (y ∷ ys) xs e h = absurd (omega arith)
mix_all (suc i) [] [] e h = refl
mix_all (suc i) [] (x ∷ xs) e h = absurd (omega arith)
mix_all (suc i) (y ∷ ys) [] e h = absurd (omega arith)
mix_all (suc i) (y ∷ ys) (x ∷ xs) e h = ap (λ (zs : List Slot). y ∷ zs) (mix_all i ys xs (omega arith) (omega arith))

pub stage-start : (k : ℕ) (xs : List Slot) → xs ≡ stage k 0 xs
unfolding stage mix
stage-start k xs = refl

module _ (k : ℕ) (xs : List Slot) (low : k ≤ length xs) where
  same : length (shifted k xs) ≡ length xs
  same = shifted-length k xs low

  pub stage-length : (i : ℕ) → length (stage k i xs) ≡ length xs
  unfolding stage
  stage-length i = mix-length i (shifted k xs) xs same

  pub stage-step : (i : ℕ) → i < length xs → set (stage k i xs) i (get_or (stage k i xs) (i + k) no_slot) ≡ stage k (i + 1) xs
  unfolding stage
  stage-step i h =
      let e : suc i ≡ i + 1 = omega arith in
      ap (set (mix i (shifted k xs) xs) i) (mix-behind i (i + k) (shifted k xs) xs same (omega arith) ∙ sym (shifted_at k xs i))
      ∙ mix-step i (shifted k xs) xs same h ∙ ap (λ (n : ℕ). mix n (shifted k xs) xs) e

  pub stage-end : (i : ℕ) → length xs ≤ i → stage k i xs ≡ shifted k xs
  unfolding stage
  stage-end i h = mix_all i (shifted k xs) xs same h

-- in the directory the unused ones are not seen
pub shifted-directory : (least k : ℕ) (xs : List Slot) → k ≤ length xs → length xs ≤ 64 * least
    → directory least (shifted k xs) ≡ directory least (drop k xs)
unfolding directory shifted
shifted-directory least k xs low few =
    let n : length (drop k xs ++ replicate k no_slot) ≡ length xs = length-append (drop k xs) (replicate k no_slot)
    ∙ omega (arith, low, length-drop k xs, length-replicate k no_slot) in
    let m : k + (64 * least - length xs) ≡ 64 * least - length (drop k xs) = omega (arith, low, few, length-drop k xs) in
    ap (λ (j : ℕ). (drop k xs ++ replicate k no_slot) ++ replicate (64 * least - j) no_slot) n
    ∙ append_assoc (drop k xs) (replicate k no_slot) (replicate (64 * least - length xs) no_slot)
    ∙ ap (λ (ys : List Slot). drop k xs ++ ys)
    (replicate-append-replicate k (64 * least - length xs) no_slot ∙ ap (λ (j : ℕ). replicate j no_slot) m)
