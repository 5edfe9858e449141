-- Laws of cutting a text at its marks. Assumes nothing.
use Rattle.std.proofs.Common.{◌≡◌, ℕ, suc, ◌+◌, ◌-◌, ◌<◌, ◌≤◌, Bool, true, false, eqb, List, [], ◌∷◌, length, take, drop, refl, add-one, arith, length-drop, take_all, le-ltb, lt-ltb, Option, Some, None, MatchOption, ltb, cond, not}
use native.Mathlib.Decide.{dec_lt}
use Rattle.std.specs.List.{position_or_len}
use Rattle.lines.specs.declared.Command.TheVariants.{Bad}
use Rattle.lines.specs.Console.{cut, in_front, words, spoken}
use Rattle.lines.specs.Words.{until, until_by}

until_by-le : (t : Bool) {n m : ℕ} → n ≤ m → until_by t n ≤ suc m
until_by-le true h = omega arith
until_by-le false h = omega arith

pub until-le : (mark : ℕ) (l : List ℕ) → until mark l ≤ length l
unfolding until
until-le mark [] = omega arith
until-le mark (b ∷ bs) = until_by-le (eqb b mark) (until-le mark bs)

position-by : (t : Bool) {m n : ℕ} → m ≡ n → cond (not t) (1 + m) 0 ≡ until_by t n
position-by true e = refl
position-by false e = omega (arith, e)

until-position : (mark : ℕ) (l : List ℕ) → position_or_len (λ b. eqb b mark) l ≡ until mark l
unfolding until
until-position mark [] = refl
until-position mark (b ∷ bs) = position-by (eqb b mark) (until-position mark bs)

-- what a search for the mark gives
pub found : (mark : ℕ) (l : List ℕ) (r : Option ℕ)
    → r ≡ cond (ltb (position_or_len (λ b. eqb b mark) l) (length l)) (Some (position_or_len (λ b. eqb b mark) l)) None
    → MatchOption r (until mark l ≡ length l) (λ e. (e ≡ until mark l) × (e < length l))
found mark l r e = rw (e, until-position mark l) (by (dec_lt (until mark l) (length l))) where
  by : Dec (until mark l < length l)
      → MatchOption (cond (ltb (until mark l) (length l)) (Some (until mark l)) None) (until mark l ≡ length l)
      (λ e. (e ≡ until mark l) × (e < length l))
  by (yes h) = rw (lt-ltb (until mark l) (length l) h) (refl, h)
  by (no h) = rw (le-ltb (until mark l) (length l) (omega arith)) (omega (arith, until-le mark l))

module _ (mark b : ℕ) (bs : List ℕ) (behind : List (List ℕ)) where
  -- a text that has a mark: what stands before the first one is the first piece
  Marked : Bool → Type 0
  Marked t = until_by t (until mark bs) < suc (length bs)
      → in_front t b (cut mark behind bs)
      ≡ take (until_by t (until mark bs)) (b ∷ bs) ∷ cut mark behind (drop (until_by t (until mark bs) + 1) (b ∷ bs))

  marked : (until mark bs < length bs → cut mark behind bs ≡ take (until mark bs) bs ∷ cut mark behind (drop (until mark bs + 1) bs))
      → (t : Bool) → Marked t
  unfolding Marked
  marked rest true h = refl
  marked rest false h = rw (add-one, rest (omega arith), add-one)

pub cut_at : (mark : ℕ) (behind : List (List ℕ)) (l : List ℕ) → until mark l < length l
    → cut mark behind l ≡ take (until mark l) l ∷ cut mark behind (drop (until mark l + 1) l)
unfolding until cut Marked
cut_at mark behind [] h = absurd (omega arith)
cut_at mark behind (b ∷ bs) h = marked mark b bs behind (cut_at mark behind bs) (eqb b mark) h

-- the same, where code has found the mark at e and lends the two parts
pub cut-found : (mark : ℕ) (behind : List (List ℕ)) (l : List ℕ) (e : ℕ) → e ≡ until mark l → e < length l
    → cut mark behind l ≡ take e l ∷ cut mark behind (take (length l - (e + 1)) (drop (e + 1) l))
cut-found mark behind l e f h =
    let all : take (length l - (e + 1)) (drop (e + 1) l) ≡ drop (e + 1) l
    = take_all (length l - (e + 1)) (drop (e + 1) l) (rw length-drop (omega arith)) in
    rw (all, f) (cut_at mark behind l (omega arith))

-- a text that has none is one word
one-by : (t : Bool) (b : ℕ) (bs : List ℕ) (n : ℕ) (ps : List (List ℕ)) → suc (length bs) ≤ until_by t n → (length bs ≤ n → ps ≡ bs ∷ [])
    → in_front t b ps ≡ (b ∷ bs) ∷ []
one-by true b bs n ps h e = absurd (omega arith)
one-by false b bs n ps h e = rw (e (omega arith))

pub one_word : (mark : ℕ) (l : List ℕ) → length l ≤ until mark l → cut mark ([] ∷ []) l ≡ l ∷ []
unfolding until cut
one_word mark [] h = refl
one_word mark (b ∷ bs) h = one-by (eqb b mark) b bs (until mark bs) (cut mark ([] ∷ []) bs) h (one_word mark bs)

-- five words are one too many
four-more : (w a b c : List ℕ) (t : Bool) (x : ℕ) (ps : List (List ℕ)) → spoken (w ∷ a ∷ b ∷ c ∷ in_front t x ps) ≡ Bad
unfolding spoken
four-more w a b c true x ps = refl
four-more w a b c false x [] = refl
four-more w a b c false x (p ∷ ps) = refl

pub too_many : (w a b c l : List ℕ) → spoken (w ∷ a ∷ b ∷ c ∷ words l) ≡ Bad
unfolding spoken cut
too_many w a b c [] = refl
too_many w a b c (x ∷ xs) = four-more w a b c (eqb x 32) x (words xs)
