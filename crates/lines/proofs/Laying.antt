-- Laws of text that is put into a buffer, and of decimal digits. Assumes nothing.
use Rattle.std.proofs.Common.{◌≡◌, ℕ, zero, suc, ◌+◌, ◌*◌, ◌/◌, ◌%◌, ◌^◌, ◌<◌, ◌≤◌, Bool, true, false, ltb, List, [], ◌∷◌, ◌++◌, length, take, drop, set, get_or, sym, refl, ap, ◌∙◌, append-nil, take-append-drop, take-suc, add-zero, add-suc, append_assoc, add_assoc, pow-suc, add-one, arith, length-append, length-take-le, drop-drop, take_at, drop_at, le-ltb, lt-ltb}
use lib.Seq.{paste, length-paste, take-length, set_split, append_snoc}
use Rattle.lines.specs.declared.Answer.{Answer}
use Rattle.lines.specs.declared.Answer.TheVariants.{Done, Refused, Value, Absent, Count, Setting, BadLine}
use Rattle.lines.specs.Console.{ascii}
use Rattle.lines.specs.Answers.{decimal_by, decimal_within, decimal, named, text_of, laid, Put}
use Rattle.lines.specs.Digits.{digits}

-- ---- laid over a buffer

pub laid-whole : (d : List ℕ) (at : ℕ) (t : List ℕ) → paste d at t (length t) ≡ laid d at t
laid-whole d at t = rw (take-length t)

pub laid_one : (d : List ℕ) (at x : ℕ) → at < length d → set d at x ≡ laid d at (x ∷ [])
laid_one d at x h = rw (set_split d at x h, add-one) (sym (append_snoc (take at d) x (drop (suc at) d)))

module _ (d : List ℕ) (at : ℕ) (t : List ℕ) (room : at + length t ≤ length d) where
  front : length (take at d ++ t) ≡ at + length t
  front = rw (length-append, length-take-le at d (omega arith))

  pub length-laid : length (laid d at t) ≡ length d
  length-laid = sym (ap length (laid-whole d at t)) ∙ length-paste d at t (length t) room (omega arith)

  -- a text behind another is the two as one
  laid_more : (u : List ℕ) → laid (laid d at t) (at + length t) u ≡ laid d at (t ++ u)
  laid_more u =
      let a : List ℕ = take at d ++ t in
      let b : List ℕ = drop (at + length t) d in
      let head : take (at + length t) (a ++ b) ≡ a = take_at a b (at + length t) front in
      let tail : drop (at + length t + length u) (a ++ b) ≡ drop (at + length (t ++ u)) d =
      sym (drop-drop (length u) (at + length t) (a ++ b))
      ∙ rw (drop_at a b (at + length t) front)
      (drop-drop (length u) (at + length t) d ∙ rw (length-append, add_assoc)) in
      rw (head, tail, append_assoc (take at d) t u)

-- one thing put behind another
pub then-put : {d d₁ d₂ t u : List ℕ} {at a b : ℕ} → Put d at t d₁ a → Put d₁ a u d₂ b → at + length t ≤ length d → Put d at (t ++ u) d₂ b
then-put {d} {d₁} {d₂} {t} {u} {at} {a} {b} p q room = record {
  out = q.out ∙ rw (p.out, p.behind) (laid_more d at t room u);
  behind = q.behind ∙ rw (p.behind, length-append, add_assoc);
}

-- ---- digits

pub length-digits : (k n : ℕ) → length (digits k n) ≡ k
unfolding digits
length-digits zero n = refl
length-digits (suc k) n = rw (length-append, length-digits k (n / 10)) (omega arith)

-- digits are put from the last one on: how many are left to put, and of which number
pub record PutFrom (k m : ℕ) (d : List ℕ) (at i n : ℕ) (o : List ℕ) : Type 0 where
  pub done : List ℕ
  pub whole : digits i n ++ done ≡ digits k m
  pub sized : i + length done ≡ k
  pub put : o ≡ laid d (at + i) done

pub put_none : (k m : ℕ) (d : List ℕ) (at : ℕ) → PutFrom k m d at k m d
put_none k m d at = record {
  done = [];
  whole = append-nil (digits k m);
  sized = omega arith;
  put = sym (rw (add-zero, append-nil) (take-append-drop (at + k) d));
}

-- a byte in front of what is laid
laid_before : (d : List ℕ) (a : ℕ) (t : List ℕ) (x : ℕ) → a + suc (length t) ≤ length d
    → set (laid d (suc a) t) a x ≡ laid d a (x ∷ t)
laid_before d a t x room =
    let y : ℕ = get_or d a 0 in
    let r : List ℕ = t ++ drop (suc a + length t) d in
    let head : length (take a d) ≡ a = length-take-le a d (omega arith) in
    let neck : length (take (suc a) d) ≡ suc a = length-take-le (suc a) d (omega arith) in
    let parts : take (suc a) d ++ r ≡ take a d ++ (y ∷ r) = rw (take-suc d a 0 (omega arith)) (append_assoc (take a d) (y ∷ []) r) in
    let front : take a (take (suc a) d ++ r) ≡ take a d = ap (take a) parts ∙ take_at (take a d) (y ∷ r) a head in
    let back : drop (suc a) (take (suc a) d ++ r) ≡ r = drop_at (take (suc a) d) r (suc a) neck in
    let behind : suc a + length t ≡ a + suc (length t) = omega arith in
    let z : List ℕ = drop (suc a + length t) d in
    let whole : laid d (suc a) t ≡ take (suc a) d ++ r = append_assoc (take (suc a) d) t z in
    let split = set_split (take (suc a) d ++ r) a x (rw (length-append, neck) (omega arith)) in
    ap (λ (l : List ℕ). set l a x) whole ∙ split
    ∙ rw (front, back, behind) (sym (append_assoc (take a d) (x ∷ t) (drop (a + suc (length t)) d)))

pub put_next : {k m at j n : ℕ} {d o : List ℕ} → PutFrom k m d at (suc j) n o → at + k ≤ length d
    → PutFrom k m d at j (n / 10) (set o (at + j) (48 + n % 10))
unfolding digits
put_next {k} {m} {at} {j} {n} {d} {o} p room = record {
  done = (48 + n % 10) ∷ p.done;
  whole = sym (append_assoc (digits j (n / 10)) ((48 + n % 10) ∷ []) p.done) ∙ p.whole;
  sized = omega (arith, p.sized);
  put = ap (λ (l : List ℕ). set l (at + j) (48 + n % 10)) (p.put ∙ rw add-suc)
      ∙ laid_before d (at + j) p.done (48 + n % 10) (omega (arith, p.sized));
}

pub put_all : {k m at n : ℕ} {d o : List ℕ} → PutFrom k m d at 0 n o → Put d at (digits k m) o (at + k)
unfolding digits
put_all {k} {m} {at} {n} {d} {o} p = record {
  out = p.put ∙ rw (p.whole, add-zero);
  behind = ap (λ (i : ℕ). at + i) (sym (length-digits k m));
}

length-by : (u : Bool) (front : List ℕ) (n k : ℕ) → length front ≤ k → length (decimal_by u front n) ≤ suc k
length-by true front n k h = omega arith
length-by false front n k h = rw length-append (omega arith)

length-within : (k n : ℕ) → length (decimal_within k n) ≤ k
unfolding decimal_within
length-within zero n = omega arith
length-within (suc k) n = length-by (ltb n 10) (decimal_within k (n / 10)) n k (length-within k (n / 10))

pub length-decimal : (n : ℕ) → length (decimal n) ≤ 10
length-decimal n = length-within 10 n

-- k digits hold what is below ten to the k, so room for one more changes nothing
more_by : (u : Bool) (n k : ℕ) → (decimal_within (suc (suc k)) (n / 10) ≡ decimal_within (suc k) (n / 10))
    → decimal_by u (decimal_within (suc (suc k)) (n / 10)) n ≡ decimal_by u (decimal_within (suc k) (n / 10)) n
more_by u n k e = ap (λ (l : List ℕ). decimal_by u l n) e

more_room : (k n : ℕ) → n < 10 ^ suc k → decimal_within (suc (suc k)) n ≡ decimal_within (suc k) n
unfolding decimal_within
more_room zero n h = let small : n < 10 = omega arith in rw (lt-ltb n 10 small)
more_room (suc k) n h =
    more_by (ltb n 10) n k (more_room k (n / 10) (let e : 10 ^ suc (suc k) ≡ 10 ^ suc k * 10 = pow-suc 10 (suc k) in omega arith))

pub decimal-small : (n : ℕ) → n < 10 → decimal n ≡ (48 + n) ∷ []
unfolding decimal_within
decimal-small n h = rw (lt-ltb n 10 h)

pub decimal-more : (n : ℕ) → 10 ≤ n → n < 4294967296 → decimal n ≡ decimal (n / 10) ++ ((48 + n % 10) ∷ [])
unfolding decimal_within
decimal-more n h g = rw (le-ltb n 10 h) (ap (λ (l : List ℕ). l ++ ((48 + n % 10) ∷ [])) (sym (more_room 8 (n / 10) (omega arith))))

-- one digit more

pub decimal-one : (n : ℕ) → n < 10 → decimal n ≡ digits 1 n
unfolding digits
decimal-one n h = let e : n ≡ n % 10 = omega arith in decimal-small n h ∙ ap (λ (d : ℕ). (48 + d) ∷ []) e

pub decimal-next : (k n : ℕ) → 10 ≤ n → n < 4294967296 → decimal (n / 10) ≡ digits k (n / 10) → decimal n ≡ digits (suc k) n
unfolding digits
decimal-next k n h g e = decimal-more n h g ∙ ap (λ (l : List ℕ). l ++ ((48 + n % 10) ∷ [])) e

pub decimal-two : (n : ℕ) → 10 ≤ n → n < 100 → decimal n ≡ digits 2 n
decimal-two n h g = decimal-next 1 n h (omega arith) (decimal-one (n / 10) (omega arith))

pub decimal-three : (n : ℕ) → 100 ≤ n → n < 1000 → decimal n ≡ digits 3 n
decimal-three n h g = decimal-next 2 n (omega arith) (omega arith) (decimal-two (n / 10) (omega arith) (omega arith))

pub decimal-four : (n : ℕ) → 1000 ≤ n → n < 10000 → decimal n ≡ digits 4 n
decimal-four n h g = decimal-next 3 n (omega arith) (omega arith) (decimal-three (n / 10) (omega arith) (omega arith))

-- so many digits have their length
pub sized : (k n : ℕ) → decimal n ≡ digits k n → length (decimal n) ≡ k
sized k n e = ap length e ∙ length-digits k n

decimal-behind : (k n m : ℕ) → 10 ≤ n → n < 4294967296 → decimal (n / 10) ≡ decimal m ++ digits k (n / 10)
    → decimal n ≡ decimal m ++ digits (suc k) n
unfolding digits
decimal-behind k n m h g e =
    decimal-more n h g ∙ ap (λ (l : List ℕ). l ++ ((48 + n % 10) ∷ [])) e
    ∙ append_assoc (decimal m) (digits k (n / 10)) ((48 + n % 10) ∷ [])

digits-four : (n : ℕ) → digits 4 n ≡ digits 4 (n % 10000)
unfolding digits
digits-four n =
    let a : n % 10 ≡ n % 10000 % 10 = omega arith in
    let b : n / 10 % 10 ≡ n % 10000 / 10 % 10 = omega arith in
    let c : n / 10 / 10 % 10 ≡ n % 10000 / 10 / 10 % 10 = omega arith in
    let d : n / 10 / 10 / 10 % 10 ≡ n % 10000 / 10 / 10 / 10 % 10 = omega arith in
    cc

pub decimal-fours : (n : ℕ) → 10000 ≤ n → n < 4294967296 → decimal n ≡ decimal (n / 10000) ++ digits 4 (n % 10000)
unfolding digits
decimal-fours n h g =
    let m : ℕ = n / 10000 in
    let rest : n / 10 / 10 / 10 / 10 ≡ m = omega arith in
    let none : decimal (n / 10 / 10 / 10 / 10) ≡ decimal m ++ [] = ap decimal rest ∙ sym (append-nil (decimal m)) in
    decimal-behind 3 n m (omega arith) g
    (decimal-behind 2 (n / 10) m (omega arith) (omega arith)
    (decimal-behind 1 (n / 10 / 10) m (omega arith) (omega arith)
    (decimal-behind 0 (n / 10 / 10 / 10) m (omega arith) (omega arith) none)))
    ∙ ap (λ (l : List ℕ). decimal m ++ l) (digits-four n)

pub length-fours : (n : ℕ) → 10000 ≤ n → n < 4294967296 → length (decimal n) ≡ length (decimal (n / 10000)) + 4
length-fours n h g = ap length (decimal-fours n h g) ∙ length-append (decimal (n / 10000)) (digits 4 (n % 10000)) ∙ rw length-digits

pub length-named : (w : List ℕ) (n : ℕ) → length (named w n) ≡ length w + (length (decimal n) + 1)
length-named w n = length-append w (decimal n ++ ascii "\n") ∙ rw (length-append (decimal n) (ascii "\n"))

pub length-setting : (k v : ℕ) → length (text_of (Setting k v)) ≡ length (decimal k) + length (named (ascii " ") v)
length-setting k v = length-append (decimal k) (named (ascii " ") v)

-- no answer's line is longer than 22 bytes
pub short : (a : Answer) → length (text_of a) ≤ 22
short Done = omega arith
short (Refused n) = omega (arith, length-named (ascii "refused ") n, length-decimal n)
short (Value v) = omega (arith, length-named (ascii "value ") v, length-decimal v)
short Absent = omega arith
short (Count c) = omega (arith, length-named (ascii "count ") c, length-decimal c)
short (Setting k v) = omega (arith, length-setting k v, length-named (ascii " ") v, length-decimal k, length-decimal v)
short BadLine = omega arith
