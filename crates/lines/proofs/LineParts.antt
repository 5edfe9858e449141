-- Laws of a line that stands in a longer text, part by part: a word, one number or two, the newline. Assumes nothing.
use Rattle.std.proofs.Common.{◌≡◌, ℕ, suc, ◌+◌, ◌-◌, ◌*◌, ◌^◌, ◌<◌, ◌≤◌, Bool, true, false, eqb, leb, List, [], ◌∷◌, ◌++◌, length, get_or, take, drop, sym, refl, ap, ◌∙◌, append_assoc, add-one, arith, length-append, take-append-drop, drop-cons, take_at, eq-eqb, ne_eqb, le-leb, leb-true, Some}
use Rattle.std.specs.List.{starts_with}
use Rattle.std.proofs.lemmas.Slice.Eq.{starts_is}
use Rattle.std.proofs.lemmas.Bool.Decides.{Decides-eqb}
use Rattle.model.specs.Basic.{all}
use Rattle.model.proofs.lists.Lists.{both_true}
use Rattle.lines.specs.declared.Command.{Command}
use Rattle.lines.specs.declared.once.Upto.{Upto}
use Rattle.lines.specs.Console.{cut, words, spoken, digit, value_from, command_of, with_one, with_two}
use Rattle.lines.specs.Words.{until, until_by}
use Rattle.lines.specs.Places.{DigitsAt, NumberAt, TwoAt, LineAt}
use Rattle.lines.proofs.Cutting.{one_word}
use Rattle.lines.proofs.Numbers.{grows, ten-digits, is_number}
use Rattle.lines.proofs.Readback.{value-behind, is_digit, all-behind}

-- ---- text without a mark

-- a text without a mark: its first byte is none, and its rest has none
first-none : (u : Bool) (n k : ℕ) → until_by u n ≡ suc k → (u ≡ false) × (n ≡ k)
first-none true n k e = absurd (omega arith)
first-none false n k e = (refl, omega arith)

-- behind such a text the first mark is that of what follows
until-past : (mark : ℕ) (x y : List ℕ) → until mark x ≡ length x → until mark (x ++ y) ≡ length x + until mark y
unfolding until
until-past mark [] y e = omega arith
until-past mark (b ∷ x) y e =
    let f = first-none (eqb b mark) (until mark x) (length x) e in
    rw (f.0, until-past mark x y f.1) (omega arith)

-- and it is cut at a mark that follows
cut-past : (mark : ℕ) (behind : List (List ℕ)) (x y : List ℕ) → until mark x ≡ length x
    → cut mark behind (x ++ mark ∷ y) ≡ x ∷ cut mark behind y
unfolding until cut
cut-past mark behind [] y e = rw (eq-eqb mark mark refl)
cut-past mark behind (b ∷ x) y e =
    let f = first-none (eqb b mark) (until mark x) (length x) e in
    rw (f.0, cut-past mark behind x y f.1)

-- digits are no marks: the marks are smaller
plain-digits : (mark : ℕ) → mark < 48 → (x : List ℕ) → all digit x ≡ true → until mark x ≡ length x
unfolding until
plain-digits mark h [] e = refl
plain-digits mark h (b ∷ x) e =
    let d = both_true (digit b) (all digit x) e in
    let low = leb-true 48 b (both_true (leb 48 b) (leb b 57) d.0).0 in
    let other : b ≡ mark → ⊥ = λ q. omega arith in
    rw (ne_eqb b mark other, plain-digits mark h x d.1)

-- ---- digits, one more at a time

-- what a loop over them holds: ten digits fit
pub record SoFar (l : List ℕ) (from n i : ℕ) : Type 0 where
  pub run : DigitsAt l from (record { value = n; end = i })
  pub small : n < 10 ^ length run.text

pub none_yet : (l : List ℕ) (from : ℕ) → SoFar l from 0 from
unfolding value_from
none_yet l from = record {
  run = record {
    text = [];
    parts = refl;
    sized = omega arith;
    few = omega arith;
    digits = refl;
    value = refl;
  };
  small = omega arith;
}

module _ (l : List ℕ) (from n i : ℕ) (s : SoFar l from n i) where
  pub fits-yet : n < 10000000000
  fits-yet = ten-digits n (length s.run.text) s.run.few s.small

  pub one_more : (d : ℕ) → i < length l → i < from + 10 → d < 10 → get_or l i 0 ≡ 48 + d → SoFar l from (10 * n + d) (i + 1)
  one_more d h g small e =
      let r = s.run in
      let t : List ℕ = r.text in
      let back : 48 + d - 48 ≡ d = omega arith in
      record {
        run = record {
          text = t ++ ((48 + d) ∷ []);
          parts = r.parts ∙ rw (add-one, drop-cons l i 0 h, e) (sym (append_assoc t ((48 + d) ∷ []) (drop (suc i) l)));
          sized = rw length-append (omega (arith, r.sized));
          few = rw length-append (omega (arith, r.sized));
          digits = all-behind t (48 + d) r.digits (is_digit d small);
          value = value-behind 0 t (48 + d) ∙ rw (r.value, back);
        };
        small = rw length-append (grows n (length t) d s.small (omega arith));
      }

-- a mark behind them, and they are a number
pub number-here : (l : List ℕ) (from mark n i : ℕ) → DigitsAt l from (record { value = n; end = i }) → from < i → i < length l
    → get_or l i 0 ≡ mark → n ≤ 4294967295 → NumberAt l from mark (record { value = n; end = i })
number-here l from mark n i d some h e small = record {
  text = d.text;
  parts = d.parts ∙ rw (add-one, drop-cons l i 0 h, e);
  sized = d.sized;
  few = d.few;
  digits = d.digits;
  number = is_number d.text (omega (arith, d.sized)) d.few d.digits (omega (arith, d.value)) ∙ ap Some d.value;
}

-- ---- a line

-- a text that begins with a word and a space
pub record Begins (l w : List ℕ) : Type 0 where
  pub head : take (length w + 1) l ≡ w ++ (32 ∷ [])
  pub short : length w ≤ 50
  pub spaceless : until 32 w ≡ length w
  pub oneline : until 10 w ≡ length w

-- as a test tells it
pub begins : (l w : List ℕ) → true ≡ starts_with eqb l (w ++ (32 ∷ []))
    → length w ≤ 50 → until 32 w ≡ length w → until 10 w ≡ length w → Begins l w
begins l w e few spaceless oneline =
    let p : List ℕ = w ++ (32 ∷ []) in
    let parts : l ≡ p ++ drop (length p) l = (starts_is Decides-eqb l p true e).0 refl in
    record {
      head = ap (take (length w + 1)) parts ∙ take_at p (drop (length p) l) (length w + 1) (length-append w (32 ∷ []));
      short = few;
      spaceless = spaceless;
      oneline = oneline;
    }

module _ (l w : List ℕ) (s : Begins l w) where
  -- the line is the word, the space, and what stands up to the newline
  module _ (x y : List ℕ) (parts : drop (length w + 1) l ≡ x ++ 10 ∷ y) (quiet : until 10 x ≡ length x) where
    text-parts : l ≡ w ++ 32 ∷ (x ++ 10 ∷ y)
    text-parts = sym (take-append-drop (length w + 1) l) ∙ rw (s.head, parts) (append_assoc w (32 ∷ []) (x ++ 10 ∷ y))

    newline-place : until 10 l ≡ length w + 1 + length x
    unfolding until
    newline-place =
        ap (until 10) text-parts
        ∙ rw (until-past 10 w (32 ∷ (x ++ 10 ∷ y)) s.oneline, until-past 10 x (10 ∷ y) quiet) (omega arith)

    long : length w + 1 + length x < length l
    long = rw (text-parts, length-append, length-append) (omega arith)

    line-text : take (length w + 1 + length x) l ≡ w ++ 32 ∷ x
    line-text =
        ap (take (length w + 1 + length x)) (text-parts ∙ sym (append_assoc w (32 ∷ x) (10 ∷ y)))
        ∙ take_at (w ++ 32 ∷ x) (10 ∷ y) (length w + 1 + length x) (rw length-append (omega arith))

    line-command : length x ≤ 29 → command_of (w ++ 32 ∷ x) ≡ spoken (w ∷ words x)
    unfolding command_of
    line-command few =
        let size : length (w ++ 32 ∷ x) ≤ 80 = rw length-append (omega (arith, s.short)) in
        rw (le-leb (length (w ++ 32 ∷ x)) 80 size, cut-past 32 _ w x s.spaceless)

    line-here : (k : Upto Command) → length x ≤ 29 → length w + 1 + length x ≡ k.end → k.value ≡ spoken (w ∷ words x) → LineAt l k
    line-here k few e said = record {
      place = sym (newline-place ∙ e);
      within = omega (arith, long);
      command = said ∙ sym (line-command few) ∙ ap command_of (sym line-text ∙ ap (λ (n : ℕ). take n l) e);
    }

  pub one-here : (n : Upto ℕ) (c : Command) → NumberAt l (length w + 1) 10 n → c ≡ with_one w (Some n.value)
      → LineAt l (record { value = c; end = n.end })
  unfolding spoken
  one-here n c a said =
      let x : List ℕ = a.text in
      let whole : length x ≤ until 32 x = omega (arith, plain-digits 32 (omega arith) x a.digits) in
      line-here x _ a.parts (plain-digits 10 (omega arith) x a.digits) _ (omega (arith, a.few)) a.sized
      (said ∙ rw (one_word 32 x whole, a.number))

  pub two_here : (t : Upto (ℕ × ℕ)) (c : Command) → TwoAt l (length w + 1) t → c ≡ with_two w (Some t.value.0) (Some t.value.1)
      → LineAt l (record { value = c; end = t.end })
  unfolding spoken until
  two_here t c p said =
      let a : List ℕ = p.one.text in
      let b : List ℕ = p.other.text in
      let x : List ℕ = a ++ 32 ∷ b in
      let y : List ℕ = drop (t.end + 1) l in
      let whole : length b ≤ until 32 b = omega (arith, plain-digits 32 (omega arith) b p.other.digits) in
      let size : length x ≡ length a + suc (length b) = length-append a (32 ∷ b) in
      let parts : drop (length w + 1) l ≡ x ++ 10 ∷ y = p.one.parts ∙ rw p.other.parts (sym (append_assoc a (32 ∷ b) (10 ∷ y))) in
      let quiet : until 10 x ≡ length x =
      until-past 10 a (32 ∷ b) (plain-digits 10 (omega arith) a p.one.digits)
      ∙ rw (plain-digits 10 (omega arith) b p.other.digits) (sym size) in
      line-here x y parts quiet _ (omega (arith, p.one.few, p.other.few)) (omega (arith, p.one.sized, p.other.sized))
      (said ∙ rw (
        cut-past 32 _ a b (plain-digits 32 (omega arith) a p.one.digits),
        one_word 32 b whole,
        p.one.number,
        p.other.number,
      ))
