-- Laws about quick/specs/Part. Assumes nothing.
use Prim.Native.Nat.{ℕ, ◌+◌, ◌*◌, ◌-◌, ◌<◌, ◌≤◌}
use mathlib.Core.Bool.{Bool, true, false, ◌&&◌, ◌||◌, not}
use mathlib.Core.Path.{◌≡◌, refl, ap, sym, ◌∙◌}
use mathlib.Core.List.{List, [], ◌∷◌}
use Rattle.std.specs.Prelude.{Option, Some, None, MatchOption}
use native.Mathlib.Omega.{arith}
use lib.Dec.{ltb, eqb}
use lib.ListN.{length}
use borrow.Author.Tests.{le-ltb, lt-ltb}
use Rattle.model.specs.declared.Entry.{Entry}
use Rattle.model.specs.Basic.{all, those, keep, pick, in_order}
use Rattle.model.specs.Entry.{before}
use Rattle.model.specs.Layout.{read_entry, read_entries, decode_page}
use Rattle.spans.specs.Quick.{past, past_all, kept, apart, low_over, key_over, many_over, fine_over}
use Rattle.model.specs.Inner.{first_ok}
use Rattle.model.proofs.lists.Lists.{both_true}
use Rattle.spans.proofs.laws.Neighbours.{apart-neighbours}
use Rattle.spans.proofs.laws.Stretches.{kept-order}
use Rattle.page.specs.declared.Head.{Head}
use Rattle.page.specs.Head.{read_head}
use Rattle.page.proofs.laws.Read.{level-of, entries-of, entries-step, entries-end}

-- ---- "No live key stands twice in a page": each entry that is kept against the next one

-- d, if there is one, against the first of those kept, and each of them against the next
abbrev pub behind : ℕ → Option Entry → List Entry → Bool
behind old None es = in_order apart (kept old es)
behind old (Some d) es = first_ok apart d (kept old es) && in_order apart (kept old es)

-- e behind d, if there is one
abbrev pub apart_from : Option Entry → Entry → Bool
apart_from None e = true
apart_from (Some d) e = apart d e

-- what `is_some_and` tells
pub apart-by : (d : Option Entry) (e : Entry) (r : Bool) {P : Entry → Type 0} → MatchOption d (r ≡ false) P
    → ((x : Entry) → P x → r ≡ not (apart x e)) → r ≡ not (apart_from d e)
apart-by None e r q f = q
apart-by (Some d) e r q f = f d q

module _ (old : ℕ) (e : Entry) (es : List Entry) where
  abbrev whole : Option Entry → Bool → Bool
  whole None b = in_order apart (keep b e (kept old es))
  whole (Some d) b = first_ok apart d (keep b e (kept old es)) && in_order apart (keep b e (kept old es))

  by : (d : Option Entry) (b : Bool) → ltb old e.end ≡ b → behind old d (e ∷ es) ≡ whole d b
  by None b q = ap (λ (b : Bool). whole None b) q
  by (Some d) b q = ap (λ (b : Bool). whole (Some d) b) q

  behind-late : old < e.end → (d : Option Entry) → in_order before (e ∷ es) ≡ true
      → behind old d (e ∷ es) ≡ (apart_from d e && behind old (Some e) es)
  behind-late l d o = by d true late ∙ at d
    where
      late : ltb old e.end ≡ true
      late = lt-ltb old e.end l

      ordered : in_order before (e ∷ kept old es) ≡ true
      ordered = ap (λ (b : Bool). in_order before (keep b e (kept old es))) (sym late) ∙ kept-order old before (e ∷ es) o

      next : in_order apart (e ∷ kept old es) ≡ behind old (Some e) es
      next =
          apart-neighbours (e ∷ kept old es) ordered
          ∙ ap (λ (b : Bool). first_ok apart e (kept old es) && b)
          (sym (apart-neighbours (kept old es) (both_true (all (before e) (kept old es)) (in_order before (kept old es)) ordered).1))

      at : (d : Option Entry) → whole d true ≡ (apart_from d e && behind old (Some e) es)
      at None = next
      at (Some d) = ap (λ (b : Bool). apart d e && b) next

-- ---- what is left from place i on

module _ (p : List ℕ) (i n : ℕ) where
  abbrev e : Entry
  e = read_entry p (128 + 96 * i)

  abbrev here : List Entry
  here = read_entries p (128 + 96 * i) (n - i)

  abbrev rest : List Entry
  rest = read_entries p (128 + 96 * (i + 1)) (n - (i + 1))

  pub past-step : (a : ℕ) → i < n → past_all a here ≡ past_all (past a e) rest
  past-step a h = ap (past_all a) (entries-step p i n h)

  pub past_end : (a : ℕ) → n ≤ i → past_all a here ≡ a
  past_end a h = ap (past_all a) (entries-end p (128 + 96 * i) i n h)

  module _ (f : Entry → Bool) where
    pub past-those-step : (a : ℕ) → i < n → past_all a (those f here) ≡ past_all (pick (f e) (past a e) a) (those f rest)
    past-those-step a h = ap (λ (es : List Entry). past_all a (those f es)) (entries-step p i n h) ∙ at (f e)
      where
        at : (b : Bool) → past_all a (keep b e (those f rest)) ≡ past_all (pick b (past a e) a) (those f rest)
        at true = refl
        at false = refl

    pub past-those-end : (a : ℕ) → n ≤ i → past_all a (those f here) ≡ a
    past-those-end a h = ap (λ (es : List Entry). past_all a (those f es)) (entries-end p (128 + 96 * i) i n h)

    pub count-step : i < n → length (those f here) ≡ pick (f e) 1 0 + length (those f rest)
    count-step h = ap (λ (es : List Entry). length (those f es)) (entries-step p i n h) ∙ at (f e)
      where
        at : (b : Bool) → length (keep b e (those f rest)) ≡ pick b 1 0 + length (those f rest)
        at true = omega arith
        at false = omega arith

    pub count-end : n ≤ i → length (those f here) ≡ 0
    count-end h = ap (λ (es : List Entry). length (those f es)) (entries-end p (128 + 96 * i) i n h)

  -- those kept, behind the last one before them
  module _ (old : ℕ) (d : Option Entry) where
    pub apart-late : old < e.end → i < n → in_order before here ≡ true → behind old d here ≡ (apart_from d e && behind old (Some e) rest)
    apart-late l h o =
        ap (behind old d) (entries-step p i n h) ∙ behind-late old e rest l d (ap (in_order before) (sym (entries-step p i n h)) ∙ o)

    pub apart-ended : e.end ≤ old → i < n → behind old d here ≡ behind old d rest
    apart-ended l h = ap (behind old d) (entries-step p i n h) ∙ by old e rest d false (le-ltb old e.end l) ∙ at d
      where
        at : (d : Option Entry) → whole old e rest d false ≡ behind old d rest
        at None = refl
        at (Some d) = refl

    pub apart-end : n ≤ i → behind old d here ≡ true
    apart-end h = ap (behind old d) (entries-end p (128 + 96 * i) i n h) ∙ at d
      where
        at : (d : Option Entry) → behind old d [] ≡ true
        at None = refl
        at (Some d) = refl

  pub order-step : i < n → in_order before here ≡ true → in_order before rest ≡ true
  order-step h o = (both_true (all (before e) rest) (in_order before rest) (ap (in_order before) (sym (entries-step p i n h)) ∙ o)).1

-- ---- one page, by its front

module _ (least : ℕ) (p : List ℕ) (h : Head) (f : h ≡ read_head least p) (m low a b : ℕ) where
  abbrev es : List Entry
  es = read_entries p 128 h.count

  pub fine-by : fine_over m low a b (decode_page least p)
      ≡ ((low_over low a b es && (eqb h.level 1 || key_over low a b es)) && many_over m a b es)
  fine-by = rw (f, level-of least p, entries-of least p)
