-- Of a store that was never pruned check never answers 7: no router has expired, so rule 7 follows from rules 1 and 3.
-- Assumes nothing.
use Prim.Native.Nat.{ℕ, zero, suc, ◌≤◌}
use native.Mathlib.Omega.{arith}
use mathlib.Core.Bool.{Bool, true, false}
use mathlib.Core.Path.{◌≡◌, refl, ap, sym, ◌∙◌, subst}
use mathlib.Core.Logic.{◌⊎◌, inl, inr, ◌≢◌}
use mathlib.Core.List.{List, [], ◌∷◌}
use lib.ListN.{length}
use Rattle.model.specs.Basic.{pick}
use Rattle.model.specs.declared.Entry.{Entry}
use Rattle.model.specs.Verdict.{Verdict}
use Rattle.model.specs.Entry.{alive}
use Rattle.model.specs.Page.{is_free}
use Rattle.model.specs.Store.{Store, page, next, last, last_of}
use Rattle.model.specs.Sound.{first_broken, entry_ok, lies_well, rule2, rule3, rule4, rule5, rule6, rule7}
use Rattle.model.specs.Layout.{read_header, decode}
use Rattle.model.specs.Counted.{rule8}
use Rattle.model.specs.Clean.{clean}
use Rattle.model.specs.Judged.{length_ok, magic_ok, edition_ok, broken_in, ruled, verdict, judged}
use Rattle.model.specs.Editions.{least_of, lent_number}
use Rattle.model.specs.Any.{judged_any}
use Rattle.model.specs.Inner.{In}
use Rattle.model.proofs.lists.Members.{all_in, not-both}
use Rattle.model.proofs.sound.ByRule.{Front, front_of_lem, entry-ok, GoodEntry, Young, rule7-by}
use Rattle.model.proofs.sound.Judging.{clean-first}
use Rattle.store.proofs.laws.Read.{oldest-lt}
use Rattle.promises.specs.Accepts.{store_of}
use Rattle.promises.specs.Prunes.{NeverSeven}
use Rattle.promises.proofs.Known.{check-goes, check-refuses}

-- ---- rule 7, from rules 1 to 3

module _ (least : ℕ) (s : Store) (d : Front least s) (z : s.oldest ≡ 0) where
  young : s.opened ≡ true → (n : ℕ) → is_free (page s.pages n) ≡ false → (page s.pages n).start ≡ next s → (e : Entry)
      → In e (page s.pages n).entries → Young (next s) e
  young o n u q e i = at g.span.ends
    where
      g : GoodEntry s (page s.pages n) e
      g =
          entry-ok s (page s.pages n) e
          (all_in (entry_ok (last s) (length s.pages) (page s.pages n).level) e (page s.pages n).entries
          (d.pages n u).entries i)
          (all_in (lies_well s (page s.pages n)) e (page s.pages n).entries (d.spans n u) i)

      open-last : last s ≡ next s
      open-last = ap (λ (b : Bool). last_of b s.current) o

      same_start : e.start ≡ next s
      same_start = omega (arith, q, g.later (inr (omega (arith, z, g.span.some))), g.span.starts, open-last)

      at : (e.end ≤ last s) ⊎ (e.end ≡ alive) → Young (next s) e
      at (inl x) = absurd (omega (arith, g.span.some, same_start, open-last))
      at (inr x) = record { starts = same_start; endless = x }

  seventh : rule7 s ≡ true
  seventh = rule7-by s young

-- ---- what 7 says

record Seven (least : ℕ) (b : List ℕ) : Type 0 where
  one : clean least b ≡ true
  two : rule2 (decode least b) ≡ true
  three : rule3 (decode least b) ≡ true
  seven : rule7 (decode least b) ≡ false

seven-says : (least : ℕ) (b : List ℕ) → broken_in least b ≡ 7 → Seven least b
unfolding broken_in
seven-says least b h =
    at (clean least b) (rule2 s) (rule3 s) (rule4 s) (rule5 least s) (rule6 s) (rule7 s) (rule8 least b) refl refl refl refl h
  where
    s : Store
    s = decode least b

    at : (p q r t u v w x : Bool) → clean least b ≡ p → rule2 (decode least b) ≡ q → rule3 (decode least b) ≡ r → rule7 (decode least b) ≡ w
        → first_broken 1 (p ∷ q ∷ r ∷ t ∷ u ∷ v ∷ w ∷ x ∷ []) ≡ 7 → Seven least b
    at false q r t u v w x a c e f h = absurd (omega arith)
    at true false r t u v w x a c e f h = absurd (omega arith)
    at true true false t u v w x a c e f h = absurd (omega arith)
    at true true true false u v w x a c e f h = absurd (omega arith)
    at true true true true false v w x a c e f h = absurd (omega arith)
    at true true true true true false w x a c e f h = absurd (omega arith)
    at true true true true true true true false a c e f h = absurd (omega arith)
    at true true true true true true true true a c e f h = absurd (omega arith)
    at true true true true true true false x a c e f h = record { one = a; two = c; three = e; seven = f }

ruled-is : (n : ℕ) → (ruled n).rule ≡ 7 → n ≡ 7
ruled-is zero e = absurd (omega arith)
ruled-is (suc n) e = e

judged-seven : (least : ℕ) (b : List ℕ) → (judged least b).rule ≡ 7 → broken_in least b ≡ 7
unfolding judged
judged-seven least b = at (length_ok least b) (magic_ok b) (edition_ok least b)
  where
    at : (p q r : Bool) → (pick p (pick q (pick r (ruled (broken_in least b)) (verdict 3 0)) (verdict 2 0)) (verdict 1 0)).rule ≡ 7
        → broken_in least b ≡ 7
    at true true true e = ruled-is (broken_in least b) e
    at true true false e = absurd (omega arith)
    at true false r e = absurd (omega arith)
    at false q r e = absurd (omega arith)

unpruned : (b : List ℕ) → (store_of b).oldest ≡ 0 → (judged_any b).rule ≢ 7
unpruned b z e = at (lent_number b) refl
  where
    at : (n : ℕ) → lent_number b ≡ n → ⊥
    at zero q =
        let w = seven-says (least_of b) b (judged-seven (least_of b) b (sym (ap (λ (v : Verdict). v.rule) (check-goes b q)) ∙ e)) in
        not-both (rule7 (store_of b))
        (seventh (least_of b) (store_of b) (front_of_lem (least_of b) (store_of b) (clean-first (least_of b) b w.one) w.two w.three) z)
        w.seven
    at (suc n) q = omega (arith, sym (ap (λ (v : Verdict). v.rule) (check-refuses b (λ (y : lent_number b ≡ 0). omega (arith, q, y)))) ∙ e)

-- a field of no bits
decoded : (least : ℕ) (b : List ℕ) → (decode least b).oldest ≡ (read_header least b).oldest
unfolding decode
decoded least b = refl

first-old : (b : List ℕ) → least_of b ≡ 4 → (store_of b).oldest ≡ 0
first-old b e = subst (λ (l : ℕ). (decode l b).oldest ≡ 0) (sym e) none
  where
    is : (decode 4 b).oldest ≡ (read_header 4 b).oldest
    is = decoded 4 b

    none : (decode 4 b).oldest ≡ 0
    none = omega (arith, is, oldest-lt 4 b)

pub never-seven : NeverSeven
never-seven = record { unpruned = unpruned; first = first-old }
