-- A range's answers do not depend on what stood in the list, and its settings have room there. Assumes nothing.
use Prim.Native.Nat.{ℕ, zero, suc, ◌*◌, ◌≤◌}
use mathlib.Core.Path.{◌≡◌, refl, ap, sym, subst, ◌∙◌}
use mathlib.Core.Bool.{Bool, true, false}
use mathlib.Core.List.{List, [], ◌∷◌, ◌++◌}
use lib.Dec.{ltb}
use lib.ListN.{length, drop, replicate, length-replicate}
use lib.Seq.{take_at}
use native.Mathlib.Omega.{arith}
use borrow.Author.Tests.{ltb-false}
use Rattle.model.specs.declared.Pair.{Pair}
use Rattle.model.specs.Walk.{range_of}
use Rattle.model.specs.Layout.{decode}
use Rattle.model.specs.Judged.{length_ok}
use Rattle.model.specs.Near.{range_near}
use Rattle.model.specs.Calls.{Ranged, rule, first_of, ranged_in, ranged_by}
use Rattle.model.specs.Lent.{Listed, range_lent}
use Rattle.walk.proofs.laws.Written.{length-numbers}
use Rattle.lines.specs.declared.Answer.TheVariants.{Refused, Count}
use Rattle.lines.specs.declared.Command.TheVariants.{Range}
use Rattle.lines.specs.Session as Session
use Rattle.lines.specs.Session.{settings, ranged, said}
use Rattle.console.specs.Obeys.{store_in, Sure, Replies}

-- a range that is done wrote two numbers a setting, and they have room
abbrev Roomy : ℕ → Ranged → Type 0
Roomy room r = r.number ≡ 0 → (length r.written ≡ 2 * r.count) × (2 * r.count ≤ room)

roomy-in : (room : ℕ) (xs : List Pair) (b : Bool) → ltb room (2 * length xs) ≡ b → Roomy room (ranged_in (first_of (rule 14 b ∷ [])) xs)
unfolding ranged_in
roomy-in room xs true e z = absurd (omega arith)
roomy-in room xs false e z = (length-numbers xs, ltb-false room (2 * length xs) e)

roomy-by : (n room : ℕ) (xs : List Pair) → Roomy room (ranged_by n room xs)
unfolding ranged_by
roomy-by zero room xs = roomy-in room xs (ltb room (2 * length xs)) refl
roomy-by (suc n) room xs = λ z. absurd (omega arith)

-- the same answers with any list of that length
alike-by : (n count : ℕ) (w ns ms : List ℕ) → (n ≡ 0 → length w ≡ 2 * count)
    → Session.ranged_by n count (w ++ drop (length w) ns) ≡ Session.ranged_by n count (w ++ drop (length w) ms)
alike-by zero count w ns ms f =
    ap (λ (l : List ℕ). Count count ∷ settings l)
    (take_at w (drop (length w) ns) (2 * count) (f refl) ∙ sym (take_at w (drop (length w) ms) (2 * count) (f refl)))
alike-by (suc n) count w ns ms f = refl

module _ (least : ℕ) (b : List ℕ) (lo hi v : ℕ) where
  roomy : (room : ℕ) → Roomy room (range_near least b lo hi v room)
  unfolding range_near
  roomy room = roomy-by _ room (range_of (decode least b) lo hi v)

  alike : (ns ms : List ℕ) → length ns ≡ length ms → ranged (range_lent least b lo hi v ns) ≡ ranged (range_lent least b lo hi v ms)
  unfolding range_lent
  alike ns ms e =
      let r = range_near least b lo hi v (length ms) in
      rw e (alike-by r.number r.count r.written ns ms (λ z. (roomy (length ms) z).0))

  fits : (ns : List ℕ) (l : Listed) → l ≡ range_lent least b lo hi v ns → l.number ≡ 0 → 2 * l.count ≤ length ns
  unfolding range_lent
  fits ns l e z = rw e (roomy (length ns) (sym (ap (λ (x : Listed). x.number) e) ∙ z)).1

-- "before an accepted `store` .. the answer is `refused 1`"
none_lent : (lo hi v : ℕ) (ns : List ℕ) → (range_lent 4 [] lo hi v ns).number ≡ 1
unfolding range_lent range_near ranged_by length_ok
none_lent lo hi v ns = refl

none_said : (lo hi v : ℕ) → (said 4 [] (Range lo hi v)).answers ≡ Refused 1 ∷ []
unfolding said
none_said lo hi v =
    let l = range_lent 4 [] lo hi v (replicate 10040 0) in
    ap (λ (n : ℕ). Session.ranged_by n l.count l.list) (none_lent lo hi v (replicate 10040 0))

none_kept : (lo hi v : ℕ) → [] ≡ (said 4 [] (Range lo hi v)).store
unfolding said
none_kept lo hi v = refl

pub range_none : (bytes list : List ℕ) (pages lo hi v : ℕ) → pages ≡ 0
    → Replies (said 4 (store_in bytes pages) (Range lo hi v)) bytes list (record { pages = pages; answer = Refused 1; count = 0 })
range_none bytes list pages lo hi v z =
    subst
    (λ (p : ℕ). Replies (said 4 (store_in bytes p) (Range lo hi v)) bytes list (record { pages = p; answer = Refused 1; count = 0 }))
    (sym z)
    (record {
      store = none_kept lo hi v;
      answers = none_said lo hi v;
      listed = omega arith;
      pages = omega arith;
      sure = λ t. absurd (omega arith);
    })

-- what the call gave, and the list after it
module _ (bytes : List ℕ) (pages lo hi v : ℕ) (ns : List ℕ) (r : Listed) (size : length ns ≡ 10040) (few : pages ≤ 256)
    (e : r ≡ range_lent 4 (store_in bytes pages) lo hi v ns) where
  answers : Session.ranged_by r.number r.count r.list ≡ (said 4 (store_in bytes pages) (Range lo hi v)).answers
  unfolding said
  answers =
      ap ranged e
      ∙ alike 4 (store_in bytes pages) lo hi v ns (replicate 10040 0) (size ∙ sym (length-replicate {A = ℕ} 10040 0))

  store : store_in bytes pages ≡ (said 4 (store_in bytes pages) (Range lo hi v)).store
  unfolding said
  store = refl

  pub count_fits : r.number ≡ 0 → 2 * r.count ≤ 10040
  count_fits z = rw size at (fits 4 (store_in bytes pages) lo hi v ns r e z)

  refused-by : (n : ℕ) → (n ≡ 0 → ⊥) → Session.ranged_by n r.count r.list ≡ Refused n ∷ []
  refused-by zero z = absurd (z refl)
  refused-by (suc n) z = refl

  pub range-refused : Sure bytes pages → (r.number ≡ 0 → ⊥)
      → Replies (said 4 (store_in bytes pages) (Range lo hi v)) bytes r.list
      (record { pages = pages; answer = Refused r.number; count = 0 })
  range-refused s z =
      record { store = store; answers = sym answers ∙ refused-by r.number z; listed = omega arith; pages = few; sure = s }

  pub range-done : Sure bytes pages → r.number ≡ 0
      → Replies (said 4 (store_in bytes pages) (Range lo hi v)) bytes r.list
      (record { pages = pages; answer = Count r.count; count = r.count })
  range-done s z = record {
    store = store;
    answers = sym answers ∙ ap (λ (n : ℕ). Session.ranged_by n r.count r.list) z;
    listed = count_fits z;
    pages = few;
    sure = s;
  }
