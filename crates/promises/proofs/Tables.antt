-- A table of kinds that is right has each key once, so that every row of it counts; and the premises of what is promised of named settings
-- can be met, by an older program and a newer one that take turns.
-- Assumes nothing.
use Rattle.model.specs.declared.Kind.{Kind}
use Prim.Native.Nat.{ℕ, zero, suc, ◌+◌, ◌*◌, ◌/◌, ◌≤◌, ◌<◌}
use native.Mathlib.Omega.{arith}
use mathlib.Core.Bool.{Bool, true, false, ◌&&◌}
use mathlib.Core.Path.{◌≡◌, refl, ap, ◌∙◌, subst}
use mathlib.Core.Logic.{inl}
use mathlib.Core.List.{List, [], ◌∷◌}
use lib.Dec.{leb, ltb, eqb, lit≤}
use lib.ListN.{length, get_or}
use borrow.Author.Tests.{leb-true, eq-eqb, ne_eqb}
use Rattle.model.specs.Basic.{pick}
use Rattle.std.specs.Prelude.{Option, Some, None}
use Rattle.model.specs.declared.Kind.TheVariants.{Whole, Switch}
use Rattle.model.specs.Walk.{key_limit}
use Rattle.model.specs.Kinds.{row_at, known_from, known_in, allowed, right_kind, row_right, wrong_from, wrong_row}
use Rattle.model.specs.Named.{by_open, by_commit, by_insert, by_range}
use Rattle.promises.specs.NamedSettings.{NamedTurn, Within, NamedHistory, RightTable}

-- ---- the rows of a right table, from place `at` on

right-parts : (p q r : Bool) → (p && q && r) ≡ true → (p ≡ true) × (r ≡ true)
right-parts true true r e = (refl, e)
right-parts true false true e = (refl, refl)
right-parts true false false e = (refl, e)
right-parts false q true e = (e, refl)
right-parts false q false e = (e, e)

module _ (table : List ℕ) where
  abbrev key : ℕ → ℕ
  key at = get_or table at 0

  record RightRow (least at : ℕ) : Type 0 where
    low : least ≤ key at
    kind : right_kind (row_at table at) ≡ true

  -- the first row is right, and so are those behind it
  first-right : (n at least : ℕ) → wrong_from (suc n) table at least ≡ 0
      → (row_right table at least ≡ true) × (wrong_from n table (at + 4) (suc (key at)) ≡ 0)
  unfolding wrong_from
  first-right n at least = by (row_right table at least)
    where
      by : (b : Bool) → pick b (wrong_from n table (at + 4) (suc (key at))) (at / 4 + 1) ≡ 0
          → (b ≡ true) × (wrong_from n table (at + 4) (suc (key at)) ≡ 0)
      by true e = (refl, e)
      by false e = absurd (omega arith)

  row_is : (at least : ℕ) → row_right table at least ≡ true → RightRow least at
  row_is at least e =
      let (p, r) = right-parts (leb least (key at)) (ltb (key at) key_limit) (right_kind (row_at table at)) e in
      record { low = leb-true least (key at) p; kind = r }

  rows_right : (n at least : ℕ) → wrong_from n table at least ≡ 0 → (i : ℕ) → i < n → RightRow least (at + 4 * i)
  rows_right zero at least e i h = absurd (omega arith)
  rows_right (suc n) at least e zero h =
      let here : at ≡ at + 4 * 0 = omega arith in
      subst (RightRow least) here (row_is at least (first-right n at least e).0)
  rows_right (suc n) at least e (suc i) h =
      let (right, rest) = first-right n at least e in
      let later : RightRow (suc (key at)) (at + 4 + 4 * i) = rows_right n (at + 4) (suc (key at)) rest i (omega arith) in
      let there : at + 4 + 4 * i ≡ at + 4 * suc i = omega arith in
      let own = row_is at least right in
      subst (RightRow least) there (record { low = omega (arith, own.low, later.low); kind = later.kind })

  row-known : (n at least : ℕ) → wrong_from n table at least ≡ 0 → (i : ℕ) → i < n
      → known_from n table at (key (at + 4 * i)) ≡ row_at table (at + 4 * i)
  unfolding known_from
  row-known zero at least e i h = absurd (omega arith)
  row-known (suc n) at least e zero h =
      let here : at ≡ at + 4 * 0 = omega arith in
      subst (λ (p : ℕ). pick (eqb (key at) (key p)) (row_at table at) (known_from n table (at + 4) (key p)) ≡ row_at table p) here
      (ap (λ (b : Bool). pick b (row_at table at) (known_from n table (at + 4) (key at))) (eq-eqb (key at) (key at) refl))
  row-known (suc n) at least e (suc i) h =
      let rest = (first-right n at least e).1 in
      let later : RightRow (suc (key at)) (at + 4 + 4 * i) = rows_right n (at + 4) (suc (key at)) rest i (omega arith) in
      let there : at + 4 + 4 * i ≡ at + 4 * suc i = omega arith in
      subst (λ (p : ℕ). pick (eqb (key at) (key p)) (row_at table at) (known_from n table (at + 4) (key p)) ≡ row_at table p) there
      (ap (λ (b : Bool). pick b (row_at table at) (known_from n table (at + 4) (key (at + 4 + 4 * i))))
      (ne_eqb (key at) (key (at + 4 + 4 * i)) (λ z. omega (arith, later.low, z)))
      ∙ row-known n (at + 4) (suc (key at)) rest i (omega arith))

pub right-table : RightTable
unfolding wrong_row known_in
right-table table e i h =
    let from_start : 0 + 4 * i ≡ 4 * i = omega arith in
    record {
      known = subst (λ (p : ℕ). known_from (length table / 4) table 0 (get_or table p 0) ≡ row_at table p) from_start
          (row-known table (length table / 4) 0 0 e i h);
      right = subst (λ (p : ℕ). right_kind (row_at table p) ≡ true) from_start (rows_right table (length table / 4) 0 0 e i h).kind;
    }

-- ---- two programs

pub older : List ℕ
older = 40 ∷ 0 ∷ 1 ∷ 100 ∷ []

pub newer : List ℕ
newer = 40 ∷ 0 ∷ 1 ∷ 100 ∷ 41 ∷ 1 ∷ 0 ∷ 0 ∷ []

grown : Within older newer
unfolding older newer known_in known_from
grown k x = at (eqb 40 k)
  where
    at : (b : Bool) → allowed (pick b (Some (Whole 1 100)) None) x ≡ 0
        → allowed (pick b (Some (Whole 1 100)) (pick (eqb 41 k) (Some Switch) None)) x ≡ 0
    at true e = e
    at false e = absurd (omega arith)

pub turns : List NamedTurn
turns =
    record { table = newer; call = by_open; list = [] } ∷ record { table = older; call = by_insert 40 7; list = [] }
    ∷ record { table = newer; call = by_insert 41 1; list = [] }
    ∷ record { table = older; call = by_range 0 50 1; list = 0 ∷ 0 ∷ [] } ∷ record { table = newer; call = by_commit; list = [] } ∷ []

pub two-programs : NamedHistory 4 6 newer turns
unfolding turns
two-programs = record {
  edition = inl refl;
  six = lit≤ tt;
  most = lit≤ tt;
  values = refl;
  tables = (λ k x e. e, (grown, (λ k x e. e, (grown, (λ k x e. e, tt)))));
}
