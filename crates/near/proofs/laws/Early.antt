-- Laws about near/specs/Early. Assumes nothing.
use Prim.Native.Nat.{ℕ, zero, suc, ◌<◌}
use native.Mathlib.Omega.{arith}
use mathlib.Core.Bool.{Bool, true, false, not}
use mathlib.Core.Path.{◌≡◌, refl, ap, sym, ◌∙◌}
use mathlib.Core.List.{List, [], ◌∷◌, ◌++◌}
use lib.Dec.{leb}
use Rattle.model.specs.Looked.{Refused}
use Rattle.model.specs.declared.Limits.{Limits}
use Rattle.model.specs.Limits.{Edition}
use Rattle.model.specs.Walk.{key_limit, lookup}
use Rattle.model.specs.Layout.{decode, size_of}
use Rattle.model.specs.Judged.{length_ok, magic_ok, edition_ok}
use Rattle.model.specs.Calls.{unreadable, Rule, rule, first_of, looked_by}
use Rattle.model.specs.Near.{front_right, from_root, down_right, early, lookup_near}
use Rattle.model.specs.Lent.{judged_first, lookup_lent}
use Rattle.local.specs.Local.{Sized}
use Rattle.local.proofs.laws.Sizes.{sized}
use Rattle.local.proofs.laws.First.{clean-roots}
use Rattle.local.proofs.laws.Right.{front-true}
use Rattle.walk.specs.Sure.{Fronted}
use Rattle.near.specs.Down.{walked}
use Rattle.near.specs.Early.{fronted, guarded}

-- each rule of a chain has a number
abbrev pub Numbered : List Rule → Type 0
Numbered [] = Unit {0}
Numbered (x ∷ xs) = (0 < x.number) × Numbered xs

pub chain-on : (rs qs : List Rule) → Numbered rs → first_of (rs ++ qs) ≡ judged_first (first_of rs) (λ n. n) (first_of qs)
chain-on [] qs h = refl
chain-on (x ∷ xs) qs h = at x.number x.holds h.0 (chain-on xs qs h.1)
  where
    at : (m : ℕ) (t : Bool) → 0 < m → first_of (xs ++ qs) ≡ judged_first (first_of xs) (λ n. n) (first_of qs)
        → ◌≡◌ {A = ℕ} (elim t [ true ↦ m | false ↦ first_of (xs ++ qs) ])
        (judged_first (elim t [ true ↦ m | false ↦ first_of xs ]) (λ n. n) (first_of qs))
    at zero t p ih = absurd (omega arith)
    at (suc m) true p ih = refl
    at (suc m) false p ih = ih

module _ (least : ℕ) (b : List ℕ) where
  abbrev pub numbers : (rs : List Rule) → Numbered rs → Numbered (early least b rs)
  numbers rs h = (omega arith, (omega arith, (omega arith, (omega arith, h))))

  pub guard-is : (bad : Bool) (v : ℕ) → guarded least b bad v
      ≡ judged_first (fronted least b) (λ n. n) (first_of (rule 5 bad ∷ rule 6 (unreadable (decode least b) v) ∷ []))
  unfolding guarded fronted
  guard-is bad v = chain-on (early least b []) (rule 5 bad ∷ rule 6 (unreadable (decode least b) v) ∷ []) (numbers [] tt)

  -- ---- the front, test by test

  pub front-one : length_ok least b ≡ false → 1 ≡ fronted least b
  unfolding fronted
  front-one a = sym (rw a)

  module _ (a : length_ok least b ≡ true) where
    pub front-two : magic_ok b ≡ false → 2 ≡ fronted least b
    unfolding fronted
    front-two c = sym (rw (a, c))

    module _ (c : magic_ok b ≡ true) where
      pub front-three : edition_ok least b ≡ false → 3 ≡ fronted least b
      unfolding fronted
      front-three e = sym (rw (a, c, e))

      module _ (e : edition_ok least b ≡ true) where
        pub front-four : front_right least b ≡ false → 4 ≡ fronted least b
        unfolding fronted
        front-four f = sym (rw (a, c, e, f))

        pub front-none : front_right least b ≡ true → 0 ≡ fronted least b
        unfolding fronted
        front-none f = sym (rw (a, c, e, f))

  -- ---- the guard

  pub guard-front : (bad : Bool) (v : ℕ) → (fronted least b ≡ 0 → ⊥) → fronted least b ≡ guarded least b bad v
  guard-front bad v z = at (fronted least b) (first_of (rule 5 bad ∷ rule 6 (unreadable (decode least b) v) ∷ [])) z ∙ sym (guard-is bad v)
    where
      at : (n m : ℕ) → (n ≡ 0 → ⊥) → n ≡ judged_first n (λ k. k) m
      at zero m z = absurd (z refl)
      at (suc n) m z = refl

  module _ (v : ℕ) (z : (fronted least b) ≡ 0) where
    rest : (bad : Bool) → guarded least b bad v ≡ first_of (rule 5 bad ∷ rule 6 (unreadable (decode least b) v) ∷ [])
    rest bad = guard-is bad v ∙ rw z

    pub guard-five : (bad : Bool) → bad ≡ true → 5 ≡ guarded least b bad v
    guard-five bad e = sym (rest bad ∙ rw e)

    pub guard-six : (bad : Bool) → bad ≡ false → unreadable (decode least b) v ≡ true → 6 ≡ guarded least b bad v
    guard-six bad e h = sym (rest bad ∙ rw (e, h))

    pub guard_none : (bad : Bool) → bad ≡ false → unreadable (decode least b) v ≡ false → 0 ≡ guarded least b bad v
    guard_none bad e h = sym (rest bad ∙ rw (e, h))

  -- ---- a lookup by its guard

  pub lookup-by : (k v : ℕ) → lookup_lent least b k v
      ≡ judged_first (guarded least b (leb key_limit k) v) (λ n. Refused n) (walked least b v k)
  unfolding lookup_lent lookup_near guarded walked
  lookup-by k v =
      let rs : List Rule = early least b (rule 5 (leb key_limit k) ∷ rule 6 (unreadable (decode least b) v) ∷ []) in
      let q : List Rule = rule 4 (not (from_root least b v (λ up n. down_right least b v up k n))) ∷ [] in
      ap (λ (n : ℕ). looked_by n (lookup (decode least b) k v))
      (chain-on rs q (numbers (rule 5 (leb key_limit k) ∷ rule 6 (unreadable (decode least b) v) ∷ []) (omega arith, (omega arith, tt))))
      ∙ at (first_of rs) (first_of q)
    where
      at : (n m : ℕ) → looked_by (judged_first n (λ j. j) m) (lookup (decode least b) k v)
          ≡ judged_first n (λ j. Refused j) (looked_by m (lookup (decode least b) k v))
      at zero m = refl
      at (suc n) m = refl

  module _ (k v n : ℕ) (e : n ≡ guarded least b (leb key_limit k) v) where
    pub lookup-refused : (n ≡ 0 → ⊥) → Refused n ≡ lookup_lent least b k v
    lookup-refused z = at n z ∙ ap (λ (m : ℕ). judged_first m (λ j. Refused j) (walked least b v k)) e ∙ sym (lookup-by k v)
      where
        at : (m : ℕ) → (m ≡ 0 → ⊥) → Refused m ≡ judged_first m (λ j. Refused j) (walked least b v k)
        at zero z = absurd (z refl)
        at (suc m) z = refl

    pub lookup-walked : n ≡ 0 → walked least b v k ≡ lookup_lent least b k v
    lookup-walked z = sym (lookup-by k v ∙ rw (sym e ∙ z))

-- ---- what 0 gives

all_none : (a m e f : Bool) → first_of (rule 1 (not a) ∷ rule 2 (not m) ∷ rule 3 (not e) ∷ rule 4 (not f) ∷ []) ≡ 0 → (a ≡ true) × (f ≡ true)
all_none true true true true z = (refl, refl)
all_none false m e f z = absurd (omega arith)
all_none true false e f z = absurd (omega arith)
all_none true true false f z = absurd (omega arith)
all_none true true true false z = absurd (omega arith)

module _ (least : ℕ) (b : List ℕ) (bad : Bool) (v : ℕ) (e : guarded least b bad v ≡ 0) where
  none-front : fronted least b ≡ 0
  none-front = at (fronted least b) _ (sym (guard-is least b bad v) ∙ e)
    where
      at : (n m : ℕ) → judged_first n (λ k. k) m ≡ 0 → n ≡ 0
      at zero m e = refl
      at (suc n) m e = absurd (omega arith)

  pub guard-front-right : front_right least b ≡ true
  unfolding fronted
  guard-front-right = (all_none (length_ok least b) (magic_ok b) (edition_ok least b) (front_right least b) none-front).1

module _ {l : Limits} (d : Edition l) (b : List ℕ) where
  module _ (z : fronted l.least b ≡ 0) where
    both : (length_ok l.least b ≡ true) × (front_right l.least b ≡ true)
    unfolding fronted
    both = all_none (length_ok l.least b) (magic_ok b) (edition_ok l.least b) (front_right l.least b) z

    pub none-sized : Sized l.least b (size_of l.least b)
    none-sized = sized l.least d.four b d.eight both.0

    pub none-fronted : Fronted l.least b
    none-fronted =
        let s = none-sized in
        record {
          front = omega (arith, s.front);
          few = omega (arith, s.long);
          roots = clean-roots l.least b (front-true l.least b both.1);
        }

  pub guard-fronted : (bad : Bool) (v : ℕ) → guarded l.least b bad v ≡ 0 → fronted l.least b ≡ 0
  guard-fronted bad v e = none-front l.least b bad v e
