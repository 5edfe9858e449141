-- Laws about plain/specs/Calls. Assumes nothing.
use Prim.Native.Nat.{ℕ, suc, ◌+◌, ◌*◌, ◌≤◌, ◌<◌}
use native.Mathlib.Omega.{arith}
use mathlib.Core.Bool.{Bool, true, false, not}
use mathlib.Core.Option.{Option, none, some}
use mathlib.Core.Path.{◌≡◌, refl, ap, ap₂, sym, ◌∙◌}
use mathlib.Core.List.{List, [], ◌∷◌}
use lib.Dec.{leb, eqb}
use lib.ListN.{length, length-append}
use borrow.Author.Tests.{le-leb, lt-leb, eq-eqb, ne_eqb}
use Rattle.model.specs.Basic.{is_empty}
use Rattle.model.specs.declared.Entry.{Entry}
use Rattle.model.specs.Looked.{Refused}
use Rattle.model.specs.Entry.{pair, alive, born}
use Rattle.model.specs.Walk.{key_limit}
use Rattle.model.specs.Calls.{is_some, rule, first_of, beyond, bench_limit, restored_entries, looked_at, looked_by}
use Rattle.plain.specs.declared.State.{State}
use Rattle.plain.specs.Plain.{Plain, next, unreadable, value_at, differs, set_key, end_key, back_to, Given, unless, standing, holding}
use Rattle.plain.specs.Plain.{pruned, begin, insert, delete, commit, abandon, return, prune, lookup}
use Rattle.plain.specs.Items.{plain_of, from}
use Rattle.plain.specs.Laid.{laid}
use Rattle.plain.proofs.laws.Laid.{from-behind, from-length}
use Rattle.plain.specs.Sweep.{ended, undone, outliving, swept}
use Rattle.plain.proofs.laws.Sweep.{swept-ended, swept-undone, swept-outliving}
use Rattle.plain.specs.Calls.{Room}

-- ---- laws: lookup

module _ (p : Plain) (k v : ℕ) where
  pub lookup-five : key_limit ≤ k → Refused 5 ≡ lookup p k v
  unfolding lookup
  lookup-five h = rw (le-leb key_limit k h) refl

  pub lookup-six : k < key_limit → unreadable p v ≡ true → Refused 6 ≡ lookup p k v
  unfolding lookup
  lookup-six h i =
      ap₂ (λ (b c : Bool). looked_by (first_of (rule 5 b ∷ rule 6 c ∷ [])) (value_at k v p.items)) (sym (lt-leb key_limit k h)) (sym i)

  pub lookup-done : k < key_limit → unreadable p v ≡ false → looked_at (value_at k v p.items) ≡ lookup p k v
  unfolding lookup
  lookup-done h i =
      ap₂ (λ (b c : Bool). looked_by (first_of (rule 5 b ∷ rule 6 c ∷ [])) (value_at k v p.items)) (sym (lt-leb key_limit k h)) (sym i)

-- ---- open

module _ (p : Plain) where
  pub open-eight : p.opened ≡ true → record { number = 8; plain = p } ≡ begin p
  unfolding begin
  open-eight o =
      ap (λ (b : Bool). unless (first_of (rule 8 b ∷ rule 9 (leb 1048574 p.current) ∷ [])) p (standing p p.current true p.items))
      (sym o)

  pub open-nine : p.opened ≡ false → 1048574 ≤ p.current → record { number = 9; plain = p } ≡ begin p
  unfolding begin
  open-nine o h =
      ap₂ {C = Given} (λ (b c : Bool). unless (first_of (rule 8 b ∷ rule 9 c ∷ [])) p (standing p p.current true p.items)) (sym o)
      (sym (le-leb 1048574 p.current h))

  pub open_done : p.opened ≡ false → p.current < 1048574
      → record { number = 0; plain = standing p p.current true p.items } ≡ begin p
  unfolding begin
  open_done o h =
      ap₂ {C = Given} (λ (b c : Bool). unless (first_of (rule 8 b ∷ rule 9 c ∷ [])) p (standing p p.current true p.items)) (sym o)
      (sym (lt-leb 1048574 p.current h))

-- ---- insert, delete

abbrev three : ℕ → Bool → Bool → Bool → Plain → Plain → Given
three n a b c p q = unless (first_of (rule 5 a ∷ rule 7 (not b) ∷ rule n c ∷ [])) p q

three-by : (n : ℕ) {a b c a' b' c' : Bool} (p q : Plain) → a ≡ a' → b ≡ b' → c ≡ c' → three n a' b' c' p q ≡ three n a b c p q
three-by n {a} {b} {c} {a'} {b'} {c'} p q e f g =
    sym (ap₂ {C = Given} (λ (x y : Bool). three n x y c p q) e f ∙ ap (λ (z : Bool). three n a' b' z p q) g)

module _ (p : Plain) (k x : ℕ) where
  abbrev inserted : Plain
  inserted = holding p (set_key (next p) k x p.items)

  pub insert-five : bench_limit ≤ k → record { number = 5; plain = p } ≡ insert p k x
  unfolding insert
  insert-five h =
      ap (λ (a : Bool). three 10 a p.opened (is_some (value_at k (next p) p.items)) p inserted) (sym (le-leb bench_limit k h))

  module _ (h : k < bench_limit) where
    pub insert-seven : p.opened ≡ false → record { number = 7; plain = p } ≡ insert p k x
    unfolding insert
    insert-seven o =
        ap₂ {C = Given} (λ (a b : Bool). three 10 a b (is_some (value_at k (next p) p.items)) p inserted) (sym (lt-leb bench_limit k h))
        (sym o)

    pub insert-ten : p.opened ≡ true → (y : ℕ) → value_at k (next p) p.items ≡ some y → record { number = 10; plain = p } ≡ insert p k x
    unfolding insert
    insert-ten o y e = three-by 10 p inserted (lt-leb bench_limit k h) o (ap is_some e)

    pub insert-done : p.opened ≡ true → value_at k (next p) p.items ≡ none → record { number = 0; plain = inserted } ≡ insert p k x
    unfolding insert
    insert-done o e = three-by 10 p inserted (lt-leb bench_limit k h) o (ap is_some e)

module _ (p : Plain) (k : ℕ) where
  abbrev deleted : Plain
  deleted = holding p (end_key (next p) k p.items)

  pub delete-five : key_limit ≤ k → record { number = 5; plain = p } ≡ delete p k
  unfolding delete
  delete-five h =
      ap (λ (a : Bool). three 11 a p.opened (not (is_some (value_at k (next p) p.items))) p deleted) (sym (le-leb key_limit k h))

  module _ (h : k < key_limit) where
    pub delete-seven : p.opened ≡ false → record { number = 7; plain = p } ≡ delete p k
    unfolding delete
    delete-seven o =
        ap₂ {C = Given} (λ (a b : Bool). three 11 a b (not (is_some (value_at k (next p) p.items))) p deleted) (sym (lt-leb key_limit k h))
        (sym o)

    pub delete-eleven : p.opened ≡ true → value_at k (next p) p.items ≡ none → record { number = 11; plain = p } ≡ delete p k
    unfolding delete
    delete-eleven o e = three-by 11 p deleted (lt-leb key_limit k h) o (ap (λ (y : Option ℕ). not (is_some y)) e)

    pub delete-done : p.opened ≡ true → (y : ℕ) → value_at k (next p) p.items ≡ some y
        → record { number = 0; plain = deleted } ≡ delete p k
    unfolding delete
    delete-done o y e = three-by 11 p deleted (lt-leb key_limit k h) o (ap (λ (z : Option ℕ). not (is_some z)) e)

-- ---- abandon, commit, return

module _ (p : Plain) where
  abbrev abandoned : Plain
  abandoned = standing p p.current false (restored_entries (next p) p.items)

  pub abandon-seven : p.opened ≡ false → record { number = 7; plain = p } ≡ abandon p
  unfolding abandon
  abandon-seven o = ap (λ (b : Bool). unless (first_of (rule 7 (not b) ∷ [])) p abandoned) (sym o)

  pub abandon-done : p.opened ≡ true → record { number = 0; plain = abandoned } ≡ abandon p
  unfolding abandon
  abandon-done o = ap (λ (b : Bool). unless (first_of (rule 7 (not b) ∷ [])) p abandoned) (sym o)

  abbrev committed : Plain
  committed = standing p (next p) false p.items

  abbrev same : Bool
  same = is_empty (differs p.current (next p) p.items)

  pub commit-seven : p.opened ≡ false → record { number = 7; plain = p } ≡ commit p
  unfolding commit
  commit-seven o = ap (λ (b : Bool). unless (first_of (rule 7 (not b) ∷ rule 15 same ∷ [])) p committed) (sym o)

  pub commit-fifteen : p.opened ≡ true → same ≡ true → record { number = 15; plain = p } ≡ commit p
  unfolding commit
  commit-fifteen o e = ap₂ {C = Given} (λ (b c : Bool). unless (first_of (rule 7 (not b) ∷ rule 15 c ∷ [])) p committed) (sym o) (sym e)

  pub commit-done : p.opened ≡ true → same ≡ false → record { number = 0; plain = committed } ≡ commit p
  unfolding commit
  commit-done o e = ap₂ {C = Given} (λ (b c : Bool). unless (first_of (rule 7 (not b) ∷ rule 15 c ∷ [])) p committed) (sym o) (sym e)

module _ (p : Plain) (v : ℕ) where
  abbrev returned : Plain
  returned = holding p (back_to (next p) v p.items)

  pub return-six : beyond p.current p.oldest v ≡ true → record { number = 6; plain = p } ≡ return p v
  unfolding return
  return-six h = ap (λ (b : Bool). unless (first_of (rule 6 b ∷ rule 7 (not p.opened) ∷ [])) p returned) (sym h)

  module _ (h : beyond p.current p.oldest v ≡ false) where
    pub return-seven : p.opened ≡ false → record { number = 7; plain = p } ≡ return p v
    unfolding return
    return-seven o = ap₂ {C = Given} (λ (b c : Bool). unless (first_of (rule 6 b ∷ rule 7 (not c) ∷ [])) p returned) (sym h) (sym o)

    pub return-done : p.opened ≡ true → record { number = 0; plain = returned } ≡ return p v
    unfolding return
    return-done o = ap₂ {C = Given} (λ (b c : Bool). unless (first_of (rule 6 b ∷ rule 7 (not c) ∷ [])) p returned) (sym h) (sym o)

-- ---- prune

module _ (p : Plain) (v : ℕ) where
  abbrev pruning : Bool → Bool → Bool → Given
  pruning a b c = unless (first_of (rule 3 a ∷ rule 6 b ∷ rule 8 c ∷ [])) p (pruned p v)

  pub prune-three : p.edition ≡ 1 → record { number = 3; plain = p } ≡ prune p v
  unfolding prune
  prune-three e = ap (λ (a : Bool). pruning a (beyond p.current p.oldest v) p.opened) (sym (eq-eqb p.edition 1 e))

  module _ (e : p.edition ≡ 1 → ⊥) where
    pub prune-six : beyond p.current p.oldest v ≡ true → record { number = 6; plain = p } ≡ prune p v
    unfolding prune
    prune-six h = ap₂ {C = Given} (λ (a b : Bool). pruning a b p.opened) (sym (ne_eqb p.edition 1 e)) (sym h)

    module _ (h : beyond p.current p.oldest v ≡ false) where
      by-open : (b : Bool) → p.opened ≡ b → pruning false false b ≡ prune p v
      unfolding prune
      by-open b o =
          ap₂ {C = Given} (λ (a c : Bool). pruning a c b) (sym (ne_eqb p.edition 1 e)) (sym h)
          ∙ ap (pruning (eqb p.edition 1) (beyond p.current p.oldest v)) (sym o)

      pub prune-eight : p.opened ≡ true → record { number = 8; plain = p } ≡ prune p v
      prune-eight o = by-open true o

      pub prune-done : p.opened ≡ false → record { number = 0; plain = pruned p v } ≡ prune p v
      prune-done o = by-open false o

-- ---- on a lent list; w is the open version as the code has it

abbrev pub given : State → Bool → List Entry → Given
given s o es =
    record { number = 0; plain = record { current = s.current; opened = o; oldest = s.oldest; edition = s.edition; items = es } }

module _ (s : State) (ns : List ℕ) (k w : ℕ) (is : w ≡ suc s.current) (o : s.opened ≡ true) where
  module _ (x : ℕ) (h : k < bench_limit) (none-there : value_at k w (from ns 0 s.count) ≡ none) where
    made : given s s.opened (set_key (suc s.current) k x (from ns 0 s.count)) ≡ insert (plain_of s ns) k x
    made = insert-done (plain_of s ns) k x h o (ap (λ (v : ℕ). value_at k v (from ns 0 s.count)) (sym is) ∙ none-there)

    pub insert-room : Room (insert (plain_of s ns) k x) ns → 4 * s.count + 4 ≤ length ns
    insert-room r =
        let e = ap (λ (g : Given). length g.plain.items) made in
        let one = length-append (from ns 0 s.count) (born (suc s.current) (pair k x) ∷ []) in
        omega (arith, e, one, from-length ns s.count, r)

    pub insert-left : 4 * s.count + 4 ≤ length ns
        → given s s.opened (from (laid ns s.count (record { key = k; start = w; end = alive; value = x })) 0 (s.count + 1))
        ≡ insert (plain_of s ns) k x
    insert-left r =
        ap (given s s.opened) (from-behind ns s.count (record { key = k; start = w; end = alive; value = x }) r)
        ∙ ap (λ (v : ℕ). given s s.opened (set_key v k x (from ns 0 s.count))) is ∙ made

  pub delete-left : k < key_limit → (y : ℕ) → value_at k w (from ns 0 s.count) ≡ some y → (es : List Entry)
      → es ≡ swept (ended w k) (from ns 0 s.count)
      → given s s.opened es ≡ delete (plain_of s ns) k
  delete-left h y e es d =
      ap (given s s.opened) (d ∙ swept-ended w k (from ns 0 s.count))
      ∙ ap (λ (v : ℕ). given s s.opened (end_key v k (from ns 0 s.count))) is
      ∙ delete-done (plain_of s ns) k h o y (ap (λ (v : ℕ). value_at k v (from ns 0 s.count)) (sym is) ∙ e)

  pub abandon-left : (es : List Entry) → es ≡ swept (undone w) (from ns 0 s.count) → given s false es ≡ abandon (plain_of s ns)
  abandon-left es d =
      ap (given s false) (d ∙ swept-undone w (from ns 0 s.count))
      ∙ ap (λ (v : ℕ). given s false (restored_entries v (from ns 0 s.count))) is ∙ abandon-done (plain_of s ns) o

-- what is left of a prune
pub prune-left : (s : State) (ns : List ℕ) (v : ℕ) → (s.edition ≡ 1 → ⊥) → beyond s.current s.oldest v ≡ false → s.opened ≡ false
    → (es : List Entry) → es ≡ swept (outliving v) (from ns 0 s.count)
    → record { number = 0; plain = record { current = s.current; opened = s.opened; oldest = v; edition = s.edition; items = es } }
    ≡ prune (plain_of s ns) v
prune-left s ns v e h o es d =
    ap {B = Given}
    (λ (xs : List Entry).
    record { number = 0; plain = record { current = s.current; opened = s.opened; oldest = v; edition = s.edition; items = xs } })
    (d ∙ swept-outliving v (from ns 0 s.count))
    ∙ prune-done (plain_of s ns) v e h o
