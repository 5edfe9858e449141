-- What a call leaves of a plain store is a plain store again.
-- Assumes nothing.
use Prim.Native.Nat.{ℕ, zero, suc, ◌+◌, ◌*◌, ◌≤◌}
use native.Mathlib.Omega.{arith}
use mathlib.Core.Bool.{Bool, true, false, ◌&&◌, ◌||◌, not}
use mathlib.Core.Path.{◌≡◌, refl, ap, ap₂, sym, ◌∙◌, subst}
use mathlib.Core.List.{List, [], ◌∷◌}
use lib.Dec.{leb, ltb, eqb}
use lib.ListN.{length, get_or}
use borrow.Author.Tests.{le-leb, leb-true, leb-false, ltb-false, eqb-true}
use Rattle.model.specs.Basic.{is_empty}
use Rattle.model.specs.Layout.{bit}
use Rattle.model.specs.Calls.{is_some, rule, first_of, insert_tests, delete_tests, prune_tests, restored_entries}
use Rattle.model.specs.Return.{return_tests}
use Rattle.model.proofs.lists.Lists.{both_true}
use Rattle.plain.specs.declared.State.{State}
use Rattle.plain.specs.Plain.{Plain, Given, next, value_at, differs, unless, standing, holding, set_key, end_key, back_to, pruned, begin}
use Rattle.plain.specs.Plain.{insert, delete, commit, abandon, return, prune}
use Rattle.plain.specs.Items.{plain_of}
use Rattle.plain.specs.Guard.{state_of, state_numbers, are_versions, is_edition, is_state, longest, is_lent, read_plain, OpensGuarded}
use Rattle.plain.specs.Guard.{StateAgain, LentAgain}
use Rattle.plain.proofs.laws.Laid.{from-length}
use Rattle.plain.proofs.Guards.{lent_by, lent_fits, guarded-some, begin-few}

-- ---- what is asked of a plain store's numbers, the items aside

pub record NumbersStand (p : Plain) : Type 0 where
  pub version : p.current + bit p.opened ≤ 1048574
  pub old : p.oldest ≤ p.current
  pub edition : is_edition p.edition ≡ true

flag-fits : (n : ℕ) (b : Bool) → eqb n 1 ≡ b → bit b ≤ n
flag-fits n true e = omega (arith, eqb-true n 1 e)
flag-fits n false e = omega arith

pub state-stands : (ns ms : List ℕ) → is_state ms ≡ true → NumbersStand (read_plain ns ms)
state-stands ns ms e =
    let f = both_true (are_versions (get_or ms 0 0) (get_or ms 1 0)) (leb (get_or ms 3 0) (get_or ms 0 0) && is_edition (get_or ms 4 0)) e in
    let v = both_true (leb (get_or ms 1 0) 1) (leb (get_or ms 0 0 + get_or ms 1 0) 1048574) f.0 in
    let g = both_true (leb (get_or ms 3 0) (get_or ms 0 0)) (is_edition (get_or ms 4 0)) f.1 in
    record {
      version = omega (arith, leb-true (get_or ms 0 0 + get_or ms 1 0) 1048574 v.1, flag-fits (get_or ms 1 0) (eqb (get_or ms 1 0) 1) refl);
      old = leb-true (get_or ms 3 0) (get_or ms 0 0) g.0;
      edition = g.1;
    }

bit-low : (b : Bool) → leb (bit b) 1 ≡ true
bit-low true = refl
bit-low false = refl

pub stands-state : (s : State) (ns : List ℕ) → NumbersStand (plain_of s ns) → is_state (state_numbers s) ≡ true
stands-state s ns h =
    ap₂ (λ (a b : Bool). (a && b) && (leb s.oldest s.current && is_edition s.edition)) (bit-low s.opened)
    (le-leb (s.current + bit s.opened) 1048574 h.version)
    ∙ ap₂ (λ (a b : Bool). a && b) (le-leb s.oldest s.current h.old) h.edition

-- ---- the calls

unless-stands : (n : ℕ) (p q : Plain) → NumbersStand p → (n ≡ 0 → NumbersStand q) → NumbersStand (unless n p q).plain
unless-stands zero p q h i = i refl
unless-stands (suc n) p q h i = h

module _ (p : Plain) (h : NumbersStand p) where
  pub begin-stands : NumbersStand (begin p).plain
  unfolding begin
  begin-stands =
      unless-stands (first_of (rule 8 p.opened ∷ rule 9 (leb 1048574 p.current) ∷ [])) p (standing p p.current true p.items) h
      (at p.opened (leb 1048574 p.current) refl)
    where
      at : (a b : Bool) → leb 1048574 p.current ≡ b → first_of (rule 8 a ∷ rule 9 b ∷ []) ≡ 0
          → NumbersStand (standing p p.current true p.items)
      at true b e z = absurd (omega (arith, z))
      at false true e z = absurd (omega (arith, z))
      at false false e z = record { version = omega (arith, leb-false 1048574 p.current e); old = h.old; edition = h.edition }

  pub insert-stands : (k x : ℕ) → NumbersStand (insert p k x).plain
  unfolding insert
  insert-stands k x =
      unless-stands (first_of (insert_tests k p.opened (is_some (value_at k (next p) p.items)))) p
      (holding p (set_key (next p) k x p.items)) h
      (λ z. record { version = h.version; old = h.old; edition = h.edition })

  pub delete-stands : (k : ℕ) → NumbersStand (delete p k).plain
  unfolding delete
  delete-stands k =
      unless-stands (first_of (delete_tests k p.opened (is_some (value_at k (next p) p.items)))) p
      (holding p (end_key (next p) k p.items)) h
      (λ z. record { version = h.version; old = h.old; edition = h.edition })

  pub commit-stands : NumbersStand (commit p).plain
  unfolding commit
  commit-stands =
      unless-stands (first_of (rule 7 (not p.opened) ∷ rule 15 (is_empty (differs p.current (next p) p.items)) ∷ [])) p
      (standing p (next p) false p.items) h
      (at p.opened (is_empty (differs p.current (next p) p.items)) h.version)
    where
      at : (a b : Bool) → p.current + bit a ≤ 1048574 → first_of (rule 7 (not a) ∷ rule 15 b ∷ []) ≡ 0
          → NumbersStand (standing p (next p) false p.items)
      at false b i z = absurd (omega (arith, z))
      at true b i z = record { version = omega (arith, i); old = omega (arith, h.old); edition = h.edition }

  pub abandon-stands : NumbersStand (abandon p).plain
  unfolding abandon
  abandon-stands =
      unless-stands (first_of (rule 7 (not p.opened) ∷ [])) p (standing p p.current false (restored_entries (next p) p.items)) h
      (λ z. record { version = omega (arith, h.version); old = h.old; edition = h.edition })

  pub return-stands : (v : ℕ) → NumbersStand (return p v).plain
  unfolding return
  return-stands v =
      unless-stands (first_of (return_tests p.oldest p.current p.opened v)) p (holding p (back_to (next p) v p.items)) h
      (λ z. record { version = h.version; old = h.old; edition = h.edition })

  pub prune-stands : (v : ℕ) → NumbersStand (prune p v).plain
  unfolding prune
  prune-stands v =
      unless-stands (first_of (rule 3 (eqb p.edition 1) ∷ prune_tests p.oldest p.current p.opened v)) p (pruned p v) h
      (at (eqb p.edition 1) (ltb p.current v) refl (ltb v p.oldest) p.opened)
    where
      at : (a b : Bool) → ltb p.current v ≡ b → (c o : Bool) → first_of (rule 3 a ∷ rule 6 (b || c) ∷ rule 8 o ∷ []) ≡ 0
          → NumbersStand (pruned p v)
      at true b e c o z = absurd (omega (arith, z))
      at false true e c o z = absurd (omega (arith, z))
      at false false e c o z = record { version = h.version; old = ltb-false p.current v e; edition = h.edition }

-- ---- on what is lent: s is the state as the code has it

pub state-again : (ms : List ℕ) (s : State) → s ≡ state_of ms → (n : ℕ) (t : State)
    → record { number = n; plain = plain_of t [] } ≡ begin (plain_of s []) → (ms' : List ℕ) → ms' ≡ state_numbers t → StateAgain ms ms'
state-again ms s is n t does ms' f e =
    let own : NumbersStand (plain_of s []) = subst (λ (u : State). NumbersStand (plain_of u [])) (sym is) (state-stands [] ms e) in
    let left : NumbersStand (plain_of t [])
    = subst (λ (g : Given). NumbersStand g.plain) (sym does) (begin-stands (plain_of s []) own) in
    ap is_state f ∙ stands-state t [] left

module _ (ns ms : List ℕ) (lent : is_lent ns ms ≡ true) (s : State) (is : s ≡ state_of ms) where
  abbrev own : Plain
  own = plain_of s ns

  own-stands : NumbersStand own
  own-stands =
      subst (λ (t : State). NumbersStand (plain_of t ns)) (sym is)
      (state-stands ns ms (both_true (is_state ms) (leb (length ns) longest && leb (4 * get_or ms 2 0) (length ns)) lent).0)

  pub lent_again : (n : ℕ) (t : State) (ns' : List ℕ) (g : Given) → record { number = n; plain = plain_of t ns' } ≡ g
      → (NumbersStand own → NumbersStand g.plain) → 4 * length g.plain.items ≤ length ns → length ns' ≡ length ns
      → (ms' : List ℕ) → ms' ≡ state_numbers t → LentAgain ns ms ns' ms'
  lent_again n t ns' g does stands room same ms' f e =
      let left : NumbersStand (plain_of t ns') = subst (λ (x : Given). NumbersStand x.plain) (sym does) (stands own-stands) in
      let few = ap (λ (x : Given). length x.plain.items) does in
      let count = t.count in
      let fits : 4 * count ≤ length ns' = omega (arith, few, from-length ns' count, room, same) in
      let short : length ns' ≤ longest = omega (arith, same, (lent_fits ns ms lent).0) in (
        ap (is_lent ns') f ∙ ap (λ (b : Bool). b && (leb (length ns') longest && leb (4 * count) (length ns')))
            (stands-state t ns' left)
            ∙ ap₂ (λ (a b : Bool). a && b) (le-leb (length ns') longest short) (le-leb (4 * count) (length ns') fits),
        same,
      )

-- an open reads no list: with any that holds the items, what it leaves is lent again
pub opens-again : (ms : List ℕ) (r : ℕ) (ms' : List ℕ) → OpensGuarded ms r ms' → StateAgain ms ms' → (ns : List ℕ) → LentAgain ns ms ns ms'
opens-again ms r ms' does again ns e =
    let yes = (both_true (is_state ms) (leb (length ns) longest && leb (4 * get_or ms 2 0) (length ns)) e).0 in
    let p = read_plain [] ms in
    let few = ap (λ (x : Given). length x.plain.items) (does [] ∙ sym (guarded-some (is_state ms) p (begin p) yes)) in
    let fits : 4 * get_or ms' 2 0 ≤ length ns
    = omega (arith, few, from-length [] (get_or ms' 2 0), from-length [] (get_or ms 2 0), begin-few p, (lent_fits ns ms e).1) in
    (lent_by ns ms' (again yes) (lent_fits ns ms e).0 ∙ le-leb (4 * get_or ms' 2 0) (length ns) fits, refl)
