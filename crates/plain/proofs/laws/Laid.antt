-- Laws about plain/specs/Laid. Assumes nothing.
use Prim.Native.Nat.{ℕ, zero, suc, ◌+◌, ◌*◌, ◌-◌, ◌≤◌, ◌<◌}
use native.Mathlib.Omega.{arith}
use mathlib.Core.Bool.{true}
use mathlib.Core.Path.{◌≡◌, refl, ap, ap₂, ◌∙◌}
use mathlib.Core.List.{List, [], ◌∷◌, ◌++◌}
use lib.ListN.{length, length-set, get_or, set}
use lib.Seq.{sets, get_or-set_same, get_or-set_other}
use Rattle.model.specs.declared.Entry.{Entry}
use Rattle.model.specs.Telling.{all_numbers, written}
use Rattle.plain.specs.Items.{item, items_at, from, kept}
use Rattle.plain.specs.Laid.{laid}

pub laid-written : (ns : List ℕ) (i : ℕ) (e : Entry) → written kept true ns i (e ∷ []) ≡ laid ns i e
unfolding written
laid-written ns i e = refl

pub length-laid : (ns : List ℕ) (i : ℕ) (e : Entry) → length (laid ns i e) ≡ length ns
length-laid ns i e = simp length-set refl

-- another place
module _ (ns : List ℕ) (i : ℕ) (e : Entry) where
  out : (a : ℕ) → (a ≡ 4 * i → ⊥) → (a ≡ suc (4 * i) → ⊥) → (a ≡ suc (suc (4 * i)) → ⊥) → (a ≡ suc (suc (suc (4 * i))) → ⊥)
      → get_or (laid ns i e) a 0 ≡ get_or ns a 0
  out a p q r s =
      get_or-set_other (set (set (set ns (4 * i) e.key) (suc (4 * i)) e.start) (suc (suc (4 * i))) e.end) (suc (suc (suc (4 * i)))) a
      e.value 0 s
      ∙ get_or-set_other (set (set ns (4 * i) e.key) (suc (4 * i)) e.start) (suc (suc (4 * i))) a e.end 0 r
      ∙ get_or-set_other (set ns (4 * i) e.key) (suc (4 * i)) a e.start 0 q ∙ get_or-set_other ns (4 * i) a e.key 0 p

  below : (a : ℕ) → a < 4 * i → get_or (laid ns i e) a 0 ≡ get_or ns a 0
  below a h = out a (λ z. omega arith) (λ z. omega arith) (λ z. omega arith) (λ z. omega arith)

  above : (a : ℕ) → 4 * i + 4 ≤ a → get_or (laid ns i e) a 0 ≡ get_or ns a 0
  above a h = out a (λ z. omega arith) (λ z. omega arith) (λ z. omega arith) (λ z. omega arith)

abbrev entry : ℕ → ℕ → ℕ → ℕ → Entry
entry a b c d = record { key = a; start = b; end = c; value = d }

four : {a b c d a' b' c' d' : ℕ} → a ≡ a' → b ≡ b' → c ≡ c' → d ≡ d' → entry a b c d ≡ entry a' b' c' d'
four {a} {b} {c} {d} {a'} {b'} {c'} {d'} p q r s =
    ap₂ {C = Entry} (λ (x y : ℕ). entry x y c d) p q ∙ ap₂ {C = Entry} (λ (z t : ℕ). entry a' b' z t) r s

pub item-below : (ns : List ℕ) (i : ℕ) (e : Entry) (j : ℕ) → j < i → item (laid ns i e) j ≡ item ns j
item-below ns i e j h =
    four (below ns i e (4 * j) (omega arith)) (below ns i e (4 * j + 1) (omega arith)) (below ns i e (4 * j + 2) (omega arith))
    (below ns i e (4 * j + 3) (omega arith))

pub item-above : (ns : List ℕ) (i : ℕ) (e : Entry) (j : ℕ) → i < j → item (laid ns i e) j ≡ item ns j
item-above ns i e j h =
    four (above ns i e (4 * j) (omega arith)) (above ns i e (4 * j + 1) (omega arith)) (above ns i e (4 * j + 2) (omega arith))
    (above ns i e (4 * j + 3) (omega arith))

pub item-own : (ns : List ℕ) (i : ℕ) (e : Entry) → 4 * i + 4 ≤ length ns → item (laid ns i e) i ≡ e
item-own ns i e h =
    let s1 = set ns (4 * i) e.key in
    let s2 = set s1 (suc (4 * i)) e.start in
    let s3 = set s2 (suc (suc (4 * i))) e.end in
    let l1 : length s1 ≡ length ns = length-set ns (4 * i) e.key in
    let l2 : length s2 ≡ length ns = length-set s1 (suc (4 * i)) e.start ∙ l1 in
    let l3 : length s3 ≡ length ns = length-set s2 (suc (suc (4 * i))) e.end ∙ l2 in
    let p : 4 * i + 1 ≡ suc (4 * i) = omega arith in
    let q : 4 * i + 2 ≡ suc (suc (4 * i)) = omega arith in
    let r : 4 * i + 3 ≡ suc (suc (suc (4 * i))) = omega arith in
    four
    (get_or-set_other s3 (suc (suc (suc (4 * i)))) (4 * i) e.value 0 (λ z. omega arith)
    ∙ get_or-set_other s2 (suc (suc (4 * i))) (4 * i) e.end 0 (λ z. omega arith)
    ∙ get_or-set_other s1 (suc (4 * i)) (4 * i) e.start 0 (λ z. omega arith) ∙ get_or-set_same ns (4 * i) e.key 0 (omega arith))
    (ap (λ (a : ℕ). get_or (laid ns i e) a 0) p ∙ get_or-set_other s3 (suc (suc (suc (4 * i)))) (suc (4 * i)) e.value 0 (λ z. omega arith)
    ∙ get_or-set_other s2 (suc (suc (4 * i))) (suc (4 * i)) e.end 0 (λ z. omega arith)
    ∙ get_or-set_same s1 (suc (4 * i)) e.start 0 (omega (arith, l1)))
    (ap (λ (a : ℕ). get_or (laid ns i e) a 0) q ∙ get_or-set_other s3 (suc (suc (suc (4 * i)))) (suc (suc (4 * i))) e.value 0
    (λ z. omega arith) ∙ get_or-set_same s2 (suc (suc (4 * i))) e.end 0 (omega (arith, l2)))
    (ap (λ (a : ℕ). get_or (laid ns i e) a 0) r ∙ get_or-set_same s3 (suc (suc (suc (4 * i)))) e.value 0 (omega (arith, l3)))

-- ---- items in a row

items_above : (ns : List ℕ) (i : ℕ) (e : Entry) (m j : ℕ) → i < j → items_at (laid ns i e) j m ≡ items_at ns j m
items_above ns i e zero j h = refl
items_above ns i e (suc m) j h =
    ap₂ {C = List Entry} (λ (x : Entry) (xs : List Entry). x ∷ xs) (item-above ns i e j h) (items_above ns i e m (suc j) (omega arith))

-- a write before place j leaves the items from it on
pub from-laid : (ns : List ℕ) (i : ℕ) (e : Entry) (j n : ℕ) → i < j → from (laid ns i e) j n ≡ from ns j n
unfolding from
from-laid ns i e j n h = items_above ns i e (n - j) j h

-- one behind the first n
behind : (ns : List ℕ) (n : ℕ) (e : Entry) → 4 * n + 4 ≤ length ns → (m j : ℕ) → j + m ≡ n
    → items_at (laid ns n e) j (suc m) ≡ items_at ns j m ++ (e ∷ [])
behind ns n e h zero j i =
    let z : j ≡ n = omega arith in ap (λ (k : ℕ). item (laid ns n e) k ∷ []) z ∙ ap (λ (x : Entry). x ∷ []) (item-own ns n e h)
behind ns n e h (suc m) j i =
    ap₂ {C = List Entry} (λ (x : Entry) (xs : List Entry). x ∷ xs) (item-below ns n e j (omega arith))
    (behind ns n e h m (suc j) (omega arith))

pub from-behind : (ns : List ℕ) (n : ℕ) (e : Entry) → 4 * n + 4 ≤ length ns → from (laid ns n e) 0 (n + 1) ≡ from ns 0 n ++ (e ∷ [])
unfolding from
from-behind ns n e h =
    let p : n + 1 - 0 ≡ suc n = omega arith in
    let q : n - 0 ≡ n = omega arith in
    rw (p, q) (behind ns n e h n 0 (omega arith))

-- all of them read back
module _ where
  sets_below : (vs ns : List ℕ) (i a : ℕ) → a < i → get_or (sets ns i vs) a 0 ≡ get_or ns a 0
  sets_below [] ns i a h = refl
  sets_below (v ∷ vs) ns i a h = sets_below vs (set ns i v) (suc i) a (omega arith) ∙ get_or-set_other ns i a v 0 (λ z. omega arith)

  item-sets : (vs ns : List ℕ) (i j : ℕ) → 4 * j + 4 ≤ i → item (sets ns i vs) j ≡ item ns j
  item-sets vs ns i j h =
      four (sets_below vs ns i (4 * j) (omega arith)) (sets_below vs ns i (4 * j + 1) (omega arith))
      (sets_below vs ns i (4 * j + 2) (omega arith)) (sets_below vs ns i (4 * j + 3) (omega arith))

  read_back_lem : (es : List Entry) (ns : List ℕ) (j : ℕ) → 4 * (j + length es) ≤ length ns
      → items_at (sets ns (4 * j) (all_numbers kept es)) j (length es) ≡ es
  read_back_lem [] ns j h = refl
  read_back_lem (e ∷ es) ns j h =
      let p : suc (suc (suc (suc (4 * j)))) ≡ 4 * suc j = omega arith in
      let l = length-laid ns j e in
      ap (λ (a : ℕ). items_at (sets (laid ns j e) a (all_numbers kept es)) j (length (e ∷ es))) p
      ∙ ap₂ {C = List Entry} (λ (x : Entry) (xs : List Entry). x ∷ xs)
      (item-sets (all_numbers kept es) (laid ns j e) (4 * suc j) j (omega arith) ∙ item-own ns j e (omega arith))
      (read_back_lem es (laid ns j e) (suc j) (omega (arith, l)))

pub from-written : (ns : List ℕ) (es : List Entry) → 4 * length es ≤ length ns → from (written kept true ns 0 es) 0 (length es) ≡ es
unfolding from written
from-written ns es h = let p : length es - 0 ≡ length es = omega arith in rw p (read_back_lem es ns 0 (omega arith))

pub from-length : (ns : List ℕ) (n : ℕ) → length (from ns 0 n) ≡ n
unfolding from
from-length ns n = let p : n - 0 ≡ n = omega arith in rw p (at n 0)
  where
    at : (m j : ℕ) → length (items_at ns j m) ≡ m
    at zero j = refl
    at (suc m) j = ap suc (at m (suc j))
