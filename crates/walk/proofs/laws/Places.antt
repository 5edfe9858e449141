-- Laws about walk/specs/Places. Assumes nothing.
use Prim.Native.Nat.{ℕ, zero, suc, ◌+◌, ◌*◌, ◌-◌, ◌≤◌, ◌<◌}
use native.Mathlib.Omega.{arith}
use mathlib.Core.Bool.{Bool, true, false}
use mathlib.Core.Path.{◌≡◌, refl, ap, sym, ◌∙◌, subst}
use mathlib.Core.Logic.{◌⊎◌, inl, inr}
use mathlib.Core.List.{List, ◌∷◌}
use lib.Dec.{leb, ltb}
use mir.Val.{bool_byte}
use borrow.Author.Tests.{ltb-true, ltb-false, lt-leb, lt-ltb, le-ltb}
use Rattle.model.specs.Basic.{in_order, pick}
use Rattle.model.specs.Entry.{live_at, before}
use Rattle.model.specs.Walk.{between}
use Rattle.model.specs.Field.{field}
use Rattle.model.specs.Layout.{read_entry, read_entries}
use Rattle.bits.proofs.laws.Laws.{field-split, field_lt}
use Rattle.bits.proofs.laws.Put.{less}
use Rattle.walk.specs.Live.{live}
use Rattle.walk.proofs.laws.Live.{later, live-off, above}
use Rattle.walk.proofs.laws.Ends.{starts-above}
use Rattle.model.specs.declared.Entry.{Entry}
use Rattle.model.specs.Near.{starts_by}
use Rattle.model.specs.Inner.{In}
use Rattle.walk.specs.Scan.{entry, from, Owns}
use Rattle.walk.proofs.laws.Scan.{above_from, from_end, from_step, order_from, next-passed, Owning, owning-start, owning-on, owning-off, owning-above}
use Rattle.walk.proofs.laws.Scan.{owning-end}
use Rattle.walk.specs.Places.{Place, Fives}

-- the key and the eight bits behind it, one word
module _ (p : List ℕ) (i k : ℕ) where
  word-is : field p (128 + 96 * i) 32 ≡ (entry p i).key * 256 + field p (128 + 96 * i + 24) 8
  unfolding read_entry
  word-is = field-split p (128 + 96 * i) 24 8

  pub word-under : (w : ℕ) → w ≡ field p (128 + 96 * i) 32 → bool_byte (ltb w (k * 256)) ≡ pick (ltb (entry p i).key k) 1 0
  word-under w e = at (ltb (entry p i).key k) refl
    where
      at : (b : Bool) → ltb (entry p i).key k ≡ b → bool_byte (ltb w (k * 256)) ≡ pick b 1 0
      at true h =
          rw (lt-ltb w (k * 256) (omega (arith, e, word-is, field_lt p (128 + 96 * i + 24) 8, ltb-true (entry p i).key k h)))
      at false h = rw (le-ltb w (k * 256) (omega (arith, e, word-is, ltb-false (entry p i).key k h)))

-- what the count of one entry says of its key
module _ (a k : ℕ) where
  not-under : pick (ltb a k) 1 0 ≡ zero → k ≤ a
  not-under h = at (ltb a k) refl h
    where
      at : (b : Bool) → ltb a k ≡ b → pick b 1 0 ≡ zero → k ≤ a
      at true e g = absurd (omega arith)
      at false e g = ltb-false a k e

  is-under : (pick (ltb a k) 1 0 ≡ zero → ⊥) → a < k
  is-under h = at (ltb a k) refl h
    where
      at : (b : Bool) → ltb a k ≡ b → (pick b 1 0 ≡ zero → ⊥) → a < k
      at true e g = ltb-true a k e
      at false e g = absurd (g refl)

-- the way from one number up to another
gap : (a b : ℕ) → a ≤ b → (d : ℕ) × (a + d ≡ b)
gap a b h = (b - a, omega arith)

module _ (p : List ℕ) (n : ℕ) (o : in_order before (read_entries p 128 n) ≡ true) where
  -- keys rise
  key_step : (i : ℕ) → i + 1 < n → (entry p i).key ≤ (entry p (i + 1)).key
  key_step i h =
      let e : from p i n ≡ entry p i ∷ from p (i + 1) n = from_step p n i (omega arith) in
      let q : in_order before (entry p i ∷ from p (i + 1) n) ≡ true = rw e at (order_from p n i o (omega arith)) in
      later (entry p i) (entry p (i + 1)) (from p (i + 1) n) q
      (inr (subst (In (entry p (i + 1))) (sym (from_step p n (i + 1) h)) (inl refl)))

  pub keys-rise : (i d : ℕ) → i + d < n → (entry p i).key ≤ (entry p (i + d)).key
  keys-rise i zero h = let e : i + 0 ≡ i = omega arith in rw e (omega arith)
  keys-rise i (suc d) h =
      let e : i + suc d ≡ i + d + 1 = omega arith in rw e (omega (arith, keys-rise i d (omega arith), key_step (i + d) (omega arith)))

  -- ---- by fives
  module _ (k : ℕ) where
    pub fives-start : (i : ℕ) → i < 0 → (entry p i).key < k
    fives-start i h = absurd (omega arith)

    -- the entry four places on has its key under k, so all up to it have
    pub fives-on : (r c : ℕ) → c ≡ pick (ltb (entry p (r + 4)).key k) 1 0 → (c ≡ 0 → ⊥) → r + 4 < n
        → ((i : ℕ) → i < r → (entry p i).key < k) → (i : ℕ) → i < r + 5 → (entry p i).key < k
    fives-on r c e z l h i j = at (less i r)
      where
        at : (i < r) ⊎ (r ≤ i) → (entry p i).key < k
        at (inl q) = h i q
        at (inr q) =
            let (d, f) = gap i (r + 4) (omega arith) in
            omega (arith, is-under (entry p (r + 4)).key k (λ g. z (e ∙ g)), rw f at (keys-rise i d (omega (arith, f))))

    pub fives-stop : (r c : ℕ) → c ≡ pick (ltb (entry p (r + 4)).key k) 1 0 → c ≡ 0 → k ≤ (entry p (r + 4)).key
    fives-stop r c e z = not-under (entry p (r + 4)).key k (sym e ∙ z)

    -- ---- one by one
    pub place-start : (r : ℕ) → Fives p k n r → Place p k r r
    place-start r f = record { within = omega arith; below = f.below; next = λ h. absurd (omega arith) }

    pub place-on : (i r c : ℕ) → i < n → c ≡ pick (ltb (entry p i).key k) 1 0 → Place p k i r → Place p k (i + 1) (r + c)
    place-on i r c l e f = at (ltb (entry p i).key k) refl (less r i)
      where
        at : (b : Bool) → ltb (entry p i).key k ≡ b → (r < i) ⊎ (i ≤ r) → Place p k (i + 1) (r + c)
        at true g (inl q) =
            let (d, x) = gap r i (omega arith) in
            absurd (omega (arith, ltb-true (entry p i).key k g, f.next q, rw x at (keys-rise r d (omega (arith, x)))))
        at true g (inr q) =
            let z : c ≡ 1 = e ∙ ap (λ (b : Bool). pick b 1 0) g in
            let y : i ≡ r = omega (arith, f.within) in
            record {
              within = omega (arith, f.within);
              below = λ j h. at_last j (omega (arith, z));
              next = λ h. absurd (omega (arith, z));
            }
          where
            at_last : (j : ℕ) → j < i + 1 → (entry p j).key < k
            at_last j h = up (less j i)
              where
                up : (j < i) ⊎ (i ≤ j) → (entry p j).key < k
                up (inl m) = f.below j (omega (arith, q))
                up (inr m) = let w : j ≡ i = omega arith in rw w (ltb-true (entry p i).key k g)
        at false g s =
            let z : c ≡ 0 = e ∙ ap (λ (b : Bool). pick b 1 0) g in
            let y : r + c ≡ r = omega arith in
            rw y (record { within = omega (arith, f.within); below = f.below; next = λ h. over s })
          where
            over : (r < i) ⊎ (i ≤ r) → k ≤ (entry p r).key
            over (inl m) = f.next m
            over (inr m) = let w : r ≡ i = omega (arith, f.within) in rw w (ltb-false (entry p i).key k g)

    pub place_end : (b i r : ℕ) → Fives p k n b → i ≤ n → (i < n → b + 4 ≤ i) → i ≤ b + 4 → Place p k i r → Place p k n r
    place_end b i r f l m u q = record { within = omega (arith, q.within); below = q.below; next = λ h. at (less r i) h }
      where
        at : (r < i) ⊎ (i ≤ r) → r < n → k ≤ (entry p r).key
        at (inl x) h = q.next x
        at (inr x) h = let w : r ≡ b + 4 = omega (arith, q.within, m (omega arith)) in rw w (f.next (omega (arith, w)))

-- ---- the last router alive

-- the page of the last of the first i entries that is alive at v; 0 where none is
unfoldable pub last_alive : List ℕ → ℕ → ℕ → ℕ
last_alive p v zero = 0
last_alive p v (suc i) = pick (live_at v (entry p i)) (entry p i).value (last_alive p v i)

module _ (p : List ℕ) (v : ℕ) where
  pub alive-none : last_alive p v 0 ≡ 0
  unfolding last_alive
  alive-none = refl

  module _ (i j : ℕ) (e : i ≡ suc j) where
    pub alive-here : live_at v (entry p j) ≡ true → last_alive p v i ≡ (entry p j).value
    unfolding last_alive
    alive-here h = rw (e, h)

    pub alive-not : live_at v (entry p j) ≡ false → last_alive p v i ≡ last_alive p v j
    unfolding last_alive
    alive-not h = rw (e, h)

module _ (p : List ℕ) (v k n : ℕ) (o : in_order before (read_entries p 128 n) ≡ true) where
  module _ (r : ℕ) (f : Place p (k + 1) n r) (h : starts_by k (live v (from p 0 n)) ≡ true) where
    owning-at : (i : ℕ) → i ≤ r → Owning p v k n i (last_alive p v i)
    owning-at zero l = subst (Owning p v k n 0) (sym (alive-none p v)) (owning-start p v k n h)
    owning-at (suc i) l = at (live_at v (entry p i)) refl (owning-at i (omega arith))
      where
        at : (b : Bool) → live_at v (entry p i) ≡ b → Owning p v k n i (last_alive p v i) → Owning p v k n (suc i) (last_alive p v (suc i))
        at true a w =
            let e : i + 1 ≡ suc i = omega arith in
            rw (alive-here p v (suc i) i refl a)
            (rw e at (owning-on p v k n i (last_alive p v i) (omega (arith, f.within)) w a (omega (arith, f.below i (omega arith)))))
        at false a w =
            let e : i + 1 ≡ suc i = omega arith in
            rw (alive-not p v (suc i) i refl a) (rw e at (owning-off p v k n i (last_alive p v i) (omega (arith, f.within)) w a))

    -- one of the first r is alive
    dead-from : (i : ℕ) → i ≤ r → ((j : ℕ) → j < r → live_at v (entry p j) ≡ false) → live v (from p 0 n) ≡ live v (from p i n)
    dead-from zero l d = refl
    dead-from (suc i) l d =
        let e : i + 1 ≡ suc i = omega arith in
        dead-from i (omega arith) d ∙ ap (live v) (from_step p n i (omega (arith, f.within)))
        ∙ live-off v (entry p i) (from p (i + 1) n) (d i (omega arith)) ∙ ap (λ (j : ℕ). live v (from p j n)) e

    pub some-alive : ((j : ℕ) → j < r → live_at v (entry p j) ≡ false) → ⊥
    some-alive d = at (less r n)
      where
        none : above k (live v (from p r n)) ≡ true → ⊥
        none a =
            let q : true ≡ false = sym h ∙ ap (starts_by k) (dead-from r (omega arith) d) ∙ starts-above k (live v (from p r n)) a in
            let z : ◌≡◌ {A = ℕ} 0 1 = cc in
            omega arith

        at : (r < n) ⊎ (n ≤ r) → ⊥
        at (inl l) = none (above_from p n v k r l o (omega (arith, f.next l)))
        at (inr l) = none (ap (λ (es : List Entry). above k (live v es)) (from_end p n r l))

    pub owned : Owns p v k n (record { page = last_alive p v r; next = r })
    owned = at (less r n)
      where
        at : (r < n) ⊎ (n ≤ r) → Owns p v k n (record { page = last_alive p v r; next = r })
        at (inl l) = owning-above p v k n r (last_alive p v r) l (owning-at r (omega arith)) o (omega (arith, f.next l))
        at (inr l) = owning-end p v k n r (last_alive p v r) (omega (arith, f.within)) (owning-at r (omega arith))

-- ---- a key: nothing of it stands before its place

pub found_from : (p : List ℕ) (v k n r : ℕ) → Place p k n r → between k k (live v (from p 0 n)) ≡ between k k (live v (from p r n))
found_from p v k n r f = upto r (omega arith)
  where
    upto : (i : ℕ) → i ≤ r → between k k (live v (from p 0 n)) ≡ between k k (live v (from p i n))
    upto zero l = refl
    upto (suc i) l =
        let e : i + 1 ≡ suc i = omega arith in
        let q : leb k (entry p i).key ≡ false = lt-leb k (entry p i).key (f.below i (omega arith)) in
        upto i (omega arith) ∙ rw e at (next-passed p v k k n i (omega (arith, f.within)) (rw q))
