-- Rows of equal length, one after the other: entries in a page, slots in the directory, pages in the store. Assumes nothing.
use Prim.Native.Nat.{ℕ, zero, suc, ◌+◌, ◌*◌, ◌<◌, ◌≤◌}
use mathlib.Core.Path.{◌≡◌, refl, ap, sym, ◌∙◌}
use mathlib.Core.List.{List, [], ◌∷◌, ◌++◌, append_assoc}
use native.Mathlib.Nat.{suc-mul}
use native.Mathlib.Omega.{arith}
use lib.ListN.{length, get_or, set, take, drop, length-append}
use lib.Seq.{take_at, drop_at}
use Rattle.model.specs.Basic.{flat_map}
use Rattle.model.specs.Field.{field, Part, lay}
use Rattle.bits.proofs.laws.Append.{field-left, field-right}
use Rattle.bits.proofs.laws.Lay.{total}
use Rattle.bits.proofs.laws.Over.{lay-left, lay-right}

module _ {A : Type 0} (bytes : A → List ℕ) (d : A) (k : ℕ) where
  -- each row has k bytes, those past the end too
  abbrev pub Even : List A → Type 0
  Even l = (i : ℕ) → length (bytes (get_or l i d)) ≡ k

  pub rows-length : (l : List A) → Even l → length (flat_map bytes l) ≡ length l * k
  rows-length [] e = omega arith
  rows-length (x ∷ l) e =
      length-append (bytes x) (flat_map bytes l) ∙ omega (arith, e 0, rows-length l (λ i. e (suc i)), suc-mul (length l) k)

  pub rows_split : (l : List A) (i : ℕ) → i < length l
      → flat_map bytes l ≡ flat_map bytes (take i l) ++ (bytes (get_or l i d) ++ flat_map bytes (drop (suc i) l))
  rows_split [] i h = absurd (omega arith)
  rows_split (x ∷ l) zero h = refl
  rows_split (x ∷ l) (suc i) h =
      rw (rows_split l i (omega arith))
      (sym (append_assoc (bytes x) (flat_map bytes (take i l)) (bytes (get_or l i d) ++ flat_map bytes (drop (suc i) l))))

  pub rows-set : (l : List A) (i : ℕ) (x : A) → i < length l
      → flat_map bytes (set l i x) ≡ flat_map bytes (take i l) ++ (bytes x ++ flat_map bytes (drop (suc i) l))
  rows-set [] i x h = absurd (omega arith)
  rows-set (y ∷ l) zero x h = refl
  rows-set (y ∷ l) (suc i) x h =
      rw (rows-set l i x (omega arith))
      (sym (append_assoc (bytes y) (flat_map bytes (take i l)) (bytes x ++ flat_map bytes (drop (suc i) l))))

  rows-front : (l : List A) (i : ℕ) → i ≤ length l → Even l → length (flat_map bytes (take i l)) ≡ i * k
  rows-front l zero h e = omega arith
  rows-front [] (suc i) h e = absurd (omega arith)
  rows-front (x ∷ l) (suc i) h e =
      length-append (bytes x) (flat_map bytes (take i l)) ∙ omega (arith, e 0, rows-front l i (omega arith) (λ j. e (suc j)), suc-mul i k)

  -- ---- row i, where h stands before the rows and z behind them

  module _ (h z : List ℕ) (l : List A) (i : ℕ) (lt : i < length l) (e : Even l) where
    front : List ℕ
    front = h ++ flat_map bytes (take i l)

    behind : List ℕ
    behind = flat_map bytes (drop (suc i) l) ++ z

    at_front : length front ≡ length h + i * k
    unfolding front
    at_front = length-append h (flat_map bytes (take i l)) ∙ ap (λ (x : ℕ). length h + x) (rows-front l i (omega arith) e)

    joined : (b : List ℕ) → h ++ ((flat_map bytes (take i l) ++ (b ++ flat_map bytes (drop (suc i) l))) ++ z) ≡ front ++ (b ++ behind)
    unfolding front behind
    joined b =
        let p : List ℕ = flat_map bytes (take i l) in
        let q : List ℕ = flat_map bytes (drop (suc i) l) in
        ap (λ (x : List ℕ). h ++ x) (append_assoc p (b ++ q) z ∙ ap (λ (x : List ℕ). p ++ x) (append_assoc b q z))
        ∙ sym (append_assoc h p (b ++ (q ++ z)))

    here : h ++ (flat_map bytes l ++ z) ≡ front ++ (bytes (get_or l i d) ++ behind)
    here = rw (rows_split l i lt) (joined (bytes (get_or l i d)))

    there : (x : A) → h ++ (flat_map bytes (set l i x) ++ z) ≡ front ++ (bytes x ++ behind)
    there x = rw (rows-set l i x lt) (joined (bytes x))

    -- its bytes
    pub row-part : take k (drop (length h + i * k) (h ++ (flat_map bytes l ++ z))) ≡ bytes (get_or l i d)
    row-part =
        rw (here, ← at_front, drop_at front (bytes (get_or l i d) ++ behind) (length front) refl)
        (take_at (bytes (get_or l i d)) behind k (e i))

    -- its bytes made another's
    pub row-with : (x : A) → let s = h ++ (flat_map bytes l ++ z) in
        take (length h + i * k) s ++ (bytes x ++ drop (length h + i * k + k) s) ≡ h ++ (flat_map bytes (set l i x) ++ z)
    row-with x =
        let b : List ℕ = bytes (get_or l i d) in
        let n : length (front ++ b) ≡ length front + k = length-append front b ∙ ap (λ (x : ℕ). length front + x) (e i) in
        rw (
          there x,
          here,
          ← at_front,
          take_at front (b ++ behind) (length front) refl,
          ← append_assoc front b behind,
          drop_at (front ++ b) behind (length front + k) n,
        )

    -- a field of it
    pub row_field : (at n : ℕ) → at + n ≤ 8 * k → field (h ++ (flat_map bytes l ++ z)) (8 * (length h + i * k) + at) n
        ≡ field (bytes (get_or l i d)) at n
    row_field at n le =
        rw (here, ← at_front, field-right front (bytes (get_or l i d) ++ behind) at n)
        (field-left (bytes (get_or l i d)) behind at n (omega (arith, e i)))

    -- fields laid in it
    pub row-lay : (fs : List Part) (x : A) → total fs ≤ 8 * k → lay (bytes (get_or l i d)) 0 fs ≡ bytes x
        → lay (h ++ (flat_map bytes l ++ z)) (8 * (length h + i * k)) fs ≡ h ++ (flat_map bytes (set l i x) ++ z)
    row-lay fs x le over =
        let o : 8 * length front ≡ 8 * length front + 0 = omega arith in
        rw (
          there x,
          here,
          ← at_front,
          o,
          lay-right front (bytes (get_or l i d) ++ behind) 0 fs,
          lay-left (bytes (get_or l i d)) behind 0 fs (omega (arith, e i)),
          over,
        )
