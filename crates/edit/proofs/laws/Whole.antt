-- What the words of an entry tell of its place and its key. Assumes nothing.
use Prim.Native.Nat.{ℕ, ◌+◌, ◌*◌, ◌-◌, ◌≤◌, ◌<◌}
use native.Mathlib.Omega.{arith}
use mathlib.Core.Path.{◌≡◌, sym}
use mathlib.Core.Bool.{true, false}
use mathlib.Core.Logic.{⊎_elim}
use mathlib.Core.List.{List}
use lib.Dec.{leb, ltb, eqb}
use borrow.Author.Tests.{lt-ltb, le-ltb, le-leb, lt-leb, eq-eqb, ne_eqb}
use Rattle.model.specs.Field.{field}
use Rattle.model.specs.Layout.{read_entry}
use Rattle.bits.proofs.laws.Put.{less}
use Rattle.page.proofs.laws.Whole.{start-so, short, key-first}
use Rattle.edit.specs.Place.{before_of}

-- ---- its place: k is the key, which the first word begins with

module _ (p : List ℕ) (o a key start k : ℕ) (e : a ≡ field p o 32) (g : k ≡ key) where
  pub before-no : a < k * 256 → before_of key start (read_entry p o) ≡ false
  before-no h =
      rw (
        le-ltb key (read_entry p o).key (omega (arith, key-first p o a e, g, h)),
        ne_eqb key (read_entry p o).key (λ z. omega (arith, key-first p o a e, g, h, z)),
      )

  pub before-yes : k * 256 + 256 ≤ a → before_of key start (read_entry p o) ≡ true
  before-yes h = rw (lt-ltb key (read_entry p o).key (omega (arith, key-first p o a e, g, h)))

  -- of one of the same key the start is compared, with the second word
  pub before_same : (b s : ℕ) → b ≡ field p (o + 32) 32 → s ≡ start → k * 256 ≤ a → a < k * 256 + 256
      → leb ((s + 1) * 1048576) ((a - k * 256) * 4294967296 + b) ≡ before_of key start (read_entry p o)
  before_same b s f i l h =
      rw (
        le-ltb key (read_entry p o).key (omega (arith, key-first p o a e, g, l)),
        eq-eqb key (read_entry p o).key (omega (arith, key-first p o a e, g, l, h)),
      )
      (⊎_elim
      (λ z.
      let y : (s + 1) * 1048576 ≤ (a - k * 256) * 4294967296 + b = omega (arith, start-so p o a b e f, i, l, h, z) in
      rw (lt-ltb start (read_entry p o).start z) (le-leb _ _ y))
      (λ z.
      let y : (a - k * 256) * 4294967296 + b < (s + 1) * 1048576
      = omega (arith, start-so p o a b e f, short p o a b e f, i, l, h, z) in
      rw (le-ltb start (read_entry p o).start z) (lt-leb _ _ y))
      (less start (read_entry p o).start))

-- ---- its key

module _ (p : List ℕ) (o a key k : ℕ) (e : a ≡ field p o 32) (g : k ≡ key) where
  pub key_below : a < k * 256 → false ≡ eqb (read_entry p o).key key
  key_below h = sym (ne_eqb (read_entry p o).key key (λ z. omega (arith, key-first p o a e, g, h, z)))

  pub key-else : k * 256 ≤ a → ltb a (k * 256 + 256) ≡ eqb (read_entry p o).key key
  key-else l =
      ⊎_elim (λ h. rw (lt-ltb a (k * 256 + 256) h) (sym (eq-eqb (read_entry p o).key key (omega (arith, key-first p o a e, g, l, h)))))
      (λ h. rw (le-ltb a (k * 256 + 256) h)
      (sym (ne_eqb (read_entry p o).key key (λ z. omega (arith, key-first p o a e, g, h, z)))))
      (less a (k * 256 + 256))
