-- What the words of an entry tell without being taken apart, and an entry that is copied by them. Assumes nothing.
use Prim.Native.Nat.{ℕ, ◌+◌, ◌*◌, ◌-◌, ◌/◌, ◌%◌, ◌^◌, ◌≤◌, ◌<◌}
use native.Mathlib.Omega.{arith}
use mathlib.Core.Bool.{false}
use mathlib.Core.Path.{◌≡◌, refl, ap, ap₂, sym, ◌∙◌}
use mathlib.Core.Logic.{◌⊎◌, inl, inr}
use mathlib.Core.List.{List}
use lib.Dec.{ltb}
use lib.ListN.{length}
use borrow.Author.Tests.{le-leb, lt-leb}
use Rattle.model.specs.declared.Entry.{Entry}
use Rattle.model.specs.Field.{field, put_field, Bytes, lay}
use Rattle.model.specs.Entry.{live_at}
use Rattle.model.specs.Layout.{read_entry, entry_parts}
use Rattle.bits.proofs.laws.Laws.{field_lt}
use Rattle.bits.proofs.laws.Whole.{put-own}
use Rattle.page.specs.Apart.{Apart}
use Rattle.page.proofs.laws.ByWords.{by_words, words-entry, words-lay, span-is}
use Rattle.page.proofs.laws.Read.{read-sized}

module _ (p : List ℕ) (o a b : ℕ) (e : a ≡ field p o 32) (f : b ≡ field p (o + 32) 32) where
  words : by_words p o a b (a % 256 * 4096 + b / 1048576) (field p (o + 64) 32) ≡ read_entry p o
  words = words-entry p o a b (a % 256 * 4096 + b / 1048576) (field p (o + 64) 32) e f refl refl

  key-so : a / 256 ≡ (read_entry p o).key
  key-so = ap (λ (x : Entry). x.key) words

  pub start-so : a % 256 * 4096 + b / 1048576 ≡ (read_entry p o).start
  start-so = ap (λ (x : Entry). x.start) words

  end-so : b % 1048576 ≡ (read_entry p o).end
  end-so = ap (λ (x : Entry). x.end) words

  pub short : b < 4294967296
  short = omega (arith, f, field_lt p (o + 32) 32)

pub key-first : (p : List ℕ) (o a : ℕ) → a ≡ field p o 32 → a / 256 ≡ (read_entry p o).key
key-first p o a e = key-so p o a (field p (o + 32) 32) e refl

-- ---- its start and its end, by the second word

module _ (p : List ℕ) (o w b v : ℕ) (f : b ≡ field p (o + 32) 32) (q : v ≡ w) where
  ends-off : w < 2 ^ 20 → ((b + (1048576 - v)) % 1048576 ≡ 0 → ⊥) → (read_entry p o).end ≡ w → ⊥
  ends-off hw n z = n (omega (arith, hw, q, end-so p o (field p o 32) b refl f, z))

  starts-off : (b < v % 4096 * 1048576) ⊎ (v % 4096 * 1048576 + 1048576 ≤ b) → (read_entry p o).start ≡ w → ⊥
  starts-off (inl h) z = omega (arith, start-so p o (field p o 32) b refl f, short p o (field p o 32) b refl f, q, z, h)
  starts-off (inr h) z = omega (arith, start-so p o (field p o 32) b refl f, short p o (field p o 32) b refl f, q, z, h)

  pub apart : w < 2 ^ 20 → ((b + (1048576 - v)) % 1048576 ≡ 0 → ⊥) → (b < v % 4096 * 1048576) ⊎ (v % 4096 * 1048576 + 1048576 ≤ b)
      → Apart w (read_entry p o)
  apart hw n h = record { start = starts-off h; end = ends-off hw n }

-- ---- whether it is alive, by its start and then its end as one number

module _ (p : List ℕ) (o v a b w : ℕ) (e : a ≡ field p (o + 24) 8) (f : b ≡ field p (o + 32) 32) (q : w ≡ v) where
  span : a * 4294967296 + b ≡ (read_entry p o).start * 1048576 + (read_entry p o).end
  span = ap₂ (λ (x y : ℕ). x * 4294967296 + y) e f ∙ span-is p o

  pub not_yet : w * 1048576 + 1048576 ≤ a * 4294967296 + b → false ≡ live_at v (read_entry p o)
  not_yet h = simp (lt-leb (read_entry p o).start v (omega (arith, span, q, h, (read-sized p o).end)))

  pub by_end : a * 4294967296 + b < w * 1048576 + 1048576 → ltb w (b % 1048576) ≡ live_at v (read_entry p o)
  by_end h =
      rw (le-leb (read_entry p o).start v (omega (arith, span, q, h)))
      (ap₂ ltb q (end-so p o (field p o 32) b refl f))

-- ---- copied

module _ (p : List ℕ) (o : ℕ) where
  abbrev x : Entry
  x = read_entry p o

  one : field p o 32 ≡ x.key * 256 + x.start / 4096
  one =
      let b : ℕ = field p (o + 32) 32 in
      omega (arith, key-so p o (field p o 32) b refl refl, start-so p o (field p o 32) b refl refl, short p o (field p o 32) b refl refl)

  two : field p (o + 32) 32 ≡ x.start % 4096 * 1048576 + x.end
  two =
      let b : ℕ = field p (o + 32) 32 in
      omega (arith, start-so p o (field p o 32) b refl refl, end-so p o (field p o 32) b refl refl, short p o (field p o 32) b refl refl)

  three : field p (o + 64) 32 ≡ x.value
  unfolding read_entry
  three = refl

  -- an entry's words, put at another place, are the entry laid there
  pub copy-lay : (to a b c : ℕ) → a ≡ field p o 32 → b ≡ field p (o + 32) 32 → c ≡ field p (o + 64) 32
      → put_field (put_field (put_field p to 32 a) (to + 32) 32 b) (to + 64) 32 c ≡ lay p to (entry_parts (read_entry p o))
  copy-lay to a b c e f g =
      ap (put_field (put_field (put_field p to 32 a) (to + 32) 32 b) (to + 64) 32) (g ∙ three)
      ∙ words-lay p to x (read-sized p o) a b (e ∙ one) (f ∙ two)

  -- at its own place it changes nothing
  pub copy-own : Bytes p → o + 96 ≤ 8 * length p → lay p o (entry_parts (read_entry p o)) ≡ p
  copy-own h l =
      sym (copy-lay o (field p o 32) (field p (o + 32) 32) (field p (o + 64) 32) refl refl refl)
      ∙ ap (λ (t : List ℕ). put_field (put_field t (o + 32) 32 (field p (o + 32) 32)) (o + 64) 32 (field p (o + 64) 32))
      (put-own p o 32 h (omega arith))
      ∙ ap (λ (t : List ℕ). put_field t (o + 64) 32 (field p (o + 64) 32)) (put-own p (o + 32) 32 h (omega arith))
      ∙ put-own p (o + 64) 32 h (omega arith)
