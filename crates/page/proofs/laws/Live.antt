-- The entries of a page that live, counted one by one. Assumes nothing.
use Prim.Native.Nat.{ℕ, ◌+◌, ◌*◌, ◌-◌, ◌<◌, ◌≤◌}
use mathlib.Core.Path.{◌≡◌, ap, ◌∙◌}
use mathlib.Core.List.{List, [], ◌∷◌}
use native.Mathlib.Omega.{arith}
use lib.ListN.{length, length-append}
use Rattle.model.specs.declared.Entry.{Entry}
use Rattle.model.specs.Basic.{those}
use Rattle.model.specs.Layout.{lives, read_entry, read_entries}
use Rattle.model.proofs.tree.Local.{those-append}
use Rattle.model.proofs.lists.Lists.{few-those}
use Rattle.page.specs.Insert.{live_one}
use Rattle.page.proofs.laws.Read.{entries-step, entries-end}

-- those from place i on
abbrev pub live_from : List ℕ → ℕ → ℕ → ℕ
live_from p i n = length (those lives (read_entries p (128 + 96 * i) (n - i)))

live-cons : (e : Entry) (es : List Entry) → length (those lives (e ∷ es)) ≡ live_one e + length (those lives es)
live-cons e es = ap length (those-append lives (e ∷ []) es) ∙ length-append (those lives (e ∷ [])) (those lives es)

pub live-most : (e : Entry) → live_one e ≤ 1
live-most e = few-those lives (e ∷ [])

pub live-start : (p : List ℕ) (n : ℕ) → length (those lives (read_entries p 128 n)) ≡ live_from p 0 n
live-start p n = let e : n - 0 ≡ n = omega arith in let f : 128 + 96 * 0 ≡ 128 = omega arith in rw (e, f)

pub live-step : (p : List ℕ) (i n : ℕ) → i < n → live_from p i n ≡ live_one (read_entry p (128 + 96 * i)) + live_from p (i + 1) n
live-step p i n h =
    ap (λ (es : List Entry). length (those lives es)) (entries-step p i n h)
    ∙ live-cons (read_entry p (128 + 96 * i)) (read_entries p (128 + 96 * (i + 1)) (n - (i + 1)))

pub live_end : (p : List ℕ) (i n : ℕ) → n ≤ i → live_from p i n ≡ 0
live_end p i n h = ap (λ (es : List Entry). length (those lives es)) (entries-end p (128 + 96 * i) i n h)
