-- Laws about edit/specs/Change. Assumes nothing.
use Prim.Native.Nat.{ℕ, zero, suc, ◌+◌, ◌*◌, ◌^◌, ◌<◌, ◌≤◌}
use mathlib.Core.Path.{◌≡◌, refl, ap, sym, ◌∙◌}
use mathlib.Core.Bool.{Bool, true, false, ◌&&◌}
use mathlib.Core.List.{List}
use lib.Dec.{leb}
use lib.ListN.{length}
use native.Mathlib.Omega.{arith}
use borrow.Author.Tests.{le-leb}
use Rattle.model.specs.declared.Entry.{Entry}
use Rattle.model.specs.declared.Pair.{Pair}
use Rattle.model.specs.Basic.{has}
use Rattle.model.specs.Entry.{born, live_at, end_those}
use Rattle.model.specs.Page.{Page, born_all, changed}
use Rattle.model.proofs.lists.Lists.{length-enter}
use Rattle.edit.specs.declared.Change.{Change}
use Rattle.edit.specs.declared.sift.Rule.TheVariants.{End}
use Rattle.edit.specs.Fate.{end_of}
use Rattle.edit.specs.Sift.{sifted, sifted_page}
use Rattle.edit.specs.Same.{first_of}
use Rattle.edit.proofs.laws.Same.{ends, none_end}
use Rattle.edit.specs.Place.{entered}
use Rattle.page.specs.Exact.{Valid}
use Rattle.edit.proofs.laws.Valid.{valid-entered, valid-sifted}
use Rattle.edit.specs.Change.{one, entered_if, first_pairs, change_of, first}

unfoldable pub second : ℕ → Change → Page → Page
second w c p = entered_if (leb 1 c.takes) w c.take1 (first w c p)

unfoldable pub third : ℕ → Change → Page → Page
third w c p = entered_if (leb 2 c.takes) w c.take2 (second w c p)

-- with no key dropped the first stage is the page itself
pub first-none : (w : ℕ) (c : Change) (p : Page) → c.drops ≡ 0 → first w c p ≡ p
unfolding first sifted_page end_of
first-none w c p e = rw (e, none_end c.drop1 c.drop2 w p.entries)

pub third-is : (w : ℕ) (c : Change) (p : Page) → third w c p ≡ changed w (change_of c) p
unfolding third second first change_of sifted_page end_of entered
third-is w c p =
    rw (ends c.drops c.drop1 c.drop2 w p.entries)
    (go c.takes (end_those (λ (e : Entry). live_at w e && has e.key (first_of c.drops c.drop1 c.drop2)) w p.entries))
  where
    go : (n : ℕ) (es : List Entry) → entered_if (leb 2 n) w c.take2
        (entered_if (leb 1 n) w c.take1 (record { level = p.level; start = p.start; end = p.end; entries = es }))
        ≡ record { level = p.level; start = p.start; end = p.end; entries = born_all w (first_pairs n c.take1 c.take2) es }
    go zero es = refl
    go (suc zero) es = refl
    go (suc (suc n)) es = rw (le-leb 1 (suc (suc n)) (omega arith), le-leb 2 (suc (suc n)) (omega arith))

entered-length : (b : Bool) (w : ℕ) (x : Pair) (p : Page) → length (entered_if b w x p).entries ≡ length p.entries + one b
unfolding entered
entered-length true w x p = length-enter (born w x) p.entries ∙ omega arith
entered-length false w x p = omega arith

pub valid-if : (least : ℕ) (b : Bool) (w : ℕ) (x : Pair) (p : Page) → w < 2 ^ 20 → x.key < 2 ^ 24 → x.value < 2 ^ 32
    → length p.entries + one b ≤ 5 * least → Valid least p
    → Valid least (entered_if b w x p)
valid-if least true w x p hw hk hx room v = valid-entered least w x p hw hk hx (omega arith) v
valid-if least false w x p hw hk hx room v = v

module _ (least w : ℕ) (c : Change) (p : Page) (v : Valid least p) (hw : w < 2 ^ 20) (hk : c.take1.key < 2 ^ 24)
    (hx : c.take1.value < 2 ^ 32) (room : length (changed w (change_of c) p).entries ≤ 5 * least) where
  pub first-valid : Valid least (first w c p)
  unfolding first
  first-valid = valid-sifted least (End c.drops c.drop1 c.drop2) w p hw v

  second-length : length (second w c p).entries ≡ length (first w c p).entries + one (leb 1 c.takes)
  unfolding second
  second-length = entered-length (leb 1 c.takes) w c.take1 (first w c p)

  third-length : length (changed w (change_of c) p).entries ≡ length (second w c p).entries + one (leb 2 c.takes)
  unfolding third
  third-length =
      ap (λ (q : Page). length q.entries) (sym (third-is w c p)) ∙ entered-length (leb 2 c.takes) w c.take2 (second w c p)

  pub first-room : length (first w c p).entries + one (leb 1 c.takes) ≤ 5 * least
  first-room = omega (arith, second-length, third-length)

  pub second-valid : Valid least (second w c p)
  unfolding second
  second-valid = valid-if least (leb 1 c.takes) w c.take1 (first w c p) hw hk hx first-room first-valid

  pub second-room : length (second w c p).entries + one (leb 2 c.takes) ≤ 5 * least
  second-room = omega (arith, third-length)

-- how many entries there are after a change
pub after_is : (w : ℕ) (c : Change) (p : Page) → c.takes ≤ 2
    → length (changed w (change_of c) p).entries ≡ length (sifted (End c.drops c.drop1 c.drop2) w p.entries) + c.takes
unfolding third second first sifted_page
after_is w c p h =
    ap (λ (q : Page). length q.entries) (sym (third-is w c p)) ∙ entered-length (leb 2 c.takes) w c.take2 (second w c p)
    ∙ ap (λ (n : ℕ). n + one (leb 2 c.takes)) (entered-length (leb 1 c.takes) w c.take1 (first w c p)) ∙ go c.takes h
  where
    go : (n : ℕ) → n ≤ 2 → length (sifted (End c.drops c.drop1 c.drop2) w p.entries) + one (leb 1 n) + one (leb 2 n)
        ≡ length (sifted (End c.drops c.drop1 c.drop2) w p.entries) + n
    go zero l = omega arith
    go (suc zero) l = omega arith
    go (suc (suc zero)) l = omega arith
    go (suc (suc (suc n))) l = absurd (omega arith)
