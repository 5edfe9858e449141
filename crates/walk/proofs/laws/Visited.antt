-- What is told of the pages that a lookup visits, and the list that it leaves; the pages noted one after the other.
-- Assumes nothing.
use Prim.Native.Nat.{ℕ, suc, ◌*◌, ◌+◌, ◌-◌, ◌^◌, ◌≤◌, ◌<◌}
use native.Mathlib.Omega.{arith}
use mathlib.Core.Bool.{Bool}
use mathlib.Core.Path.{◌≡◌, refl, ap, ap₂, sym, ◌∙◌, subst}
use mathlib.Core.List.{List, [], ◌∷◌, ◌++◌}
use lib.ListN.{length, set, drop, length-set}
use lib.Seq.{sets, sets-eq}
use borrow.Author.Tests.{lt-ltb, le-ltb}
use Rattle.model.specs.declared.Limits.{Limits}
use Rattle.model.specs.Page.{Page, pairs_at}
use Rattle.model.specs.Store.{Store, page}
use Rattle.model.specs.Walk.{root_at, height_of, around, path_down, lookup_visits}
use Rattle.model.specs.Layout.{decode}
use Rattle.model.specs.Calls.{rule, first_of}
use Rattle.model.specs.Told.{told_in, told_by}
use Rattle.model.specs.Visited.{page_number}
use Rattle.std.specs.Prelude.{Ok, Err}
use Rattle.model.specs.declared.refusal.ListRefusal.TheVariants.{TooShort}
use Rattle.model.specs.Refusals.{listed_in}
use Rattle.model.specs.Lent.{Listed, listed}
use Rattle.model.proofs.sound.Ready.{level-used}
use Rattle.model.proofs.reading.Visits.{visits-count, pages-told}
use Rattle.store.proofs.laws.Sure.{whole, sure}
use Rattle.walk.specs.Covers.{Covers}
use Rattle.walk.proofs.laws.Covers.{covers-own}
use Rattle.walk.specs.Sure.{Walkable}
use Rattle.walk.proofs.laws.Sure.{size, root-covers}

module _ (ns ms : List ℕ) where
  abbrev told : Listed
  told = listed ns (told_by page_number 1 0 (length ns) ms)

  -- the list holds fewer numbers than pages are visited
  short : length ns < length ms → told ≡ record { number = 14; count = length ms; list = ns }
  unfolding told_in told_by
  short h =
      ap (λ (b : Bool). listed ns (told_in page_number (first_of (rule 14 b ∷ [])) ms)) (lt-ltb (length ns) (1 * length ms) (omega arith))

  -- it holds them all: they are written, and nothing behind them
  enough : length ms ≤ length ns → told ≡ record { number = 0; count = length ms; list = sets ns 0 ms }
  unfolding told_in told_by
  enough h =
      let e : 0 + length ms ≡ length ms = omega arith in
      ap (λ (b : Bool). listed ns (told_in page_number (first_of (rule 14 b ∷ [])) ms)) (le-ltb (length ns) (1 * length ms) (omega arith))
      ∙ ap (λ (us : List ℕ). record { number = 0; count = length ms; list = us ++ drop (length us) ns }) (pages-told ms)
      ∙ ap (λ (us : List ℕ). record { number = 0; count = length ms; list = us })
      (sym (sets-eq ms ns 0 (omega arith) ∙ ap (λ (i : ℕ). ms ++ drop i ns) e))

-- the pages are counted by the root's height
module _ (s : Store) (k v : ℕ) (ns : List ℕ) (up : ℕ) (e : up ≡ height_of s.pages (root_at s.slots v)) where
  count : up + 1 ≡ length (lookup_visits s k v)
  count = omega (arith, visits-count s k v)

  pub visits-short : length ns < up + 1 → listed_in (Err (TooShort (up + 1))) ns ≡ told ns (lookup_visits s k v)
  visits-short h =
      ap (λ (n : ℕ). record { number = 14; count = n; list = ns }) count ∙ sym (short ns (lookup_visits s k v) (omega (arith, count)))

  pub visits-all : up + 1 ≤ length ns → (ns' : List ℕ) → ns' ≡ sets ns 0 (lookup_visits s k v)
      → listed_in (Ok (up + 1)) ns' ≡ told ns (lookup_visits s k v)
  visits-all h ns' w =
      ap₂ (λ (n : ℕ) (us : List ℕ). record { number = 0; count = n; list = us }) count w
      ∙ sym (enough ns (lookup_visits s k v) (omega (arith, count)))

-- ---- one page after the other

-- a page's number has 32 bits
pub covers-number : {l : Limits} {b : List ℕ} {v : ℕ} → Walkable l b v → (up n k : ℕ)
    → Covers l.least v (decode l.least b).pages up n k → n < 2 ^ 32
covers-number {l} {b} r up n k c = omega (arith, size r.edition b r.sound n up c.level, (whole r.edition b r.sound).most)

-- no root stands more than six levels above the leaves
pub root-height : {l : Limits} {b : List ℕ} {v : ℕ} → Walkable l b v
    → height_of (decode l.least b).pages (root_at (decode l.least b).slots v) ≤ 6
root-height {l} {b} {v} r =
    let s : Store = decode l.least b in
    let n : ℕ = root_at s.slots v in
    let c = root-covers r 0 (omega arith) in
    omega (
      arith,
      ((sure r.edition b r.sound).pages n (level-used (page s.pages n) (height_of s.pages n) c.level)).low,
      c.level,
    )

-- what the loop has: i pages are noted, and it stands at page `here`, the next
pub record Noting (least v k : ℕ) (ps : List Page) (ns₀ ns : List ℕ) (up n i here : ℕ) : Type 0 where
  pub within : i ≤ up
  pub covers : Covers least v ps (up - i) here k
  pub same : length ns ≡ length ns₀
  pub list : sets ns₀ 0 (path_down up ps v k n) ≡ sets ns i (path_down (up - i) ps v k here)

module _ {least v k : ℕ} {ps : List Page} where
  pub noting-start : {ns : List ℕ} {up n : ℕ} → Covers least v ps up n k → Noting least v k ps ns ns up n 0 n
  noting-start {ns} {up} {n} c =
      let e : up - 0 ≡ up = omega arith in
      record { within = omega arith; covers = rw e c; same = refl; list = rw e }

  module _ {ns₀ ns : List ℕ} {up n i here : ℕ} (h : Noting least v k ps ns₀ ns up n i here) where
    abbrev own : ℕ
    own = (around k (pairs_at v (page ps here))).own.value

    module _ (l : i < up) where
      left : up - i ≡ suc (up - (i + 1))
      left = omega arith

      pub noting-covers : Covers least v ps (suc (up - (i + 1))) here k
      noting-covers = subst (λ (u : ℕ). Covers least v ps u here k) left h.covers

      pub noting-step : Noting least v k ps ns₀ (set ns i here) up n (i + 1) own
      noting-step =
          let e : i + 1 ≡ suc i = omega arith in
          record {
            within = omega arith;
            covers = covers-own least v ps (up - (i + 1)) here k noting-covers;
            same = length-set ns i here ∙ h.same;
            list = h.list ∙ ap (λ (u : ℕ). sets ns i (path_down u ps v k here)) left
                ∙ ap (λ (j : ℕ). sets (set ns i here) j (path_down (up - (i + 1)) ps v k own)) (sym e);
          }

    pub noting-end : up ≤ i → set ns i here ≡ sets ns₀ 0 (path_down up ps v k n)
    noting-end l = let e : up - i ≡ 0 = omega arith in sym (h.list ∙ ap (λ (u : ℕ). sets ns i (path_down u ps v k here)) e)
