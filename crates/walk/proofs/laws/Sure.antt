-- Laws about walk/specs/Sure. Assumes nothing.
use Prim.Native.Nat.{ℕ, suc, ◌*◌, ◌≤◌, ◌<◌}
use native.Mathlib.Omega.{arith}
use mathlib.Core.Bool.{true, false}
use mathlib.Core.Path.{◌≡◌, ap, ◌∙◌}
use mathlib.Core.List.{List}
use lib.ListN.{length}
use Rattle.model.specs.declared.Entry.{Entry}
use Rattle.model.specs.Page.{Page, is_free}
use Rattle.model.specs.Store.{page}
use Rattle.model.specs.Walk.{root_at, height_of, key_limit}
use Rattle.model.specs.declared.Limits.{Limits}
use Rattle.model.specs.Limits.{Edition}
use Rattle.model.specs.Layout.{read_entries, decode_page, page_of, size_of, decode}
use Rattle.model.specs.Judged.{is_sound}
use Rattle.model.proofs.sound.ByRule.{used-in, high_used}
use Rattle.model.proofs.sound.Ready.{level-used}
use Rattle.page.specs.Head.{read_head}
use Rattle.page.proofs.laws.Read.{level-of, entries-of, length-entries}
use Rattle.store.proofs.laws.Read.{count-pages, page-at}
use Rattle.store.proofs.laws.Parts.{length-page}
use Rattle.store.proofs.laws.Sure.{sure, whole, part_in}
use Rattle.walk.specs.Live.{live}
use Rattle.walk.specs.Covers.{Covers}
use Rattle.walk.proofs.laws.Covers.{covers-root}
use Rattle.walk.proofs.laws.Scan.{from_start}
use Rattle.walk.specs.Sure.{PageStands, Walkable}

module _ {l : Limits} (d : Edition l) (b : List ℕ) (h : is_sound l.least b ≡ true) where
  -- a page that is not free is one of them, with its entries as rule 1 has them
  module _ (n up : ℕ) (e : (page (decode l.least b).pages n).level ≡ suc up) where
    used : is_free (page (decode l.least b).pages n) ≡ false
    used = level-used (page (decode l.least b).pages n) up e

    pub five : 5 ≤ n
    five = high_used (decode l.least b) n (sure d b h).front used

    pub size : n < size_of l.least b
    size = omega (arith, used-in (decode l.least b).pages n used, count-pages l.least b (omega (arith, (whole d b h).six)))

    page-is : page (decode l.least b).pages n ≡ decode_page l.least (page_of l.least b n)
    page-is = page-at l.least b n five size

    entries-are : (page (decode l.least b).pages n).entries
        ≡ read_entries (page_of l.least b n) 128 (read_head l.least (page_of l.least b n)).count
    entries-are = ap (λ (p : Page). p.entries) page-is ∙ entries-of l.least (page_of l.least b n)

    pub inside : PageStands l.least b n
    inside =
        let p : List ℕ = page_of l.least b n in
        let c : ℕ = (read_head l.least p).count in
        let g = (sure d b h).pages n used in
        let long : length p ≡ 64 * l.least = length-page l.least b n (part_in d b h n size) in
        let room : c ≤ 5 * l.least = omega (arith, g.few, ap (λ (es : List Entry). length es) entries-are, length-entries p 128 c) in
        record {
          part = part_in d b h n size;
          long = long;
          stands = record { long = omega (arith, d.four); short = omega (arith, d.eight); order = rw entries-are at g.order };
          level = ap (λ (q : Page). q.level) page-is ∙ level-of l.least p;
          pairs = λ v. ap (live v) (entries-are ∙ from_start p c);
        }

-- the pages of a walk
module _ {l : Limits} {b : List ℕ} {v : ℕ} (r : Walkable l b v) where
  pub root-covers : (k : ℕ) → k < key_limit
      → Covers l.least v (decode l.least b).pages (height_of (decode l.least b).pages (root_at (decode l.least b).slots v))
      (root_at (decode l.least b).slots v) k
  root-covers k h =
      covers-root l.least (omega (arith, r.edition.four)) (decode l.least b) (sure r.edition b r.sound) v k r.version h

  pub covers-inside : (up n k : ℕ) → Covers l.least v (decode l.least b).pages up n k → PageStands l.least b n
  covers-inside up n k c = inside r.edition b r.sound n up c.level
