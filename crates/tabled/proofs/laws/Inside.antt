-- What a page that is right gives a search: its part in the store, and its entries by key. Assumes nothing.
use Prim.Native.Nat.{ℕ, zero, suc, ◌+◌, ◌*◌, ◌<◌, ◌≤◌}
use native.Mathlib.Omega.{arith}
use mathlib.Core.Bool.{Bool, true, ◌&&◌}
use mathlib.Core.Path.{◌≡◌, ap, ◌∙◌}
use mathlib.Core.Logic.{⊎_elim}
use mathlib.Core.List.{List}
use lib.Dec.{leb, eqb}
use lib.ListN.{length}
use Rattle.bits.proofs.laws.Put.{less}
use Rattle.model.specs.Basic.{all, in_order}
use Rattle.model.specs.declared.Limits.{Limits}
use Rattle.model.specs.Limits.{Edition}
use Rattle.model.specs.Entry.{before}
use Rattle.model.specs.Page.{Page}
use Rattle.model.specs.Store.{page, last}
use Rattle.model.specs.Sound.{span_ok, entry_ok, page_ok}
use Rattle.model.specs.Layout.{read_entries, decode_page, page_of, size_of, decode}
use Rattle.model.specs.Clean.{clean_page}
use Rattle.model.proofs.lists.Lists.{both_true}
use Rattle.model.proofs.lists.Members.{not-both}
use Rattle.page.specs.Head.{read_head}
use Rattle.page.proofs.laws.Read.{level-of, entries-of}
use Rattle.store.proofs.laws.Read.{page-at}
use Rattle.store.proofs.laws.Parts.{length-page}
use Rattle.local.specs.Local.{Sized}
use Rattle.local.proofs.laws.Sizes.{part-fits}
use Rattle.local.proofs.laws.Pages.{clean-count}
use Rattle.model.specs.Near.{page_right}
use Rattle.local.proofs.laws.Right.{page-low, page-far}
use Rattle.walk.specs.Live.{live}
use Rattle.walk.proofs.laws.Scan.{from_start}
use Rattle.walk.specs.Sure.{PageStands}

module _ {l : Limits} (d : Edition l) (b : List ℕ) (size : ℕ) (z : Sized l.least b size) (up n : ℕ)
    (e : page_right l.least b (suc up) n ≡ true) where
  abbrev least : ℕ
  least = l.least

  abbrev p : List ℕ
  p = page_of least b n

  abbrev q : Page
  q = page (decode least b).pages n

  five : 5 ≤ n
  five =
      ⊎_elim (λ h. absurd (not-both (page_right least b (suc up) n) e (page-low least b size z (suc up) n (omega arith) h))) (λ h. h)
      (less n 5)

  below : n < size_of least b
  below =
      ⊎_elim (λ h. omega (arith, z.is))
      (λ h. absurd (not-both (page_right least b (suc up) n) e (page-far least b size z (suc up) n (omega arith) h))) (less n size)

  parts : (clean_page least p ≡ true) × (page_ok least (last (decode least b)) (length (decode least b).pages) q ≡ true)
  unfolding page_right
  parts =
      let x = both_true (clean_page least p)
      (page_ok least (last (decode least b)) (length (decode least b).pages) q && eqb q.level (suc up)) e in
      (x.0, (both_true (page_ok least (last (decode least b)) (length (decode least b).pages) q) (eqb q.level (suc up)) x.1).0)

  order : in_order before q.entries ≡ true
  order =
      let m : ℕ = last (decode least b) in
      let k : ℕ = length (decode least b).pages in
      let a : Bool = leb q.level 7 && leb (length q.entries) (5 * least) && span_ok m q.start q.end in
      let x = both_true (a && in_order before q.entries) (all (entry_ok m k q.level) q.entries) parts.1 in
      (both_true a (in_order before q.entries) x.0).1

  page-is : q ≡ decode_page least p
  page-is = page-at least b n five below

  entries-are : q.entries ≡ read_entries p 128 (read_head least p).count
  entries-are = ap (λ (x : Page). x.entries) page-is ∙ entries-of least p

  pub right-inside : PageStands least b n
  right-inside =
      let c : ℕ = (read_head least p).count in
      let part : n * (64 * least) + 64 * least ≤ length b = part-fits least d.four b n below in
      let long : length p ≡ 64 * least = length-page least b n part in
      let room : c ≤ 5 * least = clean-count least p parts.0 in
      record {
        part = part;
        long = long;
        stands = record { long = omega (arith, d.four); short = omega (arith, d.eight); order = rw entries-are at order };
        level = ap (λ (x : Page). x.level) page-is ∙ level-of least p;
        pairs = λ v. ap (live v) (entries-are ∙ from_start p c);
      }

pub level-inside : {l : Limits} (d : Edition l) (b : List ℕ) (size : ℕ) → Sized l.least b size → (level n : ℕ) → 0 < level
    → page_right l.least b level n ≡ true → PageStands l.least b n
level-inside d b size z zero n h e = absurd (omega arith)
level-inside d b size z (suc up) n h e = right-inside d b size z up n e
