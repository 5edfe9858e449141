-- Laws about parts/specs/Becomes. Assumes nothing.
use Prim.Native.Nat.{ℕ, ◌+◌, ◌*◌, ◌-◌}
use mathlib.Core.Path.{◌≡◌, refl, ap, sym, ◌∙◌}
use mathlib.Core.List.{List, ◌++◌}
use mathlib.Core.Logic.{⊎_elim, ◌≢◌}
use native.Mathlib.Omega.{arith}
use lib.ListN.{set, take, drop, length-set}
use lib.Seq.{get_or-set_same, get_or-set_other, take-set-le}
use Rattle.model.specs.declared.Limits.{Limits}
use Rattle.model.specs.Page.{Page, free}
use Rattle.model.specs.Store.{Store, page}
use Rattle.model.specs.Layout.{with_page, encode_page, decode}
use Rattle.model.proofs.lists.Bools.{same?}
use Rattle.page.specs.Exact.{Valid}
use Rattle.store.proofs.laws.Parts.{part-back}
use Rattle.store.specs.Pages.{AllValid}
use Rattle.store.proofs.laws.Holds.{decode-encoded}
use Rattle.store.specs.Set.{with_pages}
use Rattle.store.proofs.laws.Set.{page-set}
use Rattle.parts.specs.Kept.{ExactBytes, Inside, pages_of}
use Rattle.parts.specs.Becomes.{Becomes}

-- ---- one step after the other

pub stays : {l : Limits} {b : List ℕ} → ExactBytes l b → Becomes l b b (pages_of l b)
stays k = record { is = sym k.same; holds = k.holds; long = refl }

module _ {l : Limits} {b b' : List ℕ} {ps : List Page} (k : ExactBytes l b) (d : Becomes l b b' ps) where
  pub shows : decode l.least b' ≡ with_pages (decode l.least b) ps
  shows =
      ap (decode l.least) d.is ∙ decode-encoded l.least k.edition.four k.edition.eight (with_pages (decode l.least b) ps)
      d.holds

  pub pages-are : pages_of l b' ≡ ps
  pages-are = ap (λ (s : Store). s.pages) shows

  pub kept-after : ExactBytes l b'
  kept-after = record {
    edition = k.edition;
    holds = rw shows d.holds;
    same = rw shows (sym d.is);
    most = rw pages-are (omega (arith, d.long, k.most));
  }

  pub inside-after : {n : ℕ} → Inside l b n → Inside l b' n
  inside-after i = record { low = i.low; high = rw pages-are (omega (arith, d.long, i.high)) }

  pub then : {b'' : List ℕ} {qs : List Page} → Becomes l b' b'' qs → Becomes l b b'' qs
  then {b''} {qs} e =
      let s : with_pages (decode l.least b') qs ≡ with_pages (decode l.least b) qs = ap (λ (s : Store). with_pages s qs) shows in
      record { is = rw s at e.is; holds = rw s at e.holds; long = e.long ∙ rw pages-are d.long }

-- ---- one page written

module _ {l : Limits} {b : List ℕ} (k : ExactBytes l b) {n : ℕ} (i : Inside l b n) (q : Page) (v : Valid l.least q) where
  abbrev ps : List Page
  ps = pages_of l b

  hit : (m : ℕ) → m ≡ n → page (set ps n q) m ≡ q
  hit m e = ap (λ (j : ℕ). page (set ps n q) j) e ∙ get_or-set_same ps n q free i.high

  all_valid : AllValid l.least (set (pages_of l b) n q)
  all_valid m =
      ⊎_elim (λ (e : m ≡ n). rw (hit m e) v) (λ (ne : m ≢ n). rw (get_or-set_other ps n m q free ne) (k.holds.pages m)) (same? m n)

  pub put : Becomes l b (with_page l.least b n (encode_page l.least q)) (set (pages_of l b) n q)
  put = record {
    is = ap (λ (x : List ℕ). with_page l.least x n (encode_page l.least q)) (sym k.same)
        ∙ page-set l.least k.edition.four k.edition.eight (decode l.least b) k.holds n q i.low i.high;
    holds = record {
      five = omega (arith, length-set ps n q, k.holds.five);
      most = omega (arith, length-set ps n q, k.holds.most);
      front = take-set-le 5 ps n q i.low ∙ k.holds.front;
      current = k.holds.current;
      oldest = k.holds.oldest;
      few = k.holds.few;
      slots = k.holds.slots;
      pages = all_valid;
    };
    long = length-set ps n q;
  }

  -- by a part that is lent and comes back
  pub lent : (a c : ℕ) (x : List ℕ) → a ≡ n * (64 * l.least) → c ≡ 64 * l.least → x ≡ encode_page l.least q
      → Becomes l b (take a b ++ (x ++ drop (a + c - a) (drop a b))) (set (pages_of l b) n q)
  lent a c x ea ec e = rw (part-back l.least b n a c x ea ec, e) put
