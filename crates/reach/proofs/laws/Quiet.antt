-- A page in which nothing starts or ends for a stretch, one more entry at a time, shows the same throughout. Assumes nothing.
use Prim.Native.Nat.{ℕ, zero, suc, ◌+◌, ◌*◌, ◌<◌, ◌≤◌}
use mathlib.Core.Path.{◌≡◌, sym, subst}
use mathlib.Core.List.{List}
use mathlib.Core.Logic.{inl, inr, ⊎_elim}
use native.Mathlib.Omega.{arith}
use Rattle.bits.proofs.laws.Put.{less}
use Rattle.model.specs.declared.Entry.{Entry}
use Rattle.model.specs.Page.{pairs_at}
use Rattle.model.specs.Store.{page}
use Rattle.model.specs.Layout.{read_entry, read_entries, page_of, decode_page, decode}
use Rattle.model.specs.Inner.{Out, In}
use Rattle.model.proofs.sound.Quiet.{QuietPage, pairs-still, out-less}
use Rattle.page.specs.Head.{read_head}
use Rattle.page.proofs.laws.Read.{start_of, end-of, entries-of}
use Rattle.store.proofs.laws.Read.{page-at}
use Rattle.local.specs.Local.{IsPage}
use Rattle.reach.specs.Versions.{QuietEntries, QuietPart}

-- ---- one more

pub quiet_none : (p : List ℕ) (v r : ℕ) → QuietEntries p 0 v r
quiet_none p v r = record { starts = λ i l. absurd (omega arith); ends = λ i l. absurd (omega arith) }

pub quiet-more : (p : List ℕ) (k v r q : ℕ) → QuietEntries p k v r → q ≤ r → Out v q (read_entry p (128 + 96 * k)).start
    → Out v q (read_entry p (128 + 96 * k)).end → QuietEntries p (k + 1) v q
quiet-more p k v r q x le a b =
    record {
      starts = λ i l. ⊎_elim (λ h. out-less v r q _ (x.starts i h) le) (λ h. let e : i ≡ k = omega arith in rw e a) (less i k);
      ends = λ i l. ⊎_elim (λ h. out-less v r q _ (x.ends i h) le) (λ h. let e : i ≡ k = omega arith in rw e b) (less i k);
    }

out_one : (v r x : ℕ) → r ≡ v + 1 → Out v r x
out_one v r x e = ⊎_elim (λ l. inr (omega arith)) (λ l. inl l) (less v x)

-- between two versions that follow each other there is none
pub quiet_one : (least : ℕ) (p : List ℕ) (v r : ℕ) → r ≡ v + 1 → QuietPart least p v r
quiet_one least p v r e =
    record {
      start = out_one v r _ e;
      end = out_one v r _ e;
      entries = record { starts = λ i l. out_one v r _ e; ends = λ i l. out_one v r _ e };
    }

-- ---- of bytes, of the store that they hold

entry_in : (p : List ℕ) (o n : ℕ) (P : Entry → Type 0) → ((i : ℕ) → i < n → P (read_entry p (o + 96 * i))) → (e : Entry)
    → In e (read_entries p o n) → P e
unfolding read_entries
entry_in p o zero P h e i = absurd i
entry_in p o (suc n) P h e (inl q) = let z : o + 96 * 0 ≡ o = omega arith in subst P (sym q) (rw z at (h 0 (omega arith)))
entry_in p o (suc n) P h e (inr i) =
    entry_in p (o + 96) n P (λ k l. let z : o + 96 * suc k ≡ o + 96 + 96 * k = omega arith in rw z at (h (suc k) (omega arith))) e i

quiet-page : (least : ℕ) (p : List ℕ) (v r : ℕ) → QuietPart least p v r → QuietPage v r (decode_page least p)
quiet-page least p v r x =
    record {
      start = rw (start_of least p) x.start;
      end = rw (end-of least p) x.end;
      starts = λ e i. entry_in p 128 (read_head least p).count (λ (y : Entry). Out v r y.start) x.entries.starts e
          (rw (entries-of least p) at i);
      ends = λ e i. entry_in p 128 (read_head least p).count (λ (y : Entry). Out v r y.end) x.entries.ends e
          (rw (entries-of least p) at i);
    }

-- a page shows the same
pub pairs-quiet : (least : ℕ) (s : List ℕ) (n v u r : ℕ) → IsPage least s n → v ≤ u → u < r → QuietPart least (page_of least s n) v r
    → pairs_at v (page (decode least s).pages n) ≡ pairs_at u (page (decode least s).pages n)
pairs-quiet least s n v u r h low high q =
    rw (page-at least s n h.0 h.1)
    (pairs-still v u r low high (decode_page least (page_of least s n)) (quiet-page least (page_of least s n) v r q))
