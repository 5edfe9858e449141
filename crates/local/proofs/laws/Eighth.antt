-- Laws about local/specs/Eighth. Assumes nothing.
use Prim.Native.Nat.{ℕ, zero, suc, ◌+◌, ◌*◌, ◌-◌, ◌<◌, ◌≤◌}
use mathlib.Core.Bool.{Bool, true, false, ◌&&◌, ◌||◌, or-true}
use mathlib.Core.Path.{◌≡◌, refl, ap, ◌∙◌, subst}
use mathlib.Core.List.{List}
use native.Mathlib.Omega.{arith}
use lib.Dec.{leb, eqb}
use lib.ListN.{length}
use borrow.Author.Tests.{le-leb, lt-leb, leb-true, leb-false}
use Rattle.model.specs.Basic.{all, those, pick, in_order}
use Rattle.model.specs.Limits.{live_shown}
use Rattle.model.specs.Field.{field}
use Rattle.model.specs.Entry.{live_at, before}
use Rattle.model.specs.Page.{Page, is_free}
use Rattle.model.specs.Store.{last}
use Rattle.model.specs.Sound.{page_fine, page_ok, zeroed, span_ok, entry_ok}
use Rattle.model.specs.Layout.{lives, live_of, page_of, read_entries, decode_page, decode, size_of}
use Rattle.model.specs.Clean.{clean}
use Rattle.model.specs.Counted.{counted_page, counted_pages, rule8}
use Rattle.model.proofs.lists.Lists.{both_true}
use Rattle.model.proofs.sound.Counted.{those-last}
use Rattle.page.specs.Head.{read_head}
use Rattle.page.specs.declared.Head.{Head}
use Rattle.std.specs.List.{list_all, range_with_len}
use Rattle.page.proofs.laws.Read.{level-of, entries-of}
use Rattle.local.specs.Local.{Sized}
use Rattle.local.proofs.laws.Ruled.{fine, last-low}
use Rattle.local.specs.Eighth.{count_ok}

pub count-is : (least : ℕ) (p : List ℕ) (h : Head) → h ≡ read_head least p → count_ok least p
    ≡ (eqb h.level 0 || eqb (live_of least p) (length (those lives (read_entries p 128 h.count))))
unfolding count_ok
count-is least p h is = rw (is, level-of least p, entries-of least p)

-- so many pages from page n on
abbrev pub counts_ok : ℕ → List ℕ → ℕ → ℕ → Bool
counts_ok least s n k = list_all (λ (i : ℕ). count_ok least (page_of least s i)) (range_with_len n k)

-- ---- no bits for it: nothing to be wrong

none-page : (least v : ℕ) (p : List ℕ) → least ≤ 4 → counted_page least v p ≡ true
unfolding counted_page live_of field
none-page least v p h = rw (le-leb least 4 h) (or-true (is_free (decode_page least p)))

none-pages : (least v : ℕ) (s : List ℕ) (n k : ℕ) → least ≤ 4 → counted_pages least v s n k ≡ true
unfolding counted_pages
none-pages least v s n zero h = refl
none-pages least v s n (suc k) h = rw (none-page least v (page_of least s n) h) (none-pages least v s (n + 1) k h)

pub eighth-none : (least : ℕ) (s : List ℕ) → least ≤ 4 → rule8 least s ≡ true
unfolding rule8
eighth-none least s h = none-pages least (last (decode least s)) s 5 (size_of least s - 5) h

-- ---- six bits: the entries alive at last are those that live

some-page : (least v size : ℕ) (p : List ℕ) → 4 < least → v ≤ 1048574 → page_fine least v size (decode_page least p) ≡ true
    → counted_page least v p ≡ count_ok least p
unfolding counted_page count_ok
some-page least v size p h low fine = at (is_free q) refl
  where
    q : Page
    q = decode_page least p

    shown : (n : ℕ) → live_shown least n ≡ n
    shown n = rw (lt-leb least 4 h)

    same : is_free q ≡ false → those (live_at v) q.entries ≡ those lives q.entries
    same u =
        let ok : page_ok least v size q ≡ true = subst (λ (b : Bool). pick b (zeroed q) (page_ok least v size q) ≡ true) u fine in
        those-last v size q.level low q.entries
        (both_true (leb q.level 7 && leb (length q.entries) (5 * least) && span_ok v q.start q.end
        && in_order before q.entries) (all (entry_ok v size q.level) q.entries) ok).1

    at : (f : Bool) → is_free q ≡ f → (f || eqb (live_of least p) (live_shown least (length (those (live_at v) q.entries))))
        ≡ (f || eqb (live_of least p) (length (those lives q.entries)))
    at true u = refl
    at false u = ap (eqb (live_of least p)) (shown (length (those (live_at v) q.entries)) ∙ ap length (same u))

some-pages : (least v : ℕ) (s : List ℕ) (n k : ℕ)
    → ((m : ℕ) → n ≤ m → m < n + k → counted_page least v (page_of least s m) ≡ count_ok least (page_of least s m))
    → counted_pages least v s n k ≡ counts_ok least s n k
unfolding counted_pages
some-pages least v s n zero f = refl
some-pages least v s n (suc k) f =
    rw (f n (omega arith) (omega arith), some-pages least v s (n + 1) k (λ m l h. f m (omega arith) (omega arith)))

pub eighth-some : (least : ℕ) (s : List ℕ) (size : ℕ) → Sized least s size → clean least s ≡ true → 4 < least
    → rule8 least s ≡ counts_ok least s 5 (size - 5)
unfolding rule8
eighth-some least s size z one h =
    let v : ℕ = last (decode least s) in
    some-pages least v s 5 (size_of least s - 5)
    (λ m l k. some-page least v size (page_of least s m) h (last-low least s size z one) (fine least s size z one m (l, omega arith)))
    ∙ ap (λ (n : ℕ). counts_ok least s 5 (n - 5)) z.is

pub eighth-is : (least : ℕ) (s : List ℕ) (size : ℕ) → Sized least s size → clean least s ≡ true
    → rule8 least s ≡ (leb least 4 || counts_ok least s 5 (size - 5))
eighth-is least s size z one = at (leb least 4) refl
  where
    at : (b : Bool) → leb least 4 ≡ b → rule8 least s ≡ (b || counts_ok least s 5 (size - 5))
    at true e = eighth-none least s (leb-true least 4 e)
    at false e = eighth-some least s size z one (leb-false least 4 e)
