-- 2026-09, "carry the live count": "Soundness gains rule 8, that it is right". Like Clean's, a test on bytes: a page that they hold has no
-- live count beside its entries. Edition 1 has no bits for it, which show 0 (Limits).
-- Assumes nothing.
use Rattle.std.specs.Prelude.{ℕ, zero, suc, ◌+◌, ◌-◌, Bool, true, ◌&&◌, ◌||◌, List, eqb, length}
use Rattle.model.specs.Basic.{those}
use Rattle.model.specs.Limits.{live_shown}
use Rattle.model.specs.Entry.{live_at}
use Rattle.model.specs.Page.{is_free}
use Rattle.model.specs.Store.{last}
use Rattle.model.specs.Layout.{decode_page, live_of, page_of, size_of, decode}

-- a used page's live count is "the number of entries alive at the last version", which is v
unfoldable pub counted_page : ℕ → ℕ → List ℕ → Bool
counted_page least v p =
    is_free (decode_page least p) || eqb (live_of least p) (live_shown least (length (those (live_at v) (decode_page least p).entries)))

-- so many pages from page n on
unfoldable pub counted_pages : ℕ → ℕ → List ℕ → ℕ → ℕ → Bool
counted_pages least v s n zero = true
counted_pages least v s n (suc k) = counted_page least v (page_of least s n) && counted_pages least v s (n + 1) k

-- 8. Each used page's live count is right.
unfoldable pub rule8 : ℕ → List ℕ → Bool
rule8 least s = counted_pages least (last (decode least s)) s 5 (size_of least s - 5)
