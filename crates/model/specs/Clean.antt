-- What rule 1 says of bytes: "zero bits .. and header fields are as above; the page count is the lent length's".
-- Assumes nothing.
use Rattle.std.specs.Prelude.{ℕ, zero, suc, ◌+◌, ◌*◌, ◌-◌, Bool, true, ◌&&◌, List, leb, eqb}
use Rattle.model.specs.Limits.{count_bits, root_bits, oldest_bits, live_bits}
use Rattle.model.specs.Basic.{pick}
use Rattle.model.specs.Field.{field}
use Rattle.model.specs.Layout.{count_of, page_of, size_of, read_header, decode}
use Rattle.model.specs.Sound.{rule1}

-- so many bits from bit `at` on are zero
abbrev pub zero_bits : List ℕ → ℕ → ℕ → Bool
zero_bits s at n = eqb (field s at n) 0

-- from bit a up to, not including, bit b
abbrev pub zero_from : List ℕ → ℕ → ℕ → Bool
zero_from s a b = zero_bits s a (b - a)

-- where the zero bits of a page's front begin: "free pages are all zero", those of the live count too
abbrev pub spare_at : ℕ → ℕ → ℕ
spare_at least level = 44 + count_bits least + pick (eqb level 0) 0 (live_bits least)

-- "79 zero bits"; "unused [entries] are all zero"
unfoldable pub clean_page : ℕ → List ℕ → Bool
clean_page least p =
    leb (count_of least p) (5 * least)
    && (zero_from p (spare_at least (field p 0 4)) 128 && zero_from p (128 + 96 * count_of least p) (512 * least))

-- so many pages from page n on
unfoldable pub clean_pages : ℕ → List ℕ → ℕ → ℕ → Bool
clean_pages least s n zero = true
clean_pages least s n (suc k) = clean_page least (page_of least s n) && clean_pages least s (n + 1) k

-- the header's page count, its undefined bits, "Unused slots are zero"
unfoldable pub clean_front : ℕ → List ℕ → Bool
clean_front least s =
    eqb (read_header least s).pages (size_of least s)
    && (zero_from s (74 + root_bits least + oldest_bits least) (512 * least)
    && (leb (read_header least s).roots (64 * least) && zero_from s (512 * least + 32 * (read_header least s).roots) (2560 * least)))

-- rule 1 of lent bytes
unfoldable pub clean : ℕ → List ℕ → Bool
clean least s = clean_front least s && (clean_pages least s 5 (size_of least s - 5) && rule1 least (decode least s))
