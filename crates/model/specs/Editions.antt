-- 2026-08, "edition 2, pages of 512 bytes": one set of calls serves both editions, and the edition that the lent bytes name says by which
-- limits. "Refusals 1, 3 and 13 read the edition's numbers, and 01's order changes".
-- Assumes nothing.
use Rattle.std.specs.Prelude.{ℕ, List, ltb, length}
use Rattle.model.specs.Basic.{pick}
use Rattle.model.specs.Judged.{magic_ok, edition_ok}

-- "fewer than five bytes gives 1; otherwise 2, then 3, then 1 by the edition's page size, then the rest as before": a call by the limits of
-- the edition gives 1 by its page size first, and 2 and 3 no more. Edition 1 has 4 for its least, edition 2 has 8.
unfoldable pub by_edition : {A : Type 0} → List ℕ → (ℕ → A) → (ℕ → A) → A
by_edition b refuse call =
    pick (ltb (length b) 5) (refuse 1)
    (pick (magic_ok b) (pick (edition_ok 4 b) (call 4) (pick (edition_ok 8 b) (call 8) (refuse 3))) (refuse 2))

-- the number that is given before an edition is known, or 0
abbrev pub lent_number : List ℕ → ℕ
lent_number b = by_edition b (λ n. n) (λ least. 0)

-- the edition, by its least; 4 where there is none
abbrev pub least_of : List ℕ → ℕ
least_of b = by_edition b (λ n. 4) (λ least. least)
