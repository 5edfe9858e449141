-- Rule 8 as the code tests it.
use Rattle.std.specs.Prelude.{ℕ, Bool, ◌||◌, List, eqb, length}
use Rattle.model.specs.Basic.{those}
use Rattle.model.specs.Page.{is_free}
use Rattle.model.specs.Layout.{lives, live_of, decode_page}

-- ---- a page

-- in an edition that has a live count
unfoldable pub count_ok : ℕ → List ℕ → Bool
count_ok least p = is_free (decode_page least p) || eqb (live_of least p) (length (those lives (decode_page least p).entries))
