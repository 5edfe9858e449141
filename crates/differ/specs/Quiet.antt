-- A page that shows the same at two versions: nothing in it starts or ends between them.
use Rattle.std.specs.Prelude.{ℕ, Bool, not, List}
use Rattle.model.specs.Basic.{all, pick}
use Rattle.model.specs.declared.Entry.{Entry}
use Rattle.model.specs.Entry.{live_at}

-- alive at one of two versions and not at the other
abbrev pub moves : ℕ → ℕ → Entry → Bool
moves u v e = pick (live_at u e) (not (live_at v e)) (live_at v e)

unfoldable pub quiet : ℕ → ℕ → List Entry → Bool
quiet u v es = all (λ (e : Entry). not (moves u v e)) es
