-- The root rebuilt alone, and the new root above two pages.
use Rattle.std.specs.Prelude.{ℕ, None}
use Rattle.model.specs.Entry.{pair}
use Rattle.gather.specs.declared.Gather.{Gather}
use Rattle.group.specs.declared.Group.{Group}

-- ---- the root's group

abbrev pub alone_with : ℕ → Gather → Group
alone_with n want = record { routers = record { first = pair 0 n; second = None }; all = want }
