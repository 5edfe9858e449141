use Rattle.parts.proofs.laws.Becomes.{kept-after, inside-after}
use Rattle.climb.proofs.laws.Rebuild.{one-gone, both-gone}
use Rattle.climb.proofs.refill.retire.Goals as goal

pub go_in-requires-in-Some : goal.go_in-requires-in-Some
go_in-requires-in-Some c = (
  kept-after c.requires.0 c.go_in.ensures,
  inside-after c.requires.0 c.go_in.ensures (c.requires.1.second c.in-Some.x c.in-Some.is).inside,
  c.requires.2,
)

pub returns-in-Some : goal.returns-in-Some
returns-in-Some c =
    both-gone c.requires.0 c.args.w c.args.rs c.go_in.ensures c.in-Some.x c.in-Some.is
    c.go_in-in-Some.ensures

pub returns-in_default : goal.returns-in_default
returns-in_default c = one-gone c.requires.0 c.args.w c.args.rs c.go_in.ensures c.in_default.is
