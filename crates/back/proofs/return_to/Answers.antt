-- `return_to` meets its contract. Assumes nothing.
use mathlib.Core.Path.{refl}
use Rattle.store.proofs.laws.Refused.{refuses-some}
use Rattle.back.proofs.laws.Both.{all_done, one-stops}
use Rattle.back.proofs.return_to.Goals as goal

pub returns-in-Ok : goal.returns-in-Ok
returns-in-Ok c =
    let parts = all_done c.requires _ _ c.in-Ok.ensures refl (λ i. (c.slice_known-2-1.given i).fits) in
    record { number = parts.0; bytes = parts.1 }

pub abandon-requires : goal.abandon-requires
abandon-requires c = let g = c.in-Err.ensures.going in (g.sound, g.opened)

pub returns-in-Err : goal.returns-in-Err
returns-in-Err c =
    let parts = one-stops c.requires _ _ c.in-Err.ensures (refuses-some c.in-Err.r) _ c.abandon.ensures in
    record { number = parts.0; bytes = parts.1 }
