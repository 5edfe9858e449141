-- The limits of an edition, by its least. Assumes nothing.
use Rattle.std.specs.Prelude.{ℕ, ◌*◌, ◌≤◌}
use mathlib.Core.Path.{refl}
use Rattle.model.specs.declared.Limits.{Limits}
use Rattle.model.specs.Limits.{Edition, count_bits, root_bits, oldest_bits}
use Rattle.model.proofs.Edition.{edition}

abbrev pub limits_of : (least : ℕ) → 4 ≤ least → least ≤ 8 → Limits
limits_of least four eight = record {
  least = least;
  merge = 2 * least;
  full = 4 * least;
  room = 5 * least;
  bytes = 64 * least;
  slots = 64 * least;
  counter = count_bits least;
  rooter = root_bits least;
  aged = oldest_bits least;
  four = four;
  eight = eight;
  merging = refl;
  filling = refl;
  holding = refl;
  paging = refl;
  slotting = refl;
  counting = refl;
  rooting = refl;
  aging = refl;
}

pub edition-of : (least : ℕ) (four : 4 ≤ least) (eight : least ≤ 8) → Edition (limits_of least four eight)
edition-of least four eight = edition (limits_of least four eight)
