-- Limits are those of an edition, by their type. Assumes nothing.
use Rattle.model.specs.declared.Limits.{Limits}
use Rattle.model.specs.Limits.{Edition}

pub edition : (l : Limits) → Edition l
edition l = record {
  four = l.four;
  eight = l.eight;
  merging = l.merging;
  filling = l.filling;
  holding = l.holding;
  paging = l.paging;
  slotting = l.slotting;
  counting = l.counting;
  rooting = l.rooting;
  aging = l.aging;
}
