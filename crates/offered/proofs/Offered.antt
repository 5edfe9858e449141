-- The functions that host offers do what is promised: from their statements, a line each.
-- Assumes nothing.
use mathlib.Core.Path.{refl, ap}
use Rattle.model.specs.Ended.{of_outcome}
use Rattle.host.specs.contracts.rcst_fresh as rcst-fresh
use Rattle.host.proofs.rcst_fresh.Symbol as rcst-fresh-code
use Rattle.host.proofs.rcst_fresh.Met as rcst-fresh-met
use Rattle.host.specs.contracts.rcst_fresh_second as rcst-fresh-second
use Rattle.host.proofs.rcst_fresh_second.Symbol as rcst-fresh-second-code
use Rattle.host.proofs.rcst_fresh_second.Met as rcst-fresh-second-met
use Rattle.host.specs.contracts.rcst_check as rcst-check
use Rattle.host.proofs.rcst_check.Symbol as rcst-check-code
use Rattle.host.proofs.rcst_check.Met as rcst-check-met
use Rattle.host.specs.contracts.rcst_open as rcst-open
use Rattle.host.proofs.rcst_open.Symbol as rcst-open-code
use Rattle.host.proofs.rcst_open.Met as rcst-open-met
use Rattle.host.specs.contracts.rcst_insert as rcst-insert
use Rattle.host.proofs.rcst_insert.Symbol as rcst-insert-code
use Rattle.host.proofs.rcst_insert.Met as rcst-insert-met
use Rattle.host.specs.contracts.rcst_delete as rcst-delete
use Rattle.host.proofs.rcst_delete.Symbol as rcst-delete-code
use Rattle.host.proofs.rcst_delete.Met as rcst-delete-met
use Rattle.host.specs.contracts.rcst_commit as rcst-commit
use Rattle.host.proofs.rcst_commit.Symbol as rcst-commit-code
use Rattle.host.proofs.rcst_commit.Met as rcst-commit-met
use Rattle.host.specs.contracts.rcst_abandon as rcst-abandon
use Rattle.host.proofs.rcst_abandon.Symbol as rcst-abandon-code
use Rattle.host.proofs.rcst_abandon.Met as rcst-abandon-met
use Rattle.host.specs.contracts.rcst_return as rcst-return
use Rattle.host.proofs.rcst_return.Symbol as rcst-return-code
use Rattle.host.proofs.rcst_return.Met as rcst-return-met
use Rattle.host.specs.contracts.rcst_prune as rcst-prune
use Rattle.host.proofs.rcst_prune.Symbol as rcst-prune-code
use Rattle.host.proofs.rcst_prune.Met as rcst-prune-met
use Rattle.host.specs.contracts.rcst_lookup as rcst-lookup
use Rattle.host.proofs.rcst_lookup.Symbol as rcst-lookup-code
use Rattle.host.proofs.rcst_lookup.Met as rcst-lookup-met
use Rattle.host.specs.contracts.rcst_range as rcst-range
use Rattle.host.proofs.rcst_range.Symbol as rcst-range-code
use Rattle.host.proofs.rcst_range.Met as rcst-range-met
use Rattle.host.specs.contracts.rcst_visits as rcst-visits
use Rattle.host.proofs.rcst_visits.Symbol as rcst-visits-code
use Rattle.host.proofs.rcst_visits.Met as rcst-visits-met
use Rattle.host.specs.contracts.rcst_difference as rcst-difference
use Rattle.host.proofs.rcst_difference.Symbol as rcst-difference-code
use Rattle.host.proofs.rcst_difference.Met as rcst-difference-met
use Rattle.host.specs.contracts.rcst_convert as rcst-convert
use Rattle.host.proofs.rcst_convert.Symbol as rcst-convert-code
use Rattle.host.proofs.rcst_convert.Met as rcst-convert-met
use Rattle.host.specs.contracts.rcst_life as rcst-life
use Rattle.host.proofs.rcst_life.Symbol as rcst-life-code
use Rattle.host.proofs.rcst_life.Met as rcst-life-met
use Rattle.host.specs.contracts.rcst_state as rcst-state
use Rattle.host.proofs.rcst_state.Symbol as rcst-state-code
use Rattle.host.proofs.rcst_state.Met as rcst-state-met
use Rattle.host.specs.contracts.plainly.rcst_plain_open as rcst-plain-open
use Rattle.host.proofs.plainly.rcst_plain_open.Symbol as rcst-plain-open-code
use Rattle.host.proofs.plainly.rcst_plain_open.Met as rcst-plain-open-met
use Rattle.host.specs.contracts.plainly.rcst_plain_insert as rcst-plain-insert
use Rattle.host.proofs.plainly.rcst_plain_insert.Symbol as rcst-plain-insert-code
use Rattle.host.proofs.plainly.rcst_plain_insert.Met as rcst-plain-insert-met
use Rattle.host.specs.contracts.plainly.rcst_plain_delete as rcst-plain-delete
use Rattle.host.proofs.plainly.rcst_plain_delete.Symbol as rcst-plain-delete-code
use Rattle.host.proofs.plainly.rcst_plain_delete.Met as rcst-plain-delete-met
use Rattle.host.specs.contracts.plainly.rcst_plain_commit as rcst-plain-commit
use Rattle.host.proofs.plainly.rcst_plain_commit.Symbol as rcst-plain-commit-code
use Rattle.host.proofs.plainly.rcst_plain_commit.Met as rcst-plain-commit-met
use Rattle.host.specs.contracts.plainly.rcst_plain_abandon as rcst-plain-abandon
use Rattle.host.proofs.plainly.rcst_plain_abandon.Symbol as rcst-plain-abandon-code
use Rattle.host.proofs.plainly.rcst_plain_abandon.Met as rcst-plain-abandon-met
use Rattle.host.specs.contracts.plainly.rcst_plain_return as rcst-plain-return
use Rattle.host.proofs.plainly.rcst_plain_return.Symbol as rcst-plain-return-code
use Rattle.host.proofs.plainly.rcst_plain_return.Met as rcst-plain-return-met
use Rattle.host.specs.contracts.plainly.rcst_plain_prune as rcst-plain-prune
use Rattle.host.proofs.plainly.rcst_plain_prune.Symbol as rcst-plain-prune-code
use Rattle.host.proofs.plainly.rcst_plain_prune.Met as rcst-plain-prune-met
use Rattle.host.specs.contracts.plainly.rcst_plain_lookup as rcst-plain-lookup
use Rattle.host.proofs.plainly.rcst_plain_lookup.Symbol as rcst-plain-lookup-code
use Rattle.host.proofs.plainly.rcst_plain_lookup.Met as rcst-plain-lookup-met
use Rattle.host.specs.contracts.plainly.rcst_plain_range as rcst-plain-range
use Rattle.host.proofs.plainly.rcst_plain_range.Symbol as rcst-plain-range-code
use Rattle.host.proofs.plainly.rcst_plain_range.Met as rcst-plain-range-met
use Rattle.host.specs.contracts.plainly.rcst_plain_difference as rcst-plain-difference
use Rattle.host.proofs.plainly.rcst_plain_difference.Symbol as rcst-plain-difference-code
use Rattle.host.proofs.plainly.rcst_plain_difference.Met as rcst-plain-difference-met
use Rattle.host.specs.contracts.plainly.rcst_plain_life as rcst-plain-life
use Rattle.host.proofs.plainly.rcst_plain_life.Symbol as rcst-plain-life-code
use Rattle.host.proofs.plainly.rcst_plain_life.Met as rcst-plain-life-met
use Rattle.auditor.specs.Engine.{of_given}
use Rattle.offered.specs.Offered.{Fresh, FreshSecond, Check, Open, Insert, Delete, Commit, Abandon, Return, Prune, Lookup, Range}
use Rattle.offered.specs.Offered.{Visits, Difference, Life, Convert, AllOffered, State, PlainOpen, PlainInsert, PlainDelete}
use Rattle.offered.specs.Offered.{PlainCommit, PlainAbandon, PlainReturn, PlainPrune, PlainLookup, PlainRange, PlainDifference}
use Rattle.offered.specs.Offered.{PlainLife}
use Rattle.offered.proofs.Passing.{by_one, by_two, by_three, by-four}
use Rattle.offered.proofs.Promising.{promised, conversion, plain-promised, plain-read, plain-opened, moved, one_told, two-told, list-told, all_told, plain-two, plain-list}

-- ---- each function

pub all-offered : {M : Type 1} → AllOffered M
all-offered = record {
  fresh = by_two rcst-fresh.ended rcst-fresh-code.code rcst-fresh-code.name Fresh _ _ rcst-fresh-met.met
      (λ κs a r e x y ns. promised _ _ ns _ (moved ns x y));
  fresh-second = by_two rcst-fresh-second.ended rcst-fresh-second-code.code rcst-fresh-second-code.name FreshSecond _ _ rcst-fresh-second-met.met
      (λ κs a r e x y ns. promised _ _ ns _ (moved ns x y));
  check = by_two rcst-check.ended rcst-check-code.code rcst-check-code.name Check _ _ rcst-check-met.met
      (λ κs a r e x y ns. promised _ _ ns _ (one_told _ ns x y));
  opens = by_one rcst-open.ended rcst-open-code.code rcst-open-code.name Open _ rcst-open-met.met (λ κs a r e x ns. promised _ _ ns _ (ap (of_outcome ns) x));
  insert = by_one rcst-insert.ended rcst-insert-code.code rcst-insert-code.name Insert _ rcst-insert-met.met
      (λ κs a r e x ns. promised _ _ ns _ (ap (of_outcome ns) x));
  delete = by_one rcst-delete.ended rcst-delete-code.code rcst-delete-code.name Delete _ rcst-delete-met.met
      (λ κs a r e x ns. promised _ _ ns _ (ap (of_outcome ns) x));
  commit = by_one rcst-commit.ended rcst-commit-code.code rcst-commit-code.name Commit _ rcst-commit-met.met
      (λ κs a r e x ns. promised _ _ ns _ (ap (of_outcome ns) x));
  abandon = by_one rcst-abandon.ended rcst-abandon-code.code rcst-abandon-code.name Abandon _ rcst-abandon-met.met
      (λ κs a r e x ns. promised _ _ ns _ (ap (of_outcome ns) x));
  return = by_one rcst-return.ended rcst-return-code.code rcst-return-code.name Return _ rcst-return-met.met
      (λ κs a r e x ns. promised _ _ ns _ (ap (of_outcome ns) x));
  prune = by_one rcst-prune.ended rcst-prune-code.code rcst-prune-code.name Prune _ rcst-prune-met.met
      (λ κs a r e x ns. promised _ _ ns _ (ap (of_outcome ns) x));
  lookup = by_three rcst-lookup.ended rcst-lookup-code.code rcst-lookup-code.name Lookup _ _ _ rcst-lookup-met.met
      (λ κs a r e x y z ns. promised _ _ ns _ (two-told _ ns x y z));
  range = by_three rcst-range.ended rcst-range-code.code rcst-range-code.name Range _ _ _ rcst-range-met.met
      (λ κs a r e x y z. promised _ _ _ _ (list-told _ x y z));
  visits = by_three rcst-visits.ended rcst-visits-code.code rcst-visits-code.name Visits _ _ _ rcst-visits-met.met
      (λ κs a r e x y z. promised _ _ _ _ (list-told _ x y z));
  difference = by_three rcst-difference.ended rcst-difference-code.code rcst-difference-code.name Difference _ _ _ rcst-difference-met.met
      (λ κs a r e x y z. promised _ _ _ _ (list-told _ x y z));
  convert = by_one rcst-convert.ended rcst-convert-code.code rcst-convert-code.name Convert _ rcst-convert-met.met (λ κs a r e x. conversion _ _ _ _ x);
  state = by_two rcst-state.ended rcst-state-code.code rcst-state-code.name State _ _ rcst-state-met.met
      (λ κs a r e x y ns. promised _ _ ns _ (all_told _ ns x y));
  life = by_three rcst-life.ended rcst-life-code.code rcst-life-code.name Life _ _ _ rcst-life-met.met
      (λ κs a r e x y z. promised _ _ _ _ (list-told _ x y z));
  plain-open = by_three rcst-plain-open.ended rcst-plain-open-code.code rcst-plain-open-code.name PlainOpen _ _ _ rcst-plain-open-met.met
      (λ κs a r e x y z. plain-opened a.0.now r e.0.now x y z);
  plain-insert = by-four rcst-plain-insert.ended rcst-plain-insert-code.code rcst-plain-insert-code.name PlainInsert _ _ _ _ rcst-plain-insert-met.met
      (λ κs a r e x y z w us. plain-promised _ _ _ _ us _ _ _ (ap (of_given us) x) refl y z w);
  plain-delete = by-four rcst-plain-delete.ended rcst-plain-delete-code.code rcst-plain-delete-code.name PlainDelete _ _ _ _ rcst-plain-delete-met.met
      (λ κs a r e x y z w us. plain-promised _ _ _ _ us _ _ _ (ap (of_given us) x) refl y z w);
  plain-abandon = by-four rcst-plain-abandon.ended rcst-plain-abandon-code.code rcst-plain-abandon-code.name PlainAbandon _ _ _ _ rcst-plain-abandon-met.met
      (λ κs a r e x y z w us. plain-promised _ _ _ _ us _ _ _ (ap (of_given us) x) refl y z w);
  plain-return = by-four rcst-plain-return.ended rcst-plain-return-code.code rcst-plain-return-code.name PlainReturn _ _ _ _ rcst-plain-return-met.met
      (λ κs a r e x y z w us. plain-promised _ _ _ _ us _ _ _ (ap (of_given us) x) refl y z w);
  plain-prune = by-four rcst-plain-prune.ended rcst-plain-prune-code.code rcst-plain-prune-code.name PlainPrune _ _ _ _ rcst-plain-prune-met.met
      (λ κs a r e x y z w us. plain-promised _ _ _ _ us _ _ _ (ap (of_given us) x) refl y z w);
  plain-commit = by_three rcst-plain-commit.ended rcst-plain-commit-code.code rcst-plain-commit-code.name PlainCommit _ _ _ rcst-plain-commit-met.met
      (λ κs a r e x y z us. plain-promised _ _ _ _ us _ _ _ (ap (of_given us) x) refl y (λ q. refl) z);
  plain-lookup = by_three rcst-plain-lookup.ended rcst-plain-lookup-code.code rcst-plain-lookup-code.name PlainLookup _ _ _ rcst-plain-lookup-met.met
      (λ κs a r e x y z us. plain-read _ _ _ _ us _ (plain-two a.0.now a.1.0.now us x y z) refl);
  plain-range = by_three rcst-plain-range.ended rcst-plain-range-code.code rcst-plain-range-code.name PlainRange _ _ _ rcst-plain-range-met.met
      (λ κs a r e x y z. plain-read _ _ _ _ _ _ (plain-list a.0.now a.1.0.now x y z) refl);
  plain-difference = by_three rcst-plain-difference.ended rcst-plain-difference-code.code rcst-plain-difference-code.name PlainDifference _ _ _
      rcst-plain-difference-met.met (λ κs a r e x y z. plain-read _ _ _ _ _ _ (plain-list a.0.now a.1.0.now x y z) refl);
  plain-life = by_three rcst-plain-life.ended rcst-plain-life-code.code rcst-plain-life-code.name PlainLife _ _ _ rcst-plain-life-met.met
      (λ κs a r e x y z. plain-read _ _ _ _ _ _ (plain-list a.0.now a.1.0.now x y z) refl);
}
