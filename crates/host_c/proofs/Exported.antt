-- Each function of the archive, by its own code: what a C or Rust program links. What is said of each is what offered/specs/Offered says of
-- host's function of that name, which it calls.
-- Assumes nothing.
use Rattle.host_c.specs.contracts.rcst_fresh as rcst-fresh
use Rattle.host_c.proofs.rcst_fresh.Symbol as rcst-fresh-code
use Rattle.host_c.specs.contracts.rcst_fresh_second as rcst-fresh-second
use Rattle.host_c.proofs.rcst_fresh_second.Symbol as rcst-fresh-second-code
use Rattle.host_c.specs.contracts.rcst_check as rcst-check
use Rattle.host_c.proofs.rcst_check.Symbol as rcst-check-code
use Rattle.host_c.specs.contracts.rcst_open as rcst-open
use Rattle.host_c.proofs.rcst_open.Symbol as rcst-open-code
use Rattle.host_c.specs.contracts.rcst_insert as rcst-insert
use Rattle.host_c.proofs.rcst_insert.Symbol as rcst-insert-code
use Rattle.host_c.specs.contracts.rcst_delete as rcst-delete
use Rattle.host_c.proofs.rcst_delete.Symbol as rcst-delete-code
use Rattle.host_c.specs.contracts.rcst_commit as rcst-commit
use Rattle.host_c.proofs.rcst_commit.Symbol as rcst-commit-code
use Rattle.host_c.specs.contracts.rcst_abandon as rcst-abandon
use Rattle.host_c.proofs.rcst_abandon.Symbol as rcst-abandon-code
use Rattle.host_c.specs.contracts.rcst_return as rcst-return
use Rattle.host_c.proofs.rcst_return.Symbol as rcst-return-code
use Rattle.host_c.specs.contracts.rcst_prune as rcst-prune
use Rattle.host_c.proofs.rcst_prune.Symbol as rcst-prune-code
use Rattle.host_c.specs.contracts.rcst_lookup as rcst-lookup
use Rattle.host_c.proofs.rcst_lookup.Symbol as rcst-lookup-code
use Rattle.host_c.specs.contracts.rcst_range as rcst-range
use Rattle.host_c.proofs.rcst_range.Symbol as rcst-range-code
use Rattle.host_c.specs.contracts.rcst_visits as rcst-visits
use Rattle.host_c.proofs.rcst_visits.Symbol as rcst-visits-code
use Rattle.host_c.specs.contracts.rcst_difference as rcst-difference
use Rattle.host_c.proofs.rcst_difference.Symbol as rcst-difference-code
use Rattle.host_c.specs.contracts.rcst_convert as rcst-convert
use Rattle.host_c.proofs.rcst_convert.Symbol as rcst-convert-code
use Rattle.host_c.specs.contracts.rcst_life as rcst-life
use Rattle.host_c.proofs.rcst_life.Symbol as rcst-life-code
use Rattle.host_c.specs.contracts.rcst_state as rcst-state
use Rattle.host_c.proofs.rcst_state.Symbol as rcst-state-code
use Rattle.host_c.specs.contracts.plainly.rcst_plain_open as rcst-plain-open
use Rattle.host_c.proofs.plainly.rcst_plain_open.Symbol as rcst-plain-open-code
use Rattle.host_c.specs.contracts.plainly.rcst_plain_insert as rcst-plain-insert
use Rattle.host_c.proofs.plainly.rcst_plain_insert.Symbol as rcst-plain-insert-code
use Rattle.host_c.specs.contracts.plainly.rcst_plain_delete as rcst-plain-delete
use Rattle.host_c.proofs.plainly.rcst_plain_delete.Symbol as rcst-plain-delete-code
use Rattle.host_c.specs.contracts.plainly.rcst_plain_commit as rcst-plain-commit
use Rattle.host_c.proofs.plainly.rcst_plain_commit.Symbol as rcst-plain-commit-code
use Rattle.host_c.specs.contracts.plainly.rcst_plain_abandon as rcst-plain-abandon
use Rattle.host_c.proofs.plainly.rcst_plain_abandon.Symbol as rcst-plain-abandon-code
use Rattle.host_c.specs.contracts.plainly.rcst_plain_return as rcst-plain-return
use Rattle.host_c.proofs.plainly.rcst_plain_return.Symbol as rcst-plain-return-code
use Rattle.host_c.specs.contracts.plainly.rcst_plain_prune as rcst-plain-prune
use Rattle.host_c.proofs.plainly.rcst_plain_prune.Symbol as rcst-plain-prune-code
use Rattle.host_c.specs.contracts.plainly.rcst_plain_lookup as rcst-plain-lookup
use Rattle.host_c.proofs.plainly.rcst_plain_lookup.Symbol as rcst-plain-lookup-code
use Rattle.host_c.specs.contracts.plainly.rcst_plain_range as rcst-plain-range
use Rattle.host_c.proofs.plainly.rcst_plain_range.Symbol as rcst-plain-range-code
use Rattle.host_c.specs.contracts.plainly.rcst_plain_difference as rcst-plain-difference
use Rattle.host_c.proofs.plainly.rcst_plain_difference.Symbol as rcst-plain-difference-code
use Rattle.host_c.specs.contracts.plainly.rcst_plain_life as rcst-plain-life
use Rattle.host_c.proofs.plainly.rcst_plain_life.Symbol as rcst-plain-life-code
use Rattle.offered.specs.Does.{Does}
use Rattle.offered.specs.Offered.{Fresh, FreshSecond, Check, Open, Insert, Delete, Commit, Abandon, Return, Prune, Lookup, Range, Visits, Difference, Life, State, Convert}
use Rattle.offered.specs.Offered.{PlainOpen, PlainInsert, PlainDelete, PlainCommit, PlainAbandon, PlainReturn, PlainPrune, PlainLookup, PlainRange, PlainDifference, PlainLife}

-- what all of them do
pub record AllExported (M : Type 1) : Type 2 where
  pub fresh : Does rcst-fresh.ended rcst-fresh-code.code rcst-fresh-code.name Fresh M
  pub fresh-second : Does rcst-fresh-second.ended rcst-fresh-second-code.code rcst-fresh-second-code.name FreshSecond M
  pub check : Does rcst-check.ended rcst-check-code.code rcst-check-code.name Check M
  pub opens : Does rcst-open.ended rcst-open-code.code rcst-open-code.name Open M
  pub insert : Does rcst-insert.ended rcst-insert-code.code rcst-insert-code.name Insert M
  pub delete : Does rcst-delete.ended rcst-delete-code.code rcst-delete-code.name Delete M
  pub commit : Does rcst-commit.ended rcst-commit-code.code rcst-commit-code.name Commit M
  pub abandon : Does rcst-abandon.ended rcst-abandon-code.code rcst-abandon-code.name Abandon M
  pub return : Does rcst-return.ended rcst-return-code.code rcst-return-code.name Return M
  pub prune : Does rcst-prune.ended rcst-prune-code.code rcst-prune-code.name Prune M
  pub lookup : Does rcst-lookup.ended rcst-lookup-code.code rcst-lookup-code.name Lookup M
  pub range : Does rcst-range.ended rcst-range-code.code rcst-range-code.name Range M
  pub visits : Does rcst-visits.ended rcst-visits-code.code rcst-visits-code.name Visits M
  pub difference : Does rcst-difference.ended rcst-difference-code.code rcst-difference-code.name Difference M
  pub life : Does rcst-life.ended rcst-life-code.code rcst-life-code.name Life M
  pub state : Does rcst-state.ended rcst-state-code.code rcst-state-code.name State M
  pub convert : Does rcst-convert.ended rcst-convert-code.code rcst-convert-code.name Convert M
  pub plain-open : Does rcst-plain-open.ended rcst-plain-open-code.code rcst-plain-open-code.name PlainOpen M
  pub plain-insert : Does rcst-plain-insert.ended rcst-plain-insert-code.code rcst-plain-insert-code.name PlainInsert M
  pub plain-delete : Does rcst-plain-delete.ended rcst-plain-delete-code.code rcst-plain-delete-code.name PlainDelete M
  pub plain-commit : Does rcst-plain-commit.ended rcst-plain-commit-code.code rcst-plain-commit-code.name PlainCommit M
  pub plain-abandon : Does rcst-plain-abandon.ended rcst-plain-abandon-code.code rcst-plain-abandon-code.name PlainAbandon M
  pub plain-return : Does rcst-plain-return.ended rcst-plain-return-code.code rcst-plain-return-code.name PlainReturn M
  pub plain-prune : Does rcst-plain-prune.ended rcst-plain-prune-code.code rcst-plain-prune-code.name PlainPrune M
  pub plain-lookup : Does rcst-plain-lookup.ended rcst-plain-lookup-code.code rcst-plain-lookup-code.name PlainLookup M
  pub plain-range : Does rcst-plain-range.ended rcst-plain-range-code.code rcst-plain-range-code.name PlainRange M
  pub plain-difference : Does rcst-plain-difference.ended rcst-plain-difference-code.code rcst-plain-difference-code.name PlainDifference M
  pub plain-life : Does rcst-plain-life.ended rcst-plain-life-code.code rcst-plain-life-code.name PlainLife M
