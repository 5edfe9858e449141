-- The premises of the promises can be met: by the model's two samples, by fresh stores of both editions, and by bytes that are no store.
-- Assumes nothing.
use Prim.Native.Nat.{ℕ, suc, ◌≤◌}
use native.Mathlib.Omega.{arith}
use mathlib.Core.Bool.{true, ◌&&◌}
use mathlib.Core.Path.{◌≡◌, refl, ap, ap₂, sym, ◌∙◌}
use mathlib.Core.Logic.{inl, inr}
use mathlib.Core.List.{List, [], ◌∷◌}
use lib.Dec.{lit≤}
use Rattle.model.specs.Field.{Bytes}
use Rattle.model.specs.Store.{Store, next, last, last_of, fresh}
use Rattle.model.specs.Walk.{settings}
use Rattle.model.specs.Sound.{sound}
use Rattle.model.specs.Layout.{encode}
use Rattle.model.specs.Editions
use Rattle.model.specs.Any
use Rattle.model.specs.Calls.{first_of}
use Rattle.model.specs.Histories.{begins, commits, returns}
use Rattle.model.specs.Settings.{start, step}
use Rattle.model.specs.Ended.{to_check, to_open, to_commit, to_insert, to_delete, to_lookup, to_range, to_life, to_visits, to_return, Asked, Ended}
use Rattle.model.specs.Ended.{ended}
use Rattle.model.specs.Samples.{two_levels, from_elsewhere}
use Rattle.model.specs.Proved.{two-levels-sound, from-elsewhere-sound}
use Rattle.model.proofs.lists.Members.{true-holds}
use Rattle.model.proofs.sound.ByRule.{to-tests}
use Rattle.model.proofs.turning.Turns.{fresh-sound}
use Rattle.model.proofs.theorems.Editions.{edition-four}
use Rattle.promises.specs.Accepts.{Accepts, store_of, OfEdition, Written}
use Rattle.promises.specs.Runs.{Turn, turned, changing, not_making, fitting, staying, inside, each}
use Rattle.promises.specs.Beside.{when_done, onward, from_fresh}
use Rattle.promises.specs.Answers.{commit_tests, unchanged_in}
use Rattle.promises.specs.Demand3.{opening}
use Rattle.promises.specs.Apart.{Names}
use Rattle.promises.specs.Fakes.{Honest}
use Rattle.promises.proofs.Known.{known}
use Rattle.promises.proofs.Agreed.{Agreed, many-turns, fresh-agreed}
use Rattle.promises.proofs.Answering.{answers}
use Rattle.promises.proofs.Lending.{call-bytes}
use Rattle.promises.proofs.Returning.{when-nothing}
use Rattle.promises.proofs.Promises.{encoded-sound}

abbrev turn : Asked → Turn
turn c = record { call = c; list = [] }

-- calls of every kind that may stand inside an update, a return that is done, and a commit and another open, which are refused
abbrev pub calls : List Turn
calls =
    turn (to_return 0) ∷ turn to_commit ∷ turn to_check ∷ turn (to_insert 5 50) ∷ turn (to_insert 5 51) ∷ turn (to_delete 2) ∷ turn to_open ∷ turn
    (to_lookup 5 2)
    ∷ record { call = to_range 0 100 2; list = 0 ∷ 0 ∷ [] } ∷ record { call = to_visits 5 1; list = 0 ∷ 0 ∷ [] }
    ∷ turn (to_life 5) ∷ []

-- what the promises ask of bytes and of calls
pub record Met : Type 0 where
  -- bytes that are accepted, with an update open; lent from elsewhere; of edition 2
  pub open-update : Written 4 two_levels
  pub from-elsewhere : Written 4 from_elsewhere
  pub edition-two : Written 8 (fresh 6)
  -- bytes that name each edition
  pub first : Names 4 (encode 4 (fresh 6))
  pub second : Names 8 (encode 8 (fresh 6))
  -- a version that they have committed
  pub committed : 1 ≤ (store_of (encode 4 two_levels)).current
  -- bytes that are not accepted
  pub no_store : Accepts [] → ⊥
  -- calls
  pub fit : each fitting calls ≡ true
  pub stay : inside (encode 4 (fresh 6)) (opening ∷ calls) ≡ true
  pub not-fresh : each not_making calls ≡ true
  -- bytes on which an open is done, of each edition
  pub opens : Bytes (encode 4 (fresh 6)) × ((turned (encode 4 (fresh 6)) opening).number ≡ 0)
  pub opens-second : Bytes (encode 8 (fresh 6)) × ((turned (encode 8 (fresh 6)) opening).number ≡ 0)
  -- an implementation that meets every contract
  pub honest : Honest ended

fresh-written : (least : ℕ) → OfEdition least → Written least (fresh 6)
fresh-written least e =
    let low : 4 ≤ least = edition-four least e in
    encoded-sound least e (fresh 6)
    (true-holds (sound least (fresh 6)) (to-tests least (fresh 6) (fresh-sound least (omega arith) 6 (lit≤ tt) (lit≤ tt))))

named : (least : ℕ) → OfEdition least → Names least (encode least (fresh 6))
named least e =
    let w : Written least (fresh 6) = fresh-written least e in
    record { early = known (encode least (fresh 6)) w.accepted; edition = w.edition }

none : Accepts [] → ⊥
unfolding Any.judged_any Editions.by_edition
none e = omega arith

-- on the bytes that the open leaves, a commit is refused by 15
opened : (turned (encode 4 (fresh 6)) opening).number ≡ 0
opened = (answers (from_fresh 4 6) (fresh-agreed 4 (inl refl) 6 (lit≤ tt) (lit≤ tt))).opens []

agreed : Agreed (onward (from_fresh 4 6) opening)
agreed = many-turns (opening ∷ []) refl (from_fresh 4 6) (fresh-agreed 4 (inl refl) 6 (lit≤ tt) (lit≤ tt))

empty : (ended to_commit (turned (encode 4 (fresh 6)) opening).store []).number ≡ 15
empty =
    (answers (onward (from_fresh 4 6) opening) agreed).commits []
    ∙ ap (λ (n : ℕ). first_of
    (commit_tests (when_done n (step start begins) start).opened (unchanged_in (when_done n (step start begins) start)))) opened

-- and a return to version 0 is done, with nothing to do
abbrev begun : List ℕ
begun = (turned (encode 4 (fresh 6)) opening).store

returned : ended (to_return 0) begun [] ≡ record { number = 0; results = []; store = begun; list = [] }
returned =
    let w : Written 4 (fresh 6) = fresh-written 4 (inl refl) in
    let s : Store = store_of begun in
    let open-then : s.opened ≡ true = agreed.agrees.opened ∙ ap (λ (n : ℕ). (when_done n (step start begins) start).opened) opened in
    let first : s.current ≡ 0 = agreed.agrees.current ∙ ap (λ (n : ℕ). (when_done n (step start begins) start).current) opened in
    let readable : last s ≡ 1 = ap₂ last_of open-then first in
    let kept : s.oldest ≡ 0 = agreed.agrees.oldest ∙ ap (λ (n : ℕ). (when_done n (step start begins) start).oldest) opened in
    let new : settings s (next s) ≡ [] = agreed.agrees.shows (next s) (omega (arith, kept))
    ∙ ap₂ (λ (n c : ℕ). (when_done n (step start begins) start).shows (suc c)) opened first in
    let old : settings s 0 ≡ [] = agreed.agrees.shows 0 (omega (arith, kept))
    ∙ ap (λ (n : ℕ). (when_done n (step start begins) start).shows 0) opened in
    when-nothing begun (call-bytes (encode 4 (fresh 6)) w.accepted w.bytes to_open refl []) agreed.accepted open-then 0
    (omega (arith, kept)) (omega arith) (new ∙ sym old) []

pub met : Met
met =
    let two : Written 4 two_levels = encoded-sound 4 (inl refl) two_levels two-levels-sound in
    record {
      open-update = two;
      from-elsewhere = encoded-sound 4 (inl refl) from_elsewhere from-elsewhere-sound;
      edition-two = fresh-written 8 (inr refl);
      first = named 4 (inl refl);
      second = named 8 (inr refl);
      committed = omega (arith, ap (λ (s : Store). s.current) two.held);
      no_store = none;
      fit = refl;
      stay =
          ap₂ (λ (m n : ℕ). staying (changing (returns 0)) m && (staying (changing commits) n && true))
          (ap (λ (e : Ended). e.number) returned)
          (ap (λ (e : Ended). (ended to_commit e.store []).number) returned ∙ empty);
      not-fresh = refl;
      opens = ((fresh-written 4 (inl refl)).bytes, opened);
      opens-second =
          ((fresh-written 8 (inr refl)).bytes, (answers (from_fresh 8 6) (fresh-agreed 8 (inr refl) 6 (lit≤ tt) (lit≤ tt))).opens []);
      honest = λ c b ns. refl;
    }
