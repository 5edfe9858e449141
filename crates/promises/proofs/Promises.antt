-- The promises, each under its name: what it says stands in specs/Demand1, Demand2, Levels, Room, Demand3, in a file for each request of
-- document 02 (OldReadings, Near, Bench, Differences, Lives, Releases, Returns, Apart, Converts, LiveCounts, NamedSettings), in States,
-- Replayed and Fakes.
-- Assumes nothing.
use Prim.Native.Nat.{ℕ}
use native.Mathlib.Omega.{arith}
use mathlib.Core.Bool.{Bool, true, false}
use mathlib.Core.Path.{◌≡◌, refl, ap, sym, ◌∙◌, subst}
use mathlib.Core.List.{List, []}
use Rattle.model.specs.Layout.{encode}
use Rattle.model.specs.Judged.{length_ok}
use Rattle.model.specs.Editions.{least_of}
use Rattle.model.specs.Climb.{done, refused as stopped}
use Rattle.model.specs.Return.{Came, gave, gave_up}
use Rattle.model.specs.Histories.{call_by, after}
use Rattle.model.specs.Lent.{Outcome, left_by, fresh_lent}
use Rattle.model.specs.Ended.{Asked, to_insert, to_delete, Ended, ended}
use Rattle.model.proofs.theorems.Editions.{ended_at_lem}
use Rattle.model.proofs.theorems.OldPrograms as old
use Rattle.model.proofs.theorems.Unique as one
use Rattle.model.proofs.needs.Lacking as lacks
use Rattle.promises.specs.Accepts.{Accepts, store_of}
use Rattle.promises.specs.Runs.{making, changing, reading, kind_of}
use Rattle.promises.specs.Way.{ruled_of}
use Rattle.promises.specs.Demand1.{Unique, Refused, Blank, Judges, Untrusted, OneForm, FreshMade}
use Rattle.promises.specs.Demand2.{EncodedSound, AcceptedSound, SoundStays, FreshSound, History, HistoryLent, Found, SettingsChange}
use Rattle.promises.specs.Demand2.{AnswersStay, ViewsStay, EditionStays, ByTheRules, ReadsOnly, Balanced, Lacking}
use Rattle.promises.specs.Apart.{EditionsApart}
use Rattle.promises.specs.Levels.{Levels}
use Rattle.promises.specs.Room.{NoRangeOutgrows}
use Rattle.promises.specs.Demand3.{Abandoned}
use Rattle.promises.specs.OldReadings.{PagesStay, VisitsTold, VisitsStay}
use Rattle.promises.specs.Near.{LookupJudges, RangeJudges, OffTheWalk, SoundSame}
use Rattle.promises.specs.States.{StateTold}
use Rattle.promises.specs.Differences.{DifferenceGiven, DifferenceSays, DifferenceNone, DifferenceExchanged, DifferenceStays}
use Rattle.promises.specs.Lives.{LifeGiven, LivesAgree, StretchesApart, OpenUnshown, LeftAlone}
use Rattle.promises.specs.Replayed.{TableLent}
use Rattle.promises.specs.Bench.{KeptOut}
use Rattle.promises.specs.Releases.{EmptyReleases}
use Rattle.promises.specs.Returns.{Returns}
use Rattle.promises.specs.Prunes.{Prunes}
use Rattle.promises.specs.Converts.{Converts}
use Rattle.promises.specs.LiveCounts.{LiveCounts}
use Rattle.promises.specs.NamedSettings.{NamedRefused, AdmittedOnly, NoNan, NeverSkipped, NeverSofter, RightTable}
use Rattle.promises.specs.Fakes.{FakesStopped}
use Rattle.promises.proofs.Known.{four}
use Rattle.promises.proofs.Early.{lifted}
use Rattle.promises.proofs.Encoded as encoded
use Rattle.promises.proofs.Judges as judging
use Rattle.promises.proofs.Lending.{kind-asks, Makes, by_kind, change-is, made-wrong, held-sound, call-accepts, fresh-leaves}
use Rattle.promises.proofs.Way as way
use Rattle.promises.proofs.Changed as changed
use Rattle.promises.proofs.Leveled as leveled
use Rattle.promises.proofs.Roomy as roomy
use Rattle.promises.proofs.Stays as stays
use Rattle.promises.proofs.Near as near
use Rattle.promises.proofs.OffWalk as off
use Rattle.promises.proofs.Sounding as sounding
use Rattle.promises.proofs.States as states
use Rattle.promises.proofs.Differences as differ
use Rattle.promises.proofs.Lives as lives
use Rattle.promises.proofs.Restored as restored
use Rattle.promises.proofs.KeptOut as bench
use Rattle.promises.proofs.Converting as converting
use Rattle.promises.proofs.LiveCounts as live
use Rattle.promises.proofs.NamedSettings as named
use Rattle.promises.proofs.Tables as tables
use Rattle.promises.proofs.Replaying as replaying
use Rattle.promises.proofs.Releasing as releasing
use Rattle.promises.proofs.Returning as returning
use Rattle.promises.proofs.Pruning as pruning
use Rattle.promises.proofs.Singly as singly
use Rattle.promises.proofs.Fakes as fakes

-- ---- demand 1

pub unique : Unique
unique = one.unique

pub refused : Refused
refused = one.refused

pub blank : Blank
blank = one.blank

pub judges : Judges
judges = judging.judges

pub untrusted : Untrusted
untrusted = judging.untrusted

pub one_form : OneForm
one_form = judging.one_form

pub fresh-made : FreshMade
fresh-made = judging.fresh-made

-- ---- demand 2

pub encoded-sound : EncodedSound
encoded-sound = encoded.encoded-sound

pub accepted : AcceptedSound
accepted = encoded.accepted

pub sound-stays : SoundStays
sound-stays b ok t f = call-accepts b ok t.call f t.list

pub fresh-sound : FreshSound
fresh-sound =
    by_kind (λ (c : Asked). kind_of c ≡ making → (b ns : List ℕ) → (ended c b ns).number ≡ 0 → Accepts (ended c b ns).store)
    (λ least c m k b ns given. made least c m b ns given)
    (λ d e. let f : changing d ≡ making = sym (kind-asks d) ∙ e in let z : ◌≡◌ {A = ℕ} 0 1 = cc in absurd (omega arith))
    (λ c k same e. let f : reading ≡ making = sym k ∙ e in let z : ◌≡◌ {A = ℕ} 0 1 = cc in absurd (omega arith))
  where
    made : (least : ℕ) (c : Asked) → Makes least c → (b ns : List ℕ) → (ended c b ns).number ≡ 0 → Accepts (ended c b ns).store
    made least c m b ns given = subst (λ (e : Ended). Accepts e.store) (sym (m.is b ns)) (at (length_ok least b) refl)
      where
        at : (x : Bool) → length_ok least b ≡ x → Accepts (fresh_lent least b).store
        at true e = (fresh-leaves least m.edition b e).accepts
        at false e =
            let n : (fresh_lent least b).number ≡ 1 = ap (λ (o : Outcome). o.number) (made-wrong least b e) in
            let z : (fresh_lent least b).number ≡ 0 = ap (λ (x : Ended). x.number) (sym (m.is b ns)) ∙ given in
            absurd (omega arith)

pub history : History
history = way.fresh-way

pub history-lent : HistoryLent
history-lent = way.lent_way

pub found : Found
found b ok = (history-lent b ok [] refl).answers

pub settings-change : SettingsChange
settings-change = changed.settings-change

pub kept_out : KeptOut
kept_out = bench.kept_out

pub answers_stay : AnswersStay
answers_stay = stays.answers_stay

pub views-stay : ViewsStay
views-stay = stays.views-stay

pub edition-stays : EditionStays
edition-stays = stays.edition-stays

pub by-the-rules : ByTheRules
by-the-rules b bytes ok c ns = ap (λ (e : Ended). e.store) (change-is b ok c ns) ∙ at (call_by (least_of b) (store_of b) c)
  where
    at : (r : Came) → (left_by (least_of b) b r).store ≡ encode (least_of b) (after (store_of b) r).store
    at (gave (done t)) = refl
    at (gave (stopped n)) = sym (encoded.accepted b bytes ok).same
    at (gave_up n t) = refl

pub reads_only : ReadsOnly
reads_only c b ns =
    by_kind (λ (a : Asked). kind_of a ≡ reading → (ended a b ns).store ≡ b)
    (λ least a m e. let f : making ≡ reading = sym m.kind ∙ e in let z : ◌≡◌ {A = ℕ} 0 1 = cc in absurd (omega arith))
    (λ d e. let f : changing d ≡ reading = sym (kind-asks d) ∙ e in let z : ◌≡◌ {A = ℕ} 0 1 = cc in absurd (omega arith))
    (λ a e same i. same b ns) c

pub balanced : Balanced
balanced b ok = way.balanced-in (ruled_of b) (four b) (held-sound b ok)

-- (specs/Levels, specs/Room)
pub levels : Levels
levels = leveled.levels

pub no-range-outgrows : NoRangeOutgrows
no-range-outgrows = roomy.no-range-outgrows

pub lacking : Lacking
lacking b ns =
    let l = lacks.lacking-lent (least_of b) b in
    record {
      insert-page = λ k x. lifted b (to_insert k x) refl ns 12 (omega arith) _ (l.insert-page k x);
      insert-slot = λ k x. lifted b (to_insert k x) refl ns 13 (omega arith) _ (l.insert-slot k x);
      delete-page = λ k. lifted b (to_delete k) refl ns 12 (omega arith) _ (l.delete-page k);
      delete-slot = λ k. lifted b (to_delete k) refl ns 13 (omega arith) _ (l.delete-slot k);
    }

pub table : TableLent
table = replaying.table-lent

-- ---- demand 3

pub abandoned : Abandoned
abandoned = restored.abandoned

-- ---- 2026-08, both editions (specs/Apart; that roots stay at level 5 or lower in edition 2 is `levels`, field `two`)

pub editions-apart : EditionsApart
editions-apart = record {
  old-programs = λ c m b ns n. old.old-programs b ns (record { number = n.early; is = n.edition }) c m;
  old-stores = λ c m b ns n. ended_at_lem 4 b (record { number = n.early; is = n.edition }) c ns m;
}

-- ---- request 2026-13

pub pages-stay : PagesStay
pages-stay = stays.pages-stay

pub visits-told : VisitsTold
visits-told = stays.visits-told

pub visits-stay : VisitsStay
visits-stay = stays.visits-stay

-- ---- 2026-04, lookups judge only what they read

pub lookup-judges : LookupJudges
lookup-judges = near.lookup-judges

pub range-judges : RangeJudges
range-judges = near.range-judges

pub off-the-walk : OffTheWalk
off-the-walk = off.off-the-walk

pub sound-same : SoundSame
sound-same = sounding.sound-same

-- ---- what a store tells of itself

pub state-told : StateTold
state-told = states.state-told found

-- ---- what differs between two versions

pub difference-given : DifferenceGiven
difference-given = differ.difference-given

pub difference-says : DifferenceSays
difference-says = differ.difference-says

pub difference-none : DifferenceNone
difference-none = differ.difference-none

pub difference-exchanged : DifferenceExchanged
difference-exchanged = differ.difference-exchanged

pub difference-stays : DifferenceStays
difference-stays = differ.difference-stays

-- ---- 2026-01, the life of a key

pub life-given : LifeGiven
life-given = lives.life-given

pub lives-agree : LivesAgree
lives-agree = lives.lives-agree

pub stretches-apart : StretchesApart
stretches-apart = lives.stretches-apart

pub open-unshown : OpenUnshown
open-unshown = lives.open-unshown

pub left_alone : LeftAlone
left_alone = lives.left_alone

-- ---- an empty release is no release

pub empty-releases : EmptyReleases
empty-releases = releasing.empty-releases

-- ---- 2026-07, return to an earlier version

pub returns : Returns
returns = record {
  gives = returning.gives;
  done = returning.when-done;
  singly = singly.singly;
  nothing = returning.when-nothing;
  stopped = returning.when-stopped;
  abandons = returning.is-abandon;
}

-- ---- 2026-12, drop what the law lets us drop

pub prunes : Prunes
prunes = pruning.prunes-keep lacking

-- ---- 2026-08, the converter

pub converts : Converts
converts = converting.converts

-- ---- 2026-09, the live count

pub live-counts : LiveCounts
live-counts = live.live-counts

-- ---- 2026-14, named settings

pub named-refused : NamedRefused
named-refused = named.named-refused

pub admitted-only : AdmittedOnly
admitted-only = named.admitted-only

pub no-nans : NoNan
no-nans = named.no-nans

pub never-skipped : NeverSkipped
never-skipped = named.never-skipped

pub never-softer : NeverSofter
never-softer = named.never-softer

pub right-table : RightTable
right-table = tables.right-table

-- ---- fakes

pub fakes-stopped : FakesStopped
fakes-stopped = fakes.fakes-stopped
