-- What the checker finds by computing, each claim one line.
-- Assumes nothing.
use Rattle.std.specs.Prelude.{T, ◌≡◌, refl, [], ◌∷◌, map, ◌++◌, take}
use Rattle.model.specs.Basic.{all}
use Rattle.model.specs.Store.{fresh}
use Rattle.model.specs.Rules
use Rattle.model.specs.Climb
use Rattle.model.specs.Calls
use Rattle.model.specs.Told
use Rattle.model.specs.Visited
use Rattle.model.specs.Life
use Rattle.model.specs.State
use Rattle.model.specs.Sound
use Rattle.model.specs.Sound.{sound, broken}
use Rattle.model.specs.Field
use Rattle.model.specs.Layout
use Rattle.model.specs.Layout.{encode, decode, encode_page, entry_bytes}
use Rattle.model.specs.Replay.{History, holds, sound_way, read_back}
use Rattle.model.specs.Table.{table}
use Rattle.model.specs.AlsoRun.{also_run}
use Rattle.model.specs.Readings.{readings, orders}
use Rattle.model.specs.Bench.{bench_run}
use Rattle.model.specs.Releases.{releases}
use Rattle.model.specs.Return
use Rattle.model.specs.GoingBack.{going_back}
use Rattle.model.specs.Vectors.{fresh_bytes, fresh_second_bytes, entry_forty, forty_bytes, forty_page, forty_head, forty_second_head}
use Rattle.model.specs.Figures.{Figure, made, figures}
use Rattle.model.specs.Pruned.{to_pruned, to_reused, leaves_sound, pruned_facts, outside, young, kept}
use Rattle.model.specs.Samples.{two_levels, from_elsewhere, served, visited, visited_pages, states, states_told}
use Rattle.model.specs.Differ
use Rattle.model.specs.Signed.{asked, answered, signed, by_hand}
use Rattle.model.specs.Lifetimes.{lifetimes}

-- ---- what is computed with

updating : Unit {0}
unfolding Rules.with_neighbour Rules.gather_by Rules.parts_by Rules.parts Rules.usable Rules.rebuild_with Rules.rebuild Rules.exchange
    Rules.hand_up Rules.regroup Rules.work_by Rules.work Climb.topped Climb.new_root Climb.root_stay Climb.root_go Climb.work_root Climb.climb
    Climb.put_slot Climb.slotted Climb.rooted Climb.update
updating = tt

calling : Unit {0}
unfolding updating Calls.insert Calls.delete Calls.begin Calls.commit Calls.abandon Calls.abandoned Calls.prune Calls.pruned Calls.get
    Calls.range Calls.ranged_by Calls.ranged_in
calling = tt

judging : Unit {0}
unfolding Sound.sound Sound.rule1 Sound.rule2 Sound.rule3 Sound.rule4 Sound.rule5 Sound.rule6 Sound.rule7
judging = tt

writing : Unit {0}
unfolding Layout.encode Layout.header_bytes Layout.slots_bytes Layout.slot_bytes Layout.pages_bytes Layout.encode_page Layout.head_bytes
    Layout.live_in Layout.entries_bytes Layout.entry_bytes Layout.padded Field.packed Field.lay Field.zeros Field.put_field Field.set_bit
    Field.put_bit
writing = tt

reading : Unit {0}
unfolding Layout.decode Layout.read_header Layout.read_slots Layout.read_slot Layout.read_pages Layout.page_of Layout.decode_page
    Layout.read_entries Layout.read_entry Layout.count_of Field.field Field.bit_at
reading = tt

-- ---- "Histories to replay (P: to be proved)"

-- P1 to P12
pub P1-to-P12 : T (all holds table)
unfolding calling writing
P1-to-P12 = tt

-- every store on the way of each is sound
pub table-sound : T (all sound_way table)
unfolding calling judging
table-sound = tt

-- the bytes of each last store hold that store
pub table-read-back : T (all read_back table)
unfolding calling writing reading
table-read-back = tt

-- "Also run"; the stores that these begin with are sound
pub also-run : T (all holds also_run)
unfolding calling writing
also-run = tt

pub also-sound : T (all (λ (h : History). sound 4 h.store) also_run)
unfolding judging
also-sound = tt

-- what P1 to P12 leave open, and the order of numbers; every store on the way of a reading is sound
pub readings-run : T (all holds (readings ++ orders))
unfolding calling writing
readings-run = tt

pub readings-sound : T (all sound_way readings)
unfolding calling judging
readings-sound = tt

-- 2026-06: where the bench keys begin, and a store shipped with them, sound on every way
pub bench-run : T (all holds bench_run)
unfolding calling writing
bench-run = tt

pub bench-sound : T (all sound_way bench_run)
unfolding calling judging
bench-sound = tt

-- 2026-01: lives written out; the stores that these begin with are sound
pub lifetimes-run : T (all holds lifetimes)
unfolding calling Told.told_in Told.told_by Life.life_of Life.lived
lifetimes-run = tt

pub lifetimes-sound : T (all (λ (h : History). sound 4 h.store) lifetimes)
unfolding judging
lifetimes-sound = tt

-- 2026-05; every store on the way of each is sound
pub releases-hold : T (all holds releases)
unfolding calling writing
releases-hold = tt

pub releases-sound : T (all sound_way releases)
unfolding calling judging
releases-sound = tt

-- 2026-07; every store on the way of each is sound
returning : Unit {0}
unfolding calling Return.set_one Return.through Return.carried Return.returned
returning = tt

pub back-run : T (all holds going_back)
unfolding returning writing
back-run = tt

pub back-sound : T (all sound_way going_back)
unfolding returning judging
back-sound = tt

-- ---- outside vectors

-- document 01's bytes
pub fresh-bytes : encode 4 (fresh 6) ≡ fresh_bytes
unfolding writing
fresh-bytes = refl

pub fresh-second-bytes : encode 8 (fresh 6) ≡ fresh_second_bytes
unfolding writing
fresh-second-bytes = refl

pub forty-bytes : entry_bytes entry_forty ≡ forty_bytes
unfolding writing
forty-bytes = refl

-- 2026-09
pub live-count-none : take 8 (encode_page 4 forty_page) ≡ forty_head
unfolding writing
live-count-none = refl

pub live-count-bytes : take 8 (encode_page 8 forty_page) ≡ forty_second_head
unfolding writing
live-count-bytes = refl

-- document 004's figures
pub figures-drawn : map made figures ≡ map (λ (f : Figure). f.shows) figures
unfolding calling
figures-drawn = refl

-- ---- a prune, and its pages used again

pub pruned-facts : T pruned_facts
unfolding calling
pruned-facts = tt

pub pruned-sound : T (all leaves_sound (to_pruned ∷ to_reused ∷ []))
unfolding calling judging
pruned-sound = tt

-- an expired router outside its page's span, in a page of the open version, and one that is not expired
pub expired-judged : map (broken 8) (outside ∷ young ∷ kept ∷ []) ≡ 0 ∷ 7 ∷ 3 ∷ []
unfolding judging Sound.broken
expired-judged = refl

-- ---- the samples

pub two-levels-sound : T (sound 4 two_levels)
unfolding judging
two-levels-sound = tt

pub from-elsewhere-sound : T (sound 4 from_elsewhere)
unfolding judging
from-elsewhere-sound = tt

pub samples-served : T (all holds served)
unfolding calling
samples-served = tt

-- ---- lists that would be signed

pub differences-answered : asked ≡ answered
unfolding Differ.difference Told.told_by Told.told_in
differences-answered = refl

pub signed-by-hand : signed ≡ by_hand
signed-by-hand = refl

pub samples-visited : visited ≡ visited_pages
unfolding Visited.visits Told.told_by Told.told_in
samples-visited = refl

-- what they tell of themselves
pub samples-told : states ≡ states_told
unfolding State.state_of
samples-told = refl
