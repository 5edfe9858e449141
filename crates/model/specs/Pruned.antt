-- Prunes in edition 2. One replayed: pages 5 and 7 ended by version 2, are freed and used again in version 3, while page 8 keeps the router
-- to page 7 whose span ended at 2. A key's value is the key and 100.
-- Assumes nothing.
use Rattle.std.specs.Prelude.{Bool, true, ◌&&◌, List, [], ◌∷◌, ◌++◌, map, replicate}
use Rattle.model.specs.Basic.{count}
use Rattle.model.specs.Looked.{Value, Absent, Refused}
use Rattle.model.specs.declared.Entry.{Entry}
use Rattle.model.specs.Entry.{alive}
use Rattle.model.specs.Page.{free}
use Rattle.model.specs.Figures.{to, each, leaf, index, slot}
use Rattle.model.specs.Store.{Store, fresh}
use Rattle.model.specs.Sound.{sound}
use Rattle.model.specs.Histories.{Call, begins, commits, abandons, prunes, After, run_on}
use Rattle.model.specs.Table.{insert_key}
use Rattle.model.specs.Replay.{all_of, gives, slots, leads, span, freed, live, looks}

-- 41 keys make two pages and a root; 21 more make page 7 into pages 9 and 10, in version 2
abbrev pub to_two : List Call
to_two = begins ∷ (map insert_key (count 1 41) ++ (commits ∷ begins ∷ map insert_key (count 42 21)) ++ (commits ∷ []))

abbrev pub to_pruned : List Call
to_pruned = to_two ++ (prunes 2 ∷ [])

-- 21 more make page 10 into two, in version 3: the lowest free pages are 5 and 7
abbrev pub to_reused : List Call
to_reused = to_pruned ++ (begins ∷ map insert_key (count 63 21))

abbrev pub at : List Call → After
at cs = run_on 8 (fresh 12) cs

abbrev pub leaves_sound : List Call → Bool
leaves_sound cs = sound 8 (at cs).store

abbrev pub pruned_facts : Bool
pruned_facts =
    all_of (gives 0 ∷ slots (0 ∷ 5 ∷ 1 ∷ 8 ∷ []) ∷ span 5 0 1 ∷ span 7 1 2 ∷ looks 30 1 (Value 130) ∷ []) (at to_two)
    && all_of (gives 0 ∷ slots (1 ∷ 8 ∷ []) ∷ freed 5 ∷ freed 7 ∷ looks 30 1 (Refused 6) ∷ looks 30 2 (Value 130) ∷ looks 30 3
    (Refused 6) ∷ []) (at to_pruned)
    && all_of (gives 0 ∷ leads 8 (6 ∷ 7 ∷ 9 ∷ 10 ∷ 5 ∷ 7 ∷ []) ∷ span 7 3 alive ∷ span 5 3 alive ∷ live 83 ∷ looks 30 2
    (Value 130) ∷ looks 83 3 (Value 183) ∷ looks 83 2 Absent ∷ []) (at to_reused)
    && all_of (gives 8 ∷ []) (at (to_reused ++ (prunes 2 ∷ [])))
    && all_of (gives 6 ∷ []) (at (to_reused ++ (prunes 1 ∷ [])))
    && all_of (gives 0 ∷ slots (1 ∷ 8 ∷ []) ∷ freed 5 ∷ freed 7 ∷ live 62 ∷ []) (at (to_reused ++ (abandons ∷ [])))

-- ---- expired routers, written out: the oldest version is 2, version 3 is open

-- Page 5 was the root up to version 2, page 8 is now; the entries given stand in them too.
abbrev expired : List Entry → List Entry → Store
expired old new = record {
  current = 2;
  opened = true;
  oldest = 2;
  slots = slot 1 5 ∷ slot 3 8 ∷ [];
  pages = replicate 5 free
      ++ (index 1 3 (to 0 1 3 6 ∷ old ++ (to 50 1 3 7 ∷ []))
      ∷ leaf 1 alive (each 1 alive (count 1 8))
      ∷ leaf 1 alive (each 1 alive (count 50 8))
      ∷ index 3 alive (to 0 3 alive 6 ∷ new ++ (to 50 3 alive 7 ∷ []))
      ∷ []);
}

-- rule 3 skips one whose span lies outside its page's, and whose page is a leaf's parent
abbrev pub outside : Store
outside = expired (to 20 0 1 8 ∷ []) []

-- in a page that starts at the open version rule 7 finds it
abbrev pub young : Store
young = expired [] (to 20 1 2 5 ∷ [])

-- one that ended behind the oldest version is not skipped
abbrev pub kept : Store
kept = expired (to 20 0 3 8 ∷ []) []
