-- "Histories to replay": a history is calls on a store, and facts that hold after the last of them.
-- Assumes nothing.
use Rattle.std.specs.Prelude.{ℕ, Bool, true, ◌&&◌, List, [], ◌∷◌, ◌++◌, map, eqb, length}
use Rattle.model.specs.Basic.{eq_list, flat_map}
use Rattle.model.specs.declared.Entry.{Entry}
use Rattle.model.specs.declared.Slot.{Slot}
use Rattle.model.specs.Looked.{Looked}
use Rattle.model.specs.Page.{Page, is_free}
use Rattle.model.specs.Store.{Store, last, page}
use Rattle.model.specs.Walk.{root_at, settings}
use Rattle.model.specs.Calls.{get, looked_number, looked_found, looked_value, Ranged, range}
use Rattle.model.specs.Histories.{Call, After, after, call_by, run_on}
use Rattle.model.specs.Layout.{bit, encode, decode}
use Rattle.model.specs.Sound.{sound}

pub record History : Type 0 where
  pub store : Store
  pub calls : List Call
  pub facts : List (After → Bool)

abbrev pub all_of : List (After → Bool) → After → Bool
all_of [] a = true
all_of (f ∷ fs) a = f a && all_of fs a

-- in edition 1
abbrev pub holds : History → Bool
holds h = all_of h.facts (run_on 4 h.store h.calls)

-- ---- the last call and the directory

-- the number that the last call gave
abbrev pub gives : ℕ → After → Bool
gives n a = eqb a.number n

abbrev pub slot_numbers : Slot → List ℕ
slot_numbers x = x.version ∷ x.root ∷ []

-- the directory's slots, version and root by turns
abbrev pub slots : List ℕ → After → Bool
slots ns a = eq_list (flat_map slot_numbers a.store.slots) ns

abbrev pub slot_count : ℕ → After → Bool
slot_count n a = eqb (length a.store.slots) n

-- the root of the last version
abbrev pub root : ℕ → After → Bool
root n a = eqb (root_at a.store.slots (last a.store)) n

-- ---- a page

abbrev pub page_in : After → ℕ → Page
page_in a n = page a.store.pages n

-- the keys of a page's entries, dead ones too
abbrev pub keys : ℕ → List ℕ → After → Bool
keys n ks a = eq_list (map (λ (e : Entry). e.key) (page_in a n).entries) ks

-- the pages that an index page's routers lead to, dead ones too
abbrev pub leads : ℕ → List ℕ → After → Bool
leads n ms a = eq_list (map (λ (e : Entry). e.value) (page_in a n).entries) ms

-- how many entries a page has, dead ones too
abbrev pub holding : ℕ → ℕ → After → Bool
holding n m a = eqb (length (page_in a n).entries) m

-- a page's start and end
abbrev pub span : (n x y : ℕ) (a : After) → Bool
span n x y a = eqb (page_in a n).start x && eqb (page_in a n).end y

abbrev pub freed : ℕ → After → Bool
freed n a = is_free (page_in a n)

-- ---- the settings

-- how many settings the last version has
abbrev pub live : ℕ → After → Bool
live n a = eqb (length (settings a.store (last a.store))) n

-- what a lookup of a key at a version answers
abbrev pub looked_numbers : Looked → List ℕ
looked_numbers x = looked_number x ∷ bit (looked_found x) ∷ looked_value x ∷ []

abbrev pub looks : ℕ → ℕ → Looked → After → Bool
looks k v x a = eq_list (looked_numbers (get a.store k v)) (looked_numbers x)

-- what a range from lo to hi at a version gives, with a list that holds so many numbers
abbrev pub ranged_numbers : Ranged → List ℕ
ranged_numbers r = r.number ∷ r.count ∷ r.written

abbrev pub ranges : (lo hi v room : ℕ) (r : Ranged) (a : After) → Bool
ranges lo hi v room r a = eq_list (ranged_numbers (range a.store lo hi v room)) (ranged_numbers r)

-- ---- bytes

-- the store's bytes are those of another
abbrev pub bytes_of : Store → After → Bool
bytes_of s a = eq_list (encode 4 a.store) (encode 4 s)

-- ---- of a whole history

abbrev pub sound_from : Store → List Call → Bool
sound_from s [] = sound 4 s
sound_from s (c ∷ cs) = sound 4 s && sound_from (after s (call_by 4 s c)).store cs

-- every store on the way is sound
abbrev pub sound_way : History → Bool
sound_way h = sound_from h.store h.calls

-- a store as a list of numbers, no two stores alike
abbrev pub entry_numbers : Entry → List ℕ
entry_numbers e = e.key ∷ e.start ∷ e.end ∷ e.value ∷ []

abbrev pub page_numbers : Page → List ℕ
page_numbers p = p.level ∷ p.start ∷ p.end ∷ length p.entries ∷ flat_map entry_numbers p.entries

abbrev pub store_numbers : Store → List ℕ
store_numbers s =
    s.current ∷ bit s.opened ∷ s.oldest ∷ length s.slots ∷ flat_map slot_numbers s.slots ++ flat_map page_numbers s.pages

-- the bytes of the last store hold it
abbrev pub holds_itself : Store → Bool
holds_itself s = eq_list (store_numbers (decode 4 (encode 4 s))) (store_numbers s)

abbrev pub read_back : History → Bool
read_back h = holds_itself (run_on 4 h.store h.calls).store
