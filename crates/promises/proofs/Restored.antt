-- An update that is abandoned leaves every byte as it was.
-- Assumes nothing.
use Prim.Native.Nat.{ℕ, zero, suc, ◌<◌}
use native.Mathlib.Omega.{arith}
use mathlib.Core.Bool.{Bool, true, false}
use mathlib.Core.Path.{◌≡◌, refl, ap, sym, ◌∙◌}
use mathlib.Core.List.{List, [], ◌∷◌, ◌++◌}
use lib.Dec.{leb}
use borrow.Author.Tests.{leb-false}
use Rattle.model.specs.Field.{Bytes}
use Rattle.model.specs.Editions.{least_of}
use Rattle.model.specs.Calls.{rule, first_of}
use Rattle.model.specs.Basic.{pick}
use Rattle.model.specs.Histories.{Call, begins, commits, abandons, inserts, deletes, returns, prunes}
use Rattle.model.specs.Settings.{Machine, step, is_inside, lent, together}
use Rattle.model.specs.Ended.{to_open, to_abandon, ended}
use Rattle.model.proofs.lists.Lists.{both_true, both-intro, all_cons}
use Rattle.model.proofs.lists.Members.{true-holds, not-both}
use Rattle.model.proofs.theorems.Undone.{abandoned-update}
use Rattle.promises.specs.Accepts.{Accepts, store_of}
use Rattle.promises.specs.Runs.{Turn, turned, run_bytes, Kind, making, changing, reading, kind_of, not_making, fitting, staying, inside}
use Rattle.promises.specs.Runs.{each}
use Rattle.promises.specs.Demand3.{opening, abandoning, Restored, Abandoned}
use Rattle.promises.specs.Beside.{Beside, when_done, stepped, undone, onward, along, from_lent}
use Rattle.promises.specs.Answers.{end_tests}
use Rattle.promises.proofs.High.{begin-number}
use Rattle.promises.proofs.Known.{four}
use Rattle.promises.proofs.Judges.{zero-accepts, one_form}
use Rattle.promises.proofs.Lending.{Leaves, held-sound, change-number}
use Rattle.promises.proofs.Projected.{calls_of, calls-fit, staying-not, staying-up, staying-done, calls-inside, calls-append, ran}
use Rattle.promises.proofs.Agreed.{many-turns, lent-agreed}
use Rattle.promises.proofs.Answering.{answers}

-- ---- lists of calls

each_append : (f : Kind → Bool) (ts us : List Turn) → each f ts ≡ true → each f us ≡ true → each f (ts ++ us) ≡ true
each_append f [] us h g = g
each_append f (t ∷ ts) us h g =
    let (x, y) = all_cons (λ (u : Turn). f (kind_of u.call)) t ts h in both-intro _ _ x (each_append f ts us y g)

all-not : (ts : List Turn) (b : List ℕ) → inside b ts ≡ true → each not_making ts ≡ true
all-not [] b h = refl
all-not (t ∷ ts) b h =
    let (x, y) = both_true (staying (kind_of t.call) (turned b t).number) (inside (turned b t).store ts) h in
    both-intro _ _ (staying-not (kind_of t.call) (turned b t).number x) (all-not ts (turned b t).store y)

-- ---- the update stays open

inside-open : (c : Call) (m : Machine) → is_inside c ≡ true → m.opened ≡ true → (step m c).opened ≡ true
inside-open begins m h o = refl
inside-open commits m h o = absurd (not-both false h refl)
inside-open abandons m h o = absurd (not-both false h refl)
inside-open (inserts k x) m h o = o
inside-open (deletes k) m h o = o
inside-open (returns v) m h o = o
inside-open (prunes v) m h o = o

step-open : (k : Kind) (m : Machine) → staying k 0 ≡ true → m.opened ≡ true → (stepped k m).opened ≡ true
step-open making m h o = absurd (not-both false h refl)
step-open (changing c) m h o = inside-open c m (staying-done c h) o
step-open reading m h o = o

undone-open : (k : Kind) (n : ℕ) (m : Machine) → staying k n ≡ true → m.opened ≡ true → (undone k n m).opened ≡ true
undone-open making n m h o = o
undone-open (changing c) n m h o = ap (λ (b : Bool). (pick b (step m abandons) m).opened) (staying-up c n h) ∙ o
undone-open reading n m h o = o

when-open : (n : ℕ) (k : Kind) (m : Machine) → staying k n ≡ true → m.opened ≡ true
    → (when_done n (stepped k m) (undone k n m)).opened ≡ true
when-open zero k m h o = step-open k m h o
when-open (suc n) k m h o = undone-open k (suc n) m h o

still_open : (ts : List Turn) (x : Beside) → inside x.bytes ts ≡ true → x.machine.opened ≡ true → (along x ts).machine.opened ≡ true
still_open [] x h o = o
still_open (t ∷ ts) x h o =
    let (f, g) = both_true (staying (kind_of t.call) (turned x.bytes t).number) (inside (turned x.bytes t).store ts) h in
    still_open ts (onward x t) g (when-open (turned x.bytes t).number (kind_of t.call) x.machine f o)

pub along-bytes : (ts : List Turn) (x : Beside) → (along x ts).bytes ≡ run_bytes x.bytes ts
along-bytes [] x = refl
along-bytes (t ∷ ts) x = along-bytes ts (onward x t)

-- ---- the update

module _ (b : List ℕ) (bytes : Bytes b) (done : (turned b opening).number ≡ 0) (ts : List Turn) (f : each fitting ts ≡ true)
    (i : inside b (opening ∷ ts) ≡ true) where
  ok : Accepts b
  ok = zero-accepts to_open b [] refl done

  -- none of 8 and 9 is due
  free : ((store_of b).opened ≡ false) × ((store_of b).current < 1048574)
  free =
      at (store_of b).opened refl (leb 1048574 (store_of b).current) refl
      (sym (begin-number (least_of b) (store_of b)) ∙ sym (change-number b ok begins []) ∙ done)
    where
      at : (o : Bool) → (store_of b).opened ≡ o → (q : Bool) → leb 1048574 (store_of b).current ≡ q → first_of (rule 8 o ∷ rule 9 q ∷ []) ≡ 0
          → ((store_of b).opened ≡ false) × ((store_of b).current < 1048574)
      at true p q r z = absurd (omega arith)
      at false p true r z = absurd (omega arith)
      at false p false r z = (p, leb-false 1048574 (store_of b).current r)

  abbrev whole : List Turn
  whole = opening ∷ (ts ++ (abandoning ∷ []))

  -- the calls behind the open
  behind : inside (turned b opening).store ts ≡ true
  behind = (both_true (staying (changing begins) (turned b opening).number) (inside (turned b opening).store ts) i).1

  calls_are : calls_of (opening ∷ (ts ++ (abandoning ∷ []))) ≡ begins ∷ (calls_of ts ++ (abandons ∷ []))
  calls_are = ap (λ (cs : List Call). begins ∷ cs) (calls-append ts (abandoning ∷ []))

  left : Leaves (least_of b) b (together (least_of b) (lent (store_of b)) (calls_of whole)).store (run_bytes b whole)
  left =
      ran (least_of b) whole (each_append not_making ts (abandoning ∷ []) (all-not ts (turned b opening).store behind) refl)
      (each_append fitting ts (abandoning ∷ []) f refl) b ok refl (lent (store_of b)) refl

  held : store_of (run_bytes b whole) ≡ store_of b
  held =
      left.holds ∙ ap (λ (cs : List Call). (together (least_of b) (lent (store_of b)) cs).store) calls_are
      ∙ abandoned-update (least_of b) (four b) (store_of b) (held-sound b ok) free.0 free.1 (calls_of ts)
      (true-holds _ (calls-inside (least_of b) (opening ∷ ts) f b ok refl i (lent (store_of b)) refl)) (true-holds _ (calls-fit ts f))

  same : run_bytes b whole ≡ b
  same = one_form (run_bytes b whole) b (left.bytes bytes) bytes left.accepts ok left.edition held

  -- the machine's update is open before the abandon
  abbrev within : Beside
  within = along (from_lent b) (opening ∷ ts)

  open-then : within.machine.opened ≡ true
  open-then = still_open ts (onward (from_lent b) opening) behind (at (turned b opening).number done)
    where
      at : (n : ℕ) → n ≡ 0 → (when_done n (step (from_lent b).machine begins) (from_lent b).machine).opened ≡ true
      at zero e = refl
      at (suc n) e = absurd (omega arith)

  taken : (turned (run_bytes b (opening ∷ ts)) abandoning).number ≡ 0
  taken =
      ap (λ (q : List ℕ). (ended to_abandon q []).number) (sym (along-bytes (opening ∷ ts) (from_lent b)))
      ∙ (answers within (many-turns (opening ∷ ts) f (from_lent b) (lent-agreed b ok))).abandons []
      ∙ ap (λ (o : Bool). first_of (end_tests o)) open-then

  restored : Restored b ts
  restored = record { accepted = taken; bytes = same; later = λ c ns. ap (λ (q : List ℕ). ended c q ns) same }

pub abandoned : Abandoned
abandoned = restored
