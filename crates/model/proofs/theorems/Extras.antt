-- Check gives 0 exactly for sound stores; the tables' runs are the history's; the two editions.
-- Assumes nothing.
use Prim.Native.Nat.{ℕ, ◌≤◌}
use native.Mathlib.Omega.{arith}
use mathlib.Core.Bool.{Bool, true, false, ◌&&◌}
use mathlib.Core.Path.{◌≡◌, refl}
use mathlib.Core.List.{List, [], ◌∷◌}
use lib.Dec.{T, lit≤}
use Rattle.model.specs.Basic.{all}
use Rattle.model.specs.Store.{Store, fresh}
use Rattle.model.specs.Sound.{sound, broken, first_broken, rule1, rule2, rule3, rule4, rule5, rule6, rule7}
use Rattle.model.specs.Climb.{done, refused}
use Rattle.model.specs.Return.{Came, gave, gave_up}
use Rattle.model.specs.Histories.{Call, call_by, After, after, run, from}
use Rattle.model.specs.Settings.{Machine, onward, together, fits, beginning}
use Rattle.model.proofs.lists.Lists.{both_true}
use Rattle.model.proofs.lists.Members.{holds-true, true-holds}
use Rattle.model.proofs.theorems.History.{history-sound}

-- check gives 0 exactly for sound stores
sound-broken-by : (a b c d e f g : Bool) → (a && b && c && d && e && f && g) ≡ true → first_broken 1 (a ∷ b ∷ c ∷ d ∷ e ∷ f ∷ g ∷ []) ≡ 0
sound-broken-by a b c d e f g h =
    let (h6, hg) = both_true (a && b && c && d && e && f) g h in
    let (h5, hf) = both_true (a && b && c && d && e) f h6 in
    let (h4, he) = both_true (a && b && c && d) e h5 in
    let (h3, hd) = both_true (a && b && c) d h4 in
    let (h2, hc) = both_true (a && b) c h3 in
    let (ha, hb) = both_true a b h2 in
    rw (ha, hb, hc, hd, he, hf, hg) refl

pub sound-unbroken : (least : ℕ) (s : Store) → T (sound least s) → broken least s ≡ 0
unfolding sound broken
sound-unbroken least s sure =
    sound-broken-by (rule1 least s) (rule2 s) (rule3 s) (rule4 s) (rule5 least s) (rule6 s) (rule7 s)
    (holds-true (rule1 least s && rule2 s && rule3 s && rule4 s && rule5 least s && rule6 s && rule7 s) sure)

broken-by : (a b c d e f g : Bool) → first_broken 1 (a ∷ b ∷ c ∷ d ∷ e ∷ f ∷ g ∷ []) ≡ 0 → (a && b && c && d && e && f && g) ≡ true
broken-by true true true true true true true h = refl
broken-by true true true true true true false h = absurd (omega arith)
broken-by true true true true true false g h = absurd (omega arith)
broken-by true true true true false f g h = absurd (omega arith)
broken-by true true true false e f g h = absurd (omega arith)
broken-by true true false d e f g h = absurd (omega arith)
broken-by true false c d e f g h = absurd (omega arith)
broken-by false b c d e f g h = absurd (omega arith)

pub unbroken-sound : (least : ℕ) (s : Store) → broken least s ≡ 0 → T (sound least s)
unfolding sound broken
unbroken-sound least s h =
    true-holds (rule1 least s && rule2 s && rule3 s && rule4 s && rule5 least s && rule6 s && rule7 s)
    (broken-by (rule1 least s) (rule2 s) (rule3 s) (rule4 s) (rule5 least s) (rule6 s) (rule7 s) h)

-- the tables' runs are the history's
run-same : (least : ℕ) (cs : List Call) (x : After) (m : Machine)
    → (run least x cs).store ≡ (together least (record { store = x.store; machine = m }) cs).store
run-same least [] x m = refl
run-same least (c ∷ cs) x m = at (call_by least x.store c) (λ y n. run-same least cs y n)
  where
    at : (r : Came)
        → ((y : After) (n : Machine) → (run least y cs).store ≡ (together least (record { store = y.store; machine = n }) cs).store)
        → (run least (after x.store r) cs).store ≡ (together least (onward (record { store = x.store; machine = m }) c r) cs).store
    at (gave (done t)) ih = ih (record { number = 0; store = t }) _
    at (gave (refused i)) ih = ih (record { number = i; store = x.store }) m
    at (gave_up i t) ih = ih (record { number = i; store = t }) _

pub from-same : (least n : ℕ) (cs : List Call) → (from least n cs).store ≡ (together least (beginning n) cs).store
from-same least n cs = run-same least cs (record { number = 0; store = fresh n }) _

-- edition 1, and the edition with limits twice as large
pub edition-one : (n : ℕ) → 6 ≤ n → n ≤ 4096 → (cs : List Call) → T (all fits cs) → T (sound 4 (together 4 (beginning n) cs).store)
edition-one = history-sound 4 (lit≤ tt)

pub edition-two : (n : ℕ) → 6 ≤ n → n ≤ 4096 → (cs : List Call) → T (all fits cs) → T (sound 8 (together 8 (beginning n) cs).store)
edition-two = history-sound 8 (lit≤ tt)
