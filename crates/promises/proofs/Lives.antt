-- The life of a key on accepted bytes: it says what lookups say, an open update is not shown, and a commit that leaves the key alone
-- leaves it.
-- Assumes nothing.
use Prim.Native.Nat.{ℕ, ◌*◌, ◌≤◌, ◌<◌}
use native.Mathlib.Omega.{arith}
use mathlib.Core.Bool.{Bool, true, false, not}
use mathlib.Core.Option.{Option, none, some}
use mathlib.Core.Path.{◌≡◌, refl, ap, ap₂, sym, ◌∙◌}
use mathlib.Core.Logic.{◌↔◌}
use mathlib.Core.List.{List, [], ◌∷◌, ◌++◌}
use lib.Dec.{leb, ltb}
use lib.ListN.{length, drop}
use borrow.Author.Tests.{lt-leb, leb-false, le-ltb, lt-ltb}
use Rattle.model.specs.Basic.{all, flat_map}
use Rattle.model.specs.declared.Stretch.{Stretch}
use Rattle.model.specs.Looked.{Value}
use Rattle.model.specs.Entry.{alive}
use Rattle.model.specs.Store.{Store, next, last, last_of}
use Rattle.model.specs.Walk.{key_limit, lookup}
use Rattle.model.specs.Editions.{least_of}
use Rattle.model.specs.Climb.{done, refused}
use Rattle.model.specs.Calls
use Rattle.model.specs.Calls.{rule, first_of, looked_at, looked_by, get, committed, unchanged, commit}
use Rattle.model.specs.Told
use Rattle.model.specs.Told.{told_in, told_by}
use Rattle.model.specs.Life
use Rattle.model.specs.Life.{life_of, life, lived, stretch_numbers}
use Rattle.model.specs.Return.{Came, gave, gave_up}
use Rattle.model.specs.Histories.{Call, begins, commits, abandons, inserts, deletes, returns, prunes, call_by, after}
use Rattle.model.specs.Settings.{Both, lent, onward, together}
use Rattle.model.specs.Lent.{Listed, listed}
use Rattle.model.specs.Any.{lookup_any, life_any}
use Rattle.model.specs.Ended.{to_commit, to_life, of_listed, ended}
use Rattle.model.specs.Telling.{Shape}
use Rattle.model.specs.ByRule.{Readable}
use Rattle.model.proofs.lists.Lists.{all_cons, both-intro}
use Rattle.model.proofs.sound.ByRule.{of-readable, old-current, upto-last}
use Rattle.model.proofs.sound.Judging.{accepted-sound}
use Rattle.model.proofs.reading.Alike.{alike-lookup}
use Rattle.model.proofs.theorems.History.{many-calls}
use Rattle.model.proofs.theorems.Undone.{lent-agrees}
use Rattle.model.proofs.reading.Lives.{life-ext}
use Rattle.model.proofs.reading.Telling.{length-numbers}
use Rattle.promises.specs.Accepts.{Accepts, store_of}
use Rattle.promises.specs.Runs.{Turn, run_bytes, Kind, making, changing, reading, kind_of, not_making, uncommitting, each}
use Rattle.promises.specs.Views.{SaysSame}
use Rattle.promises.specs.Lives.{LifeGiven, LivesAgree, StretchesApart, OpenUnshown, LeftAlone}
use Rattle.promises.proofs.Known.{four, taken}
use Rattle.promises.proofs.Lending.{held-sound, change-leaves}
use Rattle.promises.proofs.Sounding.{lookup-lent, life-lent}
use Rattle.promises.proofs.Projected.{with_call, calls_of, calls-fit}
use Rattle.promises.proofs.Stays.{later, goes}
use Rattle.promises.proofs.Releasing.{first-none, number_is}
use Rattle.promises.proofs.Stretches.{life-ends, life-apart, life-lies, life-stays}

-- ---- readings of accepted bytes

module _ (b : List ℕ) (ok : Accepts b) where
  abbrev s : Store
  s = store_of b

  last-low : last (store_of b) ≤ 1048574
  last-low = (accepted-sound (least_of b) b (taken b ok)).last-low

  upto : (store_of b).current ≤ last (store_of b)
  upto = upto-last (store_of b).opened (store_of b).current

  current-low : (store_of b).current < alive
  current-low = omega (arith, last-low, upto)

  kept_low : (store_of b).oldest ≤ (store_of b).current
  kept_low = old-current (least_of b) s (accepted-sound (least_of b) b (taken b ok)).old-low

  looked : (k v : ℕ) → k < key_limit → Readable (store_of b) v → lookup_any b k v ≡ looked_at (lookup (store_of b) k v)
  unfolding Calls.get
  looked k v h l =
      lookup-lent b ok k v
      ∙ ap₂ (λ (p q : Bool). looked_by (first_of (rule 5 p ∷ rule 6 q ∷ [])) (lookup s k v)) (lt-leb key_limit k h) (of-readable s v l)

value-is : (o : Option ℕ) (x : ℕ) → (looked_at o ≡ Value x) ↔ (o ≡ some x)
value-is none x = (λ e. absurd (let z : ◌≡◌ {A = ℕ} 0 1 = cc in omega arith), λ e. absurd (let z : ◌≡◌ {A = ℕ} 0 1 = cc in omega arith))
value-is (some y) x = (λ e. let q : y ≡ x = cc in ap some q, λ e. let q : y ≡ x = cc in ap Value q)

looked-one : (o p : Option ℕ) → looked_at o ≡ looked_at p → o ≡ p
looked-one none none e = refl
looked-one none (some y) e = absurd (let z : ◌≡◌ {A = ℕ} 0 1 = cc in omega arith)
looked-one (some x) none e = absurd (let z : ◌≡◌ {A = ℕ} 0 1 = cc in omega arith)
looked-one (some x) (some y) e = let q : x ≡ y = cc in ap some q

-- ---- what the call gives

abbrev shape : Shape Stretch
shape = record { numbers = stretch_numbers; each = 3; size = λ a. refl }

module _ (b : List ℕ) (ok : Accepts b) (k : ℕ) (h : k < key_limit) (ns : List ℕ) where
  told : (t : Bool) → ltb (length ns) (3 * length (life (store_of b) k)) ≡ t
      → ended (to_life k) b ns ≡ of_listed b (listed ns (told_in stretch_numbers (first_of (rule 14 t ∷ [])) (life (store_of b) k)))
  unfolding Life.lived Told.told_by
  told t e =
      ap (of_listed b) (life-lent b ok k ns)
      ∙ ap (λ (p : Bool). of_listed b (listed ns (told_by stretch_numbers 3 (first_of (rule 5 p ∷ [])) (length ns) (life (store_of b) k))))
      (lt-leb key_limit k h)
      ∙ ap (λ (q : Bool). of_listed b (listed ns (told_in stretch_numbers (first_of (rule 14 q ∷ [])) (life (store_of b) k)))) e

pub life-given : LifeGiven
unfolding Told.told_in
life-given b ok k h ns =
    let xs = life (store_of b) k in
    record {
      room = λ r. told b ok k h ns false (le-ltb (length ns) (3 * length xs) r)
          ∙ ap (λ (n : ℕ). record { number = 0; results = length xs ∷ []; store = b; list = flat_map stretch_numbers xs ++ drop n ns })
          (length-numbers shape xs);
      short = λ r. told b ok k h ns true (lt-ltb (length ns) (3 * length xs) r);
    }

-- ---- lookups and lives never disagree; stretches stand apart

pub lives-agree : LivesAgree
lives-agree b ok k v x h from l =
    let s = store_of b in
    let e = looked b ok k v h (omega (arith, upto b ok, from)) in
    let f = value-is (lookup s k v) x in
    let g = life-lies s.oldest s.current (lookup s k) (current-low b ok) v x from l in
    (λ q. g.0 (f.0 (sym e ∙ q)), λ q. e ∙ f.1 (g.1 q))

pub stretches-apart : StretchesApart
stretches-apart = record {
  apart = λ b ok k. life-apart (store_of b).oldest (store_of b).current (lookup (store_of b) k) (kept_low b ok) (current-low b ok);
  ends = λ b k. life-ends (store_of b).oldest (store_of b).current (lookup (store_of b) k);
}

-- ---- two stores with one life

module _ (b b' : List ℕ) (ok : Accepts b) (ok' : Accepts b') (k : ℕ) (same : k < key_limit → life (store_of b') k ≡ life (store_of b) k) where
  lived-same : (room : ℕ) → lived (store_of b') k room ≡ lived (store_of b) k room
  unfolding Life.lived Told.told_by
  lived-same room = at (leb key_limit k) refl
    where
      at : (p : Bool) → leb key_limit k ≡ p
          → told_by stretch_numbers 3 (first_of (rule 5 p ∷ [])) room (life (store_of b') k)
          ≡ told_by stretch_numbers 3 (first_of (rule 5 p ∷ [])) room (life (store_of b) k)
      at true e = refl
      at false e = ap (told_by stretch_numbers 3 0 room) (same (leb-false key_limit k e))

  says_same : (ns : List ℕ) → SaysSame (ended (to_life k) b' ns) (ended (to_life k) b ns)
  says_same ns =
      let e : life_any b' k ns ≡ life_any b k ns = life-lent b' ok' k ns ∙ ap (listed ns) (lived-same (length ns))
      ∙ sym (life-lent b ok k ns) in
      record {
        number = ap (λ (r : Listed). r.number) e;
        results = ap (λ (r : Listed). (of_listed b r).results) e;
        list = ap (λ (r : Listed). r.list) e;
      }

-- ---- an open update

not-making : (k : Kind) → uncommitting k ≡ true → not_making k ≡ true
not-making making h = h
not-making (changing c) h = refl
not-making reading h = refl

each-not : (ts : List Turn) → each uncommitting ts ≡ true → each not_making ts ≡ true
each-not [] h = refl
each-not (t ∷ ts) h =
    let (x, y) = all_cons (λ (u : Turn). uncommitting (kind_of u.call)) t ts h in
    both-intro _ _ (not-making (kind_of t.call) x) (each-not ts y)

abbrev keeps : Call → Bool
keeps c = uncommitting (changing c)

calls-keep : (ts : List Turn) → each uncommitting ts ≡ true → all keeps (calls_of ts) ≡ true
calls-keep [] h = refl
calls-keep (t ∷ ts) h =
    let (x, y) = all_cons (λ (u : Turn). uncommitting (kind_of u.call)) t ts h in at (kind_of t.call) x (calls-keep ts y)
  where
    at : (q : Kind) → uncommitting q ≡ true → all keeps (calls_of ts) ≡ true → all keeps (with_call q (calls_of ts)) ≡ true
    at making x y = y
    at (changing c) x y = both-intro _ _ x y
    at reading x y = y

-- the machine's current version is moved by commits alone
one_kept : (y : Both) (c : Call) (r : Came) → keeps c ≡ true → (onward y c r).machine.current ≡ y.machine.current
one_kept y c (gave (refused n)) h = refl
one_kept y c (gave_up n t) h = refl
one_kept y begins (gave (done t)) h = refl
one_kept y commits (gave (done t)) h = absurd (let z : ◌≡◌ {A = ℕ} 0 1 = cc in omega arith)
one_kept y abandons (gave (done t)) h = refl
one_kept y (inserts k x) (gave (done t)) h = refl
one_kept y (deletes k) (gave (done t)) h = refl
one_kept y (returns v) (gave (done t)) h = refl
one_kept y (prunes v) (gave (done t)) h = absurd (let z : ◌≡◌ {A = ℕ} 0 1 = cc in omega arith)

-- and the oldest by prunes alone
one-old : (y : Both) (c : Call) (r : Came) → keeps c ≡ true → (onward y c r).machine.oldest ≡ y.machine.oldest
one-old y c (gave (refused n)) h = refl
one-old y c (gave_up n t) h = refl
one-old y begins (gave (done t)) h = refl
one-old y commits (gave (done t)) h = refl
one-old y abandons (gave (done t)) h = refl
one-old y (inserts k x) (gave (done t)) h = refl
one-old y (deletes k) (gave (done t)) h = refl
one-old y (returns v) (gave (done t)) h = refl
one-old y (prunes v) (gave (done t)) h = absurd (let z : ◌≡◌ {A = ℕ} 0 1 = cc in omega arith)

all-kept : (least : ℕ) (cs : List Call) → all keeps cs ≡ true → (y : Both) → (together least y cs).machine.current ≡ y.machine.current
all-kept least [] h y = refl
all-kept least (c ∷ cs) h y =
    let (p, q) = all_cons keeps c cs h in
    all-kept least cs q (onward y c (call_by least y.store c)) ∙ one_kept y c (call_by least y.store c) p

all_old : (least : ℕ) (cs : List Call) → all keeps cs ≡ true → (y : Both) → (together least y cs).machine.oldest ≡ y.machine.oldest
all_old least [] h y = refl
all_old least (c ∷ cs) h y =
    let (p, q) = all_cons keeps c cs h in
    all_old least cs q (onward y c (call_by least y.store c)) ∙ one-old y c (call_by least y.store c) p

pub open-unshown : OpenUnshown
open-unshown b ok ts f u k =
    let s = store_of b in
    let b' = run_bytes b ts in
    let m = each-not ts u in
    let left = later b ok ts f m in
    let on = goes b ok ts f m in
    let agrees = many-calls (least_of b) (four b) (calls_of ts) (calls-fit ts f) (lent s) (lent-agrees (least_of b) s (held-sound b ok)) in
    let kept : (store_of b').current ≡ s.current = ap (λ (t : Store). t.current) left.holds ∙ agrees.current
    ∙ all-kept (least_of b) (calls_of ts) (calls-keep ts u) (lent s) in
    let old : (store_of b').oldest ≡ s.oldest = ap (λ (t : Store). t.oldest) left.holds ∙ agrees.oldest
    ∙ all_old (least_of b) (calls_of ts) (calls-keep ts u) (lent s) in
    says_same b b' ok left.accepts k
    (λ h. ap₂ (λ (o c : ℕ). life_of o c (lookup (store_of b') k)) old kept
    ∙ life-ext s.oldest s.current (lookup (store_of b') k) (lookup s k)
    (λ v from l. alike-lookup s v (store_of b') v (on.steady v (omega (arith, old, from)) l) k))

-- ---- a commit

module _ (b : List ℕ) (ok : Accepts b) where
  -- where it is done, an update is open that changes something
  opened-by : (ms : List ℕ) → (ended to_commit b ms).number ≡ 0 → ((store_of b).opened ≡ true) × (unchanged (store_of b) ≡ false)
  opened-by ms given = first-none (store_of b).opened (unchanged (store_of b)) (sym (number_is b ms ok) ∙ given)

  commit-after : (store_of b).opened ≡ true → unchanged (store_of b) ≡ false
      → (after (store_of b) (call_by (least_of b) (store_of b) commits)).store ≡ committed (store_of b)
  unfolding Calls.commit
  commit-after o c =
      ap₂ (λ (q r : Bool). (after (store_of b)
      (gave (Calls.numbered (rule 7 (not q) ∷ rule 15 r ∷ []) (done (committed (store_of b)))))).store) o c

pub left_alone : LeftAlone
left_alone b ok ms given k same =
    let s = store_of b in
    let (o, c) = opened-by b ok ms given in
    let left = change-leaves b ok commits refl ms in
    let b' = (ended to_commit b ms).store in
    let is : store_of b' ≡ committed s = left.holds ∙ commit-after b ok o c in
    let up : last s ≡ next s = ap (λ (q : Bool). last_of q s.current) o in
    says_same b b' ok left.accepts k
    (λ h. ap (λ (t : Store). life t k) is
    ∙ life-stays s.current (lookup s k)
    (looked-one (lookup s k (next s)) (lookup s k s.current)
    (sym (looked b ok k (next s) h (omega (arith, kept_low b ok))) ∙ same
    ∙ looked b ok k s.current h (omega (arith, upto b ok, kept_low b ok)))) s.oldest (kept_low b ok))
