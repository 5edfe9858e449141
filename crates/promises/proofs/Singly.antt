-- A return that is done leaves the bytes that its deletes and inserts leave as single calls.
-- Assumes nothing.
use Prim.Native.Nat.{ℕ, ◌<◌}
use native.Mathlib.Omega.{arith}
use mathlib.Core.Bool.{Bool, true, false, not}
use mathlib.Core.Path.{◌≡◌, refl, ap, ap₂, sym, ◌∙◌}
use mathlib.Core.List.{List, [], ◌∷◌, ◌++◌, map}
use lib.Dec.{ltb}
use borrow.Author.Tests.{ltb-true, lt-leb}
use Rattle.model.specs.Basic.{all, those, pick}
use Rattle.model.specs.Field.{Bytes}
use Rattle.model.specs.declared.Pair.{Pair}
use Rattle.model.specs.declared.Delta.{Delta}
use Rattle.model.specs.Store.{Store, next, last, last_of}
use Rattle.model.specs.Walk.{key_limit, lookup, settings}
use Rattle.model.specs.Sound.{sound}
use Rattle.model.specs.Editions.{least_of}
use Rattle.model.specs.Climb.{Result, done, refused}
use Rattle.model.specs.Calls
use Rattle.model.specs.Calls.{is_some, rule, numbered, raw_insert, bench_limit, insert, abandoned}
use Rattle.model.specs.Differ.{differ}
use Rattle.model.specs.Return
use Rattle.model.specs.Return.{goes, comes, end_one, set_one, Ran, reached, stopped, or_stopped, through, and_on, carried, Came, gave, gave_up}
use Rattle.model.specs.Return.{lacking, or_abandoned, unless, returned}
use Rattle.model.specs.Histories.{Call, inserts, deletes, returns, call_by}
use Rattle.model.specs.Settings
use Rattle.model.specs.Settings.{Both, together, lent}
use Rattle.model.specs.Ended.{to_return, ended}
use Rattle.model.specs.ByRule.{Sound, Committed}
use Rattle.model.specs.Entry.{enter_pair}
use Rattle.model.specs.Remade
use Rattle.model.specs.Remade.{small}
use Rattle.model.proofs.lists.Lists.{all_cons, both_true, both-intro}
use Rattle.model.proofs.lists.Members.{holds-true}
use Rattle.model.proofs.sound.ByRule.{from-tests}
use Rattle.model.proofs.reading.Lookups.{settings-rise}
use Rattle.model.proofs.reading.Differs.{keys-so}
use Rattle.model.proofs.turning.Remade.{all-those}
use Rattle.model.proofs.turning.Returned.{way}
use Rattle.model.proofs.theorems.Undone.{together-append}
use Rattle.promises.specs.Accepts.{Accepts, store_of}
use Rattle.promises.specs.Runs.{Turn, run_bytes, Kind, kind_of, asks, not_making, fitting, each}
use Rattle.promises.specs.Replayed.{turn_of}
use Rattle.promises.specs.Returns.{steps_of, NoBench, ReturnSingly}
use Rattle.promises.proofs.High.{return-free}
use Rattle.promises.proofs.Known.{four}
use Rattle.promises.proofs.Judges.{zero-accepts, one_form}
use Rattle.promises.proofs.Lending.{kind-asks, change-leaves, call-bytes, call-accepts, held-sound}
use Rattle.promises.proofs.Projected.{with_call, calls_of, ran}
use Rattle.promises.proofs.Returning.{w, holds}

-- ---- on stores: steps that all go through are the calls

abbrev below : Delta → Bool
below d = ltb d.key bench_limit

reached-is : (s t : Store) → reached s ≡ reached t → s ≡ t
reached-is s t e = cc

never : (n : ℕ) (s t : Store) → stopped n s ≡ reached t → ⊥
never n s t e = let z : ◌≡◌ {A = ℕ} 0 1 = cc in omega arith

module _ (least : ℕ) where
  -- an insert of a key below the bench's
  same-insert : (s : Store) (d : Delta) → below d ≡ true → insert least s d.key d.new ≡ set_one least s d
  unfolding Calls.insert Return.set_one
  same-insert s d h =
      let l : d.key < bench_limit = ltb-true d.key bench_limit h in
      ap (λ (p : Bool). numbered (rule 5 p ∷ rule 7 (not s.opened) ∷ rule 10 (is_some (lookup s d.key (next s))) ∷ [])
      (raw_insert least s d.key d.new))
      (lt-leb bench_limit d.key l ∙ sym (lt-leb key_limit d.key (omega arith)))

  module _ (one : Store → Delta → Result) (c : Delta → Call)
      (same : (s : Store) (d : Delta) → below d ≡ true → call_by least s (c d) ≡ gave (one s d)) where
    all_done : (ds : List Delta) → all below ds ≡ true → (y : Both) (t : Store) → through one ds y.store ≡ reached t
        → (together least y (map c ds)).store ≡ t
    unfolding Return.through
    all_done [] h y t e = reached-is y.store t e
    all_done (d ∷ ds) h y t e =
        let (p, q) = all_cons below d ds h in
        ap (λ (r : Came). (together least (Settings.onward y (c d) r) (map c ds)).store) (same y.store d p)
        ∙ at (one y.store d) e (λ z f. all_done ds q z t f)
      where
        at : (r : Result) → or_stopped (through one ds) y.store r ≡ reached t
            → ((z : Both) → through one ds z.store ≡ reached t → (together least z (map c ds)).store ≡ t)
            → (together least (Settings.onward y (c d) (gave r)) (map c ds)).store ≡ t
        at (done u) f ih = ih _ f
        at (refused n) f ih = absurd (never n y.store t f)

-- a return that is done, by its two runs
done-is : (s t : Store) → gave (done s) ≡ gave (done t) → s ≡ t
done-is s t e = cc

given_is : (q : Ran) (t : Store) → or_abandoned q ≡ gave (done t) → q ≡ reached t
given_is (reached s) t e = ap reached (done-is s t e)
given_is (stopped n s) t e = absurd (at (lacking n) e)
  where
    at : (b : Bool) → pick b (gave_up n (abandoned s)) (gave (refused n)) ≡ gave (done t) → ⊥
    at true f = let z : ◌≡◌ {A = ℕ} 0 1 = cc in omega arith
    at false f = let z : ◌≡◌ {A = ℕ} 0 1 = cc in omega arith

in_two : (go : Store → Ran) (q : Ran) (t : Store) → and_on go q ≡ reached t → (u : Store) × (q ≡ reached u) × (go u ≡ reached t)
in_two go (reached u) t e = (u, refl, e)
in_two go (stopped n u) t e = absurd (never n u t e)

-- ---- lists of calls

sets-fit : (us : List Pair) (ds : List Delta) (vs : List Pair) → Remade.Sets small us ds vs
    → all Settings.fits (map (λ (d : Delta). inserts d.key d.new) ds) ≡ true
sets-fit us [] vs e = refl
sets-fit us (d ∷ ds) vs (f, z, r) = both-intro _ _ (both_true (ltb d.key key_limit) (ltb d.new 4294967296) f).1 (sets-fit (enter_pair (Remade.asked d) us) ds vs r)

ends-fit : (ds : List Delta) (cs : List Call) → all Settings.fits cs ≡ true
    → all Settings.fits (map (λ (d : Delta). deletes d.key) ds ++ cs) ≡ true
ends-fit [] cs h = h
ends-fit (d ∷ ds) cs h = ends-fit ds cs h

turns-are : (cs : List Call) → calls_of (map turn_of cs) ≡ cs
turns-are [] = refl
turns-are (c ∷ cs) = ap₂ with_call (kind-asks c) (turns-are cs)

turns-each : (f : Kind → Bool) (g : Call → Bool) → ((c : Call) → g c ≡ true → f (kind_of (asks c)) ≡ true) → (cs : List Call)
    → all g cs ≡ true → each f (map turn_of cs) ≡ true
turns-each f g h [] a = refl
turns-each f g h (c ∷ cs) a = let (p, q) = all_cons g c cs a in both-intro _ _ (h c p) (turns-each f g h cs q)

-- ---- on bytes

module _ (b : List ℕ) (bytes : Bytes b) (ok : Accepts b) (v : ℕ) (ns : List ℕ) (e : (ended (to_return v) b ns).number ≡ 0)
    (i : NoBench (settings (store_of b) (next (store_of b)))) (j : NoBench (settings (store_of b) v)) where
  abbrev s : Store
  s = store_of b

  abbrev now : List Pair
  now = settings (store_of b) (next (store_of b))

  abbrev then : List Pair
  then = settings (store_of b) v

  abbrev ds : List Delta
  ds = differ now then

  sure : Sound (least_of b) (store_of b)
  sure = from-tests (least_of b) (store_of b) (holds-true (sound (least_of b) (store_of b)) (held-sound b ok))

  abbrev t : Store
  t = (w b ok v ns e).left_so

  open-last : last (store_of b) ≡ next (store_of b)
  open-last = ap (λ (o : Bool). last_of o (store_of b).current) (w b ok v ns e).opened

  committed : Committed (store_of b) v
  committed = (w b ok v ns e).committed

  lows : all below ds ≡ true
  lows =
      keys-so (λ (k : ℕ). ltb k bench_limit) now then
      (settings-rise (least_of b) (omega (arith, four b)) s sure (next s) (omega (arith, open-last, committed.from, committed.upto)))
      (settings-rise (least_of b) (omega (arith, four b)) s sure v (omega (arith, open-last, committed.from, committed.upto))) i j

  ran-through : carried (least_of b) (differ (settings (store_of b) (next (store_of b))) (settings (store_of b) v)) (store_of b)
      ≡ reached (w b ok v ns e).left_so
  unfolding Return.returned
  ran-through =
      given_is (carried (least_of b) ds s) t
      (sym (ap (λ (n : ℕ). unless n (or_abandoned (carried (least_of b) ds s))) (return-free s v (w b ok v ns e).opened committed))
      ∙ (w b ok v ns e).is)

  calls-left : (together (least_of b) (lent (store_of b))
      (steps_of (differ (settings (store_of b) (next (store_of b))) (settings (store_of b) v)))).store ≡ (w b ok v ns e).left_so
  unfolding Return.carried
  calls-left =
      let (u, p, q) = in_two (through (set_one (least_of b)) (those comes ds))
      (through (end_one (least_of b)) (those goes ds) s) t ran-through in
      let first : (together (least_of b) (lent s) (map (λ (d : Delta). deletes d.key) (those goes ds))).store ≡ u
      = all_done (least_of b) (end_one (least_of b)) (λ (d : Delta). deletes d.key) (λ x d h. refl) (those goes ds)
      (all-those below goes ds lows) (lent s) u p in
      ap (λ (y : Both). y.store)
      (together-append (least_of b) (lent s) (map (λ (d : Delta). deletes d.key) (those goes ds))
      (map (λ (d : Delta). inserts d.key d.new) (those comes ds)))
      ∙ all_done (least_of b) (set_one (least_of b)) (λ (d : Delta). inserts d.key d.new)
      (λ x d h. ap gave (same-insert (least_of b) x d h)) (those comes ds) (all-those below comes ds lows)
      (together (least_of b) (lent s) (map (λ (d : Delta). deletes d.key) (those goes ds))) t
      (ap (through (set_one (least_of b)) (those comes ds)) first ∙ q)

  fit : all Settings.fits (steps_of ds) ≡ true
  fit =
      ends-fit (those goes ds) (map (λ (d : Delta). inserts d.key d.new) (those comes ds))
      (sets-fit _ (those comes ds) then (way (least_of b) (four b) s sure (w b ok v ns e).opened v committed).sets)

  same_bytes : run_bytes b (map turn_of (steps_of ds)) ≡ (ended (to_return v) b ns).store
  same_bytes =
      let ts : List Turn = map turn_of (steps_of ds) in
      let left = ran (least_of b) ts (turns-each not_making Settings.fits (λ c h. ap not_making (kind-asks c)) (steps_of ds) fit)
      (turns-each fitting Settings.fits (λ c h. ap fitting (kind-asks c) ∙ h) (steps_of ds) fit) b ok refl (lent s) refl in
      one_form (run_bytes b ts) (ended (to_return v) b ns).store (left.bytes bytes) (call-bytes b ok bytes (to_return v) refl ns)
      left.accepts
      (call-accepts b ok (to_return v) refl ns) (left.edition ∙ sym (change-leaves b ok (returns v) refl ns).edition)
      (left.holds ∙ ap (λ (cs : List Call). (together (least_of b) (lent s) cs).store) (turns-are (steps_of ds)) ∙ calls-left
      ∙ sym (holds b ok v ns e))

pub singly : ReturnSingly
singly b bytes v ns e i j = same_bytes b bytes (zero-accepts (to_return v) b ns refl e) v ns e i j
