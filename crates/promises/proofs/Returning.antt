-- A return on bytes: what it leaves where it is done, and where it gives 12 or 13.
-- Assumes nothing.
use Prim.Native.Nat.{ℕ, suc, ◌*◌, ◌≤◌}
use native.Mathlib.Omega.{arith}
use mathlib.Core.Bool.{Bool, true, false, not}
use mathlib.Core.Path.{◌≡◌, refl, ap, ap₂, sym, ◌∙◌, subst}
use mathlib.Core.Logic.{◌⊎◌, inl, inr}
use mathlib.Core.List.{List, [], ◌∷◌, ◌++◌}
use lib.ListN.{length, drop}
use Rattle.model.specs.Basic.{flat_map}
use Rattle.model.specs.Field.{Bytes}
use Rattle.model.specs.declared.Pair.{Pair}
use Rattle.model.specs.declared.Delta.{Delta}
use Rattle.model.specs.Store.{Store, next, last, last_of}
use Rattle.model.specs.Walk.{settings}
use Rattle.model.specs.Sound.{sound}
use Rattle.model.specs.Layout.{encode}
use Rattle.model.specs.Editions.{least_of}
use Rattle.model.specs.Climb.{done}
use Rattle.model.specs.Calls
use Rattle.model.specs.Calls.{rule, first_of, beyond, abandon, abandoned}
use Rattle.model.specs.Differ.{differ, delta_numbers}
use Rattle.model.specs.Return
use Rattle.model.specs.Return.{carried, Came, gave, lacking, or_abandoned, unless, returned}
use Rattle.model.specs.Histories.{abandons, returns, after}
use Rattle.model.specs.Lent.{left, left_by}
use Rattle.model.specs.Ended.{to_abandon, to_return, to_difference, Ended, of_outcome, ended}
use Rattle.model.specs.ByRule.{Sound, Committed}
use Rattle.model.proofs.lists.Members.{holds-true}
use Rattle.model.proofs.sound.ByRule.{from-tests, upto-last}
use Rattle.model.proofs.reading.Lookups.{settings-rise}
use Rattle.model.proofs.reading.Alike.{alike-settings}
use Rattle.model.proofs.reading.Differs.{none-differs}
use Rattle.model.proofs.kept.Stops.{lacking-is}
use Rattle.model.proofs.turning.Returned.{Stepped, returned-by}
use Rattle.promises.specs.Accepts.{Accepts, store_of}
use Rattle.promises.specs.Runs.{Turn, turned, run_bytes}
use Rattle.promises.specs.Beside.{from_lent}
use Rattle.promises.specs.Demand3.{opening, abandoning}
use Rattle.promises.specs.Returns.{ReturnGives, Returned, ReturnDone, Stops, Stopped, ReturnStopped, returning, ReturnNothing}
use Rattle.promises.specs.Returns.{ReturnAbandons}
use Rattle.promises.proofs.Known.{four}
use Rattle.promises.proofs.Encoded.{accepted}
use Rattle.promises.proofs.High.{number_by, return-free}
use Rattle.promises.proofs.Judges.{zero-accepts, late-accepts}
use Rattle.promises.proofs.Lending.{change-is, change-number, change-leaves, call-accepts, held-sound}
use Rattle.promises.proofs.Agreed.{lent-agreed}
use Rattle.promises.proofs.Answering.{answers}
use Rattle.promises.proofs.Stays.{views-stay}
use Rattle.promises.proofs.Differences.{difference-given}
use Rattle.promises.proofs.Restored as restored

-- a return that is done, on a store
pub record DoneReturn (least : ℕ) (s : Store) (v : ℕ) (q : Came) : Type 0 where
  pub opened : s.opened ≡ true
  pub committed : Committed s v
  pub left_so : Store
  pub is : q ≡ gave (done left_so)
  pub stepped : Stepped least s left_so (settings s v)

-- and one that gives 12 or 13: it leaves what the abandon does, which is accepted
record Undoes (least : ℕ) (s : Store) (b : List ℕ) (q : Came) : Type 0 where
  opened : s.opened ≡ true
  store : (left_by least b q).store ≡ encode least (abandoned s)

module _ (b : List ℕ) (ok : Accepts b) (v : ℕ) (ns : List ℕ) where
  abbrev s : Store
  s = store_of b

  sure : Sound (least_of b) (store_of b)
  sure = from-tests (least_of b) (store_of b) (holds-true (sound (least_of b) (store_of b)) (held-sound b ok))

  never : (n m : ℕ) → lacking n ≡ true → n ≡ 0 → ⊥
  never n m l e = at (lacking-is n l)
    where
      at : (n ≡ 12) ⊎ (n ≡ 13) → ⊥
      at (inl z) = omega arith
      at (inr z) = omega arith

  whole : number_by (returned (least_of b) (store_of b) v) ≡ 0 → DoneReturn (least_of b) (store_of b) v (returned (least_of b) (store_of b) v)
  whole =
      returned-by (least_of b) (λ (q : Came). number_by q ≡ 0 → DoneReturn (least_of b) (store_of b) v q) (four b) (store_of b) sure v
      (λ n e. absurd (n e))
      (λ o h t g e. record { opened = o; committed = h; left_so = t; is = refl; stepped = g }) (λ o h n l e. absurd (never n 0 l e))

  early : (x y : Bool) → Stops (first_of (rule 6 x ∷ rule 7 y ∷ [])) → ⊥
  early true y (inl e) = omega arith
  early true y (inr e) = omega arith
  early false true (inl e) = omega arith
  early false true (inr e) = omega arith
  early false false (inl e) = omega arith
  early false false (inr e) = omega arith

  zero : Stops 0 → ⊥
  zero (inl e) = omega arith
  zero (inr e) = omega arith

  undoes : Stops (number_by (returned (least_of b) (store_of b) v)) → Undoes (least_of b) (store_of b) b (returned (least_of b) (store_of b) v)
  undoes =
      returned-by (least_of b) (λ (q : Came). Stops (number_by q) → Undoes (least_of b) (store_of b) b q) (four b) (store_of b) sure v
      (λ n e. absurd (early (beyond (store_of b).current (store_of b).oldest v) (not (store_of b).opened) e)) (λ o h t g e. absurd (zero e))
      (λ o h n l e. record { opened = o; store = refl })

  -- an abandon of an update that is open
  abandon-is : (store_of b).opened ≡ true → ended to_abandon b ns
      ≡ of_outcome ns (record { number = 0; store = encode (least_of b) (abandoned (store_of b)) })
  unfolding Calls.abandon
  abandon-is o =
      change-is b ok abandons ns
      ∙ ap (λ (p : Bool). of_outcome ns (left (least_of b) b (Calls.numbered (rule 7 (not p) ∷ []) (done (abandoned (store_of b)))))) o

  stopped-so : Stops (ended (to_return v) b ns).number → Stopped b v ns
  stopped-so e =
      let u = undoes (subst Stops (change-number b ok (returns v) ns) e) in
      record {
        store = ap (λ (x : Ended). x.store) (change-is b ok (returns v) ns) ∙ u.store
            ∙ sym (ap (λ (x : Ended). x.store) (abandon-is u.opened));
        list = refl;
        abandons = ap (λ (x : Ended). x.number) (abandon-is u.opened);
      }

  -- ---- done

  abbrev b' : List ℕ
  b' = (ended (to_return v) b ns).store

  module _ (e : (ended (to_return v) b ns).number ≡ 0) where
    pub w : DoneReturn (least_of b) (store_of b) v (returned (least_of b) (store_of b) v)
    w = whole (sym (change-number b ok (returns v) ns) ∙ e)

    pub holds : store_of (ended (to_return v) b ns).store ≡ w.left_so
    holds = (change-leaves b ok (returns v) refl ns).holds ∙ ap (λ (q : Came). (after (store_of b) q).store) w.is

    kept : Accepts (ended (to_return v) b ns).store
    kept = call-accepts b ok (to_return v) refl ns

    still : (store_of (ended (to_return v) b ns).store).opened ≡ true
    still = ap (λ (t : Store). t.opened) holds ∙ w.stepped.opened

    current-is : (store_of (ended (to_return v) b ns).store).current ≡ (store_of b).current
    current-is = ap (λ (t : Store). t.current) holds ∙ w.stepped.current

    old-is : (store_of (ended (to_return v) b ns).store).oldest ≡ (store_of b).oldest
    old-is = ap (λ (t : Store). t.oldest) holds ∙ w.stepped.oldest

    shown : settings (store_of (ended (to_return v) b ns).store) (next (store_of (ended (to_return v) b ns).store)) ≡ settings (store_of b) v
    shown = ap (λ (t : Store). settings t (next t)) holds ∙ w.stepped.openly

    old-shown : settings (store_of (ended (to_return v) b ns).store) v ≡ settings (store_of b) v
    old-shown =
        ap (λ (t : Store). settings t v) holds ∙ alike-settings (store_of b) v w.left_so v
        (w.stepped.steady v w.committed.from (omega (arith, w.committed.upto)))

    last-is : last (store_of (ended (to_return v) b ns).store) ≡ suc (store_of b).current
    last-is = ap₂ last_of still current-is

    none : differ (settings (store_of (ended (to_return v) b ns).store) v)
        (settings (store_of (ended (to_return v) b ns).store) (next (store_of (ended (to_return v) b ns).store))) ≡ []
    none =
        ap₂ differ old-shown shown
        ∙ none-differs (settings (store_of b) v)
        (settings-rise (least_of b) (omega (arith, four b)) (store_of b) sure v
        (omega (arith, w.committed.from, w.committed.upto, upto-last (store_of b).opened (store_of b).current)))

    returned-so : Returned b v (ended (to_return v) b ns).store
    returned-so = record {
      accepted = kept;
      opened = still;
      current = current-is;
      shows = shown;
      older = λ u f h. views-stay b ok (record { call = to_return v; list = ns } ∷ []) refl refl u (omega (arith, f, old-is)) h;
      nothing-differs = λ ms. nothing ms
          ((difference-given b' v (next (store_of b'))
          (record {
            accepted = kept;
            old-kept = omega (arith, w.committed.from, old-is);
            old = omega (arith, w.committed.upto, last-is);
            new-kept = omega (arith, w.committed.from, w.committed.upto, old-is, current-is);
            new = omega (arith, last-is, current-is);
          })).room ms);
    }
      where
        ds : List Delta
        ds =
            differ (settings (store_of (ended (to_return v) b ns).store) v)
            (settings (store_of (ended (to_return v) b ns).store) (next (store_of (ended (to_return v) b ns).store)))

        nothing : (ms : List ℕ)
            → (4 * length ds ≤ length ms → ended (to_difference v (next (store_of b'))) b' ms
            ≡ record { number = 0; results = length ds ∷ []; store = b'; list = flat_map delta_numbers ds ++ drop (4 * length ds) ms })
            → ended (to_difference v (next (store_of b'))) b' ms ≡ record { number = 0; results = 0 ∷ []; store = b'; list = ms }
        nothing ms f =
            f (omega (arith, ap (λ (xs : List Delta). length xs) none))
            ∙ ap (λ (xs : List Delta).
            record { number = 0; results = length xs ∷ []; store = b'; list = flat_map delta_numbers xs ++ drop (4 * length xs) ms }) none

  -- ---- nothing to do

  module _ (o : (store_of b).opened ≡ true) (h : Committed (store_of b) v)
      (same : settings (store_of b) (next (store_of b)) ≡ settings (store_of b) v) where
    returned-same : returned (least_of b) (store_of b) v ≡ gave (done (store_of b))
    unfolding Return.returned Return.carried Return.through
    returned-same =
        ap₂ (λ (n : ℕ) (ds : List Delta). unless n (or_abandoned (carried (least_of b) ds (store_of b)))) (return-free (store_of b) v o h)
        (ap (λ (us : List Pair). differ us (settings (store_of b) v)) same
        ∙ none-differs (settings (store_of b) v)
        (settings-rise (least_of b) (omega (arith, four b)) (store_of b) sure v (omega (arith, open-last, h.from, h.upto))))
      where
        open-last : last (store_of b) ≡ next (store_of b)
        open-last = ap (λ (p : Bool). last_of p (store_of b).current) o

    nothing-so : Bytes b → ended (to_return v) b ns ≡ of_outcome ns (record { number = 0; store = b })
    nothing-so bytes =
        change-is b ok (returns v) ns ∙ ap (λ (q : Came). of_outcome ns (left_by (least_of b) b q)) returned-same
        ∙ ap (λ (q : List ℕ). of_outcome ns (record { number = 0; store = q })) (accepted b bytes ok).same

-- ---- the promise

late-stops : (n : ℕ) → Stops n → 5 ≤ n
late-stops n (inl e) = omega arith
late-stops n (inr e) = omega arith

run-append : (b : List ℕ) (ts us : List Turn) → run_bytes b (ts ++ us) ≡ run_bytes (run_bytes b ts) us
run-append b [] us = refl
run-append b (t ∷ ts) us = run-append (turned b t).store ts us

pub gives : ReturnGives
gives b ok v ns = (answers (from_lent b) (lent-agreed b ok)).returns v ns

pub when-done : ReturnDone
when-done b v ns e = returned-so b (zero-accepts (to_return v) b ns refl e) v ns e

pub when-stopped : ReturnStopped
when-stopped b v ns e = stopped-so b (late-accepts (to_return v) b ns refl (late-stops (ended (to_return v) b ns).number e)) v ns e

pub is-abandon : ReturnAbandons
is-abandon b bytes given ts f i v e =
    let c : List ℕ = run_bytes b (opening ∷ ts) in
    let same : run_bytes b (opening ∷ (ts ++ (returning v ∷ []))) ≡ b
    = run-append b (opening ∷ ts) (returning v ∷ []) ∙ (when-stopped c v [] e).store
    ∙ sym (run-append b (opening ∷ ts) (abandoning ∷ [])) ∙ (restored.abandoned b bytes given ts f i).bytes in
    record { bytes = same; later = λ a ns. ap (λ (q : List ℕ). ended a q ns) same }

pub when-nothing : ReturnNothing
when-nothing b bytes ok o v f h same ns = nothing-so b ok v ns o (record { from = f; upto = h }) same bytes
