-- A call on accepted bytes is the call on the store that they hold; it leaves accepted bytes.
-- Assumes nothing.
use Prim.Native.Nat.{ℕ, ◌≤◌}
use native.Mathlib.Omega.{arith}
use mathlib.Core.Bool.{Bool, true, false}
use mathlib.Core.Path.{◌≡◌, refl, ap, sym, ◌∙◌, subst}
use mathlib.Core.Logic.{inl, inr}
use mathlib.Core.List.{List, ◌∷◌}
use lib.Dec.{T, leb}
use Rattle.model.specs.Field.{Bytes}
use Rattle.model.specs.Basic.{pick}
use Rattle.model.specs.Store.{Store, fresh}
use Rattle.model.specs.Sound.{sound}
use Rattle.model.specs.Layout.{size_of, encode}
use Rattle.model.specs.Judged.{length_ok}
use Rattle.model.specs.Editions.{least_of}
use Rattle.model.specs.Climb.{Result, done, refused}
use Rattle.model.specs.Calls
use Rattle.model.specs.Calls.{rule, numbered, prune_tests, pruned, prune}
use Rattle.model.specs.Return.{Came, gave, gave_up, returned}
use Rattle.model.specs.Histories.{Call, begins, commits, abandons, inserts, deletes, returns, prunes, call_by, after}
use Rattle.model.specs.Settings
use Rattle.model.specs.Lent
use Rattle.model.specs.Lent.{Outcome, left, left_by, leaving, judged_first, fresh_lent, return_lent, prune_lent}
use Rattle.model.specs.Ended.{Asked, to_fresh, to_fresh_second, to_check, to_open, to_commit, to_abandon, to_insert, to_delete, to_return, to_prune}
use Rattle.model.specs.Ended.{to_lookup, to_range, to_life, to_difference, to_visits, Ended, of_outcome, ended, ended_by, makes, to_state}
use Rattle.model.proofs.lists.Members.{true-holds}
use Rattle.model.proofs.sound.ByRule.{to-tests}
use Rattle.model.proofs.turning.Turns.{fresh-sound}
use Rattle.model.proofs.theorems.Theorems.{call-sound}
use Rattle.model.proofs.theorems.Editions.{edition-four, least-is}
use Rattle.store.proofs.laws.Tested.{whole_length}
use Rattle.promises.specs.Accepts.{Accepts, store_of, OfEdition, Written}
use Rattle.promises.specs.Runs.{making, changing, reading, kind_of, asks, fitting}
use Rattle.promises.proofs.High.{number_by}
use Rattle.promises.proofs.Known.{four, judged-by, taken, goes_by}
use Rattle.promises.proofs.Encoded.{encoded-sound}

-- ---- calls by their kind

pub kind-asks : (c : Call) → kind_of (asks c) ≡ changing c
kind-asks begins = refl
kind-asks commits = refl
kind-asks abandons = refl
kind-asks (inserts k x) = refl
kind-asks (deletes k) = refl
kind-asks (returns v) = refl
kind-asks (prunes v) = refl

makes_none : (c : Call) → makes (asks c) ≡ false
makes_none begins = refl
makes_none commits = refl
makes_none abandons = refl
makes_none (inserts k x) = refl
makes_none (deletes k) = refl
makes_none (returns v) = refl
makes_none (prunes v) = refl

-- a call that makes a store of the edition with this least fresh
pub record Makes (least : ℕ) (a : Asked) : Type 0 where
  pub edition : OfEdition least
  pub kind : kind_of a ≡ making
  pub is : (b ns : List ℕ) → ended a b ns ≡ of_outcome ns (fresh_lent least b)

-- what is shown of making fresh, of each change, and of readings, which leave the store's bytes, holds of every call
pub by_kind : (P : Asked → Type 0) → ((least : ℕ) (a : Asked) → Makes least a → P a) → ((c : Call) → P (asks c))
    → ((a : Asked) → kind_of a ≡ reading → ((b ns : List ℕ) → (ended a b ns).store ≡ b) → P a) → (a : Asked) → P a
by_kind P f g h to_fresh = f 4 to_fresh (record { edition = inl refl; kind = refl; is = λ b ns. refl })
by_kind P f g h to_fresh_second = f 8 to_fresh_second (record { edition = inr refl; kind = refl; is = λ b ns. refl })
by_kind P f g h to_check = h to_check refl (λ b ns. refl)
by_kind P f g h to_open = g begins
by_kind P f g h to_commit = g commits
by_kind P f g h to_abandon = g abandons
by_kind P f g h (to_insert k x) = g (inserts k x)
by_kind P f g h (to_delete k) = g (deletes k)
by_kind P f g h (to_return v) = g (returns v)
by_kind P f g h (to_prune v) = g (prunes v)
by_kind P f g h (to_lookup k v) = h (to_lookup k v) refl (λ b ns. refl)
by_kind P f g h (to_range lo hi v) = h (to_range lo hi v) refl (λ b ns. refl)
by_kind P f g h (to_visits k v) = h (to_visits k v) refl (λ b ns. refl)
by_kind P f g h (to_difference u v) = h (to_difference u v) refl (λ b ns. refl)
by_kind P f g h (to_life k) = h (to_life k) refl (λ b ns. refl)
by_kind P f g h to_state = h to_state refl (λ b ns. refl)

-- ---- a change

module _ (b : List ℕ) (ok : Accepts b) where
  abbrev least : ℕ
  least = least_of b

  lent_is : (f : Store → Result) → Lent.lent (least_of b) f b ≡ left (least_of b) b (f (store_of b))
  unfolding Lent.lent
  lent_is f = ap (λ (n : ℕ). judged_first n (λ m. record { number = m; store = b }) (left least b (f (store_of b)))) (judged-by b ok)

  return-is : (v : ℕ) → return_lent (least_of b) b v ≡ left_by (least_of b) b (returned (least_of b) (store_of b) v)
  unfolding Lent.return_lent
  return-is v =
      ap (λ (n : ℕ). judged_first n (λ m. record { number = m; store = b }) (left_by least b (returned least (store_of b) v))) (judged-by b ok)

  -- in edition 1 it is 3 before the store is judged, and after
  prune-is : (v : ℕ) → prune_lent (least_of b) b v ≡ left (least_of b) b (prune (least_of b) (store_of b) v)
  unfolding Lent.prune_lent Calls.prune
  prune-is v = at (leb (least_of b) 4) refl
    where
      tests : Bool → Result
      tests x =
          numbered (rule 3 x ∷ prune_tests (store_of b).oldest (store_of b).current (store_of b).opened v) (done (pruned (store_of b) v))

      at : (x : Bool) → leb (least_of b) 4 ≡ x → pick x (leaving 3 b) (Lent.lent (least_of b) (λ (s : Store). prune (least_of b) s v) b)
          ≡ left (least_of b) b (tests x)
      at true e = refl
      at false e = lent_is (λ (s : Store). prune (least_of b) s v) ∙ ap (λ (x : Bool). left (least_of b) b (tests x)) e

  change-by : (c : Call) (ns : List ℕ) → ended_by (least_of b) (asks c) b ns
      ≡ of_outcome ns (left_by (least_of b) b (call_by (least_of b) (store_of b) c))
  unfolding Lent.open_lent Lent.commit_lent Lent.abandon_lent Lent.insert_lent Lent.delete_lent
  change-by begins ns = ap (of_outcome ns) (lent_is _)
  change-by commits ns = ap (of_outcome ns) (lent_is _)
  change-by abandons ns = ap (of_outcome ns) (lent_is _)
  change-by (inserts k x) ns = ap (of_outcome ns) (lent_is _)
  change-by (deletes k) ns = ap (of_outcome ns) (lent_is _)
  change-by (returns v) ns = ap (of_outcome ns) (return-is v)
  change-by (prunes v) ns = ap (of_outcome ns) (prune-is v)

  -- "After every call the pages are byte for byte what the published page rules produce."
  pub change-is : (c : Call) (ns : List ℕ) → ended (asks c) b ns ≡ of_outcome ns (left_by (least_of b) b (call_by (least_of b) (store_of b) c))
  change-is c ns = goes_by b ok (asks c) (makes_none c) ns ∙ change-by c ns

  pub change-number : (c : Call) (ns : List ℕ) → (ended (asks c) b ns).number ≡ number_by (call_by (least_of b) (store_of b) c)
  change-number c ns = ap (λ (e : Ended). e.number) (change-is c ns) ∙ left-number (call_by (least_of b) (store_of b) c)
    where
      left-number : (r : Came) → (left_by (least_of b) b r).number ≡ number_by r
      left-number (gave (done t)) = refl
      left-number (gave (refused n)) = refl
      left-number (gave_up n t) = refl

-- ---- making fresh

module _ (least : ℕ) (b : List ℕ) where
  pub made-right : length_ok least b ≡ true → fresh_lent least b ≡ record { number = 0; store = encode least (fresh (size_of least b)) }
  unfolding Lent.fresh_lent
  made-right h =
      ap (λ (t : Bool). pick t (record { number = 0; store = encode least (fresh (size_of least b)) }) (record { number = 1; store = b })) h

  pub made-wrong : length_ok least b ≡ false → fresh_lent least b ≡ record { number = 1; store = b }
  unfolding Lent.fresh_lent
  made-wrong h =
      ap (λ (t : Bool). pick t (record { number = 0; store = encode least (fresh (size_of least b)) }) (record { number = 1; store = b })) h

-- ---- what is left

-- accepted bytes of this edition that hold this store, and are bytes if those lent were
pub record Leaves (least : ℕ) (b : List ℕ) (s : Store) (b' : List ℕ) : Type 0 where
  pub accepts : Accepts b'
  pub edition : least_of b' ≡ least
  pub holds : store_of b' ≡ s
  pub bytes : Bytes b → Bytes b'

written : (least : ℕ) → OfEdition least → (b : List ℕ) (s : Store) → T (sound least s) → Leaves least b s (encode least s)
written least e b s sure =
    let w : Written least s = encoded-sound least e s sure in
    record { accepts = w.accepted; edition = w.edition; holds = w.held; bytes = λ h. w.bytes }

left-leaves : (b : List ℕ) → Accepts b → (r : Came) → T (sound (least_of b) (after (store_of b) r).store)
    → Leaves (least_of b) b (after (store_of b) r).store (left_by (least_of b) b r).store
left-leaves b ok (gave (done t)) sure = written (least_of b) (least-is b) b t sure
left-leaves b ok (gave (refused n)) sure = record { accepts = ok; edition = refl; holds = refl; bytes = λ h. h }
left-leaves b ok (gave_up n t) sure = written (least_of b) (least-is b) b t sure

pub held-sound : (b : List ℕ) → Accepts b → T (sound (least_of b) (store_of b))
held-sound b ok = true-holds (sound (least_of b) (store_of b)) (taken b ok).is-sound

pub change-leaves : (b : List ℕ) → Accepts b → (c : Call) → Settings.fits c ≡ true → (ns : List ℕ)
    → Leaves (least_of b) b (after (store_of b) (call_by (least_of b) (store_of b) c)).store (ended (asks c) b ns).store
change-leaves b ok c h ns =
    let l : ℕ = least_of b in
    subst (λ (e : Ended). Leaves l b (after (store_of b) (call_by l (store_of b) c)).store e.store) (sym (change-is b ok c ns))
    (left-leaves b ok (call_by l (store_of b) c) (call-sound l (four b) (store_of b) (held-sound b ok) c (true-holds (Settings.fits c) h)))

pub fresh-leaves : (least : ℕ) → OfEdition least → (b : List ℕ) → length_ok least b ≡ true
    → Leaves least b (fresh (size_of least b)) (fresh_lent least b).store
fresh-leaves least e b h =
    let w = whole_length least b h in
    let low : 4 ≤ least = edition-four least e in
    subst (λ (o : Outcome). Leaves least b (fresh (size_of least b)) o.store) (sym (made-right least b h))
    (written least e b (fresh (size_of least b))
    (true-holds (sound least (fresh (size_of least b)))
    (to-tests least (fresh (size_of least b)) (fresh-sound least (omega arith) (size_of least b) w.six w.most))))

-- accepted bytes stay accepted, fresh or as they were
module _ (P : List ℕ → Type 0) (least : ℕ) (e : OfEdition least) (b : List ℕ) (same : P b)
    (new : (s : Store) (b' : List ℕ) → Leaves least b s b' → P b') where
  pub made-keeps : P (fresh_lent least b).store
  made-keeps = at (length_ok least b) refl
    where
      at : (t : Bool) → length_ok least b ≡ t → P (fresh_lent least b).store
      at true h = new _ (fresh_lent least b).store (fresh-leaves least e b h)
      at false h = subst (λ (o : Outcome). P o.store) (sym (made-wrong least b h)) same

-- Every call on accepted bytes leaves accepted bytes.
pub call-accepts : (b : List ℕ) → Accepts b → (a : Asked) → fitting (kind_of a) ≡ true → (ns : List ℕ) → Accepts (ended a b ns).store
call-accepts b ok =
    by_kind (λ (x : Asked). fitting (kind_of x) ≡ true → (ns : List ℕ) → Accepts (ended x b ns).store)
    (λ least a m h ns. subst (λ (x : Ended). Accepts x.store) (sym (m.is b ns))
    (made-keeps Accepts least m.edition b ok (λ s b' l. l.accepts)))
    (λ c h ns. (change-leaves b ok c (ap fitting (sym (kind-asks c)) ∙ h) ns).accepts)
    (λ x k same h ns. subst Accepts (sym (same b ns)) ok)

pub call-bytes : (b : List ℕ) → Accepts b → Bytes b → (a : Asked) → fitting (kind_of a) ≡ true → (ns : List ℕ) → Bytes (ended a b ns).store
call-bytes b ok bytes =
    by_kind (λ (x : Asked). fitting (kind_of x) ≡ true → (ns : List ℕ) → Bytes (ended x b ns).store)
    (λ least a m h ns. subst (λ (x : Ended). Bytes x.store) (sym (m.is b ns))
    (made-keeps Bytes least m.edition b bytes (λ s b' l. l.bytes bytes)))
    (λ c h ns. (change-leaves b ok c (ap fitting (sym (kind-asks c)) ∙ h) ns).bytes bytes)
    (λ x k same h ns. subst Bytes (sym (same b ns)) bytes)
