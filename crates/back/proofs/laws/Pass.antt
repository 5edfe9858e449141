-- Laws about back/specs/Pass. Assumes nothing.
use Prim.Native.Nat.{ℕ, ◌+◌, ◌^◌, ◌≤◌, ◌<◌}
use native.Mathlib.Omega.{arith}
use mathlib.Core.Bool.{Bool, true, false}
use mathlib.Core.Option.{none}
use mathlib.Core.Path.{◌≡◌, refl, ap, sym, subst, ◌∙◌}
use mathlib.Core.List.{List, [], ◌∷◌, ◌++◌}
use lib.Dec.{eqb}
use borrow.Author.Tests.{eq-eqb, ne_eqb, eqb-true, eqb-false}
use Rattle.model.specs.Basic.{those}
use Rattle.model.specs.declared.Limits.{Limits}
use Rattle.model.specs.declared.Delta.{Delta}
use Rattle.model.specs.Store.{Store, next}
use Rattle.model.specs.Walk.{find, settings, key_limit}
use Rattle.model.specs.Layout.{decode}
use Rattle.model.specs.Climb.{Result, done, refused, update}
use Rattle.model.specs.Calls.{is_some, raw_insert}
use Rattle.model.specs.Needs.{inserting, deleting}
use Rattle.model.specs.Lent.{left}
use Rattle.model.specs.Return.{goes, comes, end_one, set_one, reached, stopped, or_stopped, through, and_on}
use Rattle.model.proofs.tree.Local.{those-append}
use Rattle.model.proofs.kept.Stops.{Ends as Stops, update-ends}
use Rattle.model.proofs.turning.Returned.{delete-is, set_is}
use Rattle.update.specs.Single.{Enters, Ends}
use Rattle.differ.specs.Merge.{told, Onward}
use Rattle.differ.specs.Listing.{between, left_of, next_of}
use Rattle.differ.proofs.laws.Listing.{reads-rising, reads-low, from_start, from_end, from_on, from_step}
use Rattle.back.proofs.laws.Due.{added-due, ended-due, few-kinds}
use Rattle.back.proofs.laws.Single.{absent, present, set-left, set-over, end-left}
use Rattle.back.specs.Going.{Going, BackStepped}
use Rattle.back.proofs.laws.Going.{going-sound, going-open, going-old, stepped-none, stepped-refused, stepped_by}
use Rattle.back.specs.Pass.{wants, step, passed}

pub through-append : (one : Store → Delta → Result) (cs ds : List Delta) (s : Store)
    → through one (cs ++ ds) s ≡ and_on (through one ds) (through one cs s)
unfolding through
through-append one [] ds s = refl
through-append one (c ∷ cs) ds s = at (one s c) (λ t. through-append one cs ds t)
  where
    at : (r : Result) → ((t : Store) → through one (cs ++ ds) t ≡ and_on (through one ds) (through one cs t))
        → or_stopped (through one (cs ++ ds)) s r ≡ and_on (through one ds) (or_stopped (through one cs) s r)
    at (done t) ih = ih t
    at (refused n) ih = refl

-- ---- what the cursors' answer asks of a pass

not-told : (d : Delta) (f : Delta → Bool) → d.kind ≡ 3 → those f (told d) ≡ []
not-told d f e = rw (eq-eqb d.kind 3 e)

module _ {l : Limits} {b : List ℕ} {v w : ℕ} (g : Going l b v w) (k : ℕ) (h : k ≤ key_limit) (d : Delta) (e : d ≡ next_of l b w v k) where
  abbrev s : Store
  s = decode l.least b

  abbrev Step : Bool → List ℕ → ℕ → Type 0
  Step insert b' r = BackStepped l b b' v w d.key r (passed insert l.least (told d) (decode l.least b))

  -- none
  none-asked : (insert : Bool) → those (wants insert) (told d) ≡ [] → Step insert b 0
  none-asked insert z =
      subst (λ (ds : List Delta). BackStepped l b b v w d.key 0 (through (step insert l.least) ds s)) (sym z)
      (stepped-none g (step insert l.least) d.key)

  pub end-added : d.kind ≡ 0 → Step false b 0
  end-added z = none-asked false (rw z)

  pub end_same : d.kind ≡ 3 → Step false b 0
  end_same z = none-asked false (not-told d goes z)

  -- a delete
  module _ (m : d.kind ≡ 0 → ⊥) (n : d.kind ≡ 3 → ⊥) where
    due : (d.key < key_limit) × (is_some (find d.key (settings s w)) ≡ true)
    due =
        ended-due (settings s w) (settings s v) (reads-rising (going-open g)) (reads-low (going-open g))
        (reads-low (going-old g)) k h d e m n

    here : is_some (find d.key (settings (decode l.least b) (next (decode l.least b)))) ≡ true
    here = ap (λ (x : ℕ). is_some (find d.key (settings s x))) (sym g.is-next) ∙ due.1

    pub ends : Ends l b d.key
    ends = record {
      edition = g.edition;
      sound = g.sound;
      opened = g.opened;
      key = due.0;
      present = present l.least g.edition.four s (going-sound g) g.opened d.key due.0 here;
    }

    one_end : those goes (told d) ≡ d ∷ []
    one_end = rw (ne_eqb d.kind 3 n, ne_eqb d.kind 0 m)

    pub end-stepped : (r : ℕ) (b' : List ℕ) → r ≡ (left l.least b
        (update l.least (decode l.least b) d.key (deleting d.key))).number
        → b' ≡ (left l.least b (update l.least (decode l.least b) d.key (deleting d.key))).store → Step false b' r
    end-stepped r b' x y =
        subst (λ (ds : List Delta). BackStepped l b b' v w d.key r (through (end_one l.least) ds s)) (sym one_end)
        (stepped_by g (end_one l.least) d d.key (update l.least s d.key (deleting d.key))
        (delete-is l.least g.edition.four s (going-sound g) g.opened d.key due.0 here)
        (λ q z. subst Stops z (update-ends l.least s d.key (deleting d.key)))
        (end-left l.least g.edition.four s (going-sound g) g.opened d.key due.0 here) r b' x y)

  -- an insert
  module _ (z : d.kind ≡ 0) where
    missing : (d.key < key_limit) × (find d.key (settings s w) ≡ none)
    missing =
        added-due (settings s w) (settings s v) (reads-rising (going-open g)) (reads-low (going-open g)) (reads-low (going-old g)) k h d e z

    away : find d.key (settings (decode l.least b) (next (decode l.least b))) ≡ none
    away = ap (λ (x : ℕ). find d.key (settings s x)) (sym g.is-next) ∙ missing.1

    pub enters : Enters l b d.key
    enters = record {
      edition = g.edition;
      sound = g.sound;
      opened = g.opened;
      key = missing.0;
      absent = absent l.least g.edition.four s (going-sound g) g.opened d.key missing.0 away;
    }

    one_set : those comes (told d) ≡ d ∷ []
    one_set = rw z

    pub set-stepped : d.new < 2 ^ 32 → (r : ℕ) (b' : List ℕ)
        → r ≡ (left l.least b (raw_insert l.least (decode l.least b) d.key d.new)).number
        → b' ≡ (left l.least b (raw_insert l.least (decode l.least b) d.key d.new)).store → Step true b' r
    set-stepped few r b' x y =
        subst (λ (ds : List Delta). BackStepped l b b' v w d.key r (through (set_one l.least) ds s)) (sym one_set)
        (stepped_by g (set_one l.least) d d.key (raw_insert l.least s d.key d.new)
        (set_is l.least g.edition.four s (going-sound g) g.opened d missing.0 away)
        (λ q u. subst Stops u (update-ends l.least s d.key (inserting d.key d.new)))
        (set-left l.least g.edition.four s (going-sound g) g.opened d.key missing.0 away d.new few) r b' x y)

  -- over a key that is alive
  pub set-refused : d.kind ≡ 2 → Step true b 10
  set-refused z =
      let m : d.kind ≡ 0 → ⊥ = λ y. omega (arith, y, z) in
      let n : d.kind ≡ 3 → ⊥ = λ y. omega (arith, y, z) in
      subst (λ (ds : List Delta). BackStepped l b b v w d.key 10 (through (set_one l.least) ds s)) (sym one)
      (stepped-refused g (set_one l.least) d d.key 10 (λ y. omega (arith, y))
      (set-over l.least g.edition.four s (going-sound g) g.opened d.key (due m n).0 (here m n) d refl))
    where
      one : those comes (told d) ≡ d ∷ []
      one = rw z

  pub set-none : (d.kind ≡ 0 → ⊥) → (d.kind ≡ 2 → ⊥) → Step true b 0
  set-none m n = none-asked true (at (eqb d.kind 1) refl)
    where
      at : (c : Bool) → eqb d.kind 1 ≡ c → those comes (told d) ≡ []
      at true q = rw (eqb-true d.kind 1 q)
      at false q =
          let few = few-kinds (settings s w) (settings s v) (reads-rising (going-open g)) (reads-low (going-open g))
          (reads-low (going-old g)) k h d e in
          let other = eqb-false d.kind 1 q in
          not-told d comes (omega (arith, few, m, n, other))

  -- ---- from key to key

  pub pass_on : Onward k d.key
  pass_on = from_on (going-open g) (going-old g) k h d e

  module _ (insert : Bool) where
    asked-first : passed insert l.least (left_of l b w v k) (decode l.least b)
        ≡ and_on (passed insert l.least (left_of l b w v (d.key + 1))) (passed insert l.least (told d) (decode l.least b))
    asked-first =
        ap (λ (ds : List Delta). through (step insert l.least) ds s)
        (ap (those (wants insert)) (from_step (going-open g) (going-old g) k h d e)
        ∙ those-append (wants insert) (told d) (left_of l b w v (d.key + 1)))
        ∙ through-append (step insert l.least) (those (wants insert) (told d)) (those (wants insert) (left_of l b w v (d.key + 1))) s

    module _ (b' : List ℕ) (r : ℕ) (t : BackStepped l b b' v w d.key r (passed insert l.least (told d) (decode l.least b))) where
      pub pass-goes : r ≡ 0 → passed insert l.least (left_of l b w v k) (decode l.least b)
          ≡ passed insert l.least (left_of l b' w v (d.key + 1)) (decode l.least b')
      pass-goes z =
          asked-first ∙ ap (and_on (passed insert l.least (left_of l b w v (d.key + 1)))) (t.went.goes z)
          ∙ ap (λ (ds : List Delta). passed insert l.least ds (decode l.least b')) (sym t.rest)

      pub pass-stops : (r ≡ 0 → ⊥) → passed insert l.least (left_of l b w v k) (decode l.least b) ≡ stopped r (decode l.least b')
      pass-stops z = asked-first ∙ ap (and_on (passed insert l.least (left_of l b w v (d.key + 1)))) (t.went.stops z)

module _ {l : Limits} {b : List ℕ} {v w : ℕ} (g : Going l b v w) (insert : Bool) where
  pub pass-start : passed insert l.least (between l b w v) (decode l.least b)
      ≡ passed insert l.least (left_of l b w v 0) (decode l.least b)
  pass-start = ap (λ (ds : List Delta). passed insert l.least ds (decode l.least b)) (sym (from_start (going-open g) (going-old g)))

  pub pass-end : (k : ℕ) → key_limit ≤ k → passed insert l.least (left_of l b w v k) (decode l.least b) ≡ reached (decode l.least b)
  unfolding through
  pass-end k h = ap (λ (ds : List Delta). passed insert l.least ds (decode l.least b)) (from_end (going-open g) (going-old g) k h)

-- one of the two steps, by the pass
pub stepped-as : {l : Limits} {b b' : List ℕ} {v w k r : ℕ} (s : Store) (d : Delta) (x y : Bool) → x ≡ y
    → BackStepped l b b' v w k r (passed y l.least (told d) s) → BackStepped l b b' v w k r (passed x l.least (told d) s)
stepped-as s d x y e t = rw e t
