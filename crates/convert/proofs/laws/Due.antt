-- Laws about convert/specs/Due. Assumes nothing.
use Prim.Native.Nat.{ℕ, ◌<◌}
use mathlib.Core.Bool.{Bool, true, false}
use mathlib.Core.Path.{◌≡◌, refl, sym, subst}
use mathlib.Core.List.{List, [], ◌∷◌, ◌++◌}
use lib.Dec.{ltb}
use borrow.Author.Tests.{ltb-true, eq-eqb, ne_eqb}
use Rattle.model.specs.Basic.{those}
use Rattle.model.specs.declared.Limits.{Limits}
use Rattle.model.specs.declared.Pair.{Pair}
use Rattle.model.specs.declared.Delta.{Delta}
use Rattle.model.specs.Store.{Store}
use Rattle.model.specs.Walk.{key_limit}
use Rattle.model.specs.Layout.{decode}
use Rattle.model.specs.Climb.{update}
use Rattle.model.specs.Calls.{raw_insert}
use Rattle.model.specs.Needs.{deleting}
use Rattle.model.specs.Lent.{left}
use Rattle.model.specs.Return.{goes, comes, end_one, set_one, reached, through}
use Rattle.model.specs.Entry.{enter_pair}
use Rattle.model.specs.Remade.{small, Ends as EndsBy, Sets as SetsBy, ended, asked}
use Rattle.model.proofs.lists.Lists.{both_true}
use Rattle.model.proofs.tree.Local.{those-append}
use Rattle.model.proofs.turning.Returned.{Runs, Steps as StepsOf, delete-is, set_is, end_step, set-step, ends-run, sets-run}
use Rattle.update.specs.Single.{Enters, Ends}
use Rattle.differ.specs.Merge.{told}
use Rattle.back.specs.Pass.{wants, step, passed}
use Rattle.back.proofs.laws.Single.{absent, present}
use Rattle.convert.specs.Ready.{UpdateOpen, shown, Went}
use Rattle.convert.proofs.laws.Ready.{ready-sound, went-none, went-by}
use Rattle.convert.specs.Due.{Steps, Due}

-- ---- the first of them, and the rest

split : (insert : Bool) (us : List Pair) (cs ds : List Delta) (vs : List Pair) → Steps insert us (cs ++ ds) vs
    → (m : List Pair) × Steps insert us cs m × Steps insert m ds vs
split true us [] ds vs e = (us, refl, e)
split false us [] ds vs e = (us, refl, e)
split true us (c ∷ cs) ds vs (p, q, r) = let (m, x, y) = split true (enter_pair (asked c) us) cs ds vs r in (m, (p, q, x), y)
split false us (c ∷ cs) ds vs (p, q, r) = let (m, x, y) = split false (ended c us) cs ds vs r in (m, (p, q, x), y)

module _ (insert : Bool) (us : List Pair) (cs ds : List Delta) (p : Due insert us (cs ++ ds)) where
  pub parts : (m : List Pair) × Steps insert us (those (wants insert) cs) m × Steps insert m (those (wants insert) ds) p.after
  parts =
      split insert us (those (wants insert) cs) (those (wants insert) ds) p.after
      (subst (λ (es : List Delta). Steps insert us es p.after) (those-append (wants insert) cs ds) p.due)

  pub due-first : Due insert us cs
  due-first = record { after = parts.0; due = parts.1 }

  pub due-rest : Due insert parts.0 ds
  due-rest = record { after = p.after; due = parts.2 }

-- ---- done, they leave what they say

module _ {l : Limits} {b : List ℕ} (g : UpdateOpen l b) where
  abbrev t : Store
  t = decode l.least b

  pub due-runs : (insert : Bool) (ds : List Delta) (p : Due insert (shown l b) ds)
      → Runs l.least (decode l.least b) p.after (passed insert l.least ds (decode l.least b))
  due-runs true ds p = sets-run l.least g.edition.four (those comes ds) t (ready-sound g) g.opened p.after p.due
  due-runs false ds p = ends-run l.least g.edition.four (those goes ds) t (ready-sound g) g.opened p.after p.due

  pub due-done : (insert : Bool) (ds : List Delta) (p : Due insert (shown l b) ds) (b' : List ℕ)
      → passed insert l.least ds (decode l.least b) ≡ reached (decode l.least b') → shown l b' ≡ p.after
  due-done insert ds p b' e = (subst (Runs l.least t p.after) e (due-runs insert ds p)).openly

  pub due-on : (insert : Bool) (cs ds : List Delta) → Due insert (shown l b) (cs ++ ds) → (b' : List ℕ)
      → passed insert l.least cs (decode l.least b) ≡ reached (decode l.least b')
      → Due insert (shown l b') ds
  unfolding due-first parts
  due-on insert cs ds p b' e =
      subst (λ (us : List Pair). Due insert us ds) (sym (due-done insert cs (due-first insert (shown l b) cs ds p) b' e))
      (due-rest insert (shown l b) cs ds p)

  -- ---- one of them

  not-told : (d : Delta) (f : Delta → Bool) → d.kind ≡ 3 → those f (told d) ≡ []
  not-told d f e = rw (eq-eqb d.kind 3 e)

  none-asked : (d : Delta) (insert : Bool) → those (wants insert) (told d) ≡ []
      → Went l b 0 (passed insert l.least (told d) (decode l.least b))
  none-asked d insert z =
      subst (λ (ds : List Delta). Went l b 0 (through (step insert l.least) ds t)) (sym z) (went-none g (step insert l.least))

  module _ (d : Delta) where
    pub end-added : d.kind ≡ 0 → Went l b 0 (passed false l.least (told d) (decode l.least b))
    end-added z = none-asked d false (rw z)

    pub end_same : d.kind ≡ 3 → Went l b 0 (passed false l.least (told d) (decode l.least b))
    end_same z = none-asked d false (not-told d goes z)

    pub set-removed : d.kind ≡ 1 → Went l b 0 (passed true l.least (told d) (decode l.least b))
    set-removed z = none-asked d true (rw z)

    pub set_same : d.kind ≡ 3 → Went l b 0 (passed true l.least (told d) (decode l.least b))
    set_same z = none-asked d true (not-told d comes z)

    -- a delete
    module _ (p : Due false (shown l b) (told d)) (m : d.kind ≡ 0 → ⊥) (n : d.kind ≡ 3 → ⊥) where
      one_end : those goes (told d) ≡ d ∷ []
      one_end = rw (ne_eqb d.kind 3 n, ne_eqb d.kind 0 m)

      end-due : EndsBy small (shown l b) (d ∷ []) p.after
      end-due = subst (λ (ds : List Delta). EndsBy small (shown l b) ds p.after) one_end p.due

      end_low : d.key < key_limit
      end_low = ltb-true d.key key_limit (both_true (ltb d.key key_limit) _ end-due.0).0

      pub ends : Ends l b d.key
      ends = record {
        edition = g.edition;
        sound = g.sound;
        opened = g.opened;
        key = end_low;
        present = present l.least g.edition.four t (ready-sound g) g.opened d.key end_low end-due.1;
      }

      pub end-went : (r : ℕ) (b' : List ℕ) → r ≡ (left l.least b
          (update l.least (decode l.least b) d.key (deleting d.key))).number
          → b' ≡ (left l.least b (update l.least (decode l.least b) d.key (deleting d.key))).store
          → Went l b' r (passed false l.least (told d) (decode l.least b))
      end-went r b' x y =
          let is = delete-is l.least g.edition.four t (ready-sound g) g.opened d.key end_low end-due.1 in
          subst (λ (ds : List Delta). Went l b' r (through (end_one l.least) ds t)) (sym one_end)
          (went-by g (end_one l.least) d (ended d (shown l b)) (update l.least t d.key (deleting d.key)) is
          (subst (StepsOf l.least t (ended d (shown l b))) is
          (end_step l.least g.edition.four t (ready-sound g) g.opened d end-due.0 end-due.1)) r b' x y)

    -- an insert, bench keys too
    module _ (p : Due true (shown l b) (told d)) (m : d.kind ≡ 1 → ⊥) (n : d.kind ≡ 3 → ⊥) where
      one_set : those comes (told d) ≡ d ∷ []
      one_set = rw (ne_eqb d.kind 3 n, ne_eqb d.kind 1 m)

      set-due : SetsBy small (shown l b) (d ∷ []) p.after
      set-due = subst (λ (ds : List Delta). SetsBy small (shown l b) ds p.after) one_set p.due

      set-low : d.key < key_limit
      set-low = ltb-true d.key key_limit (both_true (ltb d.key key_limit) _ set-due.0).0

      pub enters : Enters l b d.key
      enters = record {
        edition = g.edition;
        sound = g.sound;
        opened = g.opened;
        key = set-low;
        absent = absent l.least g.edition.four t (ready-sound g) g.opened d.key set-low set-due.1;
      }

      pub set-went : (r : ℕ) (b' : List ℕ) → r ≡ (left l.least b (raw_insert l.least (decode l.least b) d.key d.new)).number
          → b' ≡ (left l.least b (raw_insert l.least (decode l.least b) d.key d.new)).store
          → Went l b' r (passed true l.least (told d) (decode l.least b))
      set-went r b' x y =
          let is = set_is l.least g.edition.four t (ready-sound g) g.opened d set-low set-due.1 in
          subst (λ (ds : List Delta). Went l b' r (through (set_one l.least) ds t)) (sym one_set)
          (went-by g (set_one l.least) d _ (raw_insert l.least t d.key d.new) is
          (subst (StepsOf l.least t _) is
          (set-step l.least g.edition.four t (ready-sound g) g.opened d set-due.0 set-due.1)) r b' x y)
