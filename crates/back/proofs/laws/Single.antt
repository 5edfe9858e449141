-- A single step of a return on a sound store with an update open: it is the change of the call of that name, and what that leaves.
-- Assumes nothing.
use Prim.Native.Nat.{ℕ, ◌+◌, ◌^◌, ◌≤◌, ◌<◌}
use native.Mathlib.Omega.{arith}
use mathlib.Core.Bool.{Bool, true, false, ◌||◌, not}
use mathlib.Core.Option.{none}
use mathlib.Core.Path.{◌≡◌, refl, ap, sym, ◌∙◌}
use mathlib.Core.List.{List, [], ◌∷◌}
use lib.Dec.{leb, ltb, eqb}
use borrow.Author.Tests.{lt-leb, eqb-true}
use Rattle.model.specs.Basic.{those, keep, has}
use Rattle.model.specs.declared.Pair.{Pair}
use Rattle.model.specs.declared.Delta.{Delta}
use Rattle.model.specs.Entry.{pair, enter_pair, placed}
use Rattle.model.specs.Page.{Change}
use Rattle.model.specs.Store.{Store, next, last, last_of}
use Rattle.model.specs.Walk.{find, lookup, settings, key_limit}
use Rattle.model.specs.Climb.{Result, done, refused, update}
use Rattle.model.specs.Calls.{is_some, raw_insert, delete}
use Rattle.model.specs.Needs.{deleting}
use Rattle.model.specs.Return.{set_one}
use Rattle.model.specs.ByRule.{Sound}
use Rattle.model.proofs.lists.Members.{true-holds}
use Rattle.model.proofs.sound.ByRule.{to-tests, old-current}
use Rattle.model.proofs.reading.Lookups.{lookup-is}
use Rattle.model.proofs.tree.Local.{applied}
use Rattle.model.proofs.tree.UpdateChanges.{Changed}
use Rattle.model.proofs.tree.Edit.{keep_all}
use Rattle.model.proofs.sound.Ready.{raw-changes, delete-changes}
use Rattle.model.proofs.kept.Preserve.{Sounds, raw-keeps, delete-keeps}
use Rattle.model.proofs.reading.Alike.{alike-settings}
use Rattle.update.proofs.laws.Single.{delete-is}
use Rattle.cursor.specs.First.{at_or_above}

-- what a change at key k leaves: behind the key the open version shows what it did, and earlier versions are as before
pub record Left (least : ℕ) (s : Store) (k : ℕ) (t : Store) : Type 0 where
  pub is-sound : Sound least t
  pub opened : t.opened ≡ true
  pub current : t.current ≡ s.current
  pub openly : at_or_above (k + 1) (settings t (next s)) ≡ at_or_above (k + 1) (settings s (next s))
  pub oldest : t.oldest ≡ s.oldest
  pub earlier : (u : ℕ) → s.oldest ≤ u → u ≤ s.current → settings t u ≡ settings s u

behind-drop : (k : ℕ) (us : List Pair) → at_or_above (k + 1) (those (λ (y : Pair). not (has y.key (k ∷ []))) us) ≡ at_or_above (k + 1) us
behind-drop k [] = refl
behind-drop k (x ∷ us) = at (eqb x.key k) refl (behind-drop k us)
  where
    at : (b : Bool) → eqb x.key k ≡ b → at_or_above (k + 1) (those (λ (y : Pair). not (has y.key (k ∷ []))) us) ≡ at_or_above (k + 1) us
        → at_or_above (k + 1) (keep (not (b || false)) x (those (λ (y : Pair). not (has y.key (k ∷ []))) us))
        ≡ keep (leb (k + 1) x.key) x (at_or_above (k + 1) us)
    at true e ih =
        ih ∙ sym (ap (λ (c : Bool). keep c x (at_or_above (k + 1) us)) (lt-leb (k + 1) x.key (omega (arith, eqb-true x.key k e))))
    at false e ih = ap (keep (leb (k + 1) x.key) x) ih

behind-enter : (p : Pair) (us : List Pair) → at_or_above (p.key + 1) (enter_pair p us) ≡ at_or_above (p.key + 1) us
behind-enter p [] = ap (λ (c : Bool). keep c p []) (lt-leb (p.key + 1) p.key (omega arith))
behind-enter p (x ∷ us) = at (ltb p.key x.key) (behind-enter p us)
  where
    at : (b : Bool) → at_or_above (p.key + 1) (enter_pair p us) ≡ at_or_above (p.key + 1) us
        → at_or_above (p.key + 1) (placed b p x us (enter_pair p us)) ≡ at_or_above (p.key + 1) (x ∷ us)
    at true ih = ap (λ (c : Bool). keep c p (at_or_above (p.key + 1) (x ∷ us))) (lt-leb (p.key + 1) p.key (omega arith))
    at false ih = ap (keep (leb (p.key + 1) x.key) x) ih

module _ (least : ℕ) (four : 4 ≤ least) (s : Store) (d : Sound least s) (o : s.opened ≡ true) (k : ℕ) (low : k < key_limit) where
  two : 2 ≤ least
  two = omega arith

  leaves : (c : Change) → ((us : List Pair) → at_or_above (k + 1) (applied c us) ≡ at_or_above (k + 1) us) → (r : Result)
      → Sounds least four s d o r → Changed s c r
      → (t : Store) → r ≡ done t → Left least s k t
  leaves c behind (refused n) f e t q = absurd (never (ap is-done q))
    where
      is-done : Result → ℕ
      is-done (done u) = 1
      is-done (refused m) = 0

      never : ◌≡◌ {A = ℕ} 0 1 → ⊥
      never z = omega arith
  leaves c behind (done t') f e t q =
      rw (sym (is t' t q)) (record {
        is-sound = f.sound-now;
        opened = f.opened ∙ o;
        current = f.current;
        openly = ap (at_or_above (k + 1)) e ∙ behind (settings s (next s));
        oldest = f.oldest;
        earlier = λ u g h. alike-settings s u t' u (f.steady u g (omega arith));
      })
    where
      store_of : Result → Store
      store_of (done u) = u
      store_of (refused m) = t'

      is : (u v : Store) → done u ≡ done v → u ≡ v
      is u v z = ap store_of z

  at_open : lookup s k (next s) ≡ find k (settings s (next s))
  at_open =
      let e : last s ≡ next s = ap (λ (b : Bool). last_of b s.current) o in
      lookup-is least two s d k (next s) low (omega (arith, old-current least s d.old-low))

  -- an insert of a key that is not alive
  module _ (away : find k (settings s (next s)) ≡ none) where
    pub absent : is_some (lookup s k (next s)) ≡ false
    absent = ap is_some (at_open ∙ away)

    pub set-left : (x : ℕ) → x < 2 ^ 32 → (t : Store) → raw_insert least s k x ≡ done t → Left least s k t
    set-left x small =
        leaves (record { drop = []; take = pair k x ∷ [] })
        (λ us. ap (λ (ws : List Pair). at_or_above (k + 1) (enter_pair (pair k x) ws)) (keep_all us) ∙ behind-enter (pair k x) us)
        (raw_insert least s k x) (raw-keeps least four s d o k x low (at_open ∙ away) small)
        (raw-changes least two s (true-holds _ (to-tests least s d)) o k x low (at_open ∙ away))

  -- a delete of one that is
  module _ (here : is_some (find k (settings s (next s))) ≡ true) where
    pub present : is_some (lookup s k (next s)) ≡ true
    present = ap is_some at_open ∙ here

    pub end-left : (t : Store) → update least s k (deleting k) ≡ done t → Left least s k t
    end-left t q =
        leaves (record { drop = k ∷ []; take = [] }) (behind-drop k) (delete least s k) (delete-keeps least four s d o k)
        (delete-changes least two s (true-holds _ (to-tests least s d)) k)
        t (delete-is least s k low o present ∙ q)

    -- an insert over it is refused
    pub set-over : (z : Delta) → z.key ≡ k → set_one least s z ≡ refused 10
    unfolding set_one
    set-over z e = rw (e, lt-leb key_limit k low, o, present)
