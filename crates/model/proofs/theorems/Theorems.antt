-- The theorems for any sound store, in the words of the tests.
-- Assumes nothing.
use Prim.Native.Nat.{ℕ, suc, ◌≤◌, ◌<◌}
use native.Mathlib.Omega.{arith}
use mathlib.Core.Bool.{Bool, true, false, ◌||◌, not}
use mathlib.Core.Option.{some}
use mathlib.Core.Path.{◌≡◌, refl, ap, sym, ◌∙◌, subst}
use mathlib.Core.Logic.{◌⊎◌, inl, inr, ◌≢◌}
use mathlib.Core.List.{List, [], ◌∷◌}
use lib.Dec.{T, ltb, eqb}
use lib.ListN.{length}
use borrow.Author.Tests.{eqb-true}
use Rattle.model.specs.Basic.{all, has, pick, those, keep, in_order}
use Rattle.model.specs.declared.Pair.{Pair}
use Rattle.model.specs.Entry.{pair, enter_pair}
use Rattle.model.specs.Page.{pairs_at}
use Rattle.model.specs.Store.{Store, page, next, last_of}
use Rattle.model.specs.Walk.{settings, lookup, find, root_at, height_of, Seen, seen, key_limit}
use Rattle.model.specs.Sound.{sound, fewest}
use Rattle.model.specs.Climb.{Result, done, refused, update}
use Rattle.model.specs.Calls.{is_some, raw_insert, insert, delete}
use Rattle.model.specs.Return.{Came, gave, gave_up}
use Rattle.model.specs.Histories.{Call, call_by, after}
use Rattle.model.specs.Settings.{Machine, onward, fits, lent}
use Rattle.model.specs.Inner.{In}
use Rattle.model.specs.ByRule.{Readable, Sound}
use Rattle.model.proofs.lists.Lists.{both_true}
use Rattle.model.proofs.lists.Members.{holds-true, true-holds, not-both}
use Rattle.model.proofs.tree.Edit.{lt, length-enter_pair, keep_all, those-one}
use Rattle.model.proofs.sound.ByRule.{old-current, from-tests, to-tests}
use Rattle.model.proofs.tree.UpdateChanges.{Changed, update-changes}
use Rattle.model.proofs.sound.Walks.{seen-reached}
use Rattle.model.proofs.sound.Ready.{insert-by, delete-by, raw-changes, fit-delete, count-of}
use Rattle.model.proofs.reading.Lookups.{lookup-is, settings-rise}
use Rattle.model.proofs.theorems.History.{one-call}
use Rattle.model.proofs.theorems.Undone.{lent-agrees}

store-after : (s : Store) (m : Machine) (c : Call) (r : Came) → (onward (record { store = s; machine = m }) c r).store ≡ (after s r).store
store-after s m c (gave (done t)) = refl
store-after s m c (gave (refused n)) = refl
store-after s m c (gave_up n t) = refl

-- Every call leaves a sound store sound.
pub call-sound : (least : ℕ) → 4 ≤ least → (s : Store) → T (sound least s) → (c : Call) → T (fits c)
    → T (sound least (after s (call_by least s c)).store)
call-sound least four s sure c h =
    let a = one-call least four (lent s) (lent-agrees least s sure) c (holds-true (fits c) h) in
    subst (λ (t : Store). T (sound least t)) (store-after s (lent s).machine c (call_by least s c))
    (true-holds (sound least (onward (lent s) c (call_by least s c)).store)
    (to-tests least (onward (lent s) c (call_by least s c)).store a.is-sound))

-- Every call shows at each version what the machine has, begun from what the store showed.
pub call-shows : (least : ℕ) → 4 ≤ least → (s : Store) → T (sound least s) → (c : Call) → T (fits c) → (v : ℕ)
    → Readable (onward (lent s) c (call_by least s c)).store v
    → settings (onward (lent s) c (call_by least s c)).store v ≡ (onward (lent s) c (call_by least s c)).machine.shows v
call-shows least four s sure c h v z = (one-call least four (lent s) (lent-agrees least s sure) c (holds-true (fits c) h)).shows v z

-- "Every page that a version reaches, its root aside, holds at least four entries alive at that version."
pub balanced : (least : ℕ) → 2 ≤ least → (s : Store) → T (sound least s) → (v : ℕ) → Readable s v → (x : Seen) → In x (seen s v)
    → x.number ≢ root_at s.slots v → least ≤ length (pairs_at v (page s.pages x.number))
balanced least two s sure v h x i other =
    let r : ℕ = root_at s.slots v in
    at (count-of least two s (from-tests least s (holds-true (sound least s) sure)) v h x.up x.number
    (seen-reached s.pages v (height_of s.pages r) 0 key_limit r true x i).is-reached)
  where
    at : ((x.number ≡ root_at s.slots v) × (fewest least true x.up ≤ length (pairs_at v (page s.pages x.number))))
        ⊎ (least ≤ length (pairs_at v (page s.pages x.number))) → least ≤ length (pairs_at v (page s.pages x.number))
    at (inl z) = absurd (other z.0)
    at (inr z) = z

-- The tests for 10 and 11 are on the settings.
pub alive-is : (least : ℕ) → 2 ≤ least → (s : Store) → T (sound least s) → s.opened ≡ true → (k : ℕ) → k < key_limit
    → is_some (lookup s k (next s)) ≡ is_some (find k (settings s (next s)))
alive-is least two s sure o k low =
    let d = from-tests least s (holds-true (sound least s) sure) in
    ap is_some (lookup-is least two s d k (next s) low
    (omega (arith, old-current least s d.old-low, ap (λ (b : Bool). last_of b s.current) o)))

-- Settings are counted: an insert adds one, a delete takes one.
dropped-exact : (k : ℕ) (us : List Pair) → in_order lt us ≡ true → is_some (find k us) ≡ true
    → length us ≡ suc (length (those (λ (y : Pair). not (has y.key (k ∷ []))) us))
dropped-exact k [] o h = absurd (not-both false h refl)
dropped-exact k (u ∷ us) o h =
    let (a, b) = both_true (all (lt u) us) (in_order lt us) o in
    at (eqb u.key k) refl a h (λ z. dropped-exact k us b z)
  where
    at : (b : Bool) → eqb u.key k ≡ b → all (lt u) us ≡ true → is_some (pick b (some u.value) (find k us)) ≡ true
        → (is_some (find k us) ≡ true → length us ≡ suc (length (those (λ (y : Pair). not (has y.key (k ∷ []))) us)))
        → suc (length us) ≡ suc (length (keep (not (b || false)) u (those (λ (y : Pair). not (has y.key (k ∷ []))) us)))
    at false e a z ih = ap suc (ih z)
    at true e a z ih =
        ap suc (sym (ap (λ (vs : List Pair). length vs)
        (those-one k us (subst (λ (j : ℕ). all (λ (y : Pair). ltb j y.key) us ≡ true) (eqb-true u.key k e) a))))

abbrev pub OneMore : Store → Result → Type 0
OneMore s (done t) = length (settings t (next s)) ≡ suc (length (settings s (next s)))
OneMore s (refused n) = Unit {0}

abbrev pub OneLess : Store → Result → Type 0
OneLess s (done t) = suc (length (settings t (next s))) ≡ length (settings s (next s))
OneLess s (refused n) = Unit {0}

module _ (least : ℕ) (two : 2 ≤ least) (s : Store) (sure : T (sound least s)) where
  d : Sound least s
  d = from-tests least s (holds-true (sound least s) sure)

  more : (k x : ℕ) (r : Result) → Changed s (record { drop = []; take = pair k x ∷ [] }) r → OneMore s r
  more k x (done t) e =
      ap (λ (us : List Pair). length us) (e ∙ ap (enter_pair (pair k x)) (keep_all (settings s (next s))))
      ∙ length-enter_pair (pair k x) (settings s (next s))
  more k x (refused n) e = tt

  less : (k : ℕ) (r : Result) → s.opened ≡ true → is_some (find k (settings s (next s))) ≡ true
      → Changed s (record { drop = k ∷ []; take = [] }) r → OneLess s r
  less k (done t) o h e =
      ap (λ (us : List Pair). suc (length us)) e ∙ sym
      (dropped-exact k (settings s (next s))
      (settings-rise least two s d (next s)
      (omega (arith, old-current least s d.old-low, ap (λ (b : Bool). last_of b s.current) o))) h)
  less k (refused n) o h e = tt

  pub insert-counts : (k x : ℕ) → OneMore s (insert least s k x)
  insert-counts k x =
      insert-by (OneMore s) least s k x (λ n. tt) (λ o low z. more k x (raw_insert least s k x) (raw-changes least two s sure o k x low z))

  pub delete-counts : (k : ℕ) → OneLess s (delete least s k)
  delete-counts k = delete-by (OneLess s) least s k (λ n. tt)
      (λ o low z. less k (update least s k (record { drop = k ∷ []; take = [] })) o (sym (alive-is least two s sure o k low) ∙ z)
      (update-changes least s k (record { drop = k ∷ []; take = [] }) (fit-delete least two s d o k low)))
