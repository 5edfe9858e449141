-- Laws about changes/specs/Updating. Assumes nothing.
use Prim.Native.Nat.{ℕ, ◌+◌, ◌^◌, ◌≤◌, ◌<◌}
use native.Mathlib.Omega.{arith}
use mathlib.Core.Bool.{Bool, true, false, not}
use Rattle.std.specs.Prelude.{Option as Found, Some, None}
use Rattle.std.specs.Option.{is_some as is_some_of}
use mathlib.Core.Path.{◌≡◌, refl, ap, ap₂, sym, ◌∙◌}
use mathlib.Core.List.{List, [], ◌∷◌}
use lib.Dec.{leb}
use borrow.Author.Tests.{le-leb, lt-leb, leb-false, not-false}
use Rattle.model.specs.declared.Limits.{Limits}
use Rattle.model.specs.declared.Header.{Header}
use Rattle.model.specs.Limits.{Edition}
use Rattle.model.specs.Store.{Store, next, last, last_of}
use Rattle.model.specs.Walk.{key_limit, lookup}
use Rattle.model.specs.Layout.{read_header, decode}
use Rattle.model.specs.Judged.{judged, is_sound}
use Rattle.model.specs.Climb.{update}
use Rattle.model.specs.Calls.{is_some, rule, first_of, raw_insert, insert, delete}
use Rattle.model.specs.Refusals.{found_in}
use Rattle.model.specs.Needs.{deleting}
use Rattle.model.specs.Lent.{leaving, left, insert_lent, delete_lent}
use Rattle.model.proofs.sound.ByRule.{old-last}
use Rattle.model.proofs.sound.Judging.{zero-sound}
use Rattle.walk.specs.Down.{Leaf}
use Rattle.walk.specs.Sure.{Walkable}
use Rattle.store.proofs.laws.Sure.{sure}
use Rattle.update.specs.Single.{Enters, Ends}
use Rattle.reads.specs.Guard.{guarded}
use Rattle.reads.proofs.laws.Guard.{chain-number, lent-guard, guard-chain, guard-sound}
use Rattle.changes.proofs.laws.Turning.{Goes, refused-so, done-so, flag, version}
use Rattle.changes.specs.Updating.{speaks, limit_of, updating, against, AtLeaf}

pub limit-low : (b : Bool) → limit_of b ≤ key_limit
limit-low true = omega arith
limit-low false = omega arith

-- the two chains differ in their first test and in their last
updating-is : (b : Bool) (k : ℕ) (s : Store) → rule 5 (leb (limit_of b) k) ∷ rule 7 (not s.opened) ∷ speaks b
    (is_some (lookup s k (next s))) ∷ [] ≡ updating b k s
updating-is true k s = refl
updating-is false k s = refl

-- a walk's answer tells it
pub found-is : (o : Found ℕ) → is_some_of o ≡ is_some (found_in o)
found-is None = refl
found-is (Some x) = refl

module _ (least : ℕ) (b : List ℕ) where
  insert-guard : (k x : ℕ) → Goes least b (insert_lent least b k x) (updating true k) (left least b (raw_insert least (decode least b) k x))
  unfolding insert_lent insert
  insert-guard k x =
      lent-guard least b (updating true k) (λ (s : Store). insert least s k x) (λ (s : Store). raw_insert least s k x)
      (omega arith, (omega arith, (omega arith, tt))) refl

  delete-guard : (k : ℕ) → Goes least b (delete_lent least b k) (updating false k)
      (left least b (update least (decode least b) k (deleting k)))
  unfolding delete_lent delete
  delete-guard k =
      lent-guard least b (updating false k) (λ (s : Store). delete least s k) (λ (s : Store). update least s k (deleting k))
      (omega arith, (omega arith, (omega arith, tt))) refl

  -- by the number that the guard gave
  module _ (k x n : ℕ) (e : n ≡ guarded least b (updating true k)) where
    pub insert-refused : (n ≡ 0 → ⊥) → leaving n b ≡ insert_lent least b k x
    insert-refused z = refused-so least b (insert_lent least b k x) (updating true k) _ (insert-guard k x) n e z

    pub insert-done : n ≡ 0 → (r : ℕ) (b' : List ℕ) → r ≡ (left least b (raw_insert least (decode least b) k x)).number
        → b' ≡ (left least b (raw_insert least (decode least b) k x)).store → leaving r b' ≡ insert_lent least b k x
    insert-done z r b' g h =
        ap₂ leaving g h ∙ done-so least b (insert_lent least b k x) (updating true k) (left least b (raw_insert least (decode least b) k x))
        (insert-guard k x) n e z

  module _ (k n : ℕ) (e : n ≡ guarded least b (updating false k)) where
    pub delete-refused : (n ≡ 0 → ⊥) → leaving n b ≡ delete_lent least b k
    delete-refused z = refused-so least b (delete_lent least b k) (updating false k) _ (delete-guard k) n e z

    pub delete-done : n ≡ 0 → (r : ℕ) (b' : List ℕ) → r ≡ (left least b (update least (decode least b) k (deleting k))).number
        → b' ≡ (left least b (update least (decode least b) k (deleting k))).store → leaving r b' ≡ delete_lent least b k
    delete-done z r b' g h =
        ap₂ leaving g h ∙ done-so least b (delete_lent least b k) (updating false k)
        (left least b (update least (decode least b) k (deleting k))) (delete-guard k) n e z

  -- ---- what the guard gives

  module _ (insert : Bool) (k : ℕ) (j : (judged least b).number ≡ 0) where
    abbrev three : Bool → Bool → ℕ
    three x y = first_of (rule 5 x ∷ rule 7 y ∷ speaks insert (is_some (lookup (decode least b) k (next (decode least b)))) ∷ [])

    chain : (x y : Bool) → leb (limit_of insert) k ≡ x → not (decode least b).opened ≡ y → three x y ≡ guarded least b (updating insert k)
    chain x y e f = sym (ap₂ three e f) ∙ ap first_of (updating-is insert k (decode least b)) ∙ chain-number least b (updating insert k) j

    pub gives_key : limit_of insert ≤ k → 5 ≡ guarded least b (updating insert k)
    gives_key h = chain true (not (decode least b).opened) (le-leb (limit_of insert) k h) refl

    module _ (low : k < limit_of insert) (h : Header) (e : h ≡ read_header least b) where
      pub gives-unopened : h.opened ≡ false → 7 ≡ guarded least b (updating insert k)
      gives-unopened f = chain false true (lt-leb (limit_of insert) k low) (ap not (flag least b j h e false f))

      pub gives-rest : h.opened ≡ true → (alive : Bool) → alive ≡ is_some (lookup (decode least b) k (h.current + 1))
          → against insert alive ≡ guarded least b (updating insert k)
      unfolding against
      gives-rest f alive g =
          let w : h.current + 1 ≡ next (decode least b) = omega (arith, version least b j h e) in
          rw (g, w) (chain false false (lt-leb (limit_of insert) k low) (ap not (flag least b j h e true f)))

-- what the walk for it asks
pub open-readable : {l : Limits} → Edition l → (b : List ℕ) (j : (judged l.least b).number ≡ 0) (h : Header) → h ≡ read_header l.least b
    → h.opened ≡ true
    → (h.current + 1 < 2 ^ 20) × Walkable l b (h.current + 1)
open-readable {l} d b j h e f =
    let q : last (decode l.least b) ≡ h.current + 1
    = ap (λ (x : Bool). last_of x (decode l.least b).current) (flag l.least b j h e true f)
    ∙ omega (arith, version l.least b j h e) in
    let z : is_sound l.least b ≡ true = zero-sound l.least b j in
    let o = old-last l.least (decode l.least b) (sure d b z).old-low in
    (omega (arith, (sure d b z).last-low), record { edition = d; sound = z; version = record { from = omega arith; upto = omega arith } })

-- what it finds
pub open_at : {l : Limits} (b : List ℕ) (j : (judged l.least b).number ≡ 0) (h : Header) → h ≡ read_header l.least b → (k w n : ℕ)
    → w ≡ h.current + 1 → Leaf l b w k n → AtLeaf l b k w n
open_at {l} b j h e k w n f g =
    let q : h.current + 1 ≡ next (decode l.least b) = omega (arith, version l.least b j h e) in
    record { version = f ∙ q; leaf = g }

-- ---- what the guard's 0 says

pub record GuardPassed (insert : Bool) (s : Store) (k : ℕ) : Type 0 where
  pub key : k < limit_of insert
  pub opened : s.opened ≡ true
  pub speaks-not : (speaks insert (is_some (lookup s k (next s)))).holds ≡ false

none-holds : (insert low opened alive : Bool) → first_of (rule 5 low ∷ rule 7 (not opened) ∷ speaks insert alive ∷ []) ≡ 0
    → (low ≡ false) × ((opened ≡ true) × ((speaks insert alive).holds ≡ false))
none-holds insert true opened alive e = absurd (omega arith)
none-holds insert false false alive e = absurd (omega arith)
none-holds true false true true e = absurd (omega arith)
none-holds true false true false e = (refl, (refl, refl))
none-holds false false true true e = (refl, (refl, refl))
none-holds false false true false e = absurd (omega arith)

module _ {l : Limits} (d : Edition l) (b : List ℕ) (k : ℕ) where
  abbrev s : Store
  s = decode l.least b

  pub passed : (insert : Bool) → guarded l.least b (updating insert k) ≡ 0 → GuardPassed insert (decode l.least b) k
  passed insert z =
      let (low, (o, a)) = none-holds insert (leb (limit_of insert) k) s.opened (is_some (lookup s k (next s)))
      (ap first_of (updating-is insert k s) ∙ guard-chain l.least b (updating insert k) z) in
      record { key = leb-false (limit_of insert) k low; opened = o; speaks-not = a }

  -- the core may go
  pub enters : guarded l.least b (updating true k) ≡ 0 → Enters l b k
  enters z =
      let p = passed true z in
      record {
        edition = d;
        sound = guard-sound l.least b (updating true k) z;
        opened = p.opened;
        key = omega (arith, p.key);
        absent = p.speaks-not;
      }

  pub ends : guarded l.least b (updating false k) ≡ 0 → Ends l b k
  ends z =
      let p = passed false z in
      record {
        edition = d;
        sound = guard-sound l.least b (updating false k) z;
        opened = p.opened;
        key = p.key;
        present = not-false (is_some (lookup s k (next s))) p.speaks-not;
      }
