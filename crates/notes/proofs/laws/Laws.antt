-- What notes say: the row of a page's entries, and that a note holds until it says. Assumes nothing.
use Prim.Native.Nat.{ℕ, zero, suc, ◌-◌, ◌≤◌, ◌<◌, min}
use native.Mathlib.Omega.{arith}
use mathlib.Core.Bool.{Bool, true, false, ◌&&◌}
use mathlib.Core.Path.{◌≡◌, refl, ap, ◌∙◌}
use mathlib.Core.List.{List, [], ◌∷◌}
use lib.Dec.{leb, ltb}
use borrow.Author.Tests.{le-leb, lt-leb, lt-ltb, le-ltb, ltb-true, ltb-false, leb-true, leb-false}
use Rattle.model.specs.declared.Entry.{Entry}
use Rattle.model.specs.Entry.{alive}
use Rattle.model.specs.Page.{Page}
use Rattle.model.specs.Store.{page}
use Rattle.model.proofs.lists.Lists.{both_true}
use Rattle.notes.specs.declared.Note.{Note}
use Rattle.notes.specs.Notes.{nothing, bad, low_fine, fits, filled, joined_if, joins, step_if, step, row, note_at}

-- ---- a broken note stays so

step-bad : (least up v : ℕ) (e : Entry) (kid : Note) → step least up v bad e kid ≡ bad
step-bad least up v e kid = at (leb e.start v) (ltb v e.end)
  where
    z : min 0 e.start ≡ 0
    z = omega arith

    at : (a b : Bool) → step_if a b least up bad e kid ≡ bad
    at false b = ap (λ (k : ℕ). record { until = k; live = 0; first = 0; high = 0; full = false; keys = false }) z
    at true false = refl
    at true true = refl

pub row-bad : (least up v : ℕ) (f : ℕ → Note) (es : List Entry) → row least up v f bad es ≡ bad
unfolding row
row-bad least up v f [] = refl
row-bad least up v f (e ∷ es) = ap (λ (x : Note). row least up v f x es) (step-bad least up v e (f e.value)) ∙ row-bad least up v f es

-- ---- until when

-- a step never lets a note hold longer
step_less : (least up v : ℕ) (x : Note) (e : Entry) (kid : Note) → (step least up v x e kid).until ≤ x.until
step_less least up v x e kid = at (leb e.start v) (ltb v e.end)
  where
    by : (c : Bool) → (joined_if c least up x e kid).until ≤ x.until
    by true = omega arith
    by false = omega arith

    at : (a b : Bool) → (step_if a b least up x e kid).until ≤ x.until
    at false b = omega arith
    at true false = omega arith
    at true true = by (joins up x e kid)

pub row-less : (least up v : ℕ) (f : ℕ → Note) (x : Note) (es : List Entry) → (row least up v f x es).until ≤ x.until
unfolding row
row-less least up v f x [] = omega arith
row-less least up v f x (e ∷ es) =
    omega (arith, row-less least up v f (step least up v x e (f e.value)) es, step_less least up v x e (f e.value))

-- the notes of the pages below stay as they are until they say
abbrev pub Stays : ℕ → (ℕ → Note) → (ℕ → Note) → Type 0
Stays w f g = (m : ℕ) → w < (f m).until → g m ≡ f m

module _ (least up v w : ℕ) (late : v ≤ w) where
  step-still : (x : Note) (e : Entry) (kid other : Note) → (w < kid.until → other ≡ kid) → w < (step least up v x e kid).until
      → step least up w x e other ≡ step least up v x e kid
  step-still x e kid other same h = at (leb e.start v) refl (ltb v e.end) refl h
    where
      by : (c : Bool) → joins up x e kid ≡ c → w < (joined_if c least up x e kid).until → (w < e.end) × (w < kid.until)
      by true q l = (omega arith, omega arith)
      by false q l = absurd (omega arith)

      at : (a : Bool) → leb e.start v ≡ a → (b : Bool) → ltb v e.end ≡ b → w < (step_if a b least up x e kid).until
          → step least up w x e other ≡ step_if a b least up x e kid
      at false p b q l = rw (lt-leb e.start w (omega arith))
      at true p false q l =
          rw (le-leb e.start w (omega (arith, leb-true e.start v p)), le-ltb w e.end (omega (arith, ltb-false v e.end q)))
      at true p true q l =
          let (y, z) = by (joins up x e kid) refl l in
          rw (le-leb e.start w (omega (arith, leb-true e.start v p)), lt-ltb w e.end y, same z)

  pub row-still : (f g : ℕ → Note) → Stays w f g → (x : Note) (es : List Entry) → w < (row least up v f x es).until
      → row least up w g x es ≡ row least up v f x es
  unfolding row
  row-still f g same x [] h = refl
  row-still f g same x (e ∷ es) h =
      let y = step least up v x e (f e.value) in
      ap (λ (z : Note). row least up w g z es)
      (step-still x e (f e.value) (g e.value) (same e.value) (omega (arith, row-less least up v f y es)))
      ∙ row-still f g same y es h

-- "What stands at and below n is the same": a note holds until it says.
pub note-still : (least up : ℕ) (ps : List Page) (v w n : ℕ) → v ≤ w → w < (note_at least up ps v n).until
    → note_at least up ps w n ≡ note_at least up ps v n
unfolding note_at
note-still least zero ps v w n late h =
    row-still least zero v w late (λ (m : ℕ). nothing) (λ (m : ℕ). nothing) (λ m l. refl) nothing (page ps n).entries h
note-still least (suc up) ps v w n late h =
    row-still least (suc up) v w late (note_at least up ps v) (note_at least up ps w) (λ m l. note-still least up ps v w m late l) nothing
    (page ps n).entries h

-- ---- rule 4 so far

pub wrong : {A : Type 0} → false ≡ true → A
wrong e = absurd (let z : ◌≡◌ {A = ℕ} 0 1 = cc in omega arith)

step-keys : (least up v : ℕ) (x : Note) (e : Entry) (kid : Note) → (step least up v x e kid).keys ≡ true → x.keys ≡ true
step-keys least up v x e kid h = at (leb e.start v) (ltb v e.end) h
  where
    by : (c : Bool) → joins up x e kid ≡ c → (joined_if c least up x e kid).keys ≡ true → x.keys ≡ true
    by true q t =
        (both_true x.keys (leb x.high e.key) (both_true (x.keys && leb x.high e.key) (fits up e.key kid) q).0).0
    by false q t = wrong t

    at : (a b : Bool) → (step_if a b least up x e kid).keys ≡ true → x.keys ≡ true
    at false b t = t
    at true false t = t
    at true true t = by (joins up x e kid) refl t

pub row-keys : (least up v : ℕ) (f : ℕ → Note) (x : Note) (es : List Entry) → (row least up v f x es).keys ≡ true → x.keys ≡ true
unfolding row
row-keys least up v f x [] h = h
row-keys least up v f x (e ∷ es) h =
    step-keys least up v x e (f e.value) (row-keys least up v f (step least up v x e (f e.value)) es h)

-- ---- and no note is spent at once

module _ (least up v : ℕ) (f : ℕ → Note) (kids : (m : ℕ) → (f m).keys ≡ true → v < (f m).until) where
  kid-later : (k : ℕ) → v < k → (u : ℕ) (e : Entry) → fits u e.key (f e.value) ≡ true → (u ≡ 0 → v < (f e.value).until)
      → v < (f e.value).until
  kid-later k l zero e h z = z refl
  kid-later k l (suc u) e h z = kids e.value (both_true (f e.value).keys (low_fine u e.key (f e.value)) h).0

  step-later : (leaf : (m : ℕ) → up ≡ 0 → v < (f m).until) → (x : Note) (e : Entry) → v < x.until
      → (step least up v x e (f e.value)).keys ≡ true → v < (step least up v x e (f e.value)).until
  step-later leaf x e l h = at (leb e.start v) refl (ltb v e.end) refl h
    where
      kid : Note
      kid = f e.value

      by : (c : Bool) → joins up x e kid ≡ c → v < e.end → (joined_if c least up x e kid).keys ≡ true
          → v < (joined_if c least up x e kid).until
      by true q g t =
          let m = kid-later x.until l up e (both_true (x.keys && leb x.high e.key) (fits up e.key kid) q).1
          (leaf e.value) in omega arith
      by false q g t = wrong t

      at : (a : Bool) → leb e.start v ≡ a → (b : Bool) → ltb v e.end ≡ b → (step_if a b least up x e kid).keys ≡ true
          → v < (step_if a b least up x e kid).until
      at false p b q t = let z = leb-false e.start v p in omega arith
      at true p false q t = l
      at true p true q t = by (joins up x e kid) refl (ltb-true v e.end q) t

  pub row-later : (leaf : (m : ℕ) → up ≡ 0 → v < (f m).until) → (x : Note) (es : List Entry) → v < x.until
      → (row least up v f x es).keys ≡ true → v < (row least up v f x es).until
  unfolding row
  row-later leaf x [] l h = l
  row-later leaf x (e ∷ es) l h =
      let y = step least up v x e (f e.value) in
      row-later leaf y es (step-later leaf x e l (row-keys least up v f y es h)) h

pub note-later : (least up : ℕ) (ps : List Page) (v n : ℕ) → v < alive → (note_at least up ps v n).keys ≡ true
    → v < (note_at least up ps v n).until
unfolding note_at
note-later least zero ps v n low h =
    row-later least zero v (λ (m : ℕ). nothing) (λ m q. low) (λ m z. low) nothing (page ps n).entries low h
note-later least (suc up) ps v n low h =
    row-later least (suc up) v (note_at least up ps v) (λ m q. note-later least up ps v m low q) (λ m z. absurd (omega arith)) nothing
    (page ps n).entries low h

-- ---- the page under an entry, where there is one

pub fits-some : (up low : ℕ) (kid : Note) → (up ≡ 0 → ⊥) → fits up low kid ≡ (kid.keys && low_fine (up - 1) low kid)
fits-some zero low kid n = absurd (n refl)
fits-some (suc up) low kid n = let q : up ≡ suc up - 1 = omega arith in ap (λ (u : ℕ). kid.keys && low_fine u low kid) q

pub filled-some : (least up : ℕ) (kid : Note) → (up ≡ 0 → ⊥) → filled least up kid ≡ (kid.full && leb least kid.live)
filled-some least zero kid n = absurd (n refl)
filled-some least (suc up) kid n = refl
