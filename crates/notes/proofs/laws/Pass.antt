-- Laws about notes/specs/Pass. Assumes nothing.
use Prim.Native.Nat.{ℕ, zero, suc, ◌+◌, ◌-◌, ◌<◌, ◌≤◌}
use native.Mathlib.Omega.{arith}
use mathlib.Core.Bool.{Bool, true, false, ◌&&◌, and-true, and_self, and_assoc}
use mathlib.Core.Path.{◌≡◌, refl, ap, ap₂, sym, ◌∙◌}
use mathlib.Core.List.{List}
use lib.Dec.{leb}
use Rattle.model.specs.Basic.{pick, all, count}
use Rattle.model.specs.Entry.{alive}
use Rattle.model.specs.Page.{Page}
use Rattle.model.specs.Store.{Store}
use Rattle.model.specs.Walk.{root_at, height_of, key_limit}
use Rattle.model.specs.Sound.{rule4, rule5, versions}
use Rattle.model.proofs.lists.Lists.{both_true}
use Rattle.notes.specs.declared.Note.{Note}
use Rattle.notes.specs.Notes.{note_at, low_fine, keys_by, full_by}
use Rattle.notes.proofs.laws.Notes.{root_note}
use Rattle.notes.proofs.laws.Laws.{note-still, note-later}
use Rattle.notes.proofs.laws.Versions.{keys_at, full_at, four-by, five-by}
use Rattle.notes.specs.Pass.{keys_on, full_on, told}

-- ---- all versions from v on

count-split : (f : ℕ → Bool) (v k m : ℕ) → all f (count v (k + m)) ≡ (all f (count v k) && all f (count (v + k) m))
count-split f v zero m = let a : 0 + m ≡ m = omega arith in let b : v + 0 ≡ v = omega arith in rw (a, b)
count-split f v (suc k) m =
    let a : suc k + m ≡ suc (k + m) = omega arith in
    let b : v + suc k ≡ suc v + k = omega arith in
    rw (a, b, count-split f (suc v) k m) (sym (and_assoc (f v) (all f (count (suc v) k)) (all f (count (suc v + k) m))))

pub count-ext : (f g : ℕ → Bool) (v k : ℕ) → ((x : ℕ) → v ≤ x → x < v + k → f x ≡ g x) → all f (count v k) ≡ all g (count v k)
count-ext f g v zero e = refl
count-ext f g v (suc k) e = ap₂ ◌&&◌ (e v (omega arith) (omega arith)) (count-ext f g (suc v) k (λ x a b. e x (omega arith) (omega arith)))

pub run-stretch : (f : ℕ → Bool) (v q end : ℕ) → v ≤ q → q ≤ end
    → all f (count v (end - v)) ≡ (all f (count v (q - v)) && all f (count q (end - q)))
run-stretch f v q end low high =
    let a : end - v ≡ (q - v) + (end - q) = omega arith in
    let b : v + (q - v) ≡ q = omega arith in
    rw a (rw b at (count-split f v (q - v) (end - q)))

pub run-fails : (f : ℕ → Bool) (v end : ℕ) → v < end → f v ≡ false → all f (count v (end - v)) ≡ false
run-fails f v end lt e = let a : end - v ≡ suc (end - v - 1) = omega arith in rw (a, e)

pub run_ends : (f : ℕ → Bool) (v end : ℕ) → end ≤ v → all f (count v (end - v)) ≡ true
run_ends f v end le = let a : end - v ≡ 0 = omega arith in rw a

-- versions that answer alike
alike : (f : ℕ → Bool) (b : Bool) (v k : ℕ) → ((x : ℕ) → v ≤ x → x < v + suc k → f x ≡ b) → all f (count v (suc k)) ≡ b
alike f b v zero e = ap (λ (c : Bool). c && true) (e v (omega arith) (omega arith)) ∙ and-true b
alike f b v (suc k) e =
    ap₂ ◌&&◌ (e v (omega arith) (omega arith)) (alike f b (suc v) k (λ x l h. e x (omega arith) (omega arith))) ∙ and_self b

pub run-alike : (f : ℕ → Bool) (v q end : ℕ) → v < q → q ≤ end → ((x : ℕ) → v ≤ x → x < q → f x ≡ f v)
    → all f (count v (end - v)) ≡ (f v && all f (count q (end - q)))
run-alike f v q end low high e =
    let a : q - v ≡ suc (q - v - 1) = omega arith in
    run-stretch f v q end (omega arith) high
    ∙ ap (λ (b : Bool). b && all f (count q (end - q)))
    (ap (λ (k : ℕ). all f (count v k)) a ∙ alike f (f v) v (q - v - 1) (λ x l h. e x l (omega arith)))

-- ---- versions that have one root

module _ (least up : ℕ) (ps : List Page) (root : ℕ) where
  pub keys_on_lem : (v : ℕ) (x : Note) → x ≡ note_at least up ps v root → keys_by up x ≡ keys_on least up ps root v
  unfolding keys_on
  keys_on_lem v x e = ap (keys_by up) e

  pub full-on : (v : ℕ) (x : Note) → x ≡ note_at least up ps v root → full_by least up x ≡ full_on least up ps root v
  unfolding full_on
  full-on v x e = ap (full_by least up) e

  -- a root that holds rule 4 has a note that holds for more than nothing
  pub until-later : (v : ℕ) (x : Note) → x ≡ note_at least up ps v root → v < alive → keys_by up x ≡ true → v < x.until
  until-later v x e low h =
      let k = (both_true x.keys (low_fine up 0 x) (both_true (x.keys && low_fine up 0 x) (leb x.high key_limit) h).0).0 in
      rw e (note-later least up ps v root low (rw e at k))

  module _ (v q end : ℕ) (x : Note) (e : x ≡ note_at least up ps v root) (low : v < q) (high : q ≤ end) (holds : q ≤ x.until) where
    still : (w : ℕ) → v ≤ w → w < q → note_at least up ps w root ≡ note_at least up ps v root
    still w a b = note-still least up ps v w root a (rw e at (le w b))
      where
        le : (w : ℕ) → w < q → w < x.until
        le w b = omega arith

    pub keys-run : all (keys_on least up ps root) (count v (end - v))
        ≡ (keys_on least up ps root v && all (keys_on least up ps root) (count q (end - q)))
    unfolding keys_on
    keys-run = run-alike (keys_on least up ps root) v q end low high (λ w a b. ap (keys_by up) (still w a b))

    pub full-run : all (full_on least up ps root) (count v (end - v))
        ≡ (full_on least up ps root v && all (full_on least up ps root) (count q (end - q)))
    unfolding full_on
    full-run = run-alike (full_on least up ps root) v q end low high (λ w a b. ap (full_by least up) (still w a b))

-- ---- by the root of each version

module _ (least : ℕ) (s : Store) (up root v c : ℕ) (height : height_of s.pages root ≡ up)
    (roots : (x : ℕ) → v ≤ x → x < c → root ≡ root_at s.slots x) where
  at-root : (x : ℕ) → v ≤ x → x < c → root_note least s x ≡ note_at least up s.pages x root
  at-root x a b =
      ap (λ (n : ℕ). note_at least (height_of s.pages n) s.pages x n) (sym (roots x a b))
      ∙ ap (λ (u : ℕ). note_at least u s.pages x root) height

  at_up : (x : ℕ) → v ≤ x → x < c → height_of s.pages (root_at s.slots x) ≡ up
  at_up x a b = ap (height_of s.pages) (sym (roots x a b)) ∙ height

  pub keys-stretch : v ≤ c → all (keys_at least s) (count v (c - v)) ≡ all (keys_on least up s.pages root) (count v (c - v))
  unfolding keys_at keys_on
  keys-stretch l =
      count-ext (keys_at least s) (keys_on least up s.pages root) v (c - v)
      (λ x a b. ap₂ keys_by (at_up x a (omega arith)) (at-root x a (omega arith)))

  pub full-stretch : v ≤ c → all (full_at least s) (count v (c - v)) ≡ all (full_on least up s.pages root) (count v (c - v))
  unfolding full_at full_on
  full-stretch l =
      count-ext (full_at least s) (full_on least up s.pages root) v (c - v)
      (λ x a b. ap₂ (full_by least) (at_up x a (omega arith)) (at-root x a (omega arith)))

pub told-rules : (least : ℕ) (s : Store) → told (all (keys_at least s) (versions s)) (all (full_at least s) (versions s))
    ≡ told (rule4 s) (rule5 least s)
told-rules least s = at (all (keys_at least s) (versions s)) refl ∙ ap (λ (b : Bool). told b (rule5 least s)) (sym (four-by least s))
  where
    at : (b : Bool) → all (keys_at least s) (versions s) ≡ b → told b (all (full_at least s) (versions s)) ≡ told b (rule5 least s)
    at true e = ap (λ (c : Bool). pick c 0 5) (sym (five-by least s e))
    at false e = refl
