-- Rules 4 and 5 at a version, by the note of its root, and at the versions of a stretch. Assumes nothing.
use Prim.Native.Nat.{ℕ, ◌≤◌, ◌<◌}
use mathlib.Core.Bool.{Bool, true, false, ◌&&◌}
use mathlib.Core.Path.{◌≡◌, refl, ap, sym, ◌∙◌}
use mathlib.Core.List.{List, [], ◌∷◌}
use lib.Dec.{leb}
use lib.ListN.{length}
use borrow.Author.Tests.{leb-true}
use Rattle.model.specs.Basic.{all}
use Rattle.model.specs.Page.{pairs_at}
use Rattle.model.specs.Store.{Store, page}
use Rattle.model.specs.Walk.{seen, root_at, height_of, key_limit, seen_under}
use Rattle.model.specs.Sound.{keys_ok, fewest, versions, rule4, rule5}
use Rattle.model.specs.ByRule.{enough}
use Rattle.model.proofs.lists.Lists.{both_true}
use Rattle.notes.specs.declared.Note.{Note}
use Rattle.notes.specs.Notes.{note_at, low_fine, keys_by, full_by}
use Rattle.notes.proofs.laws.Notes.{root_note}
use Rattle.notes.proofs.laws.Laws.{note-still}
use Rattle.notes.proofs.laws.Means.{note-four, note-five, note-says}

module _ (least : ℕ) (s : Store) where
  abbrev pub root_of : ℕ → ℕ
  root_of v = root_at s.slots v

  abbrev pub up_of : ℕ → ℕ
  up_of v = height_of s.pages (root_of v)

  -- rule 4 at version v
  unfoldable pub keys_at : ℕ → Bool
  keys_at v = keys_by (up_of v) (root_note least s v)

  -- rule 5 at version v
  unfoldable pub full_at : ℕ → Bool
  full_at v = full_by least (up_of v) (root_note least s v)

  pub keys-at : (v : ℕ) → all keys_ok (seen s v) ≡ keys_at v
  unfolding keys_at
  keys-at v = note-four least s.pages v (up_of v) true 0 key_limit (root_of v)

  pub full_at_lem : (v : ℕ) → keys_at v ≡ true → all (enough least) (seen s v) ≡ full_at v
  unfolding keys_at full_at
  full_at_lem v h =
      let x : Note = root_note least s v in
      let (kf, l) = both_true (x.keys && low_fine (up_of v) 0 x) (leb x.high key_limit) h in
      let (k, f) = both_true x.keys (low_fine (up_of v) 0 x) kf in
      let g : all (enough least) (seen_under (up_of v) s.pages v key_limit (root_of v)) ≡ x.full
      = note-five least s.pages v (up_of v) (root_of v) key_limit k (leb-true x.high key_limit l) in
      let n : length (pairs_at v (page s.pages (root_of v))) ≡ x.live = sym (note-says least s.pages v (up_of v) (root_of v) k).live in
      ap (λ (b : Bool). leb (fewest least true (up_of v)) (length (pairs_at v (page s.pages (root_of v)))) && b) g
      ∙ ap (λ (m : ℕ). leb (fewest least true (up_of v)) m && x.full) n ∙ swap (leb (fewest least true (up_of v)) x.live) x.full
    where
      swap : (a b : Bool) → (a && b) ≡ (b && a)
      swap true true = refl
      swap true false = refl
      swap false true = refl
      swap false false = refl

  -- The pass over the versions: rule 4 is what the notes say at each, and, where it holds, rule 5.
  pub four-by : rule4 s ≡ all keys_at (versions s)
  unfolding rule4
  four-by = ext (versions s)
    where
      ext : (vs : List ℕ) → all (λ (v : ℕ). all keys_ok (seen s v)) vs ≡ all keys_at vs
      ext [] = refl
      ext (v ∷ vs) = rw (keys-at v, ext vs)

  pub five-by : all keys_at (versions s) ≡ true → rule5 least s ≡ all full_at (versions s)
  unfolding rule5
  five-by h = ext (versions s) h
    where
      ext : (vs : List ℕ) → all keys_at vs ≡ true → all (λ (v : ℕ). all (enough least) (seen s v)) vs ≡ all full_at vs
      ext [] h = refl
      ext (v ∷ vs) h = let (a, b) = both_true (keys_at v) (all keys_at vs) h in rw (full_at_lem v a, ext vs b)

  -- ---- from change to change: the root stands and its note holds, so that the answers are the same

  module _ (v w : ℕ) (late : v ≤ w) (root : root_of w ≡ root_of v) (holds : w < (root_note least s v).until) where
    note-same : root_note least s w ≡ root_note least s v
    note-same =
        ap (λ (n : ℕ). note_at least (height_of s.pages n) s.pages w n) root
        ∙ note-still least (up_of v) s.pages v w (root_of v) late holds

    up_same : up_of w ≡ up_of v
    up_same = ap (height_of s.pages) root

    pub keys-same : keys_at w ≡ keys_at v
    unfolding keys_at
    keys-same = rw (note-same, up_same)

    pub full-same : full_at w ≡ full_at v
    unfolding full_at
    full-same = rw (note-same, up_same)
