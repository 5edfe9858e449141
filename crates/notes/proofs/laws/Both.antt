-- Laws about notes/specs/Both. Assumes nothing.
use Prim.Native.Nat.{ℕ, ◌-◌, ◌≤◌, ◌<◌}
use mathlib.Core.Bool.{Bool, true, false, ◌&&◌, and-false}
use mathlib.Core.Path.{◌≡◌, refl, ap, ap₂, sym, ◌∙◌}
use mathlib.Core.List.{List}
use Rattle.model.specs.Basic.{all, count}
use Rattle.model.specs.Page.{Page}
use Rattle.model.specs.Store.{Store}
use Rattle.model.specs.Walk.{root_at, height_of}
use Rattle.model.specs.Sound.{versions, rule4, rule5}
use Rattle.model.proofs.lists.Lists.{both_true}
use Rattle.notes.specs.declared.Note.{Note}
use Rattle.notes.specs.Notes.{note_at, keys_by, full_by}
use Rattle.notes.proofs.laws.Versions.{keys_at, full_at, four-by, five-by}
use Rattle.notes.specs.Pass.{keys_on, full_on}
use Rattle.notes.proofs.laws.Pass.{keys_on_lem, full-on, run-fails, run_ends, run-stretch, keys-stretch, full-stretch}
use Rattle.notes.proofs.laws.Over.{keys-next, full-next}
use Rattle.notes.specs.Both.{both_on}

-- ---- the versions from v up to, not including, c, which have one root

module _ (least up : ℕ) (ps : List Page) (root : ℕ) where
  pub both_ends : (v c : ℕ) → c ≤ v → both_on least up ps root v c ≡ true
  unfolding both_on
  both_ends v c l = ap₂ ◌&&◌ (run_ends (keys_on least up ps root) v c l) (run_ends (full_on least up ps root) v c l)

  module _ (v c : ℕ) (x : Note) (e : x ≡ note_at least up ps v root) where
    pub both-fails : v < c → (keys_by up x && full_by least up x) ≡ false → both_on least up ps root v c ≡ false
    unfolding both_on
    both-fails l h = at (keys_by up x) refl
      where
        at : (b : Bool) → keys_by up x ≡ b
            → (all (keys_on least up ps root) (count v (c - v)) && all (full_on least up ps root) (count v (c - v))) ≡ false
        at true k =
            ap (λ (b : Bool). all (keys_on least up ps root) (count v (c - v)) && b)
            (run-fails (full_on least up ps root) v c l
            (sym (full-on least up ps root v x e) ∙ ap (λ (b : Bool). b && full_by least up x) (sym k) ∙ h))
            ∙ and-false (all (keys_on least up ps root) (count v (c - v)))
        at false k =
            ap (λ (b : Bool). b && all (full_on least up ps root) (count v (c - v)))
            (run-fails (keys_on least up ps root) v c l (sym (keys_on_lem least up ps root v x e) ∙ k))

    pub both-next : (q : ℕ) → v < q → q ≤ c → q ≤ x.until → (keys_by up x && full_by least up x) ≡ true
        → both_on least up ps root v c ≡ both_on least up ps root q c
    unfolding both_on
    both-next q low high holds h =
        let (k, f) = both_true (keys_by up x) (full_by least up x) h in
        ap₂ ◌&&◌ (keys-next least up ps root v q c x e low high holds _ refl k)
        (full-next least up ps root v q c x e low high holds _ true true refl (sym f))

-- ---- by the root of each version

module _ (least : ℕ) (s : Store) where
  unfoldable pub both_at : ℕ → ℕ → Bool
  both_at v end = all (keys_at least s) (count v (end - v)) && all (full_at least s) (count v (end - v))

  pub both-slot : (up root v c end : ℕ) → height_of s.pages root ≡ up → ((x : ℕ) → v ≤ x → x < c → root ≡ root_at s.slots x) → v ≤ c
      → c ≤ end → both_at v end ≡ (both_on least up s.pages root v c && both_at c end)
  unfolding both_on both_at
  both-slot up root v c end height roots low high =
      ap₂ ◌&&◌
      (run-stretch (keys_at least s) v c end low high
      ∙ ap (λ (b : Bool). b && all (keys_at least s) (count c (end - c))) (keys-stretch least s up root v c height roots low))
      (run-stretch (full_at least s) v c end low high
      ∙ ap (λ (b : Bool). b && all (full_at least s) (count c (end - c))) (full-stretch least s up root v c height roots low))
      ∙ pairs (all (keys_on least up s.pages root) (count v (c - v))) (all (keys_at least s) (count c (end - c)))
      (all (full_on least up s.pages root) (count v (c - v))) (all (full_at least s) (count c (end - c)))
    where
      pairs : (a x b y : Bool) → (a && x && (b && y)) ≡ (a && b && (x && y))
      pairs true x true y = refl
      pairs true x false y = and-false x
      pairs false x b y = refl

  pub both-done : (v end : ℕ) → end ≤ v → both_at v end ≡ true
  unfolding both_at
  both-done v end l = ap₂ ◌&&◌ (run_ends (keys_at least s) v end l) (run_ends (full_at least s) v end l)

  pub both-rules : (old end : ℕ) → count old (end - old) ≡ versions s → both_at old end ≡ (rule4 s && rule5 least s)
  unfolding both_at
  both-rules old end e =
      rw e (at (all (keys_at least s) (versions s)) refl) ∙ ap (λ (b : Bool). b && rule5 least s) (sym (four-by least s))
    where
      at : (b : Bool) → all (keys_at least s) (versions s) ≡ b → (b && all (full_at least s) (versions s)) ≡ (b && rule5 least s)
      at true k = sym (five-by least s k)
      at false k = refl
