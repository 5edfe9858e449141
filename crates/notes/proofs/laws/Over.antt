-- Laws about notes/specs/Over. Assumes nothing.
use Prim.Native.Nat.{ℕ, ◌-◌, ◌≤◌, ◌<◌}
use mathlib.Core.Bool.{Bool, true, false, ◌&&◌, and-true}
use mathlib.Core.Path.{◌≡◌, refl, ap, ap₂, sym, ◌∙◌}
use mathlib.Core.List.{List}
use Rattle.model.specs.Basic.{all, count, pick}
use Rattle.model.specs.Page.{Page}
use Rattle.model.specs.Store.{Store}
use Rattle.model.specs.Walk.{root_at, height_of}
use Rattle.model.specs.Sound.{versions, rule4, rule5}
use Rattle.notes.specs.declared.Note.{Note}
use Rattle.notes.specs.Notes.{note_at, keys_by, full_by}
use Rattle.notes.proofs.laws.Laws.{wrong}
use Rattle.notes.proofs.laws.Versions.{keys_at, full_at}
use Rattle.notes.specs.Pass.{keys_on, full_on, told}
use Rattle.notes.proofs.laws.Pass.{keys_on_lem, full-on, keys-run, full-run, run-fails, run_ends, run-stretch, keys-stretch}
use Rattle.notes.proofs.laws.Pass.{full-stretch, told-rules}
use Rattle.std.specs.Prelude.{Option, None, Some}
use Rattle.notes.specs.Over.{keys_in, full_in, Over}

and-group : (a b c : Bool) → (a && (b && c)) ≡ (a && b && c)
and-group true b c = refl
and-group false b c = refl

-- ---- from one change to the next, in a stretch that has one root

module _ (least up : ℕ) (ps : List Page) (root v q c : ℕ) (x : Note) (e : x ≡ note_at least up ps v root) (low : v < q) (high : q ≤ c)
    (holds : q ≤ x.until) where
  pub keys-next : (k : Bool) → k ≡ all (keys_on least up ps root) (count v (c - v)) → keys_by up x ≡ true
      → k ≡ all (keys_on least up ps root) (count q (c - q))
  keys-next k h t =
      h ∙ keys-run least up ps root v q c x e low high holds
      ∙ ap (λ (b : Bool). b && all (keys_on least up ps root) (count q (c - q))) (sym (keys_on_lem least up ps root v x e) ∙ t)

  pub full-next : (k f g : Bool) → k ≡ (f && all (full_on least up ps root) (count v (c - v))) → g ≡ (f && full_by least up x)
      → k ≡ (g && all (full_on least up ps root) (count q (c - q)))
  full-next k f g h t =
      h ∙ ap (λ (b : Bool). f && b)
      (full-run least up ps root v q c x e low high holds
      ∙ ap (λ (b : Bool). b && all (full_on least up ps root) (count q (c - q))) (sym (full-on least up ps root v x e)))
      ∙ and-group f (full_by least up x) (all (full_on least up ps root) (count q (c - q)))
      ∙ ap (λ (b : Bool). b && all (full_on least up ps root) (count q (c - q))) (sym t)

module _ (least up : ℕ) (ps : List Page) (root a v c : ℕ) where
  pub over-broken : (x : Note) → x ≡ note_at least up ps v root → v < c
      → all (keys_on least up ps root) (count a (c - a)) ≡ all (keys_on least up ps root) (count v (c - v)) → keys_by up x ≡ false
      → Over least up ps root a c None
  over-broken x e l h t = record {
    keys = sym (h ∙ run-fails (keys_on least up ps root) v c l (sym (keys_on_lem least up ps root v x e) ∙ t));
    full = λ w. wrong w;
  }

  pub over-whole : (f : Bool) → c ≤ v → all (keys_on least up ps root) (count a (c - a)) ≡ all (keys_on least up ps root) (count v (c - v))
      → all (full_on least up ps root) (count a (c - a)) ≡ (f && all (full_on least up ps root) (count v (c - v)))
      → Over least up ps root a c (Some f)
  over-whole f l h g = record {
    keys = sym (h ∙ run_ends (keys_on least up ps root) v c l);
    full = λ w. sym (g ∙ ap (λ (b : Bool). f && b) (run_ends (full_on least up ps root) v c l) ∙ and-true f);
  }

-- ---- from one slot to the next

module _ (least : ℕ) (s : Store) (up root v c end : ℕ) (w : Option Bool) (over : Over least up s.pages root v c w)
    (height : height_of s.pages root ≡ up)
    (roots : (x : ℕ) → v ≤ x → x < c → root ≡ root_at s.slots x) (low : v ≤ c) (high : c ≤ end) where
  pub keys-slot : (k : Bool) → k ≡ all (keys_at least s) (count v (end - v)) → k ≡ (keys_in w && all (keys_at least s) (count c (end - c)))
  keys-slot k h =
      h ∙ run-stretch (keys_at least s) v c end low high
      ∙ ap (λ (b : Bool). b && all (keys_at least s) (count c (end - c)))
      (keys-stretch least s up root v c height roots low ∙ sym over.keys)

  pub full-slot : (k f g : Bool) → k ≡ (f && all (full_at least s) (count v (end - v))) → keys_in w ≡ true → g ≡ (f && full_in w)
      → k ≡ (g && all (full_at least s) (count c (end - c)))
  full-slot k f g h t q =
      h ∙ ap (λ (b : Bool). f && b)
      (run-stretch (full_at least s) v c end low high
      ∙ ap (λ (b : Bool). b && all (full_at least s) (count c (end - c)))
      (full-stretch least s up root v c height roots low ∙ sym (over.full t)))
      ∙ and-group f (full_in w) (all (full_at least s) (count c (end - c)))
      ∙ ap (λ (b : Bool). b && all (full_at least s) (count c (end - c))) (sym q)

-- ---- the end

module _ (least : ℕ) (s : Store) (old end : ℕ) (all_of : count old (end - old) ≡ versions s) where
  pub told-four : all (keys_at least s) (count old (end - old)) ≡ false → 4 ≡ told (rule4 s) (rule5 least s)
  told-four h =
      ap (λ (b : Bool). told b (all (full_at least s) (versions s))) (sym (ap (all (keys_at least s)) (sym all_of) ∙ h)) ∙ told-rules least s

  module _ (v : ℕ) (done : end ≤ v) (f : Bool) (k : all (keys_at least s) (count old (end - old)) ≡ all (keys_at least s) (count v (end - v)))
      (g : all (full_at least s) (count old (end - old)) ≡ (f && all (full_at least s) (count v (end - v)))) where
    pub told-end : pick f 0 5 ≡ told (rule4 s) (rule5 least s)
    told-end =
        ap₂ told (sym (ap (all (keys_at least s)) (sym all_of) ∙ k ∙ run_ends (keys_at least s) v end done))
        (sym (ap (all (full_at least s)) (sym all_of) ∙ g ∙ ap (λ (b : Bool). f && b) (run_ends (full_at least s) v end done) ∙ and-true f))
        ∙ told-rules least s
