-- "so that every committed version reads the same": the converter's replay, from any sound store into a fresh one, of the same limits or
-- others.
-- Version after version the target is sound and closed, and shows what the source shows; begin and commit are never refused on the way, and
-- a step that stops it lacks a page or a slot.
-- Assumes nothing.
use Prim.Native.Nat.{ℕ, zero, suc, ◌+◌, ◌≤◌, ◌<◌}
use native.Mathlib.Omega.{arith}
use mathlib.Core.Bool.{Bool, true, false}
use mathlib.Core.Path.{◌≡◌, refl, ap, sym, subst, ◌∙◌}
use mathlib.Core.Logic.{◌⊎◌, inl, inr}
use lib.Dec.{leb}
use borrow.Author.Tests.{leb-true, leb-false, lt-leb}
use Rattle.model.specs.Basic.{pick}
use Rattle.model.specs.Store.{Store, next, last, fresh}
use Rattle.model.specs.Walk.{settings}
use Rattle.model.specs.Climb.{done, refused}
use Rattle.model.specs.Calls.{begin, committed}
use Rattle.model.specs.Differ.{differ}
use Rattle.model.specs.Return.{Ran, reached, stopped, or_stopped, and_on, carried, Came, gave, gave_up, lacking}
use Rattle.model.specs.Convert.{replayed, replay, or_fresh, converted}
use Rattle.model.specs.Remade.{Upto, small}
use Rattle.model.specs.ByRule.{Sound}
use Rattle.model.proofs.lists.Members.{bool_cases}
use Rattle.model.proofs.reading.Lookups.{settings-rise}
use Rattle.model.proofs.sound.Small.{settings-small, none-at-first}
use Rattle.model.proofs.sound.ByRule.{upto-last}
use Rattle.model.proofs.reading.Alike.{alike-settings}
use Rattle.model.proofs.turning.Turns.{store, commit-sound, begin-sound, begin-shows, fresh-sound, fresh-shows}
use Rattle.model.proofs.turning.Remade.{Way, the-way}
use Rattle.model.proofs.turning.Returned.{Stepped, Runs, way-runs}

-- an update begun
abbrev pub begun : Store → Store
begun t = record { current = t.current; opened = true; oldest = t.oldest; slots = t.slots; pages = t.pages }

pub current-last : (s : Store) → s.current ≤ last s
current-last s = upto-last s.opened s.current

-- what a replay up to v comes to
abbrev pub Replays : ℕ → Store → ℕ → Ran → Type 0
Replays least s v (reached t) = Upto least s v t
Replays least s v (stopped n t) = lacking n ≡ true

module _ (of : ℕ) (first : 4 ≤ of) (s : Store) (d : Sound of s) (from_first : s.oldest ≡ 0) (least : ℕ) (four : 4 ≤ least) where
  two : 2 ≤ of
  two = omega arith

  -- ---- from one version to the next

  module _ (v : ℕ) (h : v < s.current) where
    pub way : Way small (settings s v) (settings s (suc v)) (differ (settings s v) (settings s (suc v)))
    way =
        let l = current-last s in
        the-way small (settings s v) (settings s (suc v)) (settings-small of two s d v (omega (arith, l, from_first)))
        (settings-small of two s d (suc v) (omega (arith, l, from_first)))
        (settings-rise of two s d v (omega (arith, l, from_first))) (settings-rise of two s d (suc v) (omega (arith, l, from_first)))

    module _ (t : Store) (p : Upto least s v t) where
      room : t.current < 1048574
      room = omega (arith, p.current, d.last-low, current-last s)

      shut : Sound least (store t.current false t.oldest t.slots t.pages)
      shut = subst (λ (b : Bool). Sound least (store t.current b t.oldest t.slots t.pages)) p.closed p.is-sound

      pub begin-is : begin t ≡ done (begun t)
      unfolding begin
      begin-is = rw (p.closed, lt-leb 1048574 t.current room) refl

      pub begun-sound : Sound least (begun t)
      begun-sound = begin-sound least t.current t.oldest t.slots t.pages shut room

      pub begun-shows : settings (begun t) (next (begun t)) ≡ settings s v
      begun-shows =
          begin-shows least t.current t.oldest t.slots t.pages shut room ∙ ap (settings t) p.current
          ∙ p.same v (omega arith)

      pub runs : Runs least (begun t) (settings s (suc v)) (carried least (differ (settings s v) (settings s (suc v))) (begun t))
      runs =
          way-runs least four (begun t) begun-sound refl (settings s v) (settings s (suc v))
          (differ (settings s v) (settings s (suc v))) begun-shows way

      pub one_more : (w : Store) → Stepped least (begun t) w (settings s (suc v)) → Upto least s (suc v) (committed w)
      one_more w g = record {
        is-sound = commit-sound least w.current w.oldest w.slots w.pages
            (subst (λ (b : Bool). Sound least (store w.current b w.oldest w.slots w.pages)) g.opened g.is-sound);
        closed = refl;
        current = ap suc (g.current ∙ p.current);
        oldest = g.oldest ∙ p.oldest;
        same = λ u z. at u z (bool_cases (leb u v));
      }
        where
          at : (u : ℕ) → u ≤ suc v → (leb u v ≡ true) ⊎ (leb u v ≡ false) → settings (committed w) u ≡ settings s u
          at u z (inl q) =
              let low : u ≤ v = leb-true u v q in
              alike-settings (begun t) u w u (g.steady u (omega (arith, p.oldest)) (omega (arith, p.current))) ∙ p.same u low
          at u z (inr q) =
              let is : u ≡ suc v = omega (arith, leb-false u v q) in
              let top : suc v ≡ next w = omega (arith, g.current, p.current) in
              ap (settings w) (is ∙ top) ∙ g.openly ∙ ap (settings s) (sym is)

      pub replayed-is : replayed least (differ (settings s v) (settings s (suc v))) t
          ≡ and_on (λ (w : Store). reached (committed w)) (carried least (differ (settings s v) (settings s (suc v))) (begun t))
      unfolding replayed
      replayed-is =
          ap (or_stopped
          (λ (u : Store). and_on (λ (w : Store). reached (committed w)) (carried least (differ (settings s v) (settings s (suc v))) u)) t)
          begin-is

      pub replayed-so : Replays least s (suc v) (replayed least (differ (settings s v) (settings s (suc v))) t)
      replayed-so =
          subst (Replays least s (suc v)) (sym replayed-is) (at (carried least (differ (settings s v) (settings s (suc v))) (begun t)) runs)
        where
          at : (q : Ran) → Runs least (begun t) (settings s (suc v)) q
              → Replays least s (suc v) (and_on (λ (w : Store). reached (committed w)) q)
          at (reached w) r = one_more w r
          at (stopped n w) r = r.0

  -- ---- version after version

  pub replay-so : (k v : ℕ) (t : Store) → v + k ≤ s.current → Upto least s v t → Replays least s (v + k) (replay least s v k t)
  unfolding replay
  replay-so zero v t h p = subst (λ (x : ℕ). Upto least s x t) (let e : v ≡ v + 0 = omega arith in e) p
  replay-so (suc k) v t h p =
      at (replayed least (differ (settings s v) (settings s (suc v))) t) (replayed-so v (omega (arith, h)) t p)
      (λ u q. subst (λ (x : ℕ). Replays least s x (replay least s (suc v) k u)) (let e : suc v + k ≡ v + suc k = omega arith in e)
      (replay-so k (suc v) u (omega (arith, h)) q))
    where
      at : (q : Ran) → Replays least s (suc v) q →
          ((u : Store) → Upto least s (suc v) u → Replays least s (v + suc k) (replay least s (suc v) k u))
          → Replays least s (v + suc k) (and_on (replay least s (suc v) k) q)
      at (stopped n u) r go = r
      at (reached u) r go = go u r

  -- ---- from a fresh store: "Version 0 is empty."

  pub fresh-upto : (n : ℕ) → 6 ≤ n → n ≤ 4096 → Upto least s 0 (fresh n)
  fresh-upto n six most = record {
    is-sound = fresh-sound least (omega arith) n six most;
    closed = refl;
    current = refl;
    oldest = refl;
    same = λ u z.
        let e : u ≡ 0 = omega (arith, z) in
        ap (settings (fresh n)) e ∙ fresh-shows least (omega arith) n six most ∙ sym (none-at-first of two s d from_first)
        ∙ ap (settings s) (sym e);
  }

  -- What a conversion comes to: the whole store, or a fresh one.
  pub converted-by : (P : Came → Type 0) → (n : ℕ) → 6 ≤ n → n ≤ 4096
      → ((t : Store) → Upto least s s.current t → replay least s 0 s.current (fresh n) ≡ reached t → P (gave (done t)))
      → ((m : ℕ) (t : Store) → lacking m ≡ true → replay least s 0 s.current (fresh n) ≡ stopped m t → P (gave_up m (fresh n)))
      → P (converted least s n)
  unfolding converted
  converted-by P n six most whole up =
      at (replay least s 0 s.current (fresh n)) refl (replay-so s.current 0 (fresh n) (omega arith) (fresh-upto n six most))
    where
      at : (q : Ran) → replay least s 0 s.current (fresh n) ≡ q → Replays least s (0 + s.current) q → P (or_fresh n q)
      at (reached t) e r = whole t (subst (λ (x : ℕ). Upto least s x t) (let z : 0 + s.current ≡ s.current = omega arith in z) r) e
      at (stopped m t) e r = subst (λ (b : Bool). P (pick b (gave_up m (fresh n)) (gave (refused m)))) (sym r) (up m t r e)
