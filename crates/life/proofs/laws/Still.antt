-- Laws about model/specs/Still: of the entries of a page, of the root directory. Assumes nothing.
use Prim.Native.Nat.{ℕ, suc, ◌+◌, ◌*◌, ◌≤◌, ◌<◌}
use native.Mathlib.Omega.{arith}
use mathlib.Core.Bool.{Bool, true, false}
use mathlib.Core.Path.{◌≡◌, refl, ap, ap₂, sym, ◌∙◌}
use mathlib.Core.Logic.{inl, inr}
use mathlib.Core.List.{List, ◌∷◌}
use Rattle.model.specs.Basic.{keep}
use Rattle.model.specs.declared.Pair.{Pair}
use Rattle.model.specs.declared.Entry.{Entry}
use Rattle.model.specs.Entry.{pair_of, live_at}
use Rattle.model.specs.Walk.{root_at}
use Rattle.model.specs.Layout.{read_slot, read_slots}
use Rattle.model.specs.Inner.{Out}
use Rattle.model.proofs.sound.Quiet.{within-still, out-less}
use Rattle.walk.specs.Live.{live}
use Rattle.walk.specs.Scan.{entry, from}
use Rattle.walk.proofs.laws.Scan.{from_step, from_end}
use Rattle.walk.proofs.laws.Down.{root-here, root_before, root_none}
use Rattle.model.specs.Still.{Until, Sooner}

-- ---- the entries of a page, the last ones first

module _ (p : List ℕ) (n v r : ℕ) where
  -- the entries from place i on
  abbrev pub alive_from : ℕ → ℕ → List Pair
  alive_from i w = live w (from p i n)

  pub page-none : v < r → Until v r (alive_from n) r
  page-none h =
      record {
        below = omega arith;
        above = h;
        still = λ w a b. ap (live w) (from_end p n n (omega arith))
            ∙ sym (ap (live v) (from_end p n n (omega arith)));
      }

  live-cons : (w : ℕ) (e : Entry) (es : List Entry) → live w (e ∷ es) ≡ keep (live_at w e) (pair_of e) (live w es)
  live-cons w e es = at (live_at w e) refl
    where
      at : (b : Bool) → live_at w e ≡ b → live w (e ∷ es) ≡ keep b (pair_of e) (live w es)
      at true h = rw h
      at false h = rw h

  pub page-more : (i q q1 q2 : ℕ) → i < n → Until v r (alive_from (i + 1)) q → Sooner v q (entry p i).start q1
      → Sooner v q1 (entry p i).end q2 → Until v r (alive_from i) q2
  page-more i q q1 q2 l u a b = record {
    below = omega (arith, u.below, a.below, b.below);
    above = b.above;
    still = λ w low high.
        let e = entry p i in
        let es = from p (i + 1) n in
        let t : live_at v e ≡ live_at w e = within-still v w q2 low high e.start e.end (out-less v q1 q2 e.start a.out b.below)
        b.out in
        ap (live w) (from_step p n i l) ∙ live-cons w e es
        ∙ ap₂ (λ (x : Bool) (xs : List Pair). keep x (pair_of e) xs) (sym t) (u.still w low (omega (arith, a.below, b.below)))
        ∙ sym (ap (live v) (from_step p n i l) ∙ live-cons v e es);
  }

-- ---- the root directory, the first slots first

module _ (b : List ℕ) (o v r : ℕ) where
  pub roots-none : v < r → Until v r (root_at (read_slots b o 0)) r
  roots-none h = record { below = omega arith; above = h; still = λ w low high. root_none b o w ∙ sym (root_none b o v) }

  pub roots-more : (i q q1 : ℕ) → Until v r (root_at (read_slots b o i)) q → Sooner v q (read_slot b (o + 32 * i)).version q1
      → Until v r (root_at (read_slots b o (suc i))) q1
  roots-more i q q1 u a =
      record { below = omega (arith, u.below, a.below); above = a.above; still = λ w low high. at w low high a.out }
    where
      at : (w : ℕ) → v ≤ w → w < q1 → Out v q1 (read_slot b (o + 32 * i)).version
          → root_at (read_slots b o (suc i)) w ≡ root_at (read_slots b o (suc i)) v
      at w low high (inl h) = root-here b o w i (omega arith) ∙ sym (root-here b o v i h)
      at w low high (inr h) =
          root_before b o w i (omega arith) ∙ u.still w low (omega (arith, a.below)) ∙ sym (root_before b o v i (omega (arith, a.above)))
