-- Laws about convert/specs/Version. Assumes nothing.
use Prim.Native.Nat.{ℕ, suc, ◌+◌, ◌*◌, ◌-◌, ◌^◌, ◌≤◌, ◌<◌}
use native.Mathlib.Omega.{arith}
use mathlib.Core.Path.{◌≡◌, refl, ap, sym, subst, ◌∙◌}
use mathlib.Core.List.{List}
use lib.ListN.{length}
use Rattle.model.specs.declared.Limits.{Limits}
use Rattle.model.specs.Store.{Store, next}
use Rattle.model.specs.Walk.{settings}
use Rattle.model.specs.Layout.{decode, encode}
use Rattle.model.specs.Calls.{committed}
use Rattle.model.specs.Differ.{differ}
use Rattle.model.specs.Return.{reached, stopped, and_on, carried}
use Rattle.model.specs.Convert.{replayed, replay}
use Rattle.model.specs.ByRule.{Sound}
use Rattle.model.specs.Remade.{Upto}
use Rattle.model.proofs.turning.Returned.{Stepped, Runs}
use Rattle.model.proofs.turning.Converted.{begun, current-last, Replays, begun-sound, begun-shows, runs, one_more, replayed-is}
use Rattle.model.proofs.turning.Converted.{replayed-so}
use Rattle.store.proofs.laws.Sure.{sure, front, few}
use Rattle.walk.specs.Sure.{Walkable}
use Rattle.differ.specs.Listing.{between}
use Rattle.convert.specs.Ready.{UpdateOpen, shown, Went}
use Rattle.convert.proofs.laws.Ready.{is-sound, is_held, is-ready}
use Rattle.convert.specs.Version.{Replaying, Replayed}

module _ {k : Limits} {a : List ℕ} {l : Limits} {b : List ℕ} {v : ℕ} (p : Replaying k a l b v) where
  abbrev s : Store
  s = decode k.least a

  abbrev t : Store
  t = decode l.least b

  pub source_sound : Sound k.least (decode k.least a)
  source_sound = sure p.from a p.source

  module _ (h : v < (decode k.least a).current) where
    pub old-read : Walkable k a v
    old-read =
        record {
          edition = p.from;
          sound = p.source;
          version = record { from = omega (arith, p.whole); upto = omega (arith, h, current-last s) };
        }

    pub new-read : Walkable k a (v + 1)
    new-read =
        record {
          edition = p.from;
          sound = p.source;
          version = record { from = omega (arith, p.whole); upto = omega (arith, h, current-last s) };
        }

    -- ---- the update begun

    module _ (b₁ : List ℕ) (e : b₁ ≡ encode l.least (begun (decode l.least b))) where
      open-sound : Sound l.least (begun (decode l.least b))
      open-sound = begun-sound k.least p.from.four s source_sound p.whole l.least p.into.four v h t p.upto

      pub open-held : decode l.least b₁ ≡ begun (decode l.least b)
      open-held = is_held p.into (begun t) open-sound b₁ e

      pub open-ready : UpdateOpen l b₁
      open-ready = is-ready p.into (begun t) open-sound b₁ e refl

      pub open-shows : shown l b₁ ≡ settings (decode k.least a) v
      open-shows =
          ap (λ (x : Store). settings x (next x)) open-held
          ∙ begun-shows k.least p.from.four s source_sound p.whole l.least p.into.four v h t p.upto

      -- ---- its steps

      module _ (b₂ : List ℕ) (n : ℕ) (w : Went l b₂ n (carried l.least (between k a v (v + 1)) (decode l.least b₁))) where
        same : carried l.least (between k a v (v + 1)) (decode l.least b₁)
            ≡ carried l.least (differ (settings s v) (settings s (suc v))) (begun t)
        same =
            ap (λ (x : Store). carried l.least (between k a v (v + 1)) x) open-held
            ∙ ap (λ (m : ℕ). carried l.least (differ (settings s v) (settings s m)) (begun t)) (let z : v + 1 ≡ suc v = omega arith in z)

        is : replayed l.least (differ (settings s v) (settings s (suc v))) t
            ≡ and_on (λ (x : Store). reached (committed x)) (carried l.least (differ (settings s v) (settings s (suc v))) (begun t))
        is = replayed-is k.least p.from.four s source_sound p.whole l.least p.into.four v h t p.upto

        pub version-stops : (n ≡ 0 → ⊥) → Replayed l b₂ n (replayed l.least (between k a v (suc v)) (decode l.least b))
        version-stops z = record {
          sound = w.ready.sound;
          goes = λ y. absurd (z y);
          stops = λ y. is ∙ ap (and_on (λ (x : Store). reached (committed x))) (sym same ∙ w.stops z);
        }

        -- ---- committed

        module _ (z : n ≡ 0) (b₃ : List ℕ) (f : b₃ ≡ encode l.least (committed (decode l.least b₂))) where
          ran : carried l.least (differ (settings s v) (settings s (suc v))) (begun t) ≡ reached (decode l.least b₂)
          ran = sym same ∙ w.goes z

          stepped : Stepped l.least (begun t) (decode l.least b₂) (settings s (suc v))
          stepped =
              subst (Runs l.least (begun t) (settings s (suc v))) ran
              (runs k.least p.from.four s source_sound p.whole l.least p.into.four v h t p.upto)

          more : Upto l.least (decode k.least a) (suc v) (committed (decode l.least b₂))
          more =
              one_more k.least p.from.four s source_sound p.whole l.least p.into.four v h t p.upto
              (decode l.least b₂) stepped

          held : decode l.least b₃ ≡ committed (decode l.least b₂)
          held = is_held p.into (committed (decode l.least b₂)) more.is-sound b₃ f

          pub version-goes : Replayed l b₃ 0 (replayed l.least (between k a v (suc v)) (decode l.least b))
          version-goes = record {
            sound = is-sound p.into (committed (decode l.least b₂)) more.is-sound b₃ f;
            goes = λ y. is ∙ ap (and_on (λ (x : Store). reached (committed x))) ran ∙ ap reached (sym held);
            stops = λ y. absurd (y refl);
          }

    pub version_low : v + 1 < 4294967296
    version_low = omega (arith, h, current-last s, source_sound.last-low)

    -- ---- on to the next

    module _ (b' : List ℕ) (r : ℕ) (q : Replayed l b' r (replayed l.least (between k a v (suc v)) (decode l.least b))) where
      one_less : (decode k.least a).current - v ≡ suc ((decode k.least a).current - (v + 1))
      one_less = omega (arith, h)

      one_up : suc v ≡ v + 1
      one_up = omega arith

      pub on-stops : (r ≡ 0 → ⊥) → replay l.least (decode k.least a) v ((decode k.least a).current - v) (decode l.least b)
          ≡ stopped r (decode l.least b')
      unfolding replay
      on-stops z =
          ap (λ (m : ℕ). replay l.least s v m t) one_less ∙ ap (and_on (replay l.least s (suc v) (s.current - (v + 1)))) (q.stops z)

      pub on-goes : r ≡ 0 → replay l.least (decode k.least a) v ((decode k.least a).current - v) (decode l.least b)
          ≡ replay l.least (decode k.least a) (v + 1) ((decode k.least a).current - (v + 1)) (decode l.least b')
      unfolding replay
      on-goes z =
          ap (λ (m : ℕ). replay l.least s v m t) one_less ∙ ap (and_on (replay l.least s (suc v) (s.current - (v + 1)))) (q.goes z)
          ∙ ap (λ (w : ℕ). replay l.least s w (s.current - (v + 1)) (decode l.least b')) one_up

      pub on-more : r ≡ 0 → Replaying k a l b' (v + 1)
      on-more z = record {
        from = p.from;
        source = p.source;
        whole = p.whole;
        into = p.into;
        target = q.sound;
        upto =
            subst (λ (w : ℕ). Upto l.least s w (decode l.least b')) one_up
            (subst (Replays l.least s (suc v)) (q.goes z)
            (replayed-so k.least p.from.four s source_sound p.whole l.least p.into.four v h t p.upto));
      }

  -- ---- from the first to the last

  pub on-start : replay l.least (decode k.least a) 0 (decode k.least a).current (decode l.least b)
      ≡ replay l.least (decode k.least a) 0 ((decode k.least a).current - 0) (decode l.least b)
  on-start = ap (λ (m : ℕ). replay l.least s 0 m t) (let e : s.current ≡ s.current - 0 = omega arith in e)

  pub on-end : (decode k.least a).current ≤ v → replay l.least (decode k.least a) v ((decode k.least a).current - v)
      (decode l.least b) ≡ reached (decode l.least b)
  unfolding replay
  on-end h = ap (λ (m : ℕ). replay l.least s v m t) (let e : s.current - v ≡ 0 = omega (arith, h) in e)

  pub header-right : (64 * k.least ≤ length a) × (length a ≤ 2 ^ 40)
  header-right = (omega (arith, front p.from a p.source), few p.from a p.source)
