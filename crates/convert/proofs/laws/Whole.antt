-- Laws about convert/specs/Whole. Assumes nothing.
use Prim.Native.Nat.{ℕ, zero, suc, ◌≤◌}
use native.Mathlib.Omega.{arith}
use mathlib.Core.Bool.{true}
use mathlib.Core.Path.{◌≡◌, ap, sym, subst, ◌∙◌}
use mathlib.Core.List.{List}
use lib.Dec.{leb}
use lib.ListN.{length}
use Rattle.model.specs.declared.Limits.{Limits}
use Rattle.model.specs.Basic.{pick}
use Rattle.model.specs.Limits.{Edition}
use Rattle.model.specs.Field.{Bytes}
use Rattle.model.specs.Store.{fresh}
use Rattle.model.specs.Layout.{size_of, decode, encode}
use Rattle.model.specs.Judged.{length_ok, is_sound}
use Rattle.model.specs.Lent.{Outcome, judged_first, fresh_lent, leaving}
use Rattle.model.specs.Calls.{first_of}
use Rattle.model.specs.Return.{lacking}
use Rattle.model.specs.Convert.{replay, converted, convert_tests, convert_lent}
use Rattle.model.specs.ByRule.{Sound}
use Rattle.model.specs.Remade.{Upto}
use Rattle.model.proofs.turning.Converted.{Replays, fresh-upto, replay-so}
use Rattle.model.proofs.Edition.{edition}
use Rattle.store.proofs.laws.Sure.{sure, same_bytes}
use Rattle.store.specs.Tested.{Whole}
use Rattle.store.proofs.laws.Tested.{whole_length}
use Rattle.convert.proofs.laws.Ready.{is-sound, is_held}
use Rattle.convert.specs.Version.{Replaying, Replayed}
use Rattle.convert.specs.Whole.{converted_to}

-- making fresh goes by the length alone
pub fresh-made : (x b : List ℕ) → length x ≡ length b → length_ok 8 b ≡ true → (fresh_lent 8 x).store ≡ encode 8 (fresh (size_of 8 b))
unfolding fresh_lent length_ok
fresh-made x b e h = rw (e, h)

module _ (a b : List ℕ) (h : is_sound 4 a ≡ true) (w : length_ok 8 b ≡ true) (k l : Limits) (k4 : k.least ≡ 4) (l8 : l.least ≡ 8) where
  one : Edition k
  one = edition k

  two : Edition l
  two = edition l

  sound : is_sound k.least a ≡ true
  sound = ap (λ (n : ℕ). is_sound n a) k4 ∙ h

  long : Whole 8 b
  long = whole_length 8 b w

  size : ℕ
  size = size_of 8 b

  source : Sound k.least (decode k.least a)
  source = sure one a sound

  -- edition 1 has kept every version
  kept-all : (decode k.least a).oldest ≡ 0
  kept-all =
      let z : (decode 4 a).oldest ≤ 0 = subst (λ (n : ℕ). (decode n a).oldest ≤ pick (leb n 4) 0 (decode n a).current) k4
      source.old-low in
      ap (λ (n : ℕ). (decode n a).oldest) k4 ∙ omega (arith, z)

  start : Upto l.least (decode k.least a) 0 (fresh (size_of 8 b))
  start =
      fresh-upto k.least one.four (decode k.least a) source kept-all l.least two.four (size_of 8 b) long.six long.most

  module _ (b₁ : List ℕ) (e : b₁ ≡ encode 8 (fresh (size_of 8 b))) where
    e' : b₁ ≡ encode l.least (fresh (size_of 8 b))
    e' = e ∙ ap (λ (n : ℕ). encode n (fresh (size_of 8 b))) (sym l8)

    held : decode l.least b₁ ≡ fresh (size_of 8 b)
    held = is_held two (fresh (size_of 8 b)) start.is-sound b₁ e'

    pub starts : Replaying k a l b₁ 0
    starts = record {
      from = one;
      source = sound;
      whole = kept-all;
      into = two;
      target = is-sound two (fresh (size_of 8 b)) start.is-sound b₁ e';
      upto = subst (Upto l.least (decode k.least a) 0) (sym held) start;
    }

    module _ (b₂ : List ℕ) (n : ℕ)
        (q : Replayed l b₂ n (replay l.least (decode k.least a) 0 (decode k.least a).current (decode l.least b₁))) where
      ran : replay 8 (decode 4 a) 0 (decode 4 a).current (fresh (size_of 8 b))
          ≡ replay l.least (decode k.least a) 0 (decode k.least a).current (decode l.least b₁)
      ran = rw (held, k4, l8)

      pub all_done : n ≡ 0 → Bytes b₂ → leaving 0 b₂ ≡ converted_to a b
      unfolding converted
      all_done z bytes =
          rw (ran ∙ q.goes z)
          (ap (leaving 0) (sym (same_bytes two b₂ q.sound bytes) ∙ ap (λ (m : ℕ). encode m (decode l.least b₂)) l8))

      lacks : (n ≡ 0 → ⊥) → lacking n ≡ true
      lacks z =
          subst (Replays l.least (decode k.least a) _) (q.stops z)
          (replay-so k.least one.four (decode k.least a) source kept-all l.least two.four (decode k.least a).current 0
          (decode l.least b₁) (omega arith)
          (subst (Upto l.least (decode k.least a) 0) (sym held) start))

      pub one-stops : (n ≡ 0 → ⊥) → (b₃ : List ℕ) → b₃ ≡ encode 8 (fresh (size_of 8 b)) → leaving n b₃ ≡ converted_to a b
      unfolding converted
      one-stops z b₃ f = rw (ran ∙ q.stops z, lacks z) (ap (leaving n) f)

-- ---- the call

pub refused-so : (a b : List ℕ) (n : ℕ) → n ≡ first_of (convert_tests a b) → (n ≡ 0 → ⊥) → leaving n b ≡ convert_lent a b
unfolding convert_lent
refused-so a b n e z = at (first_of (convert_tests a b)) e
  where
    at : (m : ℕ) → n ≡ m → leaving n b ≡ judged_first m (λ k. leaving k b) (converted_to a b)
    at zero f = absurd (z f)
    at (suc m) f = ap (λ (k : ℕ). leaving k b) f

pub done-so : (a b : List ℕ) → first_of (convert_tests a b) ≡ 0 → (o : Outcome) → o ≡ converted_to a b → o ≡ convert_lent a b
unfolding convert_lent
done-so a b e o f = f ∙ sym (ap (λ (m : ℕ). judged_first m (λ k. leaving k b) (converted_to a b)) e)
