-- What abandon does to a page undoes what an update did to it.
-- Assumes nothing.
use Prim.Native.Nat.{ℕ, ◌<◌}
use native.Mathlib.Omega.{arith}
use mathlib.Core.Bool.{Bool, true, false, ◌&&◌, ◌||◌, not}
use mathlib.Core.Path.{◌≡◌, refl, ap, ap₂, ◌∙◌, subst}
use mathlib.Core.List.{List, [], ◌∷◌, map}
use lib.Dec.{leb, ltb, eqb}
use borrow.Author.Tests.{ltb-true, eqb-true, lt-leb, le-leb, eq-eqb}
use Rattle.model.specs.Basic.{keep, those, has, pick, all}
use Rattle.model.specs.declared.Entry.{Entry}
use Rattle.model.specs.declared.Pair.{Pair}
use Rattle.model.specs.Entry.{alive, live_at, born, enter, end_one, end_those, ended_at}
use Rattle.model.specs.Page.{Page, Change, born_all, changed, killed, filled}
use Rattle.model.specs.Calls.{revived_end, revived, restored_entries}
use Rattle.model.proofs.lists.Lists.{both_true, both-intro, all-enter, all_end, all_cons, map-keep, those-enter}

module _ (w : ℕ) where
  abbrev pub kept : Entry → Bool
  kept e = not (eqb e.start w)

  born-goes : (x : Pair) → kept (born w x) ≡ false
  born-goes x = rw (eq-eqb w w refl)

  pub back-born : (xs : List Pair) (es : List Entry) → restored_entries w (born_all w xs es) ≡ restored_entries w es
  back-born [] es = refl
  back-born (x ∷ xs) es = back-born xs (enter (born w x) es) ∙ ap (map (revived w)) (those-enter kept (born w x) (born-goes x) es)

  pick_same : (b : Bool) (n : ℕ) → pick b n n ≡ n
  pick_same true n = refl
  pick_same false n = refl

  -- an end at w and the end of what is alive come to the same
  pub end_same : (n : ℕ) → n ≡ alive → revived_end w w ≡ revived_end w n
  end_same n e = rw (eq-eqb w w refl, e, pick_same)

  revive-ended : (e : Entry) → e.end ≡ alive → revived w (ended_at w e) ≡ revived w e
  revive-ended e h = ap (λ (n : ℕ). record { key = e.key; start = e.start; end = n; value = e.value }) (end_same e.end h)

  -- rule 1's word on ends: at most w, or alive
  abbrev pub ends_well : Entry → Bool
  ends_well e = leb e.end w || eqb e.end alive

  pub not-ended : (e : Entry) → ends_well e ≡ true → w < e.end → e.end ≡ alive
  not-ended e ok h = eqb-true e.end alive (subst (λ (b : Bool). (b || eqb e.end alive) ≡ true) (lt-leb e.end w h) ok)

  -- ending entries that end later
  pub back_end : (g : Entry → Bool) → ((e : Entry) → g e ≡ true → w < e.end) → (es : List Entry) → all ends_well es ≡ true
      → restored_entries w (end_those g w es) ≡ restored_entries w es
  back_end g later [] ok = refl
  back_end g later (e ∷ es) ok =
      let (here, rest) = all_cons ends_well e es ok in
      at (g e) (eqb e.start w) refl refl here (back_end g later es rest)
    where
      at : (b c : Bool) → g e ≡ b → eqb e.start w ≡ c → ends_well e ≡ true → restored_entries w (end_those g w es) ≡ restored_entries w es
          → restored_entries w (end_one b c w e (end_those g w es)) ≡ map (revived w) (keep (not (eqb e.start w)) e (those kept es))
      at false c p q here ih = simp map-keep (ap (keep (kept e) (revived w e)) ih)
      at true true p q here ih = rw q ih
      at true false p q here ih =
          rw q (ap₂ {C = List Entry} (λ (x : Entry) (xs : List Entry). x ∷ xs) (revive-ended e (not-ended e here (later e p))) ih)

  pub live-later : (e : Entry) → live_at w e ≡ true → w < e.end
  live-later e p = ltb-true _ _ (both_true (leb e.start w) (ltb w e.end) p).1

  dropped-later : (c : Change) (e : Entry) → (live_at w e && has e.key c.drop) ≡ true → w < e.end
  dropped-later c e h = live-later e (both_true (live_at w e) (has e.key c.drop) h).0

  -- (b) abandon undoes a change in place, and a killing
  pub back-changed : (c : Change) (p : Page) → all ends_well p.entries ≡ true
      → restored_entries w (changed w c p).entries ≡ restored_entries w p.entries
  back-changed c p ok = back-born c.take _ ∙ back_end _ (dropped-later c) p.entries ok

  pub back-killed : (p : Page) → all ends_well p.entries ≡ true → restored_entries w (killed w p).entries ≡ restored_entries w p.entries
  back-killed p ok = back_end (live_at w) live-later p.entries ok

  -- the word on ends stays
  well-born-one : (x : Pair) → ends_well (born w x) ≡ true
  well-born-one x = at (leb alive w)
    where
      at : (b : Bool) → (b || true) ≡ true
      at true = refl
      at false = refl

  well-ended : (e : Entry) → ends_well e ≡ true → ends_well (ended_at w e) ≡ true
  well-ended e ok = rw (le-leb w w (omega arith))

  pub well-born : (xs : List Pair) (es : List Entry) → all ends_well es ≡ true → all ends_well (born_all w xs es) ≡ true
  well-born [] es ok = ok
  well-born (x ∷ xs) es ok = well-born xs (enter (born w x) es) (all-enter ends_well (born w x) (well-born-one x) es ok)

  pub well-changed : (c : Change) (p : Page) → all ends_well p.entries ≡ true → all ends_well (changed w c p).entries ≡ true
  well-changed c p ok = well-born c.take _ (all_end ends_well _ w well-ended p.entries ok)

  pub well-killed : (p : Page) → all ends_well p.entries ≡ true → all ends_well (killed w p).entries ≡ true
  well-killed p ok = all_end ends_well (live_at w) w well-ended p.entries ok

  pub well-filled : (level : ℕ) (xs : List Pair) → all ends_well (filled w level xs).entries ≡ true
  well-filled level [] = refl
  well-filled level (x ∷ xs) = both-intro (ends_well (born w x)) _ (well-born-one x) (well-filled level xs)
