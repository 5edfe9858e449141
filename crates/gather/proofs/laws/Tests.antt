-- How long a page's wanted list is, entry by entry, and how many entries a change leaves at the most. Assumes nothing.
use Prim.Native.Nat.{ℕ, zero, suc, ◌+◌, ◌≤◌}
use native.Mathlib.Omega.{arith}
use mathlib.Core.Path.{◌≡◌, refl, ap, sym, ◌∙◌}
use mathlib.Core.Bool.{Bool, true, false, ◌&&◌, not}
use mathlib.Core.List.{List, [], ◌∷◌, ◌++◌}
use lib.ListN.{length}
use Rattle.model.specs.declared.Entry.{Entry}
use Rattle.model.specs.declared.Pair.{Pair}
use Rattle.model.specs.Basic.{has, keep}
use Rattle.model.specs.Entry.{pair_of, live_at, enter_pair}
use Rattle.model.specs.Page.{Page, Change, wanted, changed}
use Rattle.model.proofs.tree.Edit.{length-enter_pair}
use Rattle.edit.specs.declared.Change as code
use Rattle.std.specs.Int.{from_bool}
use Rattle.edit.specs.Change.{change_of}
use Rattle.gather.specs.Kept.{Fits, kept_pairs}
use Rattle.gather.proofs.laws.Kept.{kept_step, wanted-none, wanted-one, wanted-two, staying-few, after_is}

-- one entry more
pub kept_more : (w : ℕ) (c : Change) (e : Entry) (es : List Entry) (b : Bool) → b ≡ (live_at w e && not (has e.key c.drop))
    → length (kept_pairs w c (e ∷ es)) ≡ from_bool b + length (kept_pairs w c es)
kept_more w c e es b h = ap length (kept_step w c e es [] b h) ∙ by b
  where
    by : (b : Bool) → length (([] ++ keep b (pair_of e) []) ++ kept_pairs w c es) ≡ from_bool b + length (kept_pairs w c es)
    by true = omega arith
    by false = omega arith

-- the wanted list has those that are kept and those that come in
module _ (w : ℕ) (c : code.Change) (p : Page) where
  pub wanted-long : Fits c → length (wanted w (change_of c) p) ≡ c.takes + length (kept_pairs w (change_of c) p.entries)
  wanted-long f = by c.takes refl f.takes
    where
      kept : List Pair
      kept = kept_pairs w (change_of c) p.entries

      by : (n : ℕ) → c.takes ≡ n → n ≤ 2 → length (wanted w (change_of c) p) ≡ n + length kept
      by zero e h = ap length (sym (wanted-none w c p e)) ∙ omega arith
      by (suc zero) e h = ap length (sym (wanted-one w c p e)) ∙ length-enter_pair c.take1 kept ∙ omega arith
      by (suc (suc zero)) e h = ap length (sym (wanted-two w c p e)) ∙ length-enter_pair c.take2 (enter_pair c.take1 kept)
          ∙ ap suc (length-enter_pair c.take1 kept) ∙ omega arith
      by (suc (suc (suc n))) e h = absurd (omega arith)

  -- no more entries than there are and come in
  pub changed-few : Fits c → length (changed w (change_of c) p).entries ≤ length p.entries + c.takes
  changed-few f = omega (arith, after_is w c p f, staying-few w (change_of c) p.entries)
