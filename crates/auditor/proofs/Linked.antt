-- What the offered plain functions give and leave is what `plainly` says.
-- Assumes nothing.
use Prim.Native.Nat.{ℕ, ◌+◌, ◌*◌, ◌≤◌}
use mathlib.Core.Bool.{Bool, true, false, ◌&&◌}
use mathlib.Core.Path.{◌≡◌, refl, ap, ◌∙◌}
use mathlib.Core.List.{List}
use lib.Dec.{eqb, ltb, leb}
use lib.ListN.{length, get_or}
use borrow.Author.Tests.{le-ltb, eqb-true}
use Rattle.model.specs.Basic.{pick}
use Rattle.model.specs.Calls.{Ranged}
use Rattle.model.specs.Looked.{Refused}
use Rattle.model.specs.Lent.{listed}
use Rattle.model.specs.Ended.{to_fresh, to_fresh_second, to_check, to_state, to_open, to_commit, to_abandon, to_insert, to_delete, to_return, to_prune}
use Rattle.model.specs.Ended.{to_lookup, to_range, to_visits, to_difference, to_life}
use Rattle.plain.specs.Plain.{Plain, Given, begin, insert, delete, commit, abandon, return, prune, lookup, range, difference, life}
use Rattle.plain.specs.Guard.{state_of, longest, is_state, is_lent, read_plain, refusing, guarded, fitted, own_inserts}
use Rattle.auditor.specs.Engine.{of_given, of_looked, of_listed}
use Rattle.auditor.specs.Linked.{Linked}

both : (b c : Bool) → (b && c) ≡ true → b ≡ true
both true c e = refl
both false c e = e

module _ (ns ms us : List ℕ) (lent : is_lent ns ms ≡ true) where
  abbrev own : Plain
  own = read_plain ns ms

  state : is_state ms ≡ true
  state = both (is_state ms) (leb (length ns) longest && leb (4 * get_or ms 2 0) (length ns)) lent

  given : (g : Given) → of_given us (guarded (is_lent ns ms) own g) ≡ of_given us g
  given g = ap (λ (b : Bool). of_given us (guarded b own g)) lent

  roomy : (n : ℕ) (g : Given) → (g.number ≡ 0 → 4 * n ≤ length ns) → fitted ns n own g ≡ g
  roomy n g h = at (eqb g.number 0) refl
    where
      at : (b : Bool) → eqb g.number 0 ≡ b → pick (b && ltb (length ns) (4 * n)) (refusing 14 own) g ≡ g
      at true e = ap (λ (c : Bool). pick c (refusing 14 own) g) (le-ltb (length ns) (4 * n) (h (eqb-true g.number 0 e)))
      at false e = refl

  tells : (f : ℕ → Ranged) → of_listed own (pick (is_lent ns ms) (listed us (f (length us))) (record { number = 4; count = 0; list = us }))
      ≡ of_listed own (listed us (f (length us)))
  tells f = ap (λ (b : Bool). of_listed own (pick b (listed us (f (length us))) (record { number = 4; count = 0; list = us }))) lent

pub linked : Linked
linked to_fresh ns ms us e h = refl
linked to_fresh_second ns ms us e h = refl
linked to_check ns ms us e h = refl
linked to_state ns ms us e h = refl
linked to_open ns ms us e h = ap (λ (b : Bool). of_given us (guarded b (read_plain ns ms) (begin (read_plain ns ms)))) (state ns ms us e)
linked to_commit ns ms us e h = given ns ms us e (commit (read_plain ns ms))
linked to_abandon ns ms us e h = given ns ms us e (abandon (read_plain ns ms))
linked (to_insert k x) ns ms us e h =
    let p = read_plain ns ms in
    let g = insert p k x in
    given ns ms us e (fitted ns ((state_of ms).count + 1) p g) ∙ ap (of_given us) (roomy ns ms us e ((state_of ms).count + 1) g h)
linked (to_delete k) ns ms us e h = given ns ms us e (delete (read_plain ns ms) k)
linked (to_return v) ns ms us e h =
    let p = read_plain ns ms in
    let g = return p v in
    let n = (state_of ms).count + own_inserts p v in
    given ns ms us e (fitted ns n p g) ∙ ap (of_given us) (roomy ns ms us e n g h)
linked (to_prune v) ns ms us e h = given ns ms us e (prune (read_plain ns ms) v)
linked (to_lookup k v) ns ms us e h = ap (λ (b : Bool). of_looked (read_plain ns ms) us (pick b (lookup (read_plain ns ms) k v) (Refused 4))) e
linked (to_range lo hi v) ns ms us e h = tells ns ms us e (range (read_plain ns ms) lo hi v)
linked (to_visits k v) ns ms us e h = refl
linked (to_difference u v) ns ms us e h = tells ns ms us e (difference (read_plain ns ms) u v)
linked (to_life k) ns ms us e h = tells ns ms us e (life (read_plain ns ms) k)
