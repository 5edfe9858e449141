-- Laws about plain/specs/Sweep. Assumes nothing.
use Prim.Native.Nat.{ℕ, ◌+◌, ◌≤◌, ◌<◌}
use native.Mathlib.Omega.{arith}
use mathlib.Core.Bool.{Bool, true, false, ◌&&◌, not}
use mathlib.Core.Path.{◌≡◌, refl, ap, ap₂, sym, ◌∙◌}
use mathlib.Core.List.{List, [], ◌∷◌, ◌++◌, map}
use lib.Dec.{eqb, ltb}
use lib.ListN.{length, length-append}
use Rattle.model.specs.Basic.{pick, those, keep, flat_map}
use Rattle.model.specs.declared.Entry.{Entry}
use Rattle.model.specs.Entry.{alive, live_at, end_one}
use Rattle.model.specs.Calls.{revived, restored_entries}
use Rattle.std.specs.Prelude.{Option, Some, None}
use Rattle.plain.specs.Plain.{end_key, kept_from}
use Rattle.model.specs.Telling.{written, Space, Gathers}
use Rattle.model.proofs.reading.Telling.{written_none}
use Rattle.plain.specs.Items.{Lent, item, from, kept}
use Rattle.plain.proofs.laws.Items.{from_step}
use Rattle.plain.proofs.laws.Laid.{laid-written, from-laid, from-written, from-length}
use Rattle.plain.specs.Sweep.{ended, undone, with_end, kept_by, outliving, swept}

-- ---- laws

pub swept_step : (f : Entry → Option ℕ) (ns : List ℕ) (i n : ℕ) → i < n
    → swept f (from ns i n) ≡ kept_by (item ns i) (f (item ns i)) ++ swept f (from ns (i + 1) n)
unfolding swept
swept_step f ns i n h = ap (flat_map (λ (e : Entry). kept_by e (f e))) (from_step ns i n h)

pub swept_none : (f : Entry → Option ℕ) → swept f [] ≡ []
unfolding swept
swept_none f = refl

pub kept-few : (e : Entry) (o : Option ℕ) → length (kept_by e o) ≤ 1
kept-few e None = omega arith
kept-few e (Some n) = omega arith

pub swept-few : (f : Entry → Option ℕ) (es : List Entry) → length (swept f es) ≤ length es
unfolding swept
swept-few f [] = omega arith
swept-few f (e ∷ es) =
    omega (arith, length-append (kept_by e (f e)) (flat_map (λ (x : Entry). kept_by x (f x)) es), kept-few e (f e), swept-few f es)

pub swept-ended : (w k : ℕ) (es : List Entry) → swept (ended w k) es ≡ end_key w k es
unfolding swept
swept-ended w k [] = refl
swept-ended w k (e ∷ es) = at (eqb e.key k && live_at w e) (eqb e.start w) (swept-ended w k es)
  where
    at : (a b : Bool) → swept (ended w k) es ≡ end_key w k es
        → kept_by e (pick a (pick b None (Some w)) (Some e.end)) ++ swept (ended w k) es ≡ end_one a b w e (end_key w k es)
    at false b ih = ap (λ (xs : List Entry). e ∷ xs) ih
    at true true ih = ih
    at true false ih = ap (λ (xs : List Entry). with_end e w ∷ xs) ih

pub swept-undone : (w : ℕ) (es : List Entry) → swept (undone w) es ≡ restored_entries w es
unfolding swept
swept-undone w [] = refl
swept-undone w (e ∷ es) = at (eqb e.start w) (eqb e.end w) refl (swept-undone w es)
  where
    at : (a b : Bool) → eqb e.end w ≡ b → swept (undone w) es ≡ restored_entries w es
        → kept_by e (pick a None (pick b (Some alive) (Some e.end))) ++ swept (undone w) es
        ≡ map (revived w) (keep (not a) e (those (λ (x : Entry). not (eqb x.start w)) es))
    at true b i ih = ih
    at false true i ih = ap₂ {C = List Entry} (λ (c : Bool) (xs : List Entry). with_end e (pick c alive e.end) ∷ xs) (sym i) ih
    at false false i ih = ap₂ {C = List Entry} (λ (c : Bool) (xs : List Entry). with_end e (pick c alive e.end) ∷ xs) (sym i) ih

pub swept-outliving : (v : ℕ) (es : List Entry) → swept (outliving v) es ≡ kept_from v es
unfolding swept
swept-outliving v [] = refl
swept-outliving v (e ∷ es) = at (ltb v e.end) (swept-outliving v es)
  where
    at : (b : Bool) → swept (outliving v) es ≡ kept_from v es
        → kept_by e (pick b (Some e.end) None) ++ swept (outliving v) es ≡ keep b e (kept_from v es)
    at true ih = ap (λ (xs : List Entry). e ∷ xs) ih
    at false ih = ih

-- the items from place i on, after a write before it
pub from-kept : (ns : List ℕ) (j : ℕ) (e : Entry) (o : Option ℕ) (i n : ℕ) → j < i
    → from (written kept true ns j (kept_by e o)) i n ≡ from ns i n
from-kept ns j e None i n h = ap (λ (ms : List ℕ). from ms i n) (written_none kept true ns j)
from-kept ns j e (Some m) i n h = ap (λ (ms : List ℕ). from ms i n) (laid-written ns j (with_end e m)) ∙ from-laid ns j (with_end e m) i n h

-- what is swept has the room that the items had
pub swept-space : (f : Entry → Option ℕ) (n : ℕ) (ns : List ℕ) → Lent n ns → Space kept true ns 0 (swept f (from ns 0 n))
swept-space f n ns l =
    let few = swept-few f (from ns 0 n) in
    let all = from-length ns n in
    record { few = omega (arith, few, all, l.room, l.short); room = λ h. omega (arith, few, all, l.room) }

module _ (f : Entry → Option ℕ) (ns : List ℕ) (i n : ℕ) (h : i < n) (e : Entry) (a : Option ℕ) (p : e ≡ item ns i) (q : a ≡ f e) where
  pub swept-next : swept f (from ns i n) ≡ kept_by e a ++ swept f (from ns (i + 1) n)
  swept-next =
      swept_step f ns i n h ∙ ap (λ (x : Entry). kept_by x (f x) ++ swept f (from ns (i + 1) n)) (sym p)
      ∙ ap (λ (g : Option ℕ). kept_by e g ++ swept f (from ns (i + 1) n)) (sym q)

-- the items after a sweep
pub swept-read : (f : Entry → Option ℕ) (n : ℕ) (ns ns' : List ℕ) (r : ℕ) → Lent n ns → Gathers kept true ns ns' 0 r (swept f (from ns 0 n))
    → from ns' 0 r ≡ swept f (from ns 0 n)
swept-read f n ns ns' r l g =
    let few = swept-few f (from ns 0 n) in
    let all = from-length ns n in
    let is : r ≡ length (swept f (from ns 0 n)) = omega (arith, g.count) in
    ap₂ {C = List Entry} (λ (ms : List ℕ) (m : ℕ). from ms 0 m) g.list is
    ∙ from-written ns (swept f (from ns 0 n)) (omega (arith, few, all, l.room))
