-- What the tests of a lent plain store say.
-- Assumes nothing.
use Prim.Native.Nat.{ℕ, zero, suc, ◌+◌, ◌*◌, ◌^◌, ◌≤◌, ◌<◌}
use native.Mathlib.Omega.{arith}
use mathlib.Core.Bool.{Bool, true, false, ◌&&◌, ◌||◌, not}
use mathlib.Core.Option.{Option, none, some}
use mathlib.Core.Path.{◌≡◌, refl, ap, sym, ◌∙◌, subst}
use mathlib.Core.List.{List, [], ◌∷◌}
use lib.Dec.{leb, ltb, eqb}
use lib.ListN.{length, get_or, length-append}
use borrow.Author.Tests.{le-leb, leb-true, ltb-false, eqb-true}
use Rattle.model.specs.Basic.{pick, those, is_empty}
use Rattle.model.specs.declared.Entry.{Entry}
use Rattle.model.specs.declared.Delta.{Delta}
use Rattle.model.specs.Entry.{alive, born, pair}
use Rattle.model.specs.Walk.{key_limit}
use Rattle.model.specs.Calls.{is_some, rule, first_of, insert_tests, delete_tests, prune_tests, restored_entries}
use Rattle.model.specs.Return.{comes, return_tests}
use Rattle.model.proofs.lists.Lists.{both_true}
use Rattle.model.proofs.lists.Bools.{bit-back}
use Rattle.plain.specs.declared.State.{State}
use Rattle.plain.specs.Plain.{same_value}
use Rattle.plain.specs.Plain.{Plain, Given, next, keys, value_at, differs, unless, standing, holding, set_key, end_key, back_to, pruned}
use Rattle.plain.specs.Plain.{begin, insert, delete, commit, abandon, return, prune}
use Rattle.plain.specs.Items.{ItemsHeld, plain_of}
use Rattle.plain.proofs.laws.Laid.{from-length}
use Rattle.plain.specs.Sweep.{ended, undone, outliving}
use Rattle.plain.proofs.laws.Sweep.{swept-ended, swept-undone, swept-outliving, swept-few}
use Rattle.plain.specs.Calls.{Room}
use Rattle.plain.proofs.laws.Scan.{told, saying}
use Rattle.model.specs.Differ.{says_of}
use Rattle.plain.proofs.laws.Tell.{saying-step}
use Rattle.plain.specs.Guard.{state_of, state_numbers, are_versions, is_edition, is_state, longest, is_lent, read_plain, left_lent, refusing}
use Rattle.plain.specs.Guard.{guarded, lacks, fitted, own_inserts, comes_by}
use Rattle.plain.proofs.Backs.{those-append, back-few}

-- ---- the keys that come

delta-comes : (k : ℕ) (o p : Option ℕ) → length (those comes (says_of k o p)) ≡ comes_by o p
delta-comes k none none = refl
delta-comes k none (some y) = refl
delta-comes k (some x) none = refl
delta-comes k (some x) (some y) = at (eqb x y)
  where
    at : (q : Bool) → length (those comes (pick q [] (record { key = k; kind = 2; old = x; new = y } ∷ []))) ≡ pick q 0 1
    at true = refl
    at false = refl

pub comes-step : (k u v : ℕ) (es : List Entry) → k < key_limit → {o p : Option ℕ} → o ≡ value_at k u es → p ≡ value_at k v es
    → length (those comes (told (saying u v es) k keys)) ≡ comes_by o p + length (those comes (told (saying u v es) (k + 1) keys))
comes-step k u v es h {o} {p} e f =
    ap (λ (ds : List Delta). length (those comes ds)) (saying-step k u v es h e f)
    ∙ those-append comes (says_of k o p) (told (saying u v es) (k + 1) keys)
    ∙ ap (λ (n : ℕ). n + length (those comes (told (saying u v es) (k + 1) keys))) (delta-comes k o p)

pub comes-few : (o p : Option ℕ) → comes_by o p ≤ 1
comes-few o p = at (same_value o p) (is_some p)
  where
    at : (s y : Bool) → pick s 0 (pick y 1 0) ≤ 1
    at true y = omega arith
    at false true = omega arith
    at false false = omega arith

-- ---- the tests

module _ (ms : List ℕ) where
  abbrev versions : Bool
  versions = are_versions (get_or ms 0 0) (get_or ms 1 0)

  abbrev old-edition : Bool → Bool
  old-edition b = b && is_edition (get_or ms 4 0)

pub lent_by : (ns ms : List ℕ) → is_state ms ≡ true → length ns ≤ longest → is_lent ns ms ≡ leb (4 * get_or ms 2 0) (length ns)
lent_by ns ms e h =
    ap (λ (b : Bool). b && (leb (length ns) longest && leb (4 * get_or ms 2 0) (length ns))) e
    ∙ ap (λ (c : Bool). c && leb (4 * get_or ms 2 0) (length ns)) (le-leb (length ns) longest h)

module _ (ns ms : List ℕ) (e : is_lent ns ms ≡ true) where
  pub lent_fits : (length ns ≤ longest) × (4 * get_or ms 2 0 ≤ length ns)
  lent_fits =
      let f = both_true (is_state ms) (leb (length ns) longest && leb (4 * get_or ms 2 0) (length ns)) e in
      let g = both_true (leb (length ns) longest) (leb (4 * get_or ms 2 0) (length ns)) f.1 in
      (leb-true (length ns) longest g.0, leb-true (4 * get_or ms 2 0) (length ns) g.1)

  pub lent-version : get_or ms 0 0 + get_or ms 1 0 ≤ 1048574
  lent-version =
      let f = both_true (is_state ms) (leb (length ns) longest && leb (4 * get_or ms 2 0) (length ns)) e in
      let g = both_true (versions ms) (old-edition ms (leb (get_or ms 3 0) (get_or ms 0 0))) f.0 in
      leb-true (get_or ms 0 0 + get_or ms 1 0) 1048574 (both_true (leb (get_or ms 1 0) 1) (leb (get_or ms 0 0 + get_or ms 1 0) 1048574) g.0).1

  pub held : ItemsHeld (state_of ms) ns
  held = record {
    version = omega (arith, lent-version);
    lent = record { room = lent_fits.1; short = omega (arith, lent_fits.0) };
  }

-- ---- what is read of a state that was written

pub state-back : (s : State) → state_of (state_numbers s) ≡ s
state-back s =
    ap {B = State} (λ (b : Bool). record { current = s.current; opened = b; count = s.count; oldest = s.oldest; edition = s.edition })
    (bit-back s.opened)

-- the items left are as many as the state's third number can say
pub kept-few : (t : State) (ns : List ℕ) (n : ℕ) (g : Given) → record { number = n; plain = plain_of t ns } ≡ g
    → 4 * length g.plain.items ≤ longest → t.count < 2 ^ 32
kept-few t ns n g e h =
    let f = ap (λ (x : Given). length x.plain.items) e in
    omega (arith, f, from-length ns t.count, h)

-- ---- 4 and 14

module _ (b : Bool) (p : Plain) (g : Given) where
  pub guarded-some : b ≡ true → g ≡ guarded b p g
  guarded-some e = sym (ap (λ (c : Bool). guarded c p g) e)

pub unless-number : (n : ℕ) (p q : Plain) → (unless n p q).number ≡ n
unless-number zero p q = refl
unless-number (suc n) p q = refl

-- a call has room that lacks none
unless-room : (n : ℕ) (p q : Plain) (ns : List ℕ) (m : ℕ) → lacks ns m n ≡ false → 4 * length p.items ≤ length ns
    → (n ≡ 0 → length q.items ≤ m)
    → 4 * length (unless n p q).plain.items ≤ length ns
unless-room zero p q ns m e h i = omega (arith, ltb-false (length ns) (4 * m) e, i refl)
unless-room (suc n) p q ns m e h i = h

unless-few : (n : ℕ) (p q : Plain) → length q.items ≤ length p.items → length (unless n p q).plain.items ≤ length p.items
unless-few zero p q h = h
unless-few (suc n) p q h = omega arith

module _ (ns : List ℕ) (m : ℕ) (p : Plain) (g : Given) where
  pub fitted_short : lacks ns m g.number ≡ true → refusing 14 p ≡ fitted ns m p g
  fitted_short e = sym (ap (λ (b : Bool). pick b (refusing 14 p) g) e)

  pub fitted-roomy : lacks ns m g.number ≡ false → g ≡ fitted ns m p g
  fitted-roomy e = sym (ap (λ (b : Bool). pick b (refusing 14 p) g) e)

-- ---- the calls

module _ (p : Plain) where
  pub begin-few : length (begin p).plain.items ≤ length p.items
  unfolding begin
  begin-few =
      unless-few (first_of (rule 8 p.opened ∷ rule 9 (leb 1048574 p.current) ∷ [])) p (standing p p.current true p.items)
      (omega arith)

  pub delete-few : (k : ℕ) → length (delete p k).plain.items ≤ length p.items
  unfolding delete
  delete-few k =
      let es = p.items in
      let few = ap (λ (xs : List Entry). length xs) (swept-ended (next p) k es) in
      unless-few (first_of (delete_tests k p.opened (is_some (value_at k (next p) es)))) p (holding p (end_key (next p) k es))
      (omega (arith, few, swept-few (ended (next p) k) es))

  pub commit-few : length (commit p).plain.items ≤ length p.items
  unfolding commit
  commit-few =
      unless-few (first_of (rule 7 (not p.opened) ∷ rule 15 (is_empty (differs p.current (next p) p.items)) ∷ [])) p
      (standing p (next p) false p.items) (omega arith)

  pub abandon-few : length (abandon p).plain.items ≤ length p.items
  unfolding abandon
  abandon-few =
      let es = p.items in
      let few = ap (λ (xs : List Entry). length xs) (swept-undone (next p) es) in
      unless-few (first_of (rule 7 (not p.opened) ∷ [])) p (standing p p.current false (restored_entries (next p) es))
      (omega (arith, few, swept-few (undone (next p)) es))

  pub prune-few : (v : ℕ) → length (prune p v).plain.items ≤ length p.items
  unfolding prune
  prune-few v =
      let es = p.items in
      let few = ap (λ (xs : List Entry). length xs) (swept-outliving v es) in
      unless-few (first_of (rule 3 (eqb p.edition 1) ∷ prune_tests p.oldest p.current p.opened v)) p (pruned p v)
      (omega (arith, few, swept-few (outliving v) es))

-- ---- an insert and a return

module _ (p : Plain) (k x : ℕ) where
  abbrev inserting : ℕ
  inserting = first_of (insert_tests k p.opened (is_some (value_at k (next p) p.items)))

  pub insert-number : (insert p k x).number ≡ inserting
  unfolding insert
  insert-number = unless-number inserting p (holding p (set_key (next p) k x p.items))

  pub insert-room : (ns : List ℕ) → lacks ns (length p.items + 1) inserting ≡ false → 4 * length p.items ≤ length ns
      → Room (insert p k x) ns
  unfolding insert
  insert-room ns e h =
      unless-room inserting p (holding p (set_key (next p) k x p.items)) ns (length p.items + 1) e h
      (λ z. omega (arith, length-append p.items (born (next p) (pair k x) ∷ [])))

module _ (p : Plain) (v : ℕ) where
  abbrev returning : ℕ
  returning = first_of (return_tests p.oldest p.current p.opened v)

  pub return-number : (return p v).number ≡ returning
  unfolding return
  return-number = unless-number returning p (holding p (back_to (next p) v p.items))

  may-return : returning ≡ 0 → (v ≤ p.current) × (p.opened ≡ true)
  may-return = at (ltb p.current v) refl (ltb v p.oldest) p.opened refl
    where
      at : (a : Bool) → ltb p.current v ≡ a → (c b : Bool) → p.opened ≡ b → first_of (rule 6 (a || c) ∷ rule 7 (not b) ∷ []) ≡ 0
          → (v ≤ p.current) × (p.opened ≡ true)
      at true e c b f z = absurd (omega (arith, z))
      at false e true b f z = absurd (omega (arith, z))
      at false e false true f z = (ltb-false p.current v e, f)
      at false e false false f z = absurd (omega (arith, z))

  pub return-room : (ns : List ℕ) → (p.opened ≡ true → next p < alive) → lacks ns (length p.items + own_inserts p v) returning ≡ false
      → 4 * length p.items ≤ length ns → Room (return p v) ns
  unfolding return
  return-room ns last e h =
      unless-room returning p (holding p (back_to (next p) v p.items)) ns (length p.items + own_inserts p v) e h
      (λ z. let m = may-return z in back-few (next p) v (omega (arith, m.0)) (last m.1) p.items)

-- ---- on what is lent: s is the state as the code has it

module _ (ns ms : List ℕ) (lent : is_lent ns ms ≡ true) (s : State) (is : s ≡ state_of ms) where
  pub own_held : ItemsHeld s ns
  own_held = subst (λ (t : State). ItemsHeld t ns) (sym is) (held ns ms lent)

  abbrev own : Plain
  own = plain_of s ns

  same-own : own ≡ read_plain ns ms
  same-own = ap (λ (t : State). plain_of t ns) is

  pub own-items : 4 * length own.items ≤ length ns
  own-items = omega (arith, from-length ns s.count, own_held.lent.room)

  pub own-count : length own.items ≡ s.count
  own-count = from-length ns s.count

  pub own_open : own.opened ≡ true → next own < alive
  own_open o =
      let one : eqb (get_or ms 1 0) 1 ≡ true = sym (ap (λ (t : State). t.opened) is) ∙ o in
      let now : s.current ≡ get_or ms 0 0 = ap (λ (t : State). t.current) is in
      omega (arith, eqb-true (get_or ms 1 0) 1 one, now, lent-version ns ms lent)

  module _ (n : ℕ) (t : State) (ns' : List ℕ) (f : Plain → Given) (does : record { number = n; plain = plain_of t ns' } ≡ f own) where
    pub own-fits : 4 * length (f own).plain.items ≤ length ns → t.count < 2 ^ 32
    own-fits h = kept-few t ns' n (f own) does (omega (arith, h, (lent_fits ns ms lent).0))

    pub own-left : (ms' : List ℕ) → state_of ms' ≡ t → left_lent n ns' ms' ≡ f (read_plain ns ms)
    own-left ms' g = ap {B = Given} (λ (u : State). record { number = n; plain = plain_of u ns' }) g ∙ does ∙ ap f same-own

  module _ (k x : ℕ) where
    abbrev there : Plain
    there = read_plain ns ms

    abbrev pub insert-lack : Bool
    insert-lack = lacks ns (s.count + 1) (inserting own k x)

    insert-same : lacks ns ((state_of ms).count + 1) (insert there k x).number ≡ insert-lack
    insert-same =
        ap (lacks ns ((state_of ms).count + 1)) (insert-number there k x)
        ∙ sym (ap (λ (t : State). lacks ns (t.count + 1) (inserting (plain_of t ns) k x)) is)

    pub own-insert-room : insert-lack ≡ false → Room (insert own k x) ns
    own-insert-room f = insert-room own k x ns (ap (λ (m : ℕ). lacks ns (m + 1) (inserting own k x)) own-count ∙ f) own-items

    pub own-insert-short : insert-lack ≡ true → left_lent 14 ns ms ≡ fitted ns ((state_of ms).count + 1) there (insert there k x)
    own-insert-short f = fitted_short ns ((state_of ms).count + 1) there (insert there k x) (insert-same ∙ f)

    pub own-insert-roomy : insert-lack ≡ false → insert there k x ≡ fitted ns ((state_of ms).count + 1) there (insert there k x)
    own-insert-roomy f = fitted-roomy ns ((state_of ms).count + 1) there (insert there k x) (insert-same ∙ f)

  module _ (v : ℕ) where
    abbrev where-back : Plain
    where-back = read_plain ns ms

    abbrev need : ℕ
    need = (state_of ms).count + own_inserts where-back v

    abbrev pub return-lack : Bool
    return-lack = lacks ns (s.count + own_inserts own v) (returning own v)

    return-same : lacks ns need (return where-back v).number ≡ return-lack
    return-same =
        ap (lacks ns need) (return-number where-back v)
        ∙ sym (ap (λ (t : State). lacks ns (t.count + own_inserts (plain_of t ns) v) (returning (plain_of t ns) v)) is)

    pub own-return-room : return-lack ≡ false → Room (return own v) ns
    own-return-room f =
        return-room own v ns own_open (ap (λ (m : ℕ). lacks ns (m + own_inserts own v) (returning own v)) own-count ∙ f) own-items

    pub own-return-short : return-lack ≡ true → left_lent 14 ns ms ≡ fitted ns need where-back (return where-back v)
    own-return-short f = fitted_short ns need where-back (return where-back v) (return-same ∙ f)

    pub own-return-roomy : return-lack ≡ false → return where-back v ≡ fitted ns need where-back (return where-back v)
    own-return-roomy f = fitted-roomy ns need where-back (return where-back v) (return-same ∙ f)

-- an open leaves the items as they are, whatever the list: here none
pub open-fits : (s : State) (n : ℕ) (t : State) → record { number = n; plain = plain_of t [] } ≡ begin (plain_of s [])
    → s.count < 2 ^ 32 → t.count < 2 ^ 32
open-fits s n t does h =
    let f = ap (λ (x : Given). length x.plain.items) does in
    omega (arith, f, from-length [] t.count, from-length [] s.count, begin-few (plain_of s []), h)
