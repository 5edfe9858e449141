-- Histories: for every list of calls from a fresh store, the store is sound and shows what the machine has.
-- Assumes nothing.
use Prim.Native.Nat.{ℕ, suc, ◌≤◌, ◌<◌}
use native.Mathlib.Omega.{arith}
use mathlib.Core.Bool.{Bool, true, false, not}
use mathlib.Core.Option.{none}
use mathlib.Core.Path.{◌≡◌, refl, ap, ap₂, sym, ◌∙◌, subst}
use mathlib.Core.Logic.{◌⊎◌, inl, inr, ◌≢◌}
use mathlib.Core.List.{List, [], ◌∷◌}
use lib.Dec.{T, leb, ltb, eqb}
use borrow.Author.Tests.{leb-true, leb-false, ltb-true, ltb-false, eq-eqb, ne_eqb, not-false}
use Rattle.model.specs.Basic.{all, pick, those}
use Rattle.model.specs.declared.Pair.{Pair}
use Rattle.model.specs.Entry.{pair, enter_pair}
use Rattle.model.specs.Page.{Change}
use Rattle.model.specs.Store.{Store, next, last_of, last, fresh}
use Rattle.model.specs.Walk.{range_of, between, settings, lookup, find, key_limit}
use Rattle.model.specs.Sound.{sound}
use Rattle.model.specs.Climb.{Result, done, refused}
use Rattle.model.specs.Calls.{rule, raw_insert, insert, delete, begin, committed, unchanged, commit, abandon, abandoned, prune, pruned}
use Rattle.model.specs.Return.{Came, gave, returned}
use Rattle.model.specs.Histories.{Call, begins, commits, abandons, inserts, deletes, returns, prunes, call_by}
use Rattle.model.specs.Settings.{Machine, put, edited, step, Both, onward, together, fits, beginning}
use Rattle.model.specs.ByRule.{Readable, Committed, Sound}
use Rattle.model.proofs.lists.Lists.{all_cons}
use Rattle.model.proofs.lists.Members.{holds-true, true-holds, not-both, bool_cases}
use Rattle.model.proofs.tree.Local.{applied}
use Rattle.model.proofs.sound.ByRule.{old-current, to-tests}
use Rattle.model.proofs.tree.UpdateChanges.{Changed}
use Rattle.model.proofs.tree.Edit.{insert-same, delete-same}
use Rattle.model.proofs.sound.Ready.{numbered-by, insert-by, delete-by, raw-changes, delete-changes}
use Rattle.model.proofs.reading.Ranges.{range-is}
use Rattle.model.proofs.reading.Lookups.{lookup-is}
use Rattle.model.proofs.kept.Preserve.{Sounds, raw-keeps, delete-keeps}
use Rattle.model.proofs.turning.Turns.{store, commit-sound, begin-sound, begin-shows, fresh-sound, fresh-shows}
use Rattle.model.proofs.turning.Abandon.{abandon-sound, steady_kept}
use Rattle.model.proofs.turning.Prune.{prune-sound, steady-pruned, prune-by}
use Rattle.model.proofs.reading.Alike.{alike-settings}
use Rattle.model.proofs.turning.Returned.{Stepped, returned-by}

-- the store is sound and shows what the machine has
pub record Agrees (least : ℕ) (b : Both) : Type 0 where
  pub is-sound : Sound least b.store
  pub current : b.store.current ≡ b.machine.current
  pub opened : b.store.opened ≡ b.machine.opened
  pub oldest : b.store.oldest ≡ b.machine.oldest
  pub shows : (v : ℕ) → Readable b.store v → settings b.store v ≡ b.machine.shows v

put-here : (w v : ℕ) (us : List Pair) (f : ℕ → List Pair) → v ≡ w → put w us f v ≡ us
put-here w v us f e = ap (λ (b : Bool). pick b us (f v)) (eq-eqb v w e)

put-away : (w v : ℕ) (us : List Pair) (f : ℕ → List Pair) → v ≢ w → put w us f v ≡ f v
put-away w v us f e = ap (λ (b : Bool). pick b us (f v)) (ne_eqb v w e)

module _ (least : ℕ) (four : 4 ≤ least) (b : Both) (a : Agrees least b) where
  abbrev s : Store
  s = b.store

  abbrev m : Machine
  m = b.machine

  two : 2 ≤ least
  two = omega arith

  abbrev d : Sound least s
  d = a.is-sound

  abbrev Then : Call → Result → Type 0
  Then c r = Agrees least (onward b c (gave r))

  last-open : s.opened ≡ true → last s ≡ suc s.current
  last-open o = ap (λ (q : Bool). last_of q s.current) o

  last-shut : s.opened ≡ false → last s ≡ s.current
  last-shut o = ap (λ (q : Bool). last_of q s.current) o

  begins-then : Then begins (begin s)
  unfolding begin
  begins-then =
      numbered-by (Then begins) (rule 8 s.opened ∷ rule 9 (leb 1048574 s.current) ∷ [])
      (done (record { current = s.current; opened = true; oldest = s.oldest; slots = s.slots; pages = s.pages })) (λ n. a)
      (λ f. go f.0 (leb-false 1048574 s.current f.1.0))
    where
      go : s.opened ≡ false → s.current < 1048574
          → Agrees least
          (record {
            store = record { current = s.current; opened = true; oldest = s.oldest; slots = s.slots; pages = s.pages };
            machine = step m begins;
          })
      go o h =
          let e : Sound least (store s.current false s.oldest s.slots s.pages)
          = subst (λ (q : Bool). Sound least (store s.current q s.oldest s.slots s.pages)) o d in
          record {
            is-sound = begin-sound least s.current s.oldest s.slots s.pages e h;
            current = a.current;
            opened = refl;
            oldest = a.oldest;
            shows = λ v z. at v z e (bool_cases (leb v s.current));
          }
        where
          at : (v : ℕ) → Readable (store s.current true s.oldest s.slots s.pages) v
              → Sound least (store s.current false s.oldest s.slots s.pages)
              → (leb v s.current ≡ true) ⊎ (leb v s.current ≡ false)
              → settings (record { current = s.current; opened = true; oldest = s.oldest; slots = s.slots; pages = s.pages }) v
              ≡ put (suc m.current) (m.shows m.current) m.shows v
          at v z e (inl q) =
              let le : v ≤ s.current = leb-true v s.current q in
              a.shows v (omega (arith, last-shut o, z.from))
              ∙ sym (put-away (suc m.current) v (m.shows m.current) m.shows
              (λ (y : v ≡ suc m.current). omega (arith, a.current)))
          at v z e (inr q) =
              let is : v ≡ suc s.current = omega (arith, leb-false v s.current q, z.upto) in
              ap (settings (record { current = s.current; opened = true; oldest = s.oldest; slots = s.slots; pages = s.pages })) is
              ∙ begin-shows least s.current s.oldest s.slots s.pages e h
              ∙ a.shows s.current (omega (arith, last-shut o, old-current least s d.old-low)) ∙ ap m.shows a.current
              ∙ sym (put-here (suc m.current) v (m.shows m.current) m.shows (omega (arith, a.current)))

  commits-then : Then commits (commit s)
  unfolding commit
  commits-then =
      numbered-by (Then commits) (rule 7 (not s.opened) ∷ rule 15 (unchanged s) ∷ []) (done (committed s)) (λ n. a)
      (λ f. go (not-false s.opened f.0))
    where
      go : s.opened ≡ true → Agrees least (record { store = committed s; machine = step m commits })
      go o = record {
        is-sound = commit-sound least s.current s.oldest s.slots s.pages
            (subst (λ (q : Bool). Sound least (store s.current q s.oldest s.slots s.pages)) o d);
        current = ap suc a.current;
        opened = refl;
        oldest = a.oldest;
        shows = λ v z. a.shows v (omega (arith, last-open o, z.from, z.upto));
      }

  abandoned-then : s.opened ≡ true → Agrees least (record { store = abandoned s; machine = step m abandons })
  unfolding abandoned
  abandoned-then o =
      record {
        is-sound = abandon-sound least two s d o;
        current = a.current;
        opened = refl;
        oldest = a.oldest;
        shows = λ v z. alike-settings s v (abandoned s) v (steady_kept least two s d o v z.from (omega (arith, z.upto)))
            ∙ a.shows v (omega (arith, last-open o, z.from, z.upto));
      }

  abandons-then : Then abandons (abandon s)
  unfolding abandon
  abandons-then =
      numbered-by (Then abandons) (rule 7 (not s.opened) ∷ []) (done (abandoned s)) (λ n. a)
      (λ f. abandoned-then (not-false s.opened f.0))

  -- an edit
  edit-then : (o : s.opened ≡ true) (c : Call) (ch : Change) (g : List Pair → List Pair) → ((us : List Pair) → applied ch us ≡ g us)
      → ((n : Machine) → step n c ≡ edited g n) → (r : Result) → Sounds least four s d o r → Changed s ch r → Then c r
  edit-then o c ch g same is (refused n) f e = a
  edit-then o c ch g same is (done t) f e = subst (λ (n : Machine). Agrees least (record { store = t; machine = n })) (sym (is m)) (record {
    is-sound = f.sound-now;
    current = f.current ∙ a.current;
    opened = f.opened ∙ a.opened;
    oldest = f.oldest ∙ a.oldest;
    shows = λ v z. at v z (bool_cases (ltb v (next s)));
  })
    where
      last-t : last t ≡ suc s.current
      last-t = ap₂ last_of (f.opened ∙ o) f.current

      w-shows : settings s (next s) ≡ m.shows (suc m.current)
      w-shows =
          a.shows (next s) (omega (arith, last-open o, old-current least s d.old-low)) ∙ ap (λ (n : ℕ). m.shows (suc n)) a.current

      at : (v : ℕ) → Readable t v → (ltb v (next s) ≡ true) ⊎ (ltb v (next s) ≡ false)
          → settings t v ≡ put (suc m.current) (g (m.shows (suc m.current))) m.shows v
      at v z (inl q) =
          let less : v < next s = ltb-true v (next s) q in
          let from : s.oldest ≤ v = omega (arith, z.from, f.oldest) in
          alike-settings s v t v (f.steady v from less) ∙ a.shows v (omega (arith, last-open o))
          ∙ sym (put-away (suc m.current) v (g (m.shows (suc m.current))) m.shows
          (λ (y : v ≡ suc m.current). omega (arith, a.current)))
      at v z (inr q) =
          let eq : v ≡ next s = omega (arith, ltb-false v (next s) q, last-t, z.upto) in
          ap (settings t) eq ∙ e ∙ ap (applied ch) w-shows ∙ same (m.shows (suc m.current))
          ∙ sym (put-here (suc m.current) v (g (m.shows (suc m.current))) m.shows (omega (arith, a.current)))

  sure : T (sound least s)
  sure = true-holds (sound least s) (to-tests least s d)

  -- an insert behind its tests, bench keys too
  pub raw-call : s.opened ≡ true → (k x : ℕ) → k < key_limit → lookup s k (next s) ≡ none → x < 4294967296
      → Then (inserts k x) (raw_insert least s k x)
  raw-call o k x low absent h =
      edit-then o (inserts k x) (record { drop = []; take = pair k x ∷ [] }) (enter_pair (pair k x)) (insert-same k x) (λ n. refl)
      (raw_insert least s k x) (raw-keeps least four s d o k x low absent h) (raw-changes least two s sure o k x low absent)

  inserts-then : (k x : ℕ) → x < 4294967296 → Then (inserts k x) (insert least s k x)
  inserts-then k x h = insert-by (Then (inserts k x)) least s k x (λ n. a) (λ o low absent. raw-call o k x low absent h)

  deletes-then : (k : ℕ) → Then (deletes k) (delete least s k)
  deletes-then k = at (bool_cases s.opened)
    where
      at : (s.opened ≡ true) ⊎ (s.opened ≡ false) → Then (deletes k) (delete least s k)
      at (inl o) =
          edit-then o (deletes k) (record { drop = k ∷ []; take = [] }) (those (λ (y : Pair). not (eqb y.key k))) (delete-same k)
          (λ n. refl) (delete least s k) (delete-keeps least four s d o k) (delete-changes least two s sure k)
      at (inr o) = delete-by (Then (deletes k)) least s k (λ n. a) (λ y low z. absurd (not-both s.opened y o))

  prunes-then : (v : ℕ) → Then (prunes v) (prune least s v)
  unfolding pruned
  prunes-then v = prune-by (Then (prunes v)) least s v (λ n. a) go
    where
      go : leb least 4 ≡ false → s.opened ≡ false → s.oldest ≤ v → v ≤ s.current
          → Agrees least (record { store = pruned s v; machine = step m (prunes v) })
      go e o low high = record {
        is-sound = prune-sound least two s d e o v low high;
        current = a.current;
        opened = a.opened;
        oldest = refl;
        shows = λ u z. alike-settings s u (pruned s v) u (steady-pruned least two s d e o v low high u z)
            ∙ a.shows u (record { from = omega (arith, z.from); upto = z.upto });
      }

  -- 2026-07: done, the open version shows what version v shows; "one that ends in 12 or 13 is itself the abandon"
  returns-then : (v : ℕ) → Agrees least (onward b (returns v) (returned least s v))
  returns-then v =
      returned-by least (λ (q : Came). Agrees least (onward b (returns v) q)) four s d v (λ n. a) whole (λ o h n l. abandoned-then o)
    where
      whole : s.opened ≡ true → Committed s v → (t : Store) → Stepped least s t (settings s v)
          → Agrees least (record { store = t; machine = step m (returns v) })
      whole o h t g = record {
        is-sound = g.is-sound;
        current = g.current ∙ a.current;
        opened = g.opened ∙ sym (sym a.opened ∙ o);
        oldest = g.oldest ∙ a.oldest;
        shows = λ u z. at u z (bool_cases (leb u s.current));
      }
        where
          last-t : last t ≡ suc s.current
          last-t = ap₂ last_of g.opened g.current

          at : (u : ℕ) → Readable t u → (leb u s.current ≡ true) ⊎ (leb u s.current ≡ false)
              → settings t u ≡ put (suc m.current) (m.shows v) m.shows u
          at u z (inl q) =
              let le : u ≤ s.current = leb-true u s.current q in
              alike-settings s u t u (g.steady u (omega (arith, z.from, g.oldest)) le)
              ∙ a.shows u (omega (arith, last-open o, z.from, g.oldest))
              ∙ sym (put-away (suc m.current) u (m.shows v) m.shows (λ (y : u ≡ suc m.current). omega (arith, a.current)))
          at u z (inr q) =
              let eq : u ≡ next t = omega (arith, leb-false u s.current q, last-t, g.current, z.upto) in
              ap (settings t) eq ∙ g.openly ∙ a.shows v (omega (arith, last-open o, h.from, h.upto))
              ∙ sym (put-here (suc m.current) u (m.shows v) m.shows (omega (arith, a.current, g.current)))

  pub one-call : (c : Call) → fits c ≡ true → Agrees least (onward b c (call_by least s c))
  one-call begins h = begins-then
  one-call commits h = commits-then
  one-call abandons h = abandons-then
  one-call (inserts k x) h = inserts-then k x (ltb-true x 4294967296 h)
  one-call (deletes k) h = deletes-then k
  one-call (returns v) h = returns-then v
  one-call (prunes v) h = prunes-then v

-- From a store that agrees, every list of calls leads to one that agrees.
pub many-calls : (least : ℕ) → 4 ≤ least → (cs : List Call) → all fits cs ≡ true → (b : Both) → Agrees least b
    → Agrees least (together least b cs)
many-calls least four [] h b a = a
many-calls least four (c ∷ cs) h b a =
    let (x, y) = all_cons fits c cs h in
    many-calls least four cs y (onward b c (call_by least b.store c)) (one-call least four b a c x)

pub fresh-agrees : (least : ℕ) → 4 ≤ least → (n : ℕ) → 6 ≤ n → n ≤ 4096 → Agrees least (beginning n)
fresh-agrees least four n six most = record {
  is-sound = fresh-sound least (omega arith) n six most;
  current = refl;
  opened = refl;
  oldest = refl;
  shows = λ v z. at v z.upto;
}
  where
    at : (v : ℕ) → v ≤ 0 → settings (fresh n) v ≡ []
    at v z = subst (λ (u : ℕ). settings (fresh n) u ≡ []) (the v z) (fresh-shows least (omega arith) n six most)
      where
        the : (u : ℕ) → u ≤ 0 → 0 ≡ u
        the u y = omega arith

-- The history theorem.
pub history : (least : ℕ) → 4 ≤ least → (n : ℕ) → 6 ≤ n → n ≤ 4096 → (cs : List Call) → all fits cs ≡ true
    → Agrees least (together least (beginning n) cs)
history least four n six most cs h = many-calls least four cs h (beginning n) (fresh-agrees least four n six most)

-- and in the words of the tests
pub history-sound : (least : ℕ) → 4 ≤ least → (n : ℕ) → 6 ≤ n → n ≤ 4096 → (cs : List Call) → T (all fits cs)
    → T (sound least (together least (beginning n) cs).store)
history-sound least four n six most cs h =
    true-holds _ (to-tests least _ (history least four n six most cs (holds-true (all fits cs) h)).is-sound)

pub history-shows : (least : ℕ) → 4 ≤ least → (n : ℕ) → 6 ≤ n → n ≤ 4096 → (cs : List Call) → T (all fits cs) → (v : ℕ)
    → Readable (together least (beginning n) cs).store v
    → settings (together least (beginning n) cs).store v ≡ (together least (beginning n) cs).machine.shows v
history-shows least four n six most cs h v z = (history least four n six most cs (holds-true (all fits cs) h)).shows v z

pub history-lookup : (least : ℕ) → 4 ≤ least → (n : ℕ) → 6 ≤ n → n ≤ 4096 → (cs : List Call) → T (all fits cs) → (k v : ℕ) → k < key_limit
    → Readable (together least (beginning n) cs).store v
    → lookup (together least (beginning n) cs).store k v ≡ find k ((together least (beginning n) cs).machine.shows v)
history-lookup least four n six most cs h k v low z =
    let a = history least four n six most cs (holds-true (all fits cs) h) in
    lookup-is least (omega arith) (together least (beginning n) cs).store a.is-sound k v low z ∙ ap (find k) (a.shows v z)

pub history-range : (least : ℕ) → 4 ≤ least → (n : ℕ) → 6 ≤ n → n ≤ 4096 → (cs : List Call) → T (all fits cs) → (lo hi v : ℕ)
    → lo < key_limit → Readable (together least (beginning n) cs).store v
    → range_of (together least (beginning n) cs).store lo hi v ≡ between lo hi ((together least (beginning n) cs).machine.shows v)
history-range least four n six most cs h lo hi v low z =
    let a = history least four n six most cs (holds-true (all fits cs) h) in
    range-is least (omega arith) (together least (beginning n) cs).store a.is-sound lo hi v low z ∙ ap (between lo hi) (a.shows v z)
