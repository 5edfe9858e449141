-- "their number is those inserts less those deletes"
-- Assumes nothing.
use Prim.Native.Nat.{ℕ, suc, ◌+◌, ◌≤◌}
use native.Mathlib.Omega.{arith}
use mathlib.Core.Bool.{Bool, true, false, not}
use mathlib.Core.Path.{◌≡◌, refl, ap, ap₂, sym, ◌∙◌, subst}
use mathlib.Core.Logic.{◌⊎◌, inl, inr, ◌≢◌}
use mathlib.Core.List.{List, [], ◌∷◌}
use lib.Dec.{T, leb, eqb}
use lib.ListN.{length}
use borrow.Author.Tests.{eqb-true, eqb-false, eq-eqb, ne_eqb, not-false}
use Rattle.model.specs.Basic.{all, pick, those}
use Rattle.model.specs.declared.Pair.{Pair}
use Rattle.model.specs.declared.Delta.{Delta}
use Rattle.model.specs.Entry.{pair, enter_pair}
use Rattle.model.specs.Store.{Store, next, last, last_of}
use Rattle.model.specs.Walk.{settings}
use Rattle.model.specs.Sound.{sound}
use Rattle.model.specs.Climb.{Result, done, refused}
use Rattle.model.specs.Calls.{rule, insert, delete, begin, committed, unchanged, commit, abandon, abandoned, prune, pruned}
use Rattle.model.specs.Differ.{differ}
use Rattle.model.specs.Return.{goes, comes, Came, gave}
use Rattle.model.specs.Histories.{Call, begins, commits, abandons, inserts, deletes, returns, prunes, call_by}
use Rattle.model.specs.Settings.{Machine, step, Both, onward, together, fits, Tally, nothing_yet, put_count, counted_by, tallied}
use Rattle.model.specs.Settings.{beginning}
use Rattle.model.specs.ByRule.{Readable, Committed}
use Rattle.model.proofs.lists.Lists.{all_cons}
use Rattle.model.proofs.lists.Members.{holds-true, true-holds, not-both, bool_cases}
use Rattle.model.proofs.sound.ByRule.{old-current, to-tests}
use Rattle.model.proofs.sound.Ready.{numbered-by, insert-by, delete-by}
use Rattle.model.proofs.turning.Returned.{Stepped, way, returned-by}
use Rattle.model.proofs.turning.Prune.{prune-by}
use Rattle.model.proofs.theorems.History.{Agrees, one-call, fresh-agrees}
use Rattle.model.proofs.theorems.Theorems.{OneMore, OneLess, insert-counts, delete-counts}

pub record Counts (b : Both) (t : Tally) : Type 0 where
  pub is : (v : ℕ) → Readable b.store v → length (settings b.store v) + t.removed v ≡ t.added v

count-here : (w n v : ℕ) (f : ℕ → ℕ) → v ≡ w → put_count w n f v ≡ n
count-here w n v f e = ap (λ (b : Bool). pick b n (f v)) (eq-eqb v w e)

count-away : (w n v : ℕ) (f : ℕ → ℕ) → v ≢ w → put_count w n f v ≡ f v
count-away w n v f e = ap (λ (b : Bool). pick b n (f v)) (ne_eqb v w e)

module _ (least : ℕ) (four : 4 ≤ least) (b : Both) (a : Agrees least b) (t : Tally) (k : Counts b t) where
  abbrev s : Store
  s = b.store

  abbrev m : Machine
  m = b.machine

  abbrev Next : Call → Result → Type 0
  Next c r = Agrees least (onward b c (gave r)) → Counts (onward b c (gave r)) (counted_by m t c (gave r))

  last-open : s.opened ≡ true → last s ≡ suc s.current
  last-open o = ap (λ (q : Bool). last_of q s.current) o

  last-shut : s.opened ≡ false → last s ≡ s.current
  last-shut o = ap (λ (q : Bool). last_of q s.current) o

  same_length : (us vs : List Pair) → us ≡ vs → length us ≡ length vs
  same_length us vs e = ap (λ (xs : List Pair). length xs) e

  sure : T (sound least s)
  sure = true-holds (sound least s) (to-tests least s a.is-sound)

  begins-next : Next begins (begin s)
  unfolding begin
  begins-next =
      numbered-by (Next begins) (rule 8 s.opened ∷ rule 9 (leb 1048574 s.current) ∷ [])
      (done (record { current = s.current; opened = true; oldest = s.oldest; slots = s.slots; pages = s.pages })) (λ n _. k)
      (λ f n. record { is = λ v h. at f.0 n v h (bool_cases (eqb v (suc m.current))) })
    where
      now : Both
      now =
          record {
            store = record { current = s.current; opened = true; oldest = s.oldest; slots = s.slots; pages = s.pages };
            machine = step m begins;
          }

      at : s.opened ≡ false
          → Agrees least
          (record {
            store = record { current = s.current; opened = true; oldest = s.oldest; slots = s.slots; pages = s.pages };
            machine = step m begins;
          }) → (v : ℕ) → Readable now.store v
          → (eqb v (suc m.current) ≡ true) ⊎ (eqb v (suc m.current) ≡ false)
          → length (settings (record { current = s.current; opened = true; oldest = s.oldest; slots = s.slots; pages = s.pages }) v)
          + put_count (suc m.current) (t.removed m.current) t.removed v
          ≡ put_count (suc m.current) (t.added m.current) t.added v
      at o n v h (inl e) =
          let eq : v ≡ suc m.current = eqb-true v (suc m.current) e in
          let low : s.oldest ≤ s.current = old-current least s a.is-sound.old-low in
          let x = k.is m.current (omega (arith, last-shut o, a.current)) in
          let y : length
          (settings (record { current = s.current; opened = true; oldest = s.oldest; slots = s.slots; pages = s.pages }) v)
          ≡ length (settings s m.current) =
          same_length _ _
          (n.shows v h ∙ ap (λ (q : Bool). pick q (m.shows m.current) (m.shows v)) e
          ∙ sym (a.shows m.current (omega (arith, last-shut o, a.current)))) in
          omega (
            arith,
            count-here (suc m.current) (t.removed m.current) v t.removed eq,
            count-here (suc m.current) (t.added m.current) v t.added eq,
          )
      at o n v h (inr e) =
          let ne : v ≢ suc m.current = eqb-false v (suc m.current) e in
          let x = k.is v (omega (arith, last-shut o, a.current, h.from, h.upto)) in
          omega (
            arith,
            count-away (suc m.current) (t.removed m.current) v t.removed ne,
            count-away (suc m.current) (t.added m.current) v t.added ne,
          )

  commits-next : Next commits (commit s)
  unfolding commit
  commits-next =
      numbered-by (Next commits) (rule 7 (not s.opened) ∷ rule 15 (unchanged s) ∷ []) (done (committed s)) (λ n _. k)
      (λ f n. record { is = λ v h. k.is v (omega (arith, last-open (not-false s.opened f.0), h.from, h.upto)) })

  abandoned-next : s.opened ≡ true → Agrees least (record { store = abandoned s; machine = step m abandons })
      → Counts (record { store = abandoned s; machine = step m abandons }) t
  unfolding abandoned
  abandoned-next o n = record { is = λ v h. at o n v h }
    where
      at : s.opened ≡ true → Agrees least (record { store = abandoned s; machine = step m abandons }) → (v : ℕ) → Readable (abandoned s) v
          → length (settings (abandoned s) v) + t.removed v ≡ t.added v
      at o n v h =
          let y : length (settings (abandoned s) v) ≡ length (settings s v)
          = same_length _ _ (n.shows v h ∙ sym (a.shows v (omega (arith, last-open o, h.from, h.upto)))) in
          omega (arith, k.is v (omega (arith, last-open o, h.from, h.upto)))

  abandons-next : Next abandons (abandon s)
  unfolding abandon
  abandons-next =
      numbered-by (Next abandons) (rule 7 (not s.opened) ∷ []) (done (abandoned s)) (λ n _. k)
      (λ f n. abandoned-next (not-false s.opened f.0) n)

  prunes-next : (w : ℕ) → Next (prunes w) (prune least s w)
  unfolding pruned
  prunes-next w = prune-by (Next (prunes w)) least s w (λ n _. k) (λ e o low high n. record { is = λ v h. at low n v h })
    where
      at : s.oldest ≤ w → Agrees least (record { store = pruned s w; machine = step m (prunes w) }) → (v : ℕ) → Readable (pruned s w) v
          → length (settings (pruned s w) v) + t.removed v ≡ t.added v
      at low n v h =
          let z : Readable s v = record { from = omega (arith, h.from); upto = h.upto } in
          let y : length (settings (pruned s w) v) ≡ length (settings s v) = same_length _ _ (n.shows v h ∙ sym (a.shows v z)) in
          omega (arith, k.is v z)

  past : (o : s.opened ≡ true) (c : Call) (u : Store) → Agrees least (record { store = u; machine = step m c })
      → ((v : ℕ) → v ≢ suc m.current → (step m c).shows v ≡ m.shows v) → (step m c).current ≡ m.current → (step m c).opened ≡ m.opened
      → (step m c).oldest ≡ m.oldest
      → (v : ℕ) → Readable u v → v ≢ suc m.current → length (settings u v) ≡ length (settings s v)
  past o c u n f e g j v h ne =
      let lu : last u ≡ suc s.current = ap₂ last_of (n.opened ∙ g ∙ sym a.opened ∙ o) (n.current ∙ e ∙ sym a.current) in
      same_length _ _ (n.shows v h ∙ f v ne ∙ sym (a.shows v (omega (arith, last-open o, lu, h.from, h.upto, n.oldest, j, a.oldest))))

  inserts-at : (o : s.opened ≡ true) (j x : ℕ) (r : Result) → OneMore s r → Next (inserts j x) r
  inserts-at o j x (refused i) e n = k
  inserts-at o j x (done u) e n = record { is = λ v h. at v h (bool_cases (eqb v (suc m.current))) }
    where
      at : (v : ℕ) → Readable u v → (eqb v (suc m.current) ≡ true) ⊎ (eqb v (suc m.current) ≡ false)
          → length (settings u v) + t.removed v ≡ put_count (suc m.current) (suc (t.added (suc m.current))) t.added v
      at v h (inl z) =
          let eq : v ≡ suc m.current = eqb-true v (suc m.current) z in
          let w : v ≡ next s = omega (arith, a.current) in
          let y : length (settings u v) ≡ suc (length (settings s v))
          = subst (λ (i : ℕ). length (settings u i) ≡ suc (length (settings s i))) (sym w) e in
          let added : t.added (suc m.current) ≡ t.added v = ap t.added (sym eq) in
          omega (
            arith,
            count-here (suc m.current) (suc (t.added (suc m.current))) v t.added eq,
            k.is v (omega (arith, last-open o, old-current least s a.is-sound.old-low)),
          )
      at v h (inr z) =
          let ne : v ≢ suc m.current = eqb-false v (suc m.current) z in
          let lu : last u ≡ suc s.current = ap₂ last_of (n.opened ∙ sym a.opened ∙ o) (n.current ∙ sym a.current) in
          omega (
            arith,
            count-away (suc m.current) (suc (t.added (suc m.current))) v t.added ne,
            past o (inserts j x) u n
                (λ i q. ap (λ (b' : Bool). pick b' (enter_pair (pair j x) (m.shows (suc m.current))) (m.shows i))
                (ne_eqb i (suc m.current) q)) refl refl refl v h ne,
            k.is v (omega (arith, last-open o, lu, h.from, h.upto, n.oldest, a.oldest)),
          )

  deletes-at : (o : s.opened ≡ true) (j : ℕ) (r : Result) → OneLess s r → Next (deletes j) r
  deletes-at o j (refused i) e n = k
  deletes-at o j (done u) e n = record { is = λ v h. at v h (bool_cases (eqb v (suc m.current))) }
    where
      at : (v : ℕ) → Readable u v → (eqb v (suc m.current) ≡ true) ⊎ (eqb v (suc m.current) ≡ false)
          → length (settings u v) + put_count (suc m.current) (suc (t.removed (suc m.current))) t.removed v ≡ t.added v
      at v h (inl z) =
          let eq : v ≡ suc m.current = eqb-true v (suc m.current) z in
          let w : v ≡ next s = omega (arith, a.current) in
          let y : suc (length (settings u v)) ≡ length (settings s v)
          = subst (λ (i : ℕ). suc (length (settings u i)) ≡ length (settings s i)) (sym w) e in
          let gone : t.removed (suc m.current) ≡ t.removed v = ap t.removed (sym eq) in
          omega (
            arith,
            count-here (suc m.current) (suc (t.removed (suc m.current))) v t.removed eq,
            k.is v (omega (arith, last-open o, old-current least s a.is-sound.old-low)),
          )
      at v h (inr z) =
          let ne : v ≢ suc m.current = eqb-false v (suc m.current) z in
          let lu : last u ≡ suc s.current = ap₂ last_of (n.opened ∙ sym a.opened ∙ o) (n.current ∙ sym a.current) in
          omega (
            arith,
            count-away (suc m.current) (suc (t.removed (suc m.current))) v t.removed ne,
            past o (deletes j) u n
                (λ i q. ap (λ (b' : Bool). pick b' (those (λ (y : Pair). not (eqb y.key j)) (m.shows (suc m.current))) (m.shows i))
                (ne_eqb i (suc m.current) q)) refl refl refl v h ne,
            k.is v (omega (arith, last-open o, lu, h.from, h.upto, n.oldest, a.oldest)),
          )

  -- a return's own deletes and inserts
  returns-at : (v : ℕ) → s.opened ≡ true → Committed s v → (u : Store) → Stepped least s u (settings s v) → Next (returns v) (done u)
  returns-at v o h u g n = record { is = λ i z. at i z (bool_cases (eqb i (suc m.current))) }
    where
      w : ℕ
      w = suc m.current

      old-now : s.oldest ≤ s.current
      old-now = old-current least s a.is-sound.old-low

      now : m.shows (suc m.current) ≡ settings s (next s)
      now = sym (a.shows (next s) (omega (arith, last-open o, old-now)) ∙ ap (λ (i : ℕ). m.shows (suc i)) a.current)

      ds : differ (m.shows (suc m.current)) (m.shows v) ≡ differ (settings s (next s)) (settings s v)
      ds = ap₂ differ now (sym (a.shows v (omega (arith, last-open o, h.from, h.upto))))

      gone : ℕ
      gone = length (those goes (differ (m.shows (suc m.current)) (m.shows v)))

      come : ℕ
      come = length (those comes (differ (m.shows (suc m.current)) (m.shows v)))

      at : (i : ℕ) → Readable u i → (eqb i (suc m.current) ≡ true) ⊎ (eqb i (suc m.current) ≡ false)
          → length (settings u i) + put_count (suc m.current) (gone + t.removed (suc m.current)) t.removed i
          ≡ put_count (suc m.current) (come + t.added (suc m.current)) t.added i
      at i z (inl e) =
          let eq : i ≡ suc m.current = eqb-true i (suc m.current) e in
          let path = way least four s a.is-sound o v h in
          let fewer : length (settings s (next s)) ≡ gone + length path.mid = path.fewer
          ∙ ap (λ (xs : List Delta). length (those goes xs) + length path.mid) (sym ds) in
          let more : length (settings s v) ≡ come + length path.mid = path.more
          ∙ ap (λ (xs : List Delta). length (those comes xs) + length path.mid) (sym ds) in
          let shown : length (settings u i) ≡ length (settings s v)
          = same_length _ _ (ap (settings u) (eq ∙ ap suc (sym a.current ∙ sym g.current)) ∙ g.openly) in
          let before = k.is (next s) (omega (arith, last-open o, old-now)) in
          let same : next s ≡ suc m.current = ap suc a.current in
          let removed : t.removed (next s) ≡ t.removed (suc m.current) = ap t.removed same in
          let added : t.added (next s) ≡ t.added (suc m.current) = ap t.added same in
          omega (
            arith,
            count-here (suc m.current) (gone + t.removed (suc m.current)) i t.removed eq,
            count-here (suc m.current) (come + t.added (suc m.current)) i t.added eq,
          )
      at i z (inr e) =
          let ne : i ≢ suc m.current = eqb-false i (suc m.current) e in
          let lu : last u ≡ suc s.current = ap₂ last_of g.opened g.current in
          omega (
            arith,
            count-away (suc m.current) (gone + t.removed (suc m.current)) i t.removed ne,
            count-away (suc m.current) (come + t.added (suc m.current)) i t.added ne,
            past o (returns v) u n (λ j q. ap (λ (b' : Bool). pick b' (m.shows v) (m.shows j)) (ne_eqb j (suc m.current) q)) refl refl
                refl i z ne,
            k.is i (omega (arith, last-open o, lu, z.from, z.upto, n.oldest, a.oldest)),
          )

  pub one-count : (c : Call) → Agrees least (onward b c (call_by least s c))
      → Counts (onward b c (call_by least s c)) (counted_by m t c (call_by least s c))
  one-count begins = begins-next
  one-count commits = commits-next
  one-count abandons = abandons-next
  one-count (inserts j x) = at (bool_cases s.opened)
    where
      at : (s.opened ≡ true) ⊎ (s.opened ≡ false) → Next (inserts j x) (insert least s j x)
      at (inl o) = inserts-at o j x (insert least s j x) (insert-counts least (omega arith) s sure j x)
      at (inr o) = insert-by (Next (inserts j x)) least s j x (λ i _. k) (λ y low z. absurd (not-both s.opened y o))
  one-count (deletes j) = at (bool_cases s.opened)
    where
      at : (s.opened ≡ true) ⊎ (s.opened ≡ false) → Next (deletes j) (delete least s j)
      at (inl o) = deletes-at o j (delete least s j) (delete-counts least (omega arith) s sure j)
      at (inr o) = delete-by (Next (deletes j)) least s j (λ i _. k) (λ y low z. absurd (not-both s.opened y o))
  one-count (returns v) =
      returned-by least
      (λ (q : Came). Agrees least (onward b (returns v) q) → Counts (onward b (returns v) q) (counted_by m t (returns v) q)) four s
      a.is-sound v (λ i _. k) (returns-at v)
      (λ o h i l. abandoned-next o)
  one-count (prunes w) = prunes-next w

many-counts : (least : ℕ) → 4 ≤ least → (cs : List Call) → all fits cs ≡ true → (b : Both) → Agrees least b → (t : Tally) → Counts b t
    → Counts (together least b cs) (tallied least b t cs)
many-counts least four [] h b a t k = k
many-counts least four (c ∷ cs) h b a t k =
    let (x, y) = all_cons fits c cs h in
    let n : Agrees least (onward b c (call_by least b.store c)) = one-call least four b a c x in
    many-counts least four cs y (onward b c (call_by least b.store c)) n (counted_by b.machine t c (call_by least b.store c))
    (one-count least four b a t k c n)

-- The number of settings at a version is that of the accepted inserts less that of the accepted deletes of the updates up to it.
pub history-counts : (least : ℕ) → 4 ≤ least → (n : ℕ) → 6 ≤ n → n ≤ 4096 → (cs : List Call) → T (all fits cs) → (v : ℕ)
    → Readable (together least (beginning n) cs).store v
    → length (settings (together least (beginning n) cs).store v) + (tallied least (beginning n) nothing_yet cs).removed v
    ≡ (tallied least (beginning n) nothing_yet cs).added v
history-counts least four n six most cs h v z =
    let a = fresh-agrees least four n six most in
    (many-counts least four cs (holds-true (all fits cs) h) (beginning n) a nothing_yet
    (record { is = λ u q. omega (arith, ap (λ (us : List Pair). length us) (a.shows u q)) })).is v z
