-- An update that is abandoned, whatever calls it held, leaves the store as it was before the open.
-- Assumes nothing.
use Prim.Native.Nat.{ℕ, suc, ◌≤◌, ◌<◌}
use native.Mathlib.Omega.{arith}
use mathlib.Core.Bool.{Bool, true, false, not}
use mathlib.Core.Path.{◌≡◌, refl, ap, ap₂, sym, ◌∙◌, subst}
use mathlib.Core.Logic.{◌⊎◌, inl, inr}
use mathlib.Core.List.{List, [], ◌∷◌, ◌++◌, map}
use lib.Dec.{T, leb, eqb, eqb-zero-suc}
use lib.ListN.{length, get_or}
use borrow.Author.Tests.{eqb-true, leb-true, lt-leb, ne_eqb}
use Rattle.model.specs.Basic.{all, pick, those, keep}
use Rattle.model.specs.declared.Entry.{Entry}
use Rattle.model.specs.Entry.{alive}
use Rattle.model.specs.Page.{Page, free, is_free}
use Rattle.model.specs.declared.Slot.{Slot}
use Rattle.model.specs.Store.{Store, page}
use Rattle.model.specs.Sound.{sound}
use Rattle.model.specs.Climb.{Result, done, refused}
use Rattle.model.specs.Calls.{insert, delete, begin, abandon, abandoned, revived_end, revived, restored_entries, back_by, back}
use Rattle.model.specs.Return.{Came, gave, gave_up}
use Rattle.model.specs.Histories.{Call, begins, commits, abandons, inserts, deletes, returns, prunes, call_by}
use Rattle.model.specs.Settings.{step, Both, onward, together, fits, stays_in, inside, lent}
use Rattle.model.specs.Inner.{In}
use Rattle.model.specs.ByRule.{Sound}
use Rattle.model.proofs.lists.Lists.{both_true, all_cons}
use Rattle.model.proofs.lists.Members.{holds-true, true-holds, not-both, bool_cases, all_in, all-by}
use Rattle.model.proofs.tree.Local.{those-all}
use Rattle.model.proofs.sound.ByRule.{from-tests, to-tests, Span, span_of, entry_of}
use Rattle.model.proofs.older.Undo.{Undone}
use Rattle.model.proofs.sound.Ready.{insert-undone, delete-undone}
use Rattle.model.proofs.turning.Turns.{store}
use Rattle.model.proofs.turning.Returned.{returned-by}
use Rattle.model.proofs.turning.Prune.{prune-by}
use Rattle.model.proofs.theorems.History.{Agrees, one-call, many-calls}

-- another open is refused
begin-open : (s : Store) → s.opened ≡ true → begin s ≡ refused 8
unfolding begin
begin-open s o = rw o refl

-- an open update stays open
inside-open : (b : Both) (c : Call) (r : Came) → stays_in c r ≡ true → b.machine.opened ≡ true → (onward b c r).machine.opened ≡ true
inside-open b c (gave (refused n)) i o = o
inside-open b c (gave_up n t) i o = absurd (not-both false i refl)
inside-open b begins (gave (done t)) i o = refl
inside-open b commits (gave (done t)) i o = absurd (not-both false i refl)
inside-open b abandons (gave (done t)) i o = absurd (not-both false i refl)
inside-open b (inserts k x) (gave (done t)) i o = o
inside-open b (deletes k) (gave (done t)) i o = o
inside-open b (returns v) (gave (done t)) i o = o
inside-open b (prunes v) (gave (done t)) i o = o

still_open : (least : ℕ) (cs : List Call) (b : Both) → inside least b cs ≡ true → b.machine.opened ≡ true
    → (together least b cs).machine.opened ≡ true
still_open least [] b e o = o
still_open least (c ∷ cs) b e o =
    let r : Came = call_by least b.store c in
    let (x, y) = both_true (stays_in c r) (inside least (onward b c r) cs) e in
    still_open least cs (onward b c r) y (inside-open b c r x o)

-- An abandon after any calls inside an update leaves what an abandon before them leaves.
pub inside-undone : (least : ℕ) → 4 ≤ least → (cs : List Call) (b : Both) → inside least b cs ≡ true → all fits cs ≡ true → Agrees least b
    → b.machine.opened ≡ true
    → abandoned (together least b cs).store ≡ abandoned b.store
inside-undone least four [] b e h a o = refl
inside-undone least four (c ∷ cs) b e h a o =
    let (e₁, e₂) = both_true (stays_in c (call_by least b.store c)) (inside least (onward b c (call_by least b.store c)) cs) e in
    let (h₁, h₂) = all_cons fits c cs h in
    inside-undone least four cs (onward b c (call_by least b.store c)) e₂ h₂ (one-call least four b a c h₁)
    (inside-open b c (call_by least b.store c) e₁ o)
    ∙ one c (call_by least b.store c) refl e₁
  where
    sure : T (sound least b.store)
    sure = true-holds (sound least b.store) (to-tests least b.store a.is-sound)

    by : (r : Result) → Undone b.store r → abandoned (onward b c (gave r)).store ≡ abandoned b.store
    by (done t) u = u
    by (refused n) u = refl

    again : begin b.store ≡ refused 8
    again = begin-open b.store (a.opened ∙ o)

    one : (c' : Call) (r : Came) → call_by least b.store c' ≡ r → stays_in c' r ≡ true
        → abandoned (onward b c (call_by least b.store c')).store ≡ abandoned b.store
    one c' (gave (refused n)) q z = ap (λ (r : Came). abandoned (onward b c r).store) q
    one c' (gave_up n t) q z = absurd (not-both false z refl)
    one begins (gave (done t)) q z = ap (λ (r : Result). abandoned (onward b c (gave r)).store) again
    one commits (gave (done t)) q z = absurd (not-both false z refl)
    one abandons (gave (done t)) q z = absurd (not-both false z refl)
    one (inserts k x) (gave (done t)) q z = by (insert least b.store k x) (insert-undone least (omega arith) b.store sure k x)
    one (deletes k) (gave (done t)) q z = by (delete least b.store k) (delete-undone least (omega arith) b.store sure k)
    one (returns v) (gave (done t)) q z = ap (λ (r : Came). abandoned (onward b c r).store) q
        ∙ subst Ended q (returned-by least Ended four b.store a.is-sound v (λ n. tt) (λ p h u g. g.undone) (λ p h n l. tt))
      where
        Ended : Came → Type 0
        Ended (gave (done u)) = abandoned u ≡ abandoned b.store
        Ended (gave (refused n)) = Unit {0}
        Ended (gave_up n u) = Unit {0}
    -- a prune is refused here
    one (prunes v) (gave (done t)) q z = prune-by (λ (r : Result). abandoned (onward b c (gave r)).store ≡ abandoned b.store) least
        b.store v (λ n. refl) (λ e y low high. absurd (not-both b.store.opened (a.opened ∙ o) y))

-- an open and an abandon
map-places : {A : Type 0} (f : A → A) (d : A) (xs : List A) → ((n : ℕ) → n < length xs → f (get_or xs n d) ≡ get_or xs n d) → map f xs ≡ xs
map-places f d [] h = refl
map-places {A} f d (x ∷ xs) h =
    ap₂ {C = List A} (λ (y : A) (ys : List A). y ∷ ys) (h 0 (omega arith)) (map-places f d xs (λ n l. h (suc n) (omega arith)))

module _ (least c old : ℕ) (xs : List Slot) (ps : List Page) (d : Sound least (store c false old xs ps)) where
  abbrev w : ℕ
  w = suc c

  limit : c ≤ 1048574
  limit = d.last-low

  end_kept : (b : ℕ) → (b ≤ c) ⊎ (b ≡ alive) → revived_end w b ≡ b
  end_kept b h = at (eqb b w) refl h
    where
      at : (q : Bool) → eqb b w ≡ q → (b ≤ c) ⊎ (b ≡ alive) → pick q alive b ≡ b
      at false e h = refl
      at true e (inl z) = absurd (omega (arith, eqb-true b w e))
      at true e (inr z) = sym z

  entries-kept : (es : List Entry) → ((e : Entry) → In e es → Span c e.start e.end) → restored_entries w es ≡ es
  entries-kept [] h = refl
  entries-kept (e ∷ es) h =
      ap (λ (q : Bool). map (revived w) (keep (not q) e (those (λ (x : Entry). not (eqb x.start w)) es)))
      (ne_eqb e.start w (λ (z : e.start ≡ w). omega (arith, (h e (inl refl)).starts)))
      ∙ ap₂ {C = List Entry} (λ (y : Entry) (ys : List Entry). y ∷ ys) one (entries-kept es (λ f i. h f (inr i)))
    where
      one : revived w e ≡ e
      one = λ i. record { key = e.key; start = e.start; end = end_kept e.end (h e (inl refl)).ends i; value = e.value }

  page-kept : (n : ℕ) → back w (page ps n) ≡ page ps n
  page-kept n = at (bool_cases (is_free (page ps n)))
    where
      back-free : back w free ≡ free
      back-free = rw (eqb-zero-suc c, eqb-zero-suc c)

      at : (is_free (page ps n) ≡ true) ⊎ (is_free (page ps n) ≡ false) → back w (page ps n) ≡ page ps n
      at (inl z) = ap (back w) (d.zeros n z) ∙ back-free ∙ sym (d.zeros n z)
      at (inr u) =
          let p : Page = page ps n in
          let h : Span c p.start p.end = span_of c p.start p.end (d.pages n u).span in
          let e : restored_entries w p.entries ≡ p.entries
          = entries-kept p.entries (λ f i. (entry_of least (store c false old xs ps) d n u f i).span) in
          ap (λ (q : Bool). back_by q w p) (ne_eqb p.start w (λ (z : p.start ≡ w). omega (arith, h.starts)))
          ∙ (λ i. record { level = p.level; start = p.start; end = end_kept p.end h.ends i; entries = e i })

  slots_kept : those (λ (x : Slot). not (eqb x.version w)) xs ≡ xs
  slots_kept = those-all (λ (x : Slot). not (eqb x.version w)) xs
      (all-by (λ (x : Slot). not (eqb x.version w)) xs
      (λ x i. ap not
      (ne_eqb x.version w
      (λ (z : x.version ≡ w). omega (arith, leb-true x.version c (all_in (λ (y : Slot). leb y.version c) x xs d.upto i))))))

  -- An open and an abandon leave the store as it was.
  pub begun-abandoned : abandoned (store c true old xs ps) ≡ store c false old xs ps
  unfolding abandoned
  begun-abandoned =
      λ i. record {
        current = c;
        opened = false;
        oldest = old;
        slots = slots_kept i;
        pages = map-places (back w) free ps (λ n l. page-kept n) i;
      }

-- a list of calls in two parts
pub together-append : (least : ℕ) (b : Both) (cs ds : List Call) → together least b (cs ++ ds) ≡ together least (together least b cs) ds
together-append least b [] ds = refl
together-append least b (c ∷ cs) ds = together-append least (onward b c (call_by least b.store c)) cs ds

module _ (least : ℕ) (four : 4 ≤ least) (b : Both) (a : Agrees least b) (shut : b.store.opened ≡ false)
    (room : b.store.current < 1048574) where
  abbrev s : Store
  s = b.store

  abbrev begun : Both
  begun =
      record {
        store = record { current = s.current; opened = true; oldest = s.oldest; slots = s.slots; pages = s.pages };
        machine = step b.machine begins;
      }

  begin-is : begin s ≡ done begun.store
  unfolding begin
  begin-is = rw (shut, lt-leb 1048574 s.current room)

  onward-begin : onward b begins (gave (begin s)) ≡ begun
  onward-begin = ap (λ (r : Result). onward b begins (gave r)) begin-is

  abandon-is : (t : Both) → t.store.opened ≡ true → (onward t abandons (gave (abandon t.store))).store ≡ abandoned t.store
  unfolding abandon
  abandon-is t o = rw o

  -- The whole: open, calls inside, abandon.
  pub update-abandoned : (cs : List Call) → inside least b (begins ∷ cs) ≡ true → all fits cs ≡ true
      → (together least b (begins ∷ (cs ++ (abandons ∷ [])))).store ≡ s
  update-abandoned cs i h =
      let e : inside least begun cs ≡ true = subst (λ (x : Both). inside least x cs ≡ true) onward-begin
      (both_true (stays_in begins (gave (begin s))) (inside least (onward b begins (gave (begin s))) cs) i).1 in
      let agreed : Agrees least begun = subst (Agrees least) onward-begin (one-call least four b a begins refl) in
      let after : Both = together least begun cs in
      let open_after : after.store.opened ≡ true = (many-calls least four cs h begun agreed).opened ∙ still_open least cs begun e refl in
      ap (λ (x : Both). (together least x (cs ++ (abandons ∷ []))).store) onward-begin
      ∙ ap (λ (x : Both). x.store) (together-append least begun cs (abandons ∷ []))
      ∙ abandon-is after open_after
      ∙ inside-undone least four cs begun e h agreed refl
      ∙ begun-abandoned least s.current s.oldest s.slots s.pages
      (subst (λ (q : Bool). Sound least (store s.current q s.oldest s.slots s.pages)) shut a.is-sound)
      ∙ ap (λ (q : Bool). store s.current q s.oldest s.slots s.pages) (sym shut)

pub lent-agrees : (least : ℕ) (s : Store) → T (sound least s) → Agrees least (lent s)
lent-agrees least s sure =
    record {
      is-sound = from-tests least s (holds-true (sound least s) sure);
      current = refl;
      opened = refl;
      oldest = refl;
      shows = λ v h. refl;
    }

-- For every sound store with no update open: an update that is abandoned leaves it as it was.
pub abandoned-update : (least : ℕ) → 4 ≤ least → (s : Store) → T (sound least s) → s.opened ≡ false → s.current < 1048574
    → (cs : List Call) → T (inside least (lent s) (begins ∷ cs)) → T (all fits cs)
    → (together least (lent s) (begins ∷ (cs ++ (abandons ∷ [])))).store ≡ s
abandoned-update least four s sure shut room cs e h =
    update-abandoned least four (lent s) (lent-agrees least s sure) shut room cs (holds-true (inside least (lent s) (begins ∷ cs)) e)
    (holds-true (all fits cs) h)
