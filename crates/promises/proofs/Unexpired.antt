-- On a store that calls made no used page has ended by the oldest version: a prune frees those that have, and an update ends pages at its
-- own version, which is above it. So a prune to the oldest version finds no page to free, and by rule 2 no slot to drop.
-- Assumes nothing.
use Prim.Native.Nat.{ℕ, suc, ◌≤◌, ◌<◌}
use native.Mathlib.Omega.{arith}
use mathlib.Core.Bool.{Bool, true, false, not}
use mathlib.Core.Path.{◌≡◌, refl, ap, ap₂, sym, ◌∙◌, subst}
use mathlib.Core.Logic.{◌⊎◌, inl, inr}
use mathlib.Core.List.{List, [], ◌∷◌, map}
use lib.Dec.{T, leb, ltb, eqb, eqb-zero-suc}
use lib.ListN.{drop, get_or, get_or-map}
use borrow.Author.Tests.{ltb-true, leb-false, eqb-true, le-leb, lt-leb}
use Rattle.model.specs.Basic.{all, pick}
use Rattle.model.specs.declared.Slot.{Slot}
use Rattle.model.specs.Field.{Bytes}
use Rattle.model.specs.Entry.{alive}
use Rattle.model.specs.Page.{Page, free, is_free, active}
use Rattle.model.specs.Store.{Store, page, next, last, fresh}
use Rattle.model.specs.Sound.{sound}
use Rattle.model.specs.Layout.{encode}
use Rattle.model.specs.Judged.{length_ok}
use Rattle.model.specs.Editions.{least_of}
use Rattle.model.specs.Climb.{Result, done, refused}
use Rattle.model.specs.Calls
use Rattle.model.specs.Calls.{rule, revived_end, back_by, back, unchanged, committed, abandoned, pruned_page, needed, pruned}
use Rattle.model.specs.Return.{Came, gave}
use Rattle.model.specs.Histories.{Call, begins, commits, abandons, inserts, deletes, returns, prunes, call_by, after}
use Rattle.model.specs.Settings
use Rattle.model.specs.Lent.{Outcome, fresh_lent}
use Rattle.model.specs.Ended.{Asked, Ended, ended}
use Rattle.model.specs.ByRule.{Sound}
use Rattle.model.proofs.lists.Lists.{all_cons}
use Rattle.model.proofs.lists.Members.{holds-true, true-holds, not-both, bool_cases}
use Rattle.model.proofs.sound.ByRule.{from-tests, to-tests, span_of, old-current, old-last}
use Rattle.model.proofs.older.Undo.{Undone}
use Rattle.model.proofs.sound.Ready.{numbered-by, insert-undone, delete-undone}
use Rattle.model.proofs.turning.Turns.{fresh-sound}
use Rattle.model.proofs.turning.Returned.{returned-by}
use Rattle.model.proofs.turning.Prune.{prune-by}
use Rattle.model.proofs.theorems.Theorems.{call-sound}
use Rattle.model.proofs.theorems.Editions.{edition-four}
use Rattle.promises.specs.Accepts.{Accepts, store_of, OfEdition, Written}
use Rattle.promises.specs.Runs.{Turn, turned, run_bytes, kind_of, fitting, each}
use Rattle.promises.proofs.Known.{four}
use Rattle.promises.proofs.Encoded.{encoded-sound}
use Rattle.promises.proofs.Lending.{kind-asks, by_kind, made-wrong, held-sound, change-leaves, fresh-leaves, call-accepts}
use Rattle.promises.proofs.Lending.{call-bytes}

pub record Unexpired (s : Store) : Type 0 where
  pub later : (n : ℕ) → is_free (page s.pages n) ≡ false → s.oldest < (page s.pages n).end

-- a span is not empty
pub unpruned-unexpired : (least : ℕ) (s : Store) → Sound least s → s.oldest ≡ 0 → Unexpired s
unpruned-unexpired least s d z =
    record {
      later = λ n u.
          omega (arith, z, (span_of (last s) (page s.pages n).start (page s.pages n).end (d.pages n u).span).some);
    }

-- ---- a prune

pruned-unexpired : (s : Store) (v : ℕ) → Unexpired (pruned s v)
unfolding pruned
pruned-unexpired s v =
    record {
      later = λ n. subst (λ (p : Page). is_free p ≡ false → v < p.end) (sym (pruned-page n))
          (at n (leb (page s.pages n).end v) refl);
    }
  where
    pruned-page : (n : ℕ) → page (map (pruned_page v) s.pages) n ≡ pruned_page v (page s.pages n)
    pruned-page n =
        ap (λ (q : Page). get_or (map (pruned_page v) s.pages) n q) (sym (ap (λ (t : Bool). pick t free free) (le-leb 0 v (omega arith))))
        ∙ get_or-map (pruned_page v) s.pages n free

    at : (n : ℕ) (t : Bool) → leb (page s.pages n).end v ≡ t → is_free (pick t free (page s.pages n)) ≡ false
        → v < (pick t free (page s.pages n)).end
    at n true e u = absurd (not-both (is_free free) refl u)
    at n false e u = leb-false (page s.pages n).end v e

-- ---- an abandon: before and after it the same pages have ended by the oldest version

module _ (least : ℕ) (s : Store) (d : Sound least s) where
  abbrev w : ℕ
  w = next s

  abbrev ps : List Page
  ps = s.pages

  old-low : s.oldest < next s
  old-low = omega (arith, old-current least s d.old-low)

  old-alive : s.oldest < alive
  old-alive = omega (arith, old-last least s d.old-low, d.last-low)

  back-free : back (next s) free ≡ free
  back-free = rw (eqb-zero-suc s.current, eqb-zero-suc s.current)

  page-is : (n : ℕ) → page (map (back (next s)) s.pages) n ≡ back (next s) (page s.pages n)
  page-is n = ap (λ (p : Page). get_or (map (back w) ps) n p) (sym back-free) ∙ get_or-map (back w) ps n free

  revived-late : (e : ℕ) → s.oldest < e → s.oldest < revived_end (next s) e
  revived-late e h = at (eqb e w)
    where
      at : (b : Bool) → s.oldest < pick b alive e
      at true = old-alive
      at false = h

  was-late : (e : ℕ) → s.oldest < revived_end (next s) e → s.oldest < e
  was-late e h = at (eqb e w) refl h
    where
      at : (b : Bool) → eqb e w ≡ b → s.oldest < pick b alive e → s.oldest < e
      at true q z = omega (arith, eqb-true e w q, old-low)
      at false q z = z

  pub abandoned-unexpired : Unexpired s → Unexpired (abandoned s)
  unfolding abandoned
  abandoned-unexpired u =
      record { later = λ n. subst (λ (p : Page). is_free p ≡ false → s.oldest < p.end) (sym (page-is n)) (at n (active w (page ps n))) }
    where
      at : (n : ℕ) (b : Bool) → is_free (back_by b w (page ps n)) ≡ false → s.oldest < (back_by b w (page ps n)).end
      at n true f = absurd (not-both (is_free free) refl f)
      at n false f = revived-late (page ps n).end (u.later n f)

  pub unexpired-before : Unexpired (abandoned s) → Unexpired s
  unfolding abandoned
  unexpired-before u =
      record {
        later = λ n f. at n f (active w (page ps n)) refl
            (subst (λ (p : Page). is_free p ≡ false → s.oldest < p.end) (page-is n) (u.later n));
      }
    where
      -- a page that starts at the open version ends above it
      at : (n : ℕ) → is_free (page ps n) ≡ false → (b : Bool) → active w (page ps n) ≡ b
          → (is_free (back_by b w (page ps n)) ≡ false → s.oldest < (back_by b w (page ps n)).end) → s.oldest < (page ps n).end
      at n f true e h =
          omega (
            arith,
            eqb-true (page ps n).start w e,
            old-low,
            (span_of (last s) (page ps n).start (page ps n).end (d.pages n f).span).some,
          )
      at n f false e h = was-late (page ps n).end (h f)

-- ---- every call

module _ (least : ℕ) (low : 4 ≤ least) (s : Store) (sure : T (sound least s)) (u : Unexpired s) where
  was-sound : Sound least s
  was-sound = from-tests least s (holds-true (sound least s) sure)

  -- an abandon leaves the same before and after a change inside an update
  by-undoing : (t : Store) → Sound least t → abandoned t ≡ abandoned s → Unexpired t
  by-undoing t g e = unexpired-before least t g (subst Unexpired (sym e) (abandoned-unexpired least s was-sound u))

  inside : (r : Result) → T (sound least (after s (gave r)).store) → Undone s r → Unexpired (after s (gave r)).store
  inside (done t) z e = by-undoing t (from-tests least t (holds-true (sound least t) z)) e
  inside (refused n) z e = u

  abbrev So : Came → Type 0
  So r = Unexpired (after s r).store

  by_call : (c : Call) → T (sound least (after s (call_by least s c)).store) → Unexpired (after s (call_by least s c)).store
  unfolding Calls.begin Calls.commit Calls.abandon
  by_call begins z =
      numbered-by (λ (r : Result). So (gave r)) (rule 8 s.opened ∷ rule 9 (leb 1048574 s.current) ∷ [])
      (done (record { current = s.current; opened = true; oldest = s.oldest; slots = s.slots; pages = s.pages })) (λ n. u)
      (λ f. record { later = u.later })
  by_call commits z =
      numbered-by (λ (r : Result). So (gave r)) (rule 7 (not s.opened) ∷ rule 15 (unchanged s) ∷ []) (done (committed s)) (λ n. u)
      (λ f. record { later = u.later })
  by_call abandons z =
      numbered-by (λ (r : Result). So (gave r)) (rule 7 (not s.opened) ∷ []) (done (abandoned s)) (λ n. u)
      (λ f. abandoned-unexpired least s was-sound u)
  by_call (inserts k x) z = inside (Calls.insert least s k x) z (insert-undone least (omega arith) s sure k x)
  by_call (deletes k) z = inside (Calls.delete least s k) z (delete-undone least (omega arith) s sure k)
  by_call (returns v) z =
      returned-by least So low s was-sound v (λ n. u) (λ o h t g. by-undoing t g.is-sound g.undone)
      (λ o h n l. abandoned-unexpired least s was-sound u)
  by_call (prunes v) z = prune-by (λ (r : Result). So (gave r)) least s v (λ n. u) (λ a o f g. pruned-unexpired s v)

  pub call-unexpired : (c : Call) → T (Settings.fits c) → Unexpired (after s (call_by least s c)).store
  call-unexpired c h = by_call c (call-sound least low s sure c h)

-- ---- on lent bytes

pub record MadeSo (b : List ℕ) : Type 0 where
  pub accepted : Accepts b
  pub bytes : Bytes b
  pub unexpired : Unexpired (store_of b)

-- bytes that hold a store of oldest version 0
from_zero : (b : List ℕ) → Accepts b → (store_of b).oldest ≡ 0 → Unexpired (store_of b)
from_zero b ok z =
    unpruned-unexpired (least_of b) (store_of b)
    (from-tests (least_of b) (store_of b) (holds-true (sound (least_of b) (store_of b)) (held-sound b ok))) z

module _ (b : List ℕ) (m : MadeSo b) where
  made : (least : ℕ) → OfEdition least → Unexpired (store_of (fresh_lent least b).store)
  made least e = at (length_ok least b) refl
    where
      at : (t : Bool) → length_ok least b ≡ t → Unexpired (store_of (fresh_lent least b).store)
      at true h =
          let l = fresh-leaves least e b h in from_zero (fresh_lent least b).store l.accepts (ap (λ (s : Store). s.oldest) l.holds)
      at false h = subst (λ (o : Outcome). Unexpired (store_of o.store)) (sym (made-wrong least b h)) m.unexpired

  one-call : (a : Asked) → fitting (kind_of a) ≡ true → (ns : List ℕ) → Unexpired (store_of (ended a b ns).store)
  one-call =
      by_kind (λ (a : Asked). fitting (kind_of a) ≡ true → (ns : List ℕ) → Unexpired (store_of (ended a b ns).store))
      (λ least a k h ns. subst (λ (x : Ended). Unexpired (store_of x.store)) (sym (k.is b ns)) (made least k.edition))
      (λ c h ns. let f : Settings.fits c ≡ true = ap fitting (sym (kind-asks c)) ∙ h in
      subst Unexpired (sym (change-leaves b m.accepted c f ns).holds)
      (call-unexpired (least_of b) (four b) (store_of b) (held-sound b m.accepted) m.unexpired c (true-holds (Settings.fits c) f)))
      (λ a k same h ns. subst (λ (x : List ℕ). Unexpired (store_of x)) (sym (same b ns)) m.unexpired)

  one-turn : (t : Turn) → fitting (kind_of t.call) ≡ true → MadeSo (turned b t).store
  one-turn t h = record {
    accepted = call-accepts b m.accepted t.call h t.list;
    bytes = call-bytes b m.accepted m.bytes t.call h t.list;
    unexpired = one-call t.call h t.list;
  }

many-turns : (ts : List Turn) → each fitting ts ≡ true → (b : List ℕ) → MadeSo b → MadeSo (run_bytes b ts)
many-turns [] f b m = m
many-turns (t ∷ ts) f b m =
    let (x, y) = all_cons (λ (q : Turn). fitting (kind_of q.call)) t ts f in
    many-turns ts y (turned b t).store (one-turn b m t x)

pub made-by-calls : (least : ℕ) → OfEdition least → (n : ℕ) → 6 ≤ n → n ≤ 4096 → (ts : List Turn) → each fitting ts ≡ true
    → MadeSo (run_bytes (encode least (fresh n)) ts)
made-by-calls least e n six most ts f =
    many-turns ts f (encode least (fresh n))
    (record {
      accepted = new.accepted;
      bytes = new.bytes;
      unexpired = from_zero (encode least (fresh n)) new.accepted (ap (λ (s : Store). s.oldest) new.held);
    })
  where
    new : Written least (fresh n)
    new =
        encoded-sound least e (fresh n)
        (true-holds (sound least (fresh n))
        (to-tests least (fresh n) (fresh-sound least (let low : 4 ≤ least = edition-four least e in omega arith) n six most)))

-- ---- a prune to the oldest version

slots-stay : (v : ℕ) (xs : List Slot) → all (λ (x : Slot). ltb v x.version) (drop 1 xs) ≡ true → needed v xs ≡ xs
slots-stay v [] h = refl
slots-stay v (x ∷ []) h = refl
slots-stay v (x ∷ y ∷ zs) h =
    ap (λ (b : Bool). pick b (needed v (y ∷ zs)) (x ∷ y ∷ zs))
    (lt-leb y.version v (ltb-true v y.version (all_cons (λ (q : Slot). ltb v q.version) y zs h).0))

pages-stay : (f : Page → Page) (qs : List Page) → ((n : ℕ) → f (page qs n) ≡ page qs n) → map f qs ≡ qs
pages-stay f [] h = refl
pages-stay f (q ∷ qs) h = ap₂ {C = List Page} (λ (x : Page) (xs : List Page). x ∷ xs) (h 0) (pages-stay f qs (λ n. h (suc n)))

pub pruned-same : (least : ℕ) (s : Store) → Sound least s → Unexpired s → pruned s s.oldest ≡ s
unfolding pruned
pruned-same least s d u =
    λ i. record {
      current = s.current;
      opened = s.opened;
      oldest = s.oldest;
      slots = slots-stay s.oldest s.slots d.newer i;
      pages = pages-stay (pruned_page s.oldest) s.pages page-stays i;
    }
  where
    page-stays : (n : ℕ) → pruned_page s.oldest (page s.pages n) ≡ page s.pages n
    page-stays n = at (bool_cases (is_free (page s.pages n)))
      where
        at : (is_free (page s.pages n) ≡ true) ⊎ (is_free (page s.pages n) ≡ false)
            → pruned_page s.oldest (page s.pages n) ≡ page s.pages n
        at (inl z) =
            ap (pruned_page s.oldest) (d.zeros n z) ∙ ap (λ (t : Bool). pick t free free) (le-leb 0 s.oldest (omega arith))
            ∙ sym (d.zeros n z)
        at (inr f) = ap (λ (t : Bool). pick t free (page s.pages n)) (lt-leb (page s.pages n).end s.oldest (u.later n f))
