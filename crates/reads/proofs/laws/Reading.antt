-- Laws about reads/specs/Reading. Assumes nothing.
use Prim.Native.Nat.{ℕ}
use mathlib.Core.Bool.{Bool, true, false}
use mathlib.Core.Path.{◌≡◌, refl, ap, sym, ◌∙◌}
use mathlib.Core.List.{List}
use lib.Dec.{leb}
use lib.ListN.{length}
use Rattle.model.specs.Store.{last_of}
use Rattle.model.specs.Walk.{key_limit, lookup_visits}
use Rattle.model.specs.Layout.{read_header, decode}
use Rattle.model.specs.declared.Limits.{Limits}
use Rattle.model.specs.declared.Header.{Header}
use Rattle.model.specs.Limits.{Edition}
use Rattle.model.specs.Calls.{first_of, beyond, unreadable}
use Rattle.model.specs.Told.{told_by}
use Rattle.model.specs.Visited.{page_number, visits}
use Rattle.model.specs.Lent.{judged_first, Listed, listed, visits_lent}
use Rattle.model.proofs.sound.ByRule.{readable_of}
use Rattle.model.proofs.reading.Readings.{none-holds}
use Rattle.walk.specs.Sure.{Walkable}
use Rattle.reads.specs.Guard.{guarded}
use Rattle.reads.proofs.laws.Guard.{refused-by, goes_by, by-guard, guard-sound, guard-chain}
use Rattle.reads.specs.Reading.{reading}

module _ (least : ℕ) (b : List ℕ) where
  pub visits-guard : (k v : ℕ) (ns : List ℕ) → visits_lent least b k v ns
      ≡ judged_first (guarded least b (reading (leb key_limit k) v)) (λ n. record { number = n; count = 0; list = ns })
      (listed ns (told_by page_number 1 0 (length ns) (lookup_visits (decode least b) k v)))
  unfolding visits_lent visits
  visits-guard k v ns =
      by-guard least b (reading (leb key_limit k) v) {A = Listed} (λ n. record { number = n; count = 0; list = ns })
      (λ (n : ℕ). listed ns (told_by page_number 1 n (length ns) (lookup_visits (decode least b) k v))) (unfold told_by in λ n. refl)

  -- by the number that the guard gave
  module _ (k v n : ℕ) (ns : List ℕ) (e : n ≡ guarded least b (reading (leb key_limit k) v)) where
    abbrev untold : ℕ → Listed
    untold m = record { number = m; count = 0; list = ns }

    abbrev told : Listed
    told = listed ns (told_by page_number 1 0 (length ns) (lookup_visits (decode least b) k v))

    visits-by : judged_first n untold told ≡ visits_lent least b k v ns
    visits-by = rw e (sym (visits-guard k v ns))

    pub visits-refused : (n ≡ 0 → ⊥) → untold n ≡ visits_lent least b k v ns
    visits-refused z = refused-by n untold told z ∙ visits-by

    pub visits-done : n ≡ 0 → told ≡ visits_lent least b k v ns
    visits-done z = goes_by n untold told z ∙ visits-by

  -- ---- what the guard gives

  -- a version that cannot be read, by the header
  pub unread-of : (h : Header) → h ≡ read_header least b → (v : ℕ) (y : Bool) → y ≡ beyond (last_of h.opened h.current) h.oldest v
      → unreadable (decode least b) v ≡ y
  unfolding decode
  unread-of h e v y f = sym (ap (λ (x : Header). beyond (last_of x.opened x.current) x.oldest v) e) ∙ sym f

  -- 6 behind the keys
  module _ (bad : Bool) (v : ℕ) (e : bad ≡ false) where
    pub gives-six : unreadable (decode least b) v ≡ true → 6 ≡ first_of (reading bad v (decode least b))
    gives-six f = rw (e, f) refl

    pub gives_none : unreadable (decode least b) v ≡ false → 0 ≡ first_of (reading bad v (decode least b))
    gives_none f = rw (e, f) refl

-- ---- what the guard's 0 says

module _ {l : Limits} (d : Edition l) (b : List ℕ) (bad : Bool) (v : ℕ) (z : guarded l.least b (reading bad v) ≡ 0) where
  pub reads : Walkable l b v
  reads = record {
    edition = d;
    sound = guard-sound l.least b (reading bad v) z;
    version = readable_of (decode l.least b) v
        (none-holds bad (unreadable (decode l.least b) v) (guard-chain l.least b (reading bad v) z)).1;
  }

  pub keys-right : bad ≡ false
  keys-right = (none-holds bad (unreadable (decode l.least b) v) (guard-chain l.least b (reading bad v) z)).0
