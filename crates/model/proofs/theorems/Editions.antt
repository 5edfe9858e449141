-- 2026-08: a call goes by the edition lent. `goes`, `refuses`: of anything by edition; `ended-goes`, `ended-refuses`: of every call but
-- making fresh. Bytes that one edition's tests of length, name and edition let pass are of that edition (`of-edition`, `accepted-lent`),
-- and each call on them is the call by its limits (`ended_at_lem`). `old-programs`: programs of edition 1 give 1 or 3 on bytes of edition 2,
-- and never an answer.
-- Assumes nothing.
use Prim.Native.Nat.{ℕ, zero, suc, ◌*◌, ◌%◌, ◌≤◌}
use native.Mathlib.Omega.{arith}
use mathlib.Core.Bool.{Bool, true, false, ◌&&◌, true≢false}
use mathlib.Core.Path.{◌≡◌, refl, ap, sym, subst, ◌∙◌}
use mathlib.Core.Logic.{◌≢◌, ◌⊎◌, inl, inr}
use mathlib.Core.List.{List}
use lib.Dec.{leb, ltb, eqb}
use lib.ListN.{length}
use borrow.Author.Tests.{leb-true, eqb-true, le-ltb, ne_eqb}
use Rattle.model.specs.Basic.{pick}
use Rattle.model.specs.Field.{field}
use Rattle.model.specs.Layout.{size_of}
use Rattle.model.specs.Judged.{length_ok, magic_ok, edition_ok, judged, verdict}
use Rattle.model.specs.Editions.{by_edition, lent_number, least_of}
use Rattle.model.specs.Looked.{Looked}
use Rattle.model.specs.Looked.{Refused}
use Rattle.model.specs.Verdict.{Verdict}
use Rattle.model.specs.State.{State}
use Rattle.model.specs.State.{untold}
use Rattle.model.specs.Lent
use Rattle.model.specs.Any
use Rattle.model.specs.Any.{judged_any}
use Rattle.model.specs.Ended.{Asked, to_fresh, to_fresh_second, to_check, to_open, to_commit, to_abandon, to_insert, to_delete, to_return}
use Rattle.model.specs.Ended.{to_prune, to_lookup, to_range, to_life, to_difference, to_visits, Ended, of_outcome, of_verdict, of_looked}
use Rattle.model.specs.Ended.{of_listed, ended, ended_by, makes, Refuses, to_state, of_state}
use Rattle.model.proofs.lists.Lists.{both_true}
use Rattle.model.proofs.sound.Judging.{accepted}

-- ---- anything by edition

module _ {A : Type 0} (b : List ℕ) (refuse call : ℕ → A) where
  pub goes : lent_number b ≡ 0 → by_edition b refuse call ≡ call (least_of b)
  unfolding by_edition
  goes = at (ltb (length b) 5) (magic_ok b) (edition_ok 4 b) (edition_ok 8 b)
    where
      at : (p q r s : Bool) → ◌≡◌ {A = ℕ} (pick p 1 (pick q (pick r 0 (pick s 0 3)) 2)) 0
          → pick p (refuse 1) (pick q (pick r (call 4) (pick s (call 8) (refuse 3))) (refuse 2))
          ≡ call (pick p 4 (pick q (pick r 4 (pick s 8 4)) 4))
      at true q r s e = absurd (omega arith)
      at false false r s e = absurd (omega arith)
      at false true true s e = refl
      at false true false true e = refl
      at false true false false e = absurd (omega arith)

  pub refuses : lent_number b ≢ 0 → by_edition b refuse call ≡ refuse (lent_number b)
  unfolding by_edition
  refuses = at (ltb (length b) 5) (magic_ok b) (edition_ok 4 b) (edition_ok 8 b)
    where
      at : (p q r s : Bool) → ◌≢◌ {A = ℕ} (pick p 1 (pick q (pick r 0 (pick s 0 3)) 2)) 0
          → pick p (refuse 1) (pick q (pick r (call 4) (pick s (call 8) (refuse 3))) (refuse 2))
          ≡ refuse (pick p 1 (pick q (pick r 0 (pick s 0 3)) 2))
      at true q r s e = refl
      at false false r s e = refl
      at false true true s e = absurd (e refl)
      at false true false true e = absurd (e refl)
      at false true false false e = refl

-- an edition, by its least
abbrev pub IsEdition : ℕ → Type 0
IsEdition least = (least ≡ 4) ⊎ (least ≡ 8)

pub edition-four : (least : ℕ) → IsEdition least → 4 ≤ least
edition-four least (inl e) = omega arith
edition-four least (inr e) = omega arith

pub edition-eight : (least : ℕ) → IsEdition least → least ≤ 8
edition-eight least (inl e) = omega arith
edition-eight least (inr e) = omega arith

pub least-is : (b : List ℕ) → IsEdition (least_of b)
unfolding by_edition
least-is b = at (ltb (length b) 5) (magic_ok b) (edition_ok 4 b) (edition_ok 8 b)
  where
    at : (p q r s : Bool) → IsEdition (pick p 4 (pick q (pick r 4 (pick s 8 4)) 4))
    at true q r s = inl refl
    at false false r s = inl refl
    at false true true s = inl refl
    at false true false true = inr refl
    at false true false false = inl refl

-- ---- the calls

module _ (b ns : List ℕ) where
  pub ended-goes : (c : Asked) → makes c ≡ false → lent_number b ≡ 0 → ended c b ns ≡ ended_by (least_of b) c b ns
  unfolding Any.open_any Any.insert_any Any.delete_any Any.commit_any Any.abandon_any Any.return_any Any.prune_any Any.lookup_any Any.range_any
      Any.visits_any Any.difference_any Any.life_any Any.judged_any Any.state_any
  ended-goes to_fresh m z = cc
  ended-goes to_fresh_second m z = cc
  ended-goes to_check m z = ap (of_verdict b ns) (goes {A = Verdict} b (λ (n : ℕ). verdict n 0) (λ (l : ℕ). judged l b) z)
  ended-goes to_open m z =
      ap (of_outcome ns) (goes {A = Lent.Outcome} b (λ (n : ℕ). record { number = n; store = b }) (λ (l : ℕ). Lent.open_lent l b) z)
  ended-goes to_commit m z =
      ap (of_outcome ns) (goes {A = Lent.Outcome} b (λ (n : ℕ). record { number = n; store = b }) (λ (l : ℕ). Lent.commit_lent l b) z)
  ended-goes to_abandon m z =
      ap (of_outcome ns) (goes {A = Lent.Outcome} b (λ (n : ℕ). record { number = n; store = b }) (λ (l : ℕ). Lent.abandon_lent l b) z)
  ended-goes (to_insert k x) m z =
      ap (of_outcome ns) (goes {A = Lent.Outcome} b (λ (n : ℕ). record { number = n; store = b }) (λ (l : ℕ). Lent.insert_lent l b k x) z)
  ended-goes (to_delete k) m z =
      ap (of_outcome ns) (goes {A = Lent.Outcome} b (λ (n : ℕ). record { number = n; store = b }) (λ (l : ℕ). Lent.delete_lent l b k) z)
  ended-goes (to_return v) m z =
      ap (of_outcome ns) (goes {A = Lent.Outcome} b (λ (n : ℕ). record { number = n; store = b }) (λ (l : ℕ). Lent.return_lent l b v) z)
  ended-goes (to_prune v) m z =
      ap (of_outcome ns) (goes {A = Lent.Outcome} b (λ (n : ℕ). record { number = n; store = b }) (λ (l : ℕ). Lent.prune_lent l b v) z)
  ended-goes (to_lookup k v) m z = ap (of_looked b ns) (goes {A = Looked} b (λ (n : ℕ). Refused n) (λ (l : ℕ). Lent.lookup_lent l b k v) z)
  ended-goes (to_range lo hi v) m z =
      ap (of_listed b)
      (goes {A = Lent.Listed} b (λ (n : ℕ). record { number = n; count = 0; list = ns }) (λ (l : ℕ). Lent.range_lent l b lo hi v ns) z)
  ended-goes (to_visits k v) m z =
      ap (of_listed b)
      (goes {A = Lent.Listed} b (λ (n : ℕ). record { number = n; count = 0; list = ns }) (λ (l : ℕ). Lent.visits_lent l b k v ns) z)
  ended-goes (to_difference u v) m z =
      ap (of_listed b)
      (goes {A = Lent.Listed} b (λ (n : ℕ). record { number = n; count = 0; list = ns }) (λ (l : ℕ). Lent.difference_lent l b u v ns) z)
  ended-goes (to_life k) m z =
      ap (of_listed b)
      (goes {A = Lent.Listed} b (λ (n : ℕ). record { number = n; count = 0; list = ns }) (λ (l : ℕ). Lent.life_lent l b k ns) z)
  ended-goes to_state m z = ap (of_state b ns) (goes {A = State} b untold (λ (l : ℕ). Lent.state_lent l b) z)

  refused-verdict : (n : ℕ) → Refuses n b ns (of_verdict b ns (verdict n 0))
  refused-verdict n = record { number = refl; untouched = record { store = refl; list = refl }; zeros = refl }

  refused-outcome : (n : ℕ) → Refuses n b ns (of_outcome ns (record { number = n; store = b }))
  refused-outcome n = record { number = refl; untouched = record { store = refl; list = refl }; zeros = refl }

  refused-looked : (n : ℕ) → Refuses n b ns (of_looked b ns (Refused n))
  refused-looked n = record { number = refl; untouched = record { store = refl; list = refl }; zeros = refl }

  refused-listed : (n : ℕ) → Refuses n b ns (of_listed b (record { number = n; count = 0; list = ns }))
  refused-listed n = record { number = refl; untouched = record { store = refl; list = refl }; zeros = refl }

  refused-state : (n : ℕ) → Refuses n b ns (of_state b ns (untold n))
  refused-state n = record { number = refl; untouched = record { store = refl; list = refl }; zeros = refl }

  pub ended-refuses : (c : Asked) → makes c ≡ false → lent_number b ≢ 0 → Refuses (lent_number b) b ns (ended c b ns)
  unfolding Any.open_any Any.insert_any Any.delete_any Any.commit_any Any.abandon_any Any.return_any Any.prune_any Any.lookup_any Any.range_any
      Any.visits_any Any.difference_any Any.life_any Any.judged_any Any.state_any
  ended-refuses to_fresh m z = absurd (true≢false m)
  ended-refuses to_fresh_second m z = absurd (true≢false m)
  ended-refuses to_check m z =
      subst (λ (x : Verdict). Refuses (lent_number b) b ns (of_verdict b ns x))
      (sym (refuses {A = Verdict} b (λ (n : ℕ). verdict n 0) (λ (l : ℕ). judged l b) z)) (refused-verdict (lent_number b))
  ended-refuses to_open m z =
      subst (λ (x : Lent.Outcome). Refuses (lent_number b) b ns (of_outcome ns x))
      (sym (refuses {A = Lent.Outcome} b (λ (n : ℕ). record { number = n; store = b }) (λ (l : ℕ). Lent.open_lent l b) z))
      (refused-outcome (lent_number b))
  ended-refuses to_commit m z =
      subst (λ (x : Lent.Outcome). Refuses (lent_number b) b ns (of_outcome ns x))
      (sym (refuses {A = Lent.Outcome} b (λ (n : ℕ). record { number = n; store = b }) (λ (l : ℕ). Lent.commit_lent l b) z))
      (refused-outcome (lent_number b))
  ended-refuses to_abandon m z =
      subst (λ (x : Lent.Outcome). Refuses (lent_number b) b ns (of_outcome ns x))
      (sym (refuses {A = Lent.Outcome} b (λ (n : ℕ). record { number = n; store = b }) (λ (l : ℕ). Lent.abandon_lent l b) z))
      (refused-outcome (lent_number b))
  ended-refuses (to_insert k x) m z =
      subst (λ (x : Lent.Outcome). Refuses (lent_number b) b ns (of_outcome ns x))
      (sym (refuses {A = Lent.Outcome} b (λ (n : ℕ). record { number = n; store = b }) (λ (l : ℕ). Lent.insert_lent l b k x) z))
      (refused-outcome (lent_number b))
  ended-refuses (to_delete k) m z =
      subst (λ (x : Lent.Outcome). Refuses (lent_number b) b ns (of_outcome ns x))
      (sym (refuses {A = Lent.Outcome} b (λ (n : ℕ). record { number = n; store = b }) (λ (l : ℕ). Lent.delete_lent l b k) z))
      (refused-outcome (lent_number b))
  ended-refuses (to_return v) m z =
      subst (λ (x : Lent.Outcome). Refuses (lent_number b) b ns (of_outcome ns x))
      (sym (refuses {A = Lent.Outcome} b (λ (n : ℕ). record { number = n; store = b }) (λ (l : ℕ). Lent.return_lent l b v) z))
      (refused-outcome (lent_number b))
  ended-refuses (to_prune v) m z =
      subst (λ (x : Lent.Outcome). Refuses (lent_number b) b ns (of_outcome ns x))
      (sym (refuses {A = Lent.Outcome} b (λ (n : ℕ). record { number = n; store = b }) (λ (l : ℕ). Lent.prune_lent l b v) z))
      (refused-outcome (lent_number b))
  ended-refuses (to_lookup k v) m z =
      subst (λ (x : Looked). Refuses (lent_number b) b ns (of_looked b ns x))
      (sym (refuses {A = Looked} b (λ (n : ℕ). Refused n) (λ (l : ℕ). Lent.lookup_lent l b k v) z)) (refused-looked (lent_number b))
  ended-refuses (to_range lo hi v) m z =
      subst (λ (x : Lent.Listed). Refuses (lent_number b) b ns (of_listed b x))
      (sym (refuses {A = Lent.Listed} b (λ (n : ℕ). record { number = n; count = 0; list = ns })
      (λ (l : ℕ). Lent.range_lent l b lo hi v ns) z)) (refused-listed (lent_number b))
  ended-refuses (to_visits k v) m z =
      subst (λ (x : Lent.Listed). Refuses (lent_number b) b ns (of_listed b x))
      (sym (refuses {A = Lent.Listed} b (λ (n : ℕ). record { number = n; count = 0; list = ns }) (λ (l : ℕ). Lent.visits_lent l b k v ns) z))
      (refused-listed (lent_number b))
  ended-refuses (to_difference u v) m z =
      subst (λ (x : Lent.Listed). Refuses (lent_number b) b ns (of_listed b x))
      (sym (refuses {A = Lent.Listed} b (λ (n : ℕ). record { number = n; count = 0; list = ns })
      (λ (l : ℕ). Lent.difference_lent l b u v ns) z)) (refused-listed (lent_number b))
  ended-refuses (to_life k) m z =
      subst (λ (x : Lent.Listed). Refuses (lent_number b) b ns (of_listed b x))
      (sym (refuses {A = Lent.Listed} b (λ (n : ℕ). record { number = n; count = 0; list = ns }) (λ (l : ℕ). Lent.life_lent l b k ns) z))
      (refused-listed (lent_number b))
  ended-refuses to_state m z =
      subst (λ (x : State). Refuses (lent_number b) b ns (of_state b ns x))
      (sym (refuses {A = State} b untold (λ (l : ℕ). Lent.state_lent l b) z)) (refused-state (lent_number b))

  -- what holds of the call by each edition's limits, and of a refusal, holds of the call
  pub ended-either : (P : Ended → Type 0) (c : Asked) → ((least : ℕ) → IsEdition least → P (ended_by least c b ns))
      → ((n : ℕ) → n ≢ 0 → (e : Ended) → Refuses n b ns e → P e) → P (ended c b ns)
  ended-either P c by early = at c (makes c) refl by
    where
      told : (c : Asked) → makes c ≡ false → (n : ℕ) → lent_number b ≡ n → ((least : ℕ) → IsEdition least → P (ended_by least c b ns))
          → P (ended c b ns)
      told c m zero z by = subst P (sym (ended-goes c m z)) (by (least_of b) (least-is b))
      told c m (suc n) z by =
          let h : lent_number b ≢ 0 = λ q. absurd (omega arith) in early (lent_number b) h (ended c b ns) (ended-refuses c m h)

      at : (c : Asked) (m : Bool) → makes c ≡ m → ((least : ℕ) → IsEdition least → P (ended_by least c b ns)) → P (ended c b ns)
      at c false m by = told c m (lent_number b) refl by
      at to_fresh true m by = by 4 (inl refl)
      at to_fresh_second true m by = by 8 (inr refl)
      at to_check true m by = absurd (true≢false (sym m))
      at to_open true m by = absurd (true≢false (sym m))
      at to_commit true m by = absurd (true≢false (sym m))
      at to_abandon true m by = absurd (true≢false (sym m))
      at (to_insert k x) true m by = absurd (true≢false (sym m))
      at (to_delete k) true m by = absurd (true≢false (sym m))
      at (to_return v) true m by = absurd (true≢false (sym m))
      at (to_prune v) true m by = absurd (true≢false (sym m))
      at (to_lookup k v) true m by = absurd (true≢false (sym m))
      at (to_range lo hi v) true m by = absurd (true≢false (sym m))
      at (to_visits k v) true m by = absurd (true≢false (sym m))
      at (to_difference u v) true m by = absurd (true≢false (sym m))
      at (to_life k) true m by = absurd (true≢false (sym m))
      at to_state true m by = absurd (true≢false (sym m))

-- ---- bytes of an edition

-- the bytes name an edition
pub record Lends (least : ℕ) (b : List ℕ) : Type 0 where
  pub number : lent_number b ≡ 0
  pub is : least_of b ≡ least

pub of-edition : (least : ℕ) → IsEdition least → (b : List ℕ) → 5 ≤ length b → magic_ok b ≡ true → edition_ok least b ≡ true → Lends least b
unfolding by_edition edition_ok
of-edition least (inl i) b h m e =
    let f : edition_ok 4 b ≡ true = subst (λ (n : ℕ). edition_ok n b ≡ true) i e in
    rw i (record { number = rw (le-ltb (length b) 5 h, m, f); is = rw (le-ltb (length b) 5 h, m, f) })
of-edition least (inr i) b h m e =
    let f : edition_ok 8 b ≡ true = subst (λ (n : ℕ). edition_ok n b ≡ true) i e in
    let g : edition_ok 4 b ≡ false = ne_eqb (field b 32 8) 1 (λ q. absurd (omega (arith, eqb-true (field b 32 8) 2 f))) in
    rw i (record { number = rw (le-ltb (length b) 5 h, m, g, f); is = rw (le-ltb (length b) 5 h, m, g, f) })

pub long-enough : (least : ℕ) → IsEdition least → (b : List ℕ) → length_ok least b ≡ true → 5 ≤ length b
unfolding length_ok
long-enough least i b e =
    by i (leb-true 6 (size_of least b)
    (both_true (eqb (length b % (64 * least)) 0) (leb 6 (size_of least b))
    (both_true (eqb (length b % (64 * least)) 0 && leb 6 (size_of least b)) (leb (size_of least b) 4096) e).0).1)
  where
    by : IsEdition least → 6 ≤ size_of least b → 5 ≤ length b
    by (inl f) h = let g : 6 ≤ size_of 4 b = subst (λ (n : ℕ). 6 ≤ size_of n b) f h in omega arith
    by (inr f) h = let g : 6 ≤ size_of 8 b = subst (λ (n : ℕ). 6 ≤ size_of n b) f h in omega arith

module _ (least : ℕ) (i : IsEdition least) (b : List ℕ) (e : (judged least b).number ≡ 0) where
  pub accepted-lent : Lends least b
  accepted-lent = let a = accepted least b e in of-edition least i b (long-enough least i b a.length-ok) a.magic-ok a.edition-ok

module _ (least : ℕ) (b : List ℕ) (l : Lends least b) where
  pub goes_at : {A : Type 0} (refuse call : ℕ → A) → by_edition b refuse call ≡ call least
  goes_at refuse call = goes b refuse call l.number ∙ ap call l.is

  pub ended_at_lem : (c : Asked) (ns : List ℕ) → makes c ≡ false → ended c b ns ≡ ended_by least c b ns
  ended_at_lem c ns m = ended-goes b ns c m l.number ∙ ap (λ (n : ℕ). ended_by n c b ns) l.is

-- check gives 0 on bytes of an edition that its own check accepts, and on no others
pub accepts-any : (b : List ℕ) → (judged_any b).number ≡ 0 → (lent_number b ≡ 0) × ((judged (least_of b) b).number ≡ 0)
unfolding Any.judged_any
accepts-any b = at (lent_number b) refl
  where
    at : (n : ℕ) → lent_number b ≡ n → (Any.judged_any b).number ≡ 0 → (lent_number b ≡ 0) × ((judged (least_of b) b).number ≡ 0)
    at zero z e = (z, subst (λ (v : Verdict). v.number ≡ 0) (goes b (λ (n : ℕ). verdict n 0) (λ (l : ℕ). judged l b) z) e)
    at (suc n) z e =
        let q = subst (λ (v : Verdict). v.number ≡ 0)
        (refuses b (λ (n : ℕ). verdict n 0) (λ (l : ℕ). judged l b) (λ y. absurd (omega arith))) e in
        absurd (omega arith)

-- bytes of an edition have the name, and the edition's number
pub lends-names : (least : ℕ) (b : List ℕ) → Lends least b → magic_ok b ≡ true
unfolding by_edition
lends-names least b l = at (ltb (length b) 5) (magic_ok b) (edition_ok 4 b) (edition_ok 8 b) l.number
  where
    at : (p q r s : Bool) → ◌≡◌ {A = ℕ} (pick p 1 (pick q (pick r 0 (pick s 0 3)) 2)) 0 → q ≡ true
    at true q r s e = absurd (omega arith)
    at false true r s e = refl
    at false false r s e = absurd (omega arith)

pub lends-edition : (least : ℕ) (b : List ℕ) → Lends least b → edition_ok least b ≡ true
unfolding by_edition
lends-edition least b l =
    subst (λ (n : ℕ). edition_ok n b ≡ true) l.is
    (at (ltb (length b) 5) (magic_ok b) (edition_ok 4 b) refl (edition_ok 8 b) refl l.number)
  where
    at : (p q r : Bool) → edition_ok 4 b ≡ r → (s : Bool) → edition_ok 8 b ≡ s → ◌≡◌ {A = ℕ} (pick p 1 (pick q (pick r 0 (pick s 0 3)) 2)) 0
        → edition_ok (pick p 4 (pick q (pick r 4 (pick s 8 4)) 4)) b ≡ true
    at true q r f s g e = absurd (omega arith)
    at false false r f s g e = absurd (omega arith)
    at false true true f s g e = f
    at false true false f true g e = g
    at false true false f false g e = absurd (omega arith)

-- no bytes are of both
pub lends-second : (b : List ℕ) → Lends 8 b → edition_ok 4 b ≡ false
unfolding edition_ok
lends-second b l = ne_eqb (field b 32 8) 1 (λ q. absurd (omega (arith, eqb-true (field b 32 8) 2 (lends-edition 8 b l))))
