-- The numbers of the pages that a group may use.
-- Assumes nothing.
use Prim.Native.Nat.{ℕ, suc, ◌+◌, ◌≤◌, ◌<◌}
use native.Mathlib.Omega.{arith}
use mathlib.Core.Bool.{Bool, true, false}
use mathlib.Core.Path.{◌≡◌, refl, ap, sym, ◌∙◌}
use mathlib.Core.Logic.{◌≢◌}
use mathlib.Core.List.{List, [], ◌∷◌, ◌++◌, map}
use lib.ListN.{length, drop, length-set, length-drop}
use lib.Seq.{get_or-drop}
use borrow.Author.Tests.{eqb-true}
use Rattle.model.specs.Basic.{keep, those}
use Rattle.model.specs.declared.Pair.{Pair}
use Rattle.model.specs.Entry.{alive}
use Rattle.model.specs.Page.{Page, free, is_free, active}
use Rattle.model.specs.Store.{page, free_from, free_ones}
use Rattle.model.specs.Rules
use Rattle.model.specs.Rules.{retire, usable}
use Rattle.model.proofs.tree.GroupShows.{Apart, Moved, moved-set, Use, Uses, Olds, lone, twin}

module _ (least w : ℕ) (lim : w < alive) (T : ℕ → Type 0) (ps : List Page) (l : ℕ) (spare : (m : ℕ) → (page ps m).level ≡ 0 → T m) where
  pub record Member (n : ℕ) : Type 0 where
    pub touched : T n
    pub in_list : n < length ps
    pub level : (page ps n).level ≡ suc l

  abbrev pub Members : List Pair → Type 0
  Members [] = Unit {0}
  Members (r ∷ rs) = Member r.value × Members rs

  pub moved-retire : (rs : List Pair) (qs : List Page) → Members rs → Moved least w lim T ps qs → Moved least w lim T ps (retire w qs rs)
  moved-retire [] qs m f = f
  moved-retire (r ∷ rs) qs m f = moved-retire rs _ m.1 (moved-set least w lim T ps qs r.value _ f m.0.touched)

  pub length-retire : (rs : List Pair) (qs : List Page) → length (retire w qs rs) ≡ length qs
  length-retire [] qs = refl
  length-retire (r ∷ rs) qs = length-retire rs _ ∙ length-set qs r.value _

  values : Pair → ℕ
  values r = r.value

  uses-keep : (b : Bool) (n : ℕ) (ns : List ℕ) → Use least w lim T ps n → Uses least w lim T ps ns → Uses least w lim T ps (keep b n ns)
  uses-keep true n ns u us = (u, us)
  uses-keep false n ns u us = us

  uses-append : (ns ms : List ℕ) → Uses least w lim T ps ns → Uses least w lim T ps ms → Uses least w lim T ps (ns ++ ms)
  uses-append [] ms a b = b
  uses-append (n ∷ ns) ms a b = (a.0, uses-append ns ms a.1 b)

  uses-active : (rs : List Pair) → Members rs → Uses least w lim T ps
      (those (λ (n : ℕ). active w (page ps n)) (map (λ (r : Pair). r.value) rs))
  uses-active [] m = tt
  uses-active (r ∷ rs) m =
      uses-keep (active w (page ps r.value)) r.value (those (λ (n : ℕ). active w (page ps n)) (map (λ (q : Pair). q.value) rs))
      (record { touched = m.0.touched; in_list = m.0.in_list }) (uses-active rs m.1)

  -- the free ones
  abbrev Zeros : List ℕ → Type 0
  Zeros [] = Unit {0}
  Zeros (n ∷ ns) = ((page ps n).level ≡ 0) × Zeros ns

  pub record Frees (k : ℕ) (ns : List ℕ) : Type 0 where
    pub uses : Uses least w lim T ps ns
    pub zeros : Zeros ns
    pub apart : Apart ns
    pub from : (n : ℕ) (ms : List ℕ) → ns ≡ n ∷ ms → k ≤ n

  none-head : {k n : ℕ} {ms : List ℕ} → ◌≡◌ {A = List ℕ} [] (n ∷ ms) → k ≤ n
  none-head e = let z : ◌≡◌ {A = ℕ} 0 1 = cc in absurd (omega arith)

  frees : (k : ℕ) (qs : List Page) → ((i : ℕ) → page qs i ≡ page ps (k + i)) → ((i : ℕ) → i < length qs → k + i < length ps)
      → Frees k (free_from k qs)
  frees k [] h g = record { uses = tt; zeros = tt; apart = tt; from = λ n ms e. none-head e }
  frees k (q ∷ qs) h g =
      at (is_free q) refl (frees (suc k) qs (λ i. h (suc i) ∙ ap (page ps) (omega arith)) (λ i z. omega (arith, g (suc i) (omega arith))))
    where
      zero-at : is_free q ≡ true → (page ps k).level ≡ 0
      zero-at e = ap (λ (p : Page). p.level) (sym (h 0 ∙ ap (page ps) (omega arith))) ∙ eqb-true q.level 0 e

      near : (ns : List ℕ) → Frees (suc k) ns → Apart (k ∷ ns)
      near [] f = tt
      near (m ∷ ns) f = λ (e : k ≡ m). omega (arith, f.from m ns refl)

      at : (b : Bool) → is_free q ≡ b → Frees (suc k) (free_from (suc k) qs) → Frees k (keep b k (free_from (suc k) qs))
      at true e f = record {
        uses = (record { touched = spare k (zero-at e); in_list = omega (arith, g 0 (omega arith)) }, f.uses);
        zeros = (zero-at e, f.zeros);
        apart = near (free_from (suc k) qs) f;
        from = λ n ms z. let s : k ≡ n = cc in omega arith;
      }
      at false e f = record { uses = f.uses; zeros = f.zeros; apart = f.apart; from = λ n ms z. omega (arith, f.from n ms z) }

  pub frees_all : Frees 5 (free_ones ps)
  frees_all = frees 5 (drop 5 ps) (λ i. get_or-drop 5 ps i free) (λ i h. omega (arith, length-drop 5 ps))

  pub uses-usable : (rs : List Pair) → Members rs → Uses least w lim T ps (usable w ps rs)
  unfolding Rules.usable
  uses-usable rs m =
      uses-append (those (λ (n : ℕ). active w (page ps n)) (map (λ (r : Pair). r.value) rs)) (free_ones ps) (uses-active rs m)
      frees_all.uses

  -- the first two differ
  one_apart : (n : ℕ) (ns : List ℕ) → (page ps n).level ≡ suc l → Zeros ns → Apart (n ∷ ns)
  one_apart n [] e z = tt
  one_apart n (m ∷ ns) e z = λ (s : n ≡ m). omega (arith, ap (λ (i : ℕ). (page ps i).level) s, z.0)

  keep_apart : (b : Bool) (n : ℕ) (ns : List ℕ) → (page ps n).level ≡ suc l → Zeros ns → Apart ns → Apart (keep b n [] ++ ns)
  keep_apart true n ns e z a = one_apart n ns e z
  keep_apart false n ns e z a = a

  keep_two : (b c : Bool) (n m : ℕ) (ns : List ℕ) → (page ps n).level ≡ suc l → (page ps m).level ≡ suc l → n ≢ m → Zeros ns → Apart ns
      → Apart (keep b n (keep c m []) ++ ns)
  keep_two true true n m ns e f d z a = d
  keep_two true false n m ns e f d z a = one_apart n ns e z
  keep_two false c n m ns e f d z a = keep_apart c m ns f z a

  abbrev pub Unlike : List Pair → Type 0
  Unlike [] = Unit {0}
  Unlike (r ∷ []) = Unit {0}
  Unlike (r ∷ q ∷ rs) = r.value ≢ q.value

  pub apart-usable : (rs : List Pair) → Olds rs → Members rs → Unlike rs → Apart (usable w ps rs)
  unfolding Rules.usable
  apart-usable rs (lone r) m d =
      keep_apart (active w (page ps r.value)) r.value (free_ones ps) m.0.level frees_all.zeros frees_all.apart
  apart-usable rs (twin r q h) m d =
      keep_two (active w (page ps r.value)) (active w (page ps q.value)) r.value q.value (free_ones ps) m.0.level
      m.1.0.level d frees_all.zeros frees_all.apart
