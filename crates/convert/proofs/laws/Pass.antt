-- A pass over one version's differences: the deletes, or the inserts, that they ask for, in rising key order; and both passes.
-- Assumes nothing.
use Prim.Native.Nat.{ℕ, ◌+◌, ◌≤◌}
use native.Mathlib.Omega.{arith}
use mathlib.Core.Bool.{Bool, true, false}
use mathlib.Core.Path.{◌≡◌, ap, sym, subst, ◌∙◌}
use mathlib.Core.List.{List, ◌++◌}
use Rattle.model.specs.Basic.{those}
use Rattle.model.specs.declared.Limits.{Limits}
use Rattle.model.specs.declared.Pair.{Pair}
use Rattle.model.specs.declared.Delta.{Delta}
use Rattle.model.specs.Store.{Store}
use Rattle.model.specs.Walk.{settings, key_limit}
use Rattle.model.specs.Layout.{decode}
use Rattle.model.specs.Return.{reached, stopped, through, and_on, carried}
use Rattle.model.specs.Remade.{small, Ends, Sets}
use Rattle.model.proofs.tree.Local.{those-append}
use Rattle.model.proofs.sound.Small.{settings-small}
use Rattle.model.proofs.turning.Remade.{Way, the-way}
use Rattle.store.proofs.laws.Sure.{sure}
use Rattle.walk.specs.Sure.{Walkable}
use Rattle.differ.specs.Merge.{told, Onward}
use Rattle.differ.specs.Listing.{between, left_of, next_of}
use Rattle.differ.proofs.laws.Listing.{reads-rising, from_start, from_end, from_on, from_step}
use Rattle.back.specs.Pass.{wants, step, passed}
use Rattle.back.proofs.laws.Pass.{through-append}
use Rattle.convert.specs.Ready.{UpdateOpen, shown, Went}
use Rattle.convert.specs.Due.{Due}
use Rattle.convert.proofs.laws.Due.{due-first, due-done, due-on}

-- a pass asks first what the cursors say, then the rest
passed_first : (insert : Bool) (least : ℕ) (cs ds : List Delta) (t : Store)
    → passed insert least (cs ++ ds) t ≡ and_on (passed insert least ds) (passed insert least cs t)
passed_first insert least cs ds t =
    ap (λ (es : List Delta). through (step insert least) es t) (those-append (wants insert) cs ds)
    ∙ through-append (step insert least) (those (wants insert) cs) (those (wants insert) ds) t

module _ {k : Limits} {a : List ℕ} {u v : ℕ} (x : Walkable k a u) (y : Walkable k a v) (l : Limits) (b : List ℕ) (insert : Bool) where
  pub pass-start : passed insert l.least (between k a u v) (decode l.least b)
      ≡ passed insert l.least (left_of k a u v 0) (decode l.least b)
  pass-start = ap (λ (ds : List Delta). passed insert l.least ds (decode l.least b)) (sym (from_start x y))

  pub due-start : Due insert (shown l b) (between k a u v) → Due insert (shown l b) (left_of k a u v 0)
  due-start p = subst (Due insert (shown l b)) (sym (from_start x y)) p

  pub pass-end : (key : ℕ) → key_limit ≤ key → passed insert l.least (left_of k a u v key) (decode l.least b)
      ≡ reached (decode l.least b)
  unfolding through
  pass-end key h = ap (λ (ds : List Delta). passed insert l.least ds (decode l.least b)) (from_end x y key h)

  module _ (g : UpdateOpen l b) (key : ℕ) (h : key ≤ key_limit) (d : Delta) (e : d ≡ next_of k a u v key) where
    pub pass_on : Onward key d.key
    pass_on = from_on x y key h d e

    module _ (p : Due insert (shown l b) (left_of k a u v key)) where
      whole : Due insert (shown l b) (told d ++ left_of k a u v (d.key + 1))
      whole = subst (Due insert (shown l b)) (from_step x y key h d e) p

      pub asks : Due insert (shown l b) (told d)
      asks = due-first insert (shown l b) (told d) (left_of k a u v (d.key + 1)) whole

      asked-first : passed insert l.least (left_of k a u v key) (decode l.least b)
          ≡ and_on (passed insert l.least (left_of k a u v (d.key + 1))) (passed insert l.least (told d) (decode l.least b))
      asked-first =
          ap (λ (ds : List Delta). passed insert l.least ds (decode l.least b)) (from_step x y key h d e)
          ∙ passed_first insert l.least (told d) (left_of k a u v (d.key + 1)) (decode l.least b)

      module _ (b' : List ℕ) (r : ℕ) (t : Went l b' r (passed insert l.least (told d) (decode l.least b))) where
        pub pass-goes : r ≡ 0 → passed insert l.least (left_of k a u v key) (decode l.least b)
            ≡ passed insert l.least (left_of k a u v (d.key + 1)) (decode l.least b')
        pass-goes z = asked-first ∙ ap (and_on (passed insert l.least (left_of k a u v (d.key + 1)))) (t.goes z)

        pub pass-due : r ≡ 0 → Due insert (shown l b') (left_of k a u v (d.key + 1))
        pass-due z = due-on g insert (told d) (left_of k a u v (d.key + 1)) whole b' (t.goes z)

        pub pass-stops : (r ≡ 0 → ⊥) → passed insert l.least (left_of k a u v key) (decode l.least b)
            ≡ stopped r (decode l.least b')
        pass-stops z = asked-first ∙ ap (and_on (passed insert l.least (left_of k a u v (d.key + 1)))) (t.stops z)

-- ---- both passes, where the target shows what the source shows at u

module _ {k : Limits} {a : List ℕ} {u v : ℕ} (x : Walkable k a u) (y : Walkable k a v) {l : Limits} {b : List ℕ} (g : UpdateOpen l b)
    (e : shown l b ≡ settings (decode k.least a) u) where
  abbrev s : Store
  s = decode k.least a

  abbrev ds : List Delta
  ds = between k a u v

  way : Way small (settings (decode k.least a) u) (settings (decode k.least a) v) (between k a u v)
  way =
      the-way small (settings s u) (settings s v)
      (settings-small k.least (omega (arith, x.edition.four)) s (sure x.edition a x.sound) u x.version)
      (settings-small k.least (omega (arith, x.edition.four)) s (sure y.edition a y.sound) v y.version) (reads-rising x)
      (reads-rising y)

  pub ends-due : Due false (shown l b) (between k a u v)
  ends-due =
      record { after = way.mid; due = subst (λ (us : List Pair). Ends small us (those (wants false) ds) way.mid) (sym e) way.ends }

  module _ (b₁ : List ℕ) (n : ℕ) (p : Went l b₁ n (passed false l.least (between k a u v) (decode l.least b))) where
    pub sets-due : n ≡ 0 → Due true (shown l b₁) (between k a u v)
    unfolding ends-due way
    sets-due z = record {
      after = settings s v;
      due = subst (λ (us : List Pair). Sets small us (those (wants true) ds) (settings s v))
          (sym (due-done g false ds ends-due b₁ (p.goes z))) way.sets;
    }

    pub first_stops : (n ≡ 0 → ⊥) → Went l b₁ n (carried l.least (between k a u v) (decode l.least b))
    unfolding carried
    first_stops z = record { ready = p.ready; goes = λ w. absurd (z w); stops = λ w. ap (and_on (passed true l.least ds)) (p.stops z) }

    pub second_so : n ≡ 0 → (b₂ : List ℕ) (m : ℕ) → Went l b₂ m (passed true l.least (between k a u v) (decode l.least b₁))
        → Went l b₂ m (carried l.least (between k a u v) (decode l.least b))
    unfolding carried
    second_so z b₂ m q =
        let is : and_on (passed true l.least ds) (passed false l.least ds (decode l.least b))
        ≡ passed true l.least ds (decode l.least b₁) = ap (and_on (passed true l.least ds)) (p.goes z) in
        record { ready = q.ready; goes = λ w. is ∙ q.goes w; stops = λ w. is ∙ q.stops w }

-- ---- by the pass

pub asks-as : {us : List Pair} {ds : List Delta} (x y : Bool) → x ≡ y → Due x us ds → Due y us ds
asks-as x y e p = rw (sym e) p

pub went-as : {l : Limits} {b : List ℕ} {r : ℕ} (t : Store) (d : Delta) (x y : Bool) → x ≡ y → Went l b r (passed y l.least (told d) t)
    → Went l b r (passed x l.least (told d) t)
went-as t d x y e p = rw e p
