-- Where lookup and range give 4: what fails in the header, in the slots, or on the walk, clause by clause.
-- Assumes nothing.
use Prim.Native.Nat.{ℕ, zero, suc, ◌*◌, ◌<◌}
use mathlib.Core.Bool.{Bool, true, false, ◌&&◌, not}
use mathlib.Core.Path.{◌≡◌, refl}
use mathlib.Core.Logic.{◌≢◌, ◌↔◌, ◌⊎◌, inl, inr}
use mathlib.Core.List.{List, [], ◌∷◌}
use lib.Dec.{leb, ltb, eqb}
use lib.ListN.{length}
use borrow.Author.Tests.{leb-false, lt-leb, eqb-false, ne_eqb, eqb-true, eq-eqb, ltb-true}
use Rattle.model.specs.Basic.{all, pick, in_order}
use Rattle.model.specs.declared.Pair.{Pair}
use Rattle.model.specs.declared.Slot.{Slot}
use Rattle.model.specs.Entry.{before}
use Rattle.model.specs.Page.{Page, pairs_at}
use Rattle.model.specs.Store.{page, last}
use Rattle.model.specs.Walk.{root_at, height_of, around, followed}
use Rattle.model.specs.Sound.{is_page, span_ok, entry_ok, page_ok, rule2}
use Rattle.model.specs.Layout.{page_of, decode}
use Rattle.model.specs.Clean.{clean_page, clean_front}
use Rattle.model.specs.Near.{front_right, page_right, starts_by, down_right, range_right, from_root}
use Rattle.model.proofs.lists.Lists.{both_true, all_cons}
use Rattle.model.proofs.lists.Bools.{clash, fails-left, fails-right}
use Rattle.walk.proofs.laws.Live.{above}
use Rattle.tabled.proofs.laws.Starts.{none_above}
use Rattle.promises.specs.Near.{Some, Each, FrontWrong, Breaks, OtherLevel, NoRouter, WrongDown, WrongAcross, WrongFrom}

-- ---- tests that fail

fails-or : (a c : Bool) → (a && c) ≡ false → (a ≡ false) ⊎ (c ≡ false)
fails-or true c e = inr e
fails-or false c e = inl refl

fails-all : {A : Type 0} (f : A → Bool) (g : A → Type 0) (xs : List A) → ((x : A) → f x ≡ false → g x) → all f xs ≡ false → Some g xs
fails-all f g [] h e = clash e
fails-all f g (x ∷ xs) h e = at (fails-or (f x) (all f xs) e) (λ q. fails-all f g xs h q)
  where
    at : (f x ≡ false) ⊎ (all f xs ≡ false) → (all f xs ≡ false → Some g xs) → Some g (x ∷ xs)
    at (inl q) ih = inl (h x q)
    at (inr q) ih = inr (ih q)

some-fails : {A : Type 0} (f : A → Bool) (g : A → Type 0) (xs : List A) → ((x : A) → g x → f x ≡ false) → Some g xs → all f xs ≡ false
some-fails f g [] h e = absurd e
some-fails f g (x ∷ xs) h (inl q) = fails-left (f x) (all f xs) (h x q)
some-fails f g (x ∷ xs) h (inr q) = fails-right (f x) (all f xs) (some-fails f g xs h q)

module _ (least : ℕ) (b : List ℕ) where
  abbrev ps : List Page
  ps = (decode least b).pages

  -- ---- header and slots

  pub front-clauses : (front_right least b ≡ false) ↔ FrontWrong least b
  unfolding front_right
  front-clauses = (λ e. to (fails-or (clean_front least b) _ e), back)
    where
      top : ℕ
      top = last (decode least b)

      good : Slot → Bool
      good x = is_page (length ps) x.root

      slots : (all good (decode least b).slots ≡ false) ⊎ (rule2 (decode least b) ≡ false) → FrontWrong least b
      slots (inl e) = inr (inr (inr (inl (fails-all good (λ (x : Slot). good x ≡ false) (decode least b).slots (λ x q. q) e))))
      slots (inr e) = inr (inr (inr (inr e)))

      most : ℕ
      most = pick (leb least 4) 0 (decode least b).current

      old : ℕ
      old = (decode least b).oldest

      aged : (leb old most ≡ false) ⊎ ((all good (decode least b).slots && rule2 (decode least b)) ≡ false) → FrontWrong least b
      aged (inl e) = inr (inr (inl (leb-false old most e)))
      aged (inr e) = slots (fails-or (all good (decode least b).slots) (rule2 (decode least b)) e)

      fields : (leb top 1048574 ≡ false) ⊎ ((leb old most && (all good (decode least b).slots && rule2 (decode least b))) ≡ false)
          → FrontWrong least b
      fields (inl e) = inr (inl (leb-false top 1048574 e))
      fields (inr e) = aged (fails-or (leb old most) (all good (decode least b).slots && rule2 (decode least b)) e)

      to : (clean_front least b ≡ false)
          ⊎ ((leb top 1048574 && (leb old most && (all good (decode least b).slots && rule2 (decode least b)))) ≡ false)
          → FrontWrong least b
      to (inl e) = inl e
      to (inr e) = fields (fails-or (leb top 1048574) (leb old most && (all good (decode least b).slots && rule2 (decode least b))) e)

      back : FrontWrong least b
          → (clean_front least b && (leb top 1048574 && (leb old most && (all good (decode least b).slots && rule2 (decode least b)))))
          ≡ false
      back (inl e) = fails-left (clean_front least b) _ e
      back (inr (inl e)) = fails-right (clean_front least b) _ (fails-left (leb top 1048574) _ (lt-leb top 1048574 e))
      back (inr (inr (inl e))) = fails-right (clean_front least b) _
          (fails-right (leb top 1048574) _ (fails-left (leb old most) _ (lt-leb old most e)))
      back (inr (inr (inr (inl e)))) =
          fails-right (clean_front least b) _
          (fails-right (leb top 1048574) _
          (fails-right (leb old most) _
          (fails-left (all good (decode least b).slots) _
          (some-fails good (λ (x : Slot). good x ≡ false) (decode least b).slots (λ x q. q) e))))
      back (inr (inr (inr (inr e)))) = fails-right (clean_front least b) _
          (fails-right (leb top 1048574) _
          (fails-right (leb old most) _ (fails-right (all good (decode least b).slots) (rule2 (decode least b)) e)))

  -- ---- one page

  page-clauses : (level n : ℕ) → (page_right least b level n ≡ false) ↔ (Breaks least b n ⊎ OtherLevel least b level n)
  unfolding page_right
  page-clauses level n = (
    to (clean_page least (page_of least b n)) (page_ok least (last (decode least b)) (length ps) (page ps n)),
    back (clean_page least (page_of least b n)) (page_ok least (last (decode least b)) (length ps) (page ps n)),
  )
    where
      to : (c p : Bool) → (c && (p && eqb (page ps n).level level)) ≡ false → ((c && p) ≡ false) ⊎ ((page ps n).level ≢ level)
      to true true e = inr (eqb-false (page ps n).level level e)
      to true false e = inl refl
      to false p e = inl refl

      back : (c p : Bool) → ((c && p) ≡ false) ⊎ ((page ps n).level ≢ level) → (c && (p && eqb (page ps n).level level)) ≡ false
      back c p (inr e) = fails-right c _ (fails-right p _ (ne_eqb (page ps n).level level e))
      back true p (inl e) = fails-left p _ e
      back false p (inl e) = refl

  -- rule 1 has its entries by key
  in_order_lem : (level n : ℕ) → page_right least b level n ≡ true → in_order before (page ps n).entries ≡ true
  unfolding page_right
  in_order_lem level n e =
      let m : ℕ = last (decode least b) in
      let q : Page = page ps n in
      let a : Bool = leb q.level 7 && leb (length q.entries) (5 * least) && span_ok m q.start q.end in
      let x = both_true (clean_page least (page_of least b n)) (page_ok least m (length ps) q && eqb q.level level) e in
      let y = both_true (page_ok least m (length ps) q) (eqb q.level level) x.1 in
      let z = both_true (a && in_order before q.entries) (all (entry_ok m (length ps) q.level) q.entries) y.0 in
      (both_true a (in_order before q.entries) z.0).1

  module _ (v : ℕ) where
    none-starts : (k : ℕ) (xs : List Pair) → Each (λ (r : Pair). k < r.key) xs → starts_by k xs ≡ false
    none-starts k [] e = refl
    none-starts k (x ∷ xs) e = lt-leb x.key k e.0

    all_above : (k : ℕ) (xs : List Pair) → above k xs ≡ true → Each (λ (r : Pair). k < r.key) xs
    all_above k [] e = tt
    all_above k (x ∷ xs) e = let q = all_cons (λ (y : Pair). ltb k y.key) x xs e in (ltb-true k x.key q.0, all_above k xs q.1)

    no-router : (k level n : ℕ) → page_right least b level n ≡ true → starts_by k (pairs_at v (page ps n)) ≡ false → NoRouter least b v k n
    no-router k level n e f = all_above k (pairs_at v (page ps n)) (none_above v k (page ps n).entries (in_order_lem level n e) f)

    -- ---- the walk of a lookup

    to-down : (up k n : ℕ) → down_right least b v up k n ≡ false → WrongDown least b v up k n
    unfolding down_right
    to-down zero k n e = (page-clauses 1 n).0 e
    to-down (suc up) k n e =
        at (page_right least b (suc (suc up)) n) refl (starts_by k (pairs_at v (page ps n))) refl e
        (λ q. to-down up k (around k (pairs_at v (page ps n))).own.value q)
      where
        below : ℕ
        below = (around k (pairs_at v (page ps n))).own.value

        here : Breaks least b n ⊎ OtherLevel least b (suc (suc up)) n → WrongDown least b v (suc up) k n
        here (inl q) = inl q
        here (inr q) = inr (inl q)

        at : (p : Bool) → page_right least b (suc (suc up)) n ≡ p → (t : Bool) → starts_by k (pairs_at v (page ps n)) ≡ t
            → (p && (t && down_right least b v up k below)) ≡ false
            → (down_right least b v up k below ≡ false → WrongDown least b v up k below) → WrongDown least b v (suc up) k n
        at false p t q e ih = here ((page-clauses (suc (suc up)) n).0 p)
        at true p false q e ih = inr (inr (inl (no-router k (suc (suc up)) n p q)))
        at true p true q e ih = inr (inr (inr (ih e)))

    from-down : (up k n : ℕ) → WrongDown least b v up k n → down_right least b v up k n ≡ false
    unfolding down_right
    from-down zero k n e = (page-clauses 1 n).1 e
    from-down (suc up) k n (inl e) = fails-left (page_right least b (suc (suc up)) n) _ ((page-clauses (suc (suc up)) n).1 (inl e))
    from-down (suc up) k n (inr (inl e)) = fails-left (page_right least b (suc (suc up)) n) _ ((page-clauses (suc (suc up)) n).1 (inr e))
    from-down (suc up) k n (inr (inr (inl e))) =
        fails-right (page_right least b (suc (suc up)) n) _
        (fails-left (starts_by k (pairs_at v (page ps n))) _ (none-starts k (pairs_at v (page ps n)) e))
    from-down (suc up) k n (inr (inr (inr e))) =
        fails-right (page_right least b (suc (suc up)) n) _
        (fails-right (starts_by k (pairs_at v (page ps n))) _ (from-down up k (around k (pairs_at v (page ps n))).own.value e))

    -- ---- the walk of a range

    to-across : (up hi at n : ℕ) → range_right least b v up hi at n ≡ false → WrongAcross least b v up hi at n
    unfolding range_right
    to-across zero hi at n e = (page-clauses 1 n).0 e
    to-across (suc up) hi at n e =
        by (page_right least b (suc (suc up)) n) refl (starts_by at (pairs_at v (page ps n))) refl e
        (λ r q. to-across up hi r.key r.value q)
      where
        under : Pair → Bool
        under r = range_right least b v up hi r.key r.value

        wrong : Pair → Type 0
        wrong r = WrongAcross least b v up hi r.key r.value

        here : Breaks least b n ⊎ OtherLevel least b (suc (suc up)) n → WrongAcross least b v (suc up) hi at n
        here (inl q) = inl q
        here (inr q) = inr (inl q)

        by : (p : Bool) → page_right least b (suc (suc up)) n ≡ p → (t : Bool) → starts_by at (pairs_at v (page ps n)) ≡ t
            → (p && (t && all under (followed at hi (pairs_at v (page ps n))))) ≡ false → ((r : Pair) → under r ≡ false → wrong r)
            → WrongAcross least b v (suc up) hi at n
        by false p t q e ih = here ((page-clauses (suc (suc up)) n).0 p)
        by true p false q e ih = inr (inr (inl (no-router at (suc (suc up)) n p q)))
        by true p true q e ih = inr (inr (inr (fails-all under wrong (followed at hi (pairs_at v (page ps n))) ih e)))

    from-across : (up hi at n : ℕ) → WrongAcross least b v up hi at n → range_right least b v up hi at n ≡ false
    unfolding range_right
    from-across zero hi at n e = (page-clauses 1 n).1 e
    from-across (suc up) hi at n (inl e) = fails-left (page_right least b (suc (suc up)) n) _ ((page-clauses (suc (suc up)) n).1 (inl e))
    from-across (suc up) hi at n (inr (inl e)) = fails-left (page_right least b (suc (suc up)) n) _
        ((page-clauses (suc (suc up)) n).1 (inr e))
    from-across (suc up) hi at n (inr (inr (inl e))) =
        fails-right (page_right least b (suc (suc up)) n) _
        (fails-left (starts_by at (pairs_at v (page ps n))) _ (none-starts at (pairs_at v (page ps n)) e))
    from-across (suc up) hi at n (inr (inr (inr e))) =
        fails-right (page_right least b (suc (suc up)) n) _
        (fails-right (starts_by at (pairs_at v (page ps n))) _
        (some-fails (λ (r : Pair). range_right least b v up hi r.key r.value)
        (λ (r : Pair). WrongAcross least b v up hi r.key r.value) (followed at hi (pairs_at v (page ps n)))
        (λ r q. from-across up hi r.key r.value q) e))

    -- ---- from the version's root on

    abbrev root : ℕ
    root = root_at (decode least b).slots v

    root-clauses : (f : ℕ → ℕ → Bool) (w : ℕ → ℕ → Type 0) → ((up n : ℕ) → (f up n ≡ false) ↔ w up n)
        → (from_root least b v f ≡ false) ↔ WrongFrom least b v w
    root-clauses f w h = (λ e. to (eqb (page ps root).level 0) refl e, back)
      where
        to : (t : Bool) → eqb (page ps root).level 0 ≡ t → (not t && f (height_of ps root) root) ≡ false → WrongFrom least b v w
        to true q e = inl (eqb-true (page ps root).level 0 q)
        to false q e = inr ((h (height_of ps root) root).0 e)

        back : WrongFrom least b v w → from_root least b v f ≡ false
        back (inl e) = fails-left (not (eqb (page ps root).level 0)) _ (rw (eq-eqb (page ps root).level 0 e))
        back (inr e) = fails-right (not (eqb (page ps root).level 0)) _ ((h (height_of ps root) root).1 e)

    pub lookup-clauses : (k : ℕ) → (from_root least b v (λ up n. down_right least b v up k n) ≡ false)
        ↔ WrongFrom least b v (λ up n. WrongDown least b v up k n)
    lookup-clauses k =
        root-clauses (λ up n. down_right least b v up k n) (λ up n. WrongDown least b v up k n) (λ up n. (to-down up k n, from-down up k n))

    pub range-clauses : (lo hi : ℕ) → (from_root least b v (λ up n. range_right least b v up hi lo n) ≡ false)
        ↔ WrongFrom least b v (λ up n. WrongAcross least b v up hi lo n)
    range-clauses lo hi =
        root-clauses (λ up n. range_right least b v up hi lo n) (λ up n. WrongAcross least b v up hi lo n)
        (λ up n. (to-across up hi lo n, from-across up hi lo n))
