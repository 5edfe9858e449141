-- Laws about quick/specs/Under. Assumes nothing.
use Prim.Native.Nat.{ℕ, zero, suc, ◌+◌, ◌*◌, ◌-◌, ◌<◌, ◌≤◌, min, max}
use mathlib.Core.Bool.{Bool, true, false, ◌&&◌, ◌||◌, not, or-true, and-true}
use mathlib.Core.Path.{◌≡◌, refl, ap, sym, ◌∙◌}
use mathlib.Core.List.{List, [], ◌∷◌}
use Rattle.std.specs.Prelude.{Option, Some, None, ⊤}
use native.Mathlib.Omega.{arith}
use lib.Dec.{leb, ltb}
use borrow.Author.Tests.{le-ltb, lt-ltb, leb-true, leb-false, ltb-false}
use Rattle.model.specs.Basic.{keep, pick}
use Rattle.model.specs.declared.Entry.{Entry}
use Rattle.model.specs.Page.{Page}
use Rattle.model.specs.Store.{page}
use Rattle.model.specs.Layout.{read_entry, read_entries, page_of, decode}
use Rattle.spans.specs.Quick.{meets, past, past_all, kept, last_fine, lasts, under, next_fine, nexts, fine_over, routers_fine}
use Rattle.spans.proofs.laws.Stretches.{past_more, past-all-more}
use Rattle.page.proofs.laws.Read.{entries-step, entries-end, entries-of}
use Rattle.store.proofs.laws.Read.{page-at}
use Rattle.local.specs.Local.{IsPage, count_at}
use Rattle.quick.specs.declared.under.Way.{Way}
use Rattle.quick.specs.Part.{high_over}
use Rattle.quick.specs.Under.{way_if, way_of, under_page}

-- ---- an empty stretch

meets-empty : (a b : ℕ) (e : Entry) → b ≤ a → meets a b e ≡ false
meets-empty a b e h = le-ltb (max a e.start) (min b e.end) (omega arith)

lasts-empty : (f : ℕ → ℕ → ℕ → Bool) (h a b : ℕ) (es : List Entry) → b ≤ a → lasts f h a b es ≡ true
lasts-empty f h a b [] l = refl
lasts-empty f h a b (e ∷ es) l = rw (meets-empty a b e l, lasts-empty f h a b es l)

pub under-empty : (up : ℕ) (ps : List Page) (h a b n : ℕ) → b ≤ a → under up ps h a b n ≡ true
under-empty zero ps h a b n l = lasts-empty (λ (c d m : ℕ). true) h a b (page ps n).entries l
under-empty (suc up) ps h a b n l = lasts-empty (under up ps h) h a b (page ps n).entries l

pub nexts-empty : (f : ℕ → ℕ → ℕ → Bool) (a b : ℕ) (es : List Entry) → b ≤ a → nexts f a b es ≡ true
nexts-empty f a b [] l = refl
nexts-empty f a b (e ∷ es) l = rw (meets-empty a b e l, nexts-empty f (past a e) b es (omega (arith, past_more a e)))

-- ---- one entry

-- what a way asks
abbrev pub way_fine : (f : (ℕ → ℕ → ℕ → Bool)) (h : ℕ) → Option Way → Bool
way_fine f h None = true
way_fine f h (Some w) = ltb w.key h && f w.from w.upto w.page

last-is : (f : ℕ → ℕ → ℕ → Bool) → ((c d m : ℕ) → d ≤ c → f c d m ≡ true) → (h a b : ℕ) (e : Entry) (es : List Entry)
    → last_fine f h a b e es ≡ way_fine f h (way_of a b e es)
last-is f g h a b e es = at (meets a b e)
  where
    d : ℕ
    d = min b e.end

    c : ℕ
    c = past_all (max a e.start) es

    by : (t : Bool) → leb d c ≡ t → (t || f c d e.value) ≡ f (min d c) d e.value
    by true q = sym (g (min d c) d e.value (omega (arith, leb-true d c q)))
    by false q = let z : c ≡ min d c = omega (arith, leb-false d c q) in ap (λ (x : ℕ). f x d e.value) z

    at : (t : Bool) → (not t || (ltb e.key h && (leb d c || f c d e.value))) ≡ way_fine f h (way_if t a b e es)
    at true = ap (λ (x : Bool). ltb e.key h && x) (by (leb d c) refl)
    at false = refl

lasts-high : (h a b : ℕ) (es : List Entry) → lasts (λ (c d m : ℕ). true) h a b es ≡ high_over h a b es
lasts-high h a b [] = refl
lasts-high h a b (e ∷ es) =
    rw (or-true (leb (min b e.end) (past_all (max a e.start) es)), and-true (ltb e.key h), lasts-high h a b es)

next-is : (f : ℕ → ℕ → ℕ → Bool) → ((h c d : ℕ) → d ≤ c → f h c d ≡ true) → (a b : ℕ) (e : Entry)
    → next_fine f a b e ≡ f e.key (max a e.start) (min b e.end)
next-is f g a b e = at (meets a b e) refl
  where
    at : (t : Bool) → meets a b e ≡ t → (not t || f e.key (max a e.start) (min b e.end))
        ≡ f e.key (max a e.start) (min b e.end)
    at true q = refl
    at false q = sym (g e.key (max a e.start) (min b e.end) (ltb-false (max a e.start) (min b e.end) q))

-- ---- an entry that ended by the oldest version has no part in a stretch from there on

past-out : (old a : ℕ) (e : Entry) → old ≤ a → e.end ≤ old → past a e ≡ a
past-out old a e h l = at (leb e.start a)
  where
    at : (t : Bool) → pick t (max a e.end) a ≡ a
    at true = omega arith
    at false = refl

meets-out : (old a b : ℕ) (e : Entry) → old ≤ a → e.end ≤ old → meets a b e ≡ false
meets-out old a b e h l = le-ltb (max a e.start) (min b e.end) (omega arith)

pub nexts-kept : (f : ℕ → ℕ → ℕ → Bool) (old a b : ℕ) (es : List Entry) → old ≤ a → nexts f a b (kept old es) ≡ nexts f a b es
nexts-kept f old a b [] h = refl
nexts-kept f old a b (e ∷ es) h =
    at (ltb old e.end) refl (nexts-kept f old a b es h) (nexts-kept f old (past a e) b es (omega (arith, past_more a e)))
  where
    at : (t : Bool) → ltb old e.end ≡ t → nexts f a b (kept old es) ≡ nexts f a b es
        → nexts f (past a e) b (kept old es) ≡ nexts f (past a e) b es → nexts f a b (keep t e (kept old es)) ≡ nexts f a b (e ∷ es)
    at true q x y = ap (λ (z : Bool). next_fine f a b e && z) y
    at false q x y =
        let l : e.end ≤ old = ltb-false old e.end q in
        x ∙ sym (ap (λ (t : Bool). (not t || f e.key (max a e.start) (min b e.end)) && nexts f (past a e) b es)
        (meets-out old a b e h l) ∙ ap (λ (c : ℕ). nexts f c b es) (past-out old a e h l))

router-one : (least old up : ℕ) (ps : List Page) (e : Entry) (es : List Entry) → routers_fine least old up ps (kept old (e ∷ es))
    ≡ ((leb e.end old
    || (fine_over least e.key (max old e.start) e.end (page ps e.value)
    && nexts (under_page up ps e.value) (max old e.start) e.end es)) && routers_fine least old up ps (kept old es))
router-one least old up ps e es = at (leb e.end old) refl
  where
    fine : Bool
    fine = fine_over least e.key (max old e.start) e.end (page ps e.value)

    at : (t : Bool) → leb e.end old ≡ t → routers_fine least old up ps (keep (ltb old e.end) e (kept old es))
        ≡ ((t || (fine && nexts (under_page up ps e.value) (max old e.start) e.end es))
        && routers_fine least old up ps (kept old es))
    at true q = ap (λ (b : Bool). routers_fine least old up ps (keep b e (kept old es))) (le-ltb old e.end (leb-true e.end old q))
    at false q =
        ap (λ (b : Bool). routers_fine least old up ps (keep b e (kept old es))) (lt-ltb old e.end (leb-false e.end old q))
        ∙ ap (λ (b : Bool). (fine && b) && routers_fine least old up ps (kept old es))
        (nexts-kept (under_page up ps e.value) old (max old e.start) e.end es (omega arith))

-- ---- what is left from place i on

module _ (ps : List Page) (up : ℕ) (p : List ℕ) (i n : ℕ) where
  abbrev e : Entry
  e = read_entry p (128 + 96 * i)

  abbrev here : List Entry
  here = read_entries p (128 + 96 * i) (n - i)

  abbrev rest : List Entry
  rest = read_entries p (128 + 96 * (i + 1)) (n - (i + 1))

  pub lasts-step : (h a b : ℕ) (w : Option Way) → w ≡ way_of a b e rest → i < n
      → lasts (under up ps h) h a b here ≡ (way_fine (under up ps h) h w && lasts (under up ps h) h a b rest)
  lasts-step h a b w q l =
      ap (lasts (under up ps h) h a b) (entries-step p i n l)
      ∙ ap (λ (x : Bool). x && lasts (under up ps h) h a b rest)
      (last-is (under up ps h) (λ c d m k. under-empty up ps h c d m k) h a b e rest)
      ∙ ap (λ (x : Option Way). way_fine (under up ps h) h x && lasts (under up ps h) h a b rest) (sym q)

  pub lasts-end : (h a b : ℕ) → n ≤ i → lasts (under up ps h) h a b here ≡ true
  lasts-end h a b l = ap (lasts (under up ps h) h a b) (entries-end p (128 + 96 * i) i n l)

  pub nexts-step : (m a b : ℕ) (d : Entry) → d ≡ e → i < n
      → nexts (under_page up ps m) a b here
      ≡ (under up ps d.key (max a d.start) (min b d.end) m && nexts (under_page up ps m) (past a d) b rest)
  nexts-step m a b d q l =
      ap (nexts (under_page up ps m) a b) (entries-step p i n l)
      ∙ ap (λ (x : Bool). x && nexts (under_page up ps m) (past a e) b rest)
      (next-is (under_page up ps m) (λ h c g k. under-empty up ps h c g m k) a b e)
      ∙ ap (λ (x : Entry). under up ps x.key (max a x.start) (min b x.end) m && nexts (under_page up ps m) (past a x) b rest)
      (sym q)

  pub nexts-end : (m a b : ℕ) → n ≤ i → nexts (under_page up ps m) a b here ≡ true
  nexts-end m a b l = ap (nexts (under_page up ps m) a b) (entries-end p (128 + 96 * i) i n l)

  pub routers-step : (least old : ℕ) → i < n → routers_fine least old up ps (kept old here)
      ≡ ((leb e.end old
      || (fine_over least e.key (max old e.start) e.end (page ps e.value)
      && nexts (under_page up ps e.value) (max old e.start) e.end rest)) && routers_fine least old up ps (kept old rest))
  routers-step least old l =
      ap (λ (es : List Entry). routers_fine least old up ps (kept old es)) (entries-step p i n l) ∙ router-one least old up ps e rest

  pub routers-end : (least old : ℕ) → n ≤ i → routers_fine least old up ps (kept old here) ≡ true
  routers-end least old l = ap (λ (es : List Entry). routers_fine least old up ps (kept old es)) (entries-end p (128 + 96 * i) i n l)

-- ---- page n of the bytes

module _ (least : ℕ) (s : List ℕ) (n : ℕ) (k : IsPage least s n) where
  pub entries-here : (page (decode least s).pages n).entries ≡ read_entries (page_of least s n) 128 (count_at least s n)
  entries-here = ap (λ (p : Page). p.entries) (page-at least s n k.0 k.1) ∙ entries-of least (page_of least s n)

  pub under-leaf : (up h a b : ℕ) → up ≡ 0 → under up (decode least s).pages h a b n
      ≡ high_over h a b (read_entries (page_of least s n) 128 (count_at least s n))
  under-leaf up h a b z =
      ap (λ (u : ℕ). under u (decode least s).pages h a b n) z ∙ lasts-high h a b (page (decode least s).pages n).entries
      ∙ ap (high_over h a b) entries-here

  pub under-start : (up h a b : ℕ) → (up ≡ 0 → ⊥)
      → under up (decode least s).pages h a b n ≡ lasts (under (up - 1) (decode least s).pages h) h a b
      (read_entries (page_of least s n) 128 (count_at least s n))
  under-start zero h a b z = absurd (z refl)
  under-start (suc up) h a b z =
      let q : up ≡ suc up - 1 = omega arith in
      ap (lasts (under up (decode least s).pages h) h a b) entries-here
      ∙ ap (λ (u : ℕ). lasts (under u (decode least s).pages h) h a b (read_entries (page_of least s n) 128 (count_at least s n))) q

-- a way leads to the entry's page, and one that is not empty lies in the stretch and in the entry's span
abbrev pub Leads : (a : ℕ) (e : Entry) → Option Way → Type 0
Leads a e None = ⊤
Leads a e (Some w) = (w.page ≡ e.value) × (w.from < w.upto → a ≤ w.from) × (w.upto ≤ e.end)

pub way-leads : (a b : ℕ) (e : Entry) (es : List Entry) → Leads a e (way_of a b e es)
way-leads a b e es = at (meets a b e)
  where
    at : (t : Bool) → Leads a e (way_if t a b e es)
    at true = (refl, λ l. omega (arith, past-all-more (max a e.start) es), omega arith)
    at false = tt
