-- Laws about notes/specs/Kept. Assumes nothing.
use Prim.Native.Nat.{ℕ, zero, suc, ◌+◌, ◌*◌, ◌-◌, ◌<◌, ◌≤◌}
use native.Mathlib.Omega.{arith}
use native.Mathlib.Numerals.{sub-one}
use mathlib.Core.Bool.{Bool, true, false, ◌&&◌, ◌||◌}
use mathlib.Core.Path.{◌≡◌, refl, ap, sym, ◌∙◌, subst}
use mathlib.Core.Logic.{◌⊎◌, inl, inr, ⊎_elim}
use mathlib.Core.List.{List}
use lib.Dec.{leb, ltb, eqb}
use lib.ListN.{length, get_or, set, replicate, length-set, length-replicate, get_or-replicate}
use lib.Seq.{get_or-set_same, get_or-set_other}
use Rattle.bits.proofs.laws.Put.{less}
use Rattle.model.specs.Basic.{pick}
use Rattle.model.specs.declared.Entry.{Entry}
use Rattle.model.specs.Entry.{live_at}
use Rattle.model.specs.Page.{Page}
use Rattle.model.specs.Store.{page}
use Rattle.model.specs.Walk.{height_of}
use Rattle.model.specs.Layout.{read_entry, read_entries, page_of, decode}
use Rattle.page.proofs.laws.Read.{level-of, entries-step, entries-end, entries-of}
use Rattle.store.proofs.laws.Read.{page-at}
use Rattle.local.specs.Local.{IsPage, level_at, count_at}
use Rattle.notes.specs.declared.Note.{Note}
use Rattle.notes.specs.Notes.{nothing, bad, step_if, joined_if, joins, step, row, note_at}
use Rattle.notes.proofs.laws.Laws.{note-still, row-bad}
use Rattle.notes.specs.Linked.{Leads}
use Rattle.notes.specs.Kept.{note_in, put_note, put_away, Kept, kids_at}

module _ (ns : List ℕ) (n : ℕ) (x : Note) where
  abbrev s1 : List ℕ
  s1 = set ns (5 * n) x.until

  abbrev s2 : List ℕ
  s2 = set s1 (5 * n + 1) x.live

  abbrev s3 : List ℕ
  s3 = set s2 (5 * n + 2) x.first

  abbrev s4 : List ℕ
  s4 = set s3 (5 * n + 3) x.high

  pub put-length : length (put_note ns n x) ≡ length ns
  unfolding put_note
  put-length =
      length-set s4 (5 * n + 4) _ ∙ length-set s3 (5 * n + 3) _ ∙ length-set s2 (5 * n + 2) _ ∙ length-set s1 (5 * n + 1) _
      ∙ length-set ns (5 * n) _

  past : (j : ℕ) → (j < 5 * n) ⊎ (5 * n + 5 ≤ j) → get_or (put_note ns n x) j 0 ≡ get_or ns j 0
  unfolding put_note
  past j o =
      get_or-set_other s4 (5 * n + 4) j _ 0 (λ e. ⊎_elim (λ h. omega arith) (λ h. omega arith) o)
      ∙ get_or-set_other s3 (5 * n + 3) j _ 0 (λ e. ⊎_elim (λ h. omega arith) (λ h. omega arith) o)
      ∙ get_or-set_other s2 (5 * n + 2) j _ 0 (λ e. ⊎_elim (λ h. omega arith) (λ h. omega arith) o)
      ∙ get_or-set_other s1 (5 * n + 1) j _ 0 (λ e. ⊎_elim (λ h. omega arith) (λ h. omega arith) o)
      ∙ get_or-set_other ns (5 * n) j _ 0 (λ e. ⊎_elim (λ h. omega arith) (λ h. omega arith) o)

  pub put_other : (m : ℕ) → (m < n) ⊎ (n < m) → note_in (put_note ns n x) m ≡ note_in ns m
  put_other m o =
      rw (
        past (5 * m) (away (5 * m) (omega arith) (omega arith)),
        past (5 * m + 1) (away (5 * m + 1) (omega arith) (omega arith)),
        past (5 * m + 2) (away (5 * m + 2) (omega arith) (omega arith)),
        past (5 * m + 3) (away (5 * m + 3) (omega arith) (omega arith)),
        past (5 * m + 4) (away (5 * m + 4) (omega arith) (omega arith)),
      )
    where
      away : (j : ℕ) → 5 * m ≤ j → j < 5 * m + 5 → (j < 5 * n) ⊎ (5 * n + 5 ≤ j)
      away j a b = ⊎_elim (λ h. inl (omega arith)) (λ h. inr (omega arith)) o

  module _ (room : 5 * n + 4 < length ns) where
    until-in : get_or (put_note ns n x) (5 * n) 0 ≡ x.until
    unfolding put_note
    until-in =
        get_or-set_other s4 (5 * n + 4) (5 * n) _ 0 (λ e. omega arith) ∙ get_or-set_other s3 (5 * n + 3) (5 * n) _ 0 (λ e. omega arith)
        ∙ get_or-set_other s2 (5 * n + 2) (5 * n) _ 0 (λ e. omega arith)
        ∙ get_or-set_other s1 (5 * n + 1) (5 * n) _ 0 (λ e. omega arith) ∙ get_or-set_same ns (5 * n) _ 0 (omega arith)

    live_in : get_or (put_note ns n x) (5 * n + 1) 0 ≡ x.live
    unfolding put_note
    live_in =
        get_or-set_other s4 (5 * n + 4) (5 * n + 1) _ 0 (λ e. omega arith) ∙ get_or-set_other s3 (5 * n + 3) (5 * n + 1) _ 0 (λ e. omega arith)
        ∙ get_or-set_other s2 (5 * n + 2) (5 * n + 1) _ 0 (λ e. omega arith)
        ∙ get_or-set_same s1 (5 * n + 1) _ 0 (omega (arith, length-set ns (5 * n) x.until))

    first-in : get_or (put_note ns n x) (5 * n + 2) 0 ≡ x.first
    unfolding put_note
    first-in =
        get_or-set_other s4 (5 * n + 4) (5 * n + 2) _ 0 (λ e. omega arith) ∙ get_or-set_other s3 (5 * n + 3) (5 * n + 2) _ 0 (λ e. omega arith)
        ∙ get_or-set_same s2 (5 * n + 2) _ 0 (omega (arith, length-set s1 (5 * n + 1) x.live, length-set ns (5 * n) x.until))

    high-in : get_or (put_note ns n x) (5 * n + 3) 0 ≡ x.high
    unfolding put_note
    high-in =
        get_or-set_other s4 (5 * n + 4) (5 * n + 3) _ 0 (λ e. omega arith)
        ∙ get_or-set_same s3 (5 * n + 3) _ 0
        (omega (arith, length-set s2 (5 * n + 2) x.first, length-set s1 (5 * n + 1) x.live, length-set ns (5 * n) x.until))

    full-in : eqb (get_or (put_note ns n x) (5 * n + 4) 0) 1 ≡ x.full
    unfolding put_note
    full-in =
        ap (λ (k : ℕ). eqb k 1)
        (get_or-set_same s4 (5 * n + 4) _ 0
        (omega (
          arith,
          length-set s3 (5 * n + 3) x.high,
          length-set s2 (5 * n + 2) x.first,
          length-set s1 (5 * n + 1) x.live,
          length-set ns (5 * n) x.until,
        )))
        ∙ at x.full
      where
        at : (b : Bool) → eqb (pick b 1 0) 1 ≡ b
        at true = refl
        at false = refl

    pub put_same : x.keys ≡ true → note_in (put_note ns n x) n ≡ x
    put_same k =
        rw (until-in, live_in, first-in, high-in, full-in)
        (ap (λ (b : Bool). record { until = x.until; live = x.live; first = x.first; high = x.high; full = x.full; keys = b }) (sym k))

pub kept-none : (least : ℕ) (ps : List Page) (v : ℕ) → Kept least ps v (replicate 20481 0)
kept-none least ps v = record {
  long = length-replicate {A = ℕ} 20481 0;
  holds = λ m l h. absurd (omega (arith, get_or-replicate {A = ℕ} 20481 (5 * m) 0 0 (omega arith)));
}

pub kept-later : (least : ℕ) (ps : List Page) (v w : ℕ) (ns : List ℕ) → v ≤ w → Kept least ps v ns → Kept least ps w ns
kept-later least ps v w ns late k = record {
  long = k.long;
  holds = λ m l h.
      let e = k.holds m l (omega arith) in
      e ∙ sym (note-still least (height_of ps m) ps v w m late (subst (λ (x : Note). w < x.until) e h));
}

pub kept_put : (least : ℕ) (ps : List Page) (v n : ℕ) (x : Note) (ns : List ℕ) → n < 4096 → x ≡ note_at least (height_of ps n) ps v n
    → x.keys ≡ true → Kept least ps v ns → Kept least ps v (put_note ns n x)
kept_put least ps v n x ns low is ok k = record {
  long = put-length ns n x ∙ k.long;
  holds = λ m l h. at m l h (less m n) (less n m);
}
  where
    elsewhere : (m : ℕ) → m < 4096 → v < (note_in (put_note ns n x) m).until → (m < n) ⊎ (n < m)
        → note_in (put_note ns n x) m ≡ note_at least (height_of ps m) ps v m
    elsewhere m l h o = let e = put_other ns n x m o in e ∙ k.holds m l (subst (λ (y : Note). v < y.until) e h)

    at : (m : ℕ) → m < 4096 → v < (note_in (put_note ns n x) m).until → (m < n) ⊎ (n ≤ m) → (n < m) ⊎ (m ≤ n)
        → note_in (put_note ns n x) m ≡ note_at least (height_of ps m) ps v m
    at m l h (inl a) b = elsewhere m l h (inl a)
    at m l h (inr a) (inl b) = elsewhere m l h (inr b)
    at m l h (inr a) (inr b) =
        let e : n ≡ m = omega arith in
        subst (λ (j : ℕ). note_in (put_note ns n x) j ≡ note_at least (height_of ps j) ps v j) e
        (put_same ns n x (omega (arith, k.long)) ok ∙ is)

-- what stands behind the notes is none of them
pub kept-away : (least : ℕ) (ps : List Page) (v until w : ℕ) (ns ms : List ℕ) → ms ≡ put_away ns until w → Kept least ps v ns
    → Kept least ps v ms
unfolding put_away
kept-away least ps v until w ns ms q k = subst (Kept least ps v) (sym q) (at (eqb until 0 || leb w until))
  where
    same : (m : ℕ) → m < 4096 → note_in (set ns 20480 until) m ≡ note_in ns m
    same m l =
        rw (
          get_or-set_other ns 20480 (5 * m) until 0 (λ e. omega arith),
          get_or-set_other ns 20480 (5 * m + 1) until 0 (λ e. omega arith),
          get_or-set_other ns 20480 (5 * m + 2) until 0 (λ e. omega arith),
          get_or-set_other ns 20480 (5 * m + 3) until 0 (λ e. omega arith),
          get_or-set_other ns 20480 (5 * m + 4) until 0 (λ e. omega arith),
        )

    at : (b : Bool) → Kept least ps v (pick b ns (set ns 20480 until))
    at true = k
    at false = record {
      long = length-set ns 20480 until ∙ k.long;
      holds = λ m l h. same m l ∙ k.holds m l (subst (λ (x : Note). v < x.until) (same m l) h);
    }

pub kids-none : (least : ℕ) (up : ℕ) (ps : List Page) (v m : ℕ) → up ≡ 0 → kids_at least up ps v m ≡ nothing
unfolding kids_at
kids-none least zero ps v m e = refl
kids-none least (suc up) ps v m e = absurd (omega arith)

pub kids-some : (least : ℕ) (up : ℕ) (ps : List Page) (v m : ℕ) → (up ≡ 0 → ⊥) → kids_at least up ps v m ≡ note_at least (up - 1) ps v m
unfolding kids_at
kids-some least zero ps v m e = absurd (e refl)
kids-some least (suc up) ps v m e = let q : up ≡ suc up - 1 = omega arith in ap (λ (u : ℕ). note_at least u ps v m) q

pub note-row : (least up : ℕ) (ps : List Page) (v n : ℕ)
    → note_at least up ps v n ≡ row least up v (kids_at least up ps v) nothing (page ps n).entries
unfolding note_at kids_at
note-row least zero ps v n = refl
note-row least (suc up) ps v n = refl

-- where an entry is not alive its page is not asked
abbrev pub kid_if : Bool → Note → Note
kid_if b x = pick b x nothing

pub step-asked : (least up v : ℕ) (x : Note) (e : Entry) (kid : Note)
    → step least up v x e (kid_if (live_at v e) kid) ≡ step least up v x e kid
step-asked least up v x e kid = at (leb e.start v) (ltb v e.end)
  where
    at : (a b : Bool) → step_if a b least up x e (kid_if (a && b) kid) ≡ step_if a b least up x e kid
    at false b = refl
    at true false = refl
    at true true = refl

-- at most one more is alive
pub step-live : (least up v : ℕ) (x : Note) (e : Entry) (kid : Note) → (step least up v x e kid).live ≤ x.live + 1
step-live least up v x e kid = at (leb e.start v) (ltb v e.end)
  where
    by : (c : Bool) → (joined_if c least up x e kid).live ≤ x.live + 1
    by true = omega arith
    by false = omega arith

    at : (a b : Bool) → (step_if a b least up x e kid).live ≤ x.live + 1
    at false b = omega arith
    at true false = omega arith
    at true true = by (joins up x e kid)

-- a step that breaks rule 4 leaves nothing else
pub step-broken : (least up v : ℕ) (x : Note) (e : Entry) (kid : Note) → x.keys ≡ true → (step least up v x e kid).keys ≡ false
    → step least up v x e kid ≡ bad
step-broken least up v x e kid k h = at (leb e.start v) (ltb v e.end) h
  where
    wrong : {A : Type 0} → true ≡ false → A
    wrong q = absurd (let z : ◌≡◌ {A = ℕ} 0 1 = cc in omega arith)

    by : (c : Bool) → (joined_if c least up x e kid).keys ≡ false → joined_if c least up x e kid ≡ bad
    by true q = wrong q
    by false q = refl

    at : (a b : Bool) → (step_if a b least up x e kid).keys ≡ false → step_if a b least up x e kid ≡ bad
    at false b q = wrong (sym k ∙ q)
    at true false q = wrong (sym k ∙ q)
    at true true q = by (joins up x e kid) q

-- ---- what is left from place i on

module _ (least up v : ℕ) (f : ℕ → Note) (x : Note) (p : List ℕ) (i n : ℕ) where
  pub row_step : i < n → row least up v f x (read_entries p (128 + 96 * i) (n - i))
      ≡ row least up v f (step least up v x (read_entry p (128 + 96 * i)) (f (read_entry p (128 + 96 * i)).value))
      (read_entries p (128 + 96 * (i + 1)) (n - (i + 1)))
  unfolding row
  row_step l = ap (row least up v f x) (entries-step p i n l)

  pub row-end : n ≤ i → row least up v f x (read_entries p (128 + 96 * i) (n - i)) ≡ x
  unfolding row
  row-end l = ap (row least up v f x) (entries-end p (128 + 96 * i) i n l)

module _ (least : ℕ) (s : List ℕ) (n : ℕ) (k : IsPage least s n) where
  pub entries-here : (page (decode least s).pages n).entries ≡ read_entries (page_of least s n) 128 (count_at least s n)
  entries-here = ap (λ (p : Page). p.entries) (page-at least s n k.0 k.1) ∙ entries-of least (page_of least s n)

  pub height-here : (up : ℕ) → level_at least s n ≡ up + 1 → height_of (decode least s).pages n ≡ up
  height-here up e =
      rw (page-at least s n k.0 k.1, level-of least (page_of least s n)) (sym (sub-one (level_at least s n)) ∙ omega arith)

-- ---- the note of the page under an entry

module _ (least up : ℕ) (ps : List Page) (v : ℕ) (e : Entry) where
  pub below-leaf : up ≡ 0 → kid_if (live_at v e) (kids_at least up ps v e.value) ≡ nothing
  below-leaf z = ap (kid_if (live_at v e)) (kids-none least up ps v e.value z) ∙ at (live_at v e)
    where
      at : (b : Bool) → kid_if b nothing ≡ nothing
      at true = refl
      at false = refl

  pub below-dead : live_at v e ≡ false → kid_if (live_at v e) (kids_at least up ps v e.value) ≡ nothing
  below-dead q = ap (λ (b : Bool). kid_if b (kids_at least up ps v e.value)) q

  pub below-live : (m : ℕ) → live_at v e ≡ true → (up ≡ 0 → ⊥) → m ≡ e.value
      → kid_if (live_at v e) (kids_at least up ps v e.value) ≡ note_at least (up - 1) ps v m
  below-live m q n k =
      ap (λ (b : Bool). kid_if b (kids_at least up ps v e.value)) q ∙ kids-some least up ps v e.value n
      ∙ ap (note_at least (up - 1) ps v) (sym k)

pub leads-on : (least : ℕ) (s : List ℕ) (v up m : ℕ) (e : Entry) → Leads least s v up e → m ≡ e.value → (up ≡ 0 → ⊥) → live_at v e ≡ true
    → IsPage least s m × (level_at least s m ≡ up - 1 + 1)
leads-on least s v up m e h q n live = let (a, b) = h (omega arith) live in (rw q a, rw q (b ∙ omega arith))

-- ---- what `visit` gives

-- a note that still holds
pub known_is : (least up : ℕ) (ps : List Page) (v n : ℕ) (ns : List ℕ) (x : Note) → Kept least ps v ns → n < 4096 → height_of ps n ≡ up
    → x ≡ note_in ns n → v < x.until → x ≡ note_at least up ps v n
known_is least up ps v n ns x k low h q l =
    q ∙ k.holds n low (subst (λ (y : Note). v < y.until) q l) ∙ ap (λ (u : ℕ). note_at least u ps v n) h

-- one more entry
pub step-kid : (least up v : ℕ) (ps : List Page) (x y kid : Note) (e : Entry) → kid ≡ kid_if (live_at v e) (kids_at least up ps v e.value)
    → y ≡ step least up v x e kid → y ≡ step least up v x e (kids_at least up ps v e.value)
step-kid least up v ps x y kid e kids next =
    next ∙ ap (step least up v x e) kids ∙ step-asked least up v x e (kids_at least up ps v e.value)

module _ (least up v : ℕ) (ps : List Page) (x y : Note) (e : Entry) (p : List ℕ) (i n : ℕ) (is : e ≡ read_entry p (128 + 96 * i))
    (next : y ≡ step least up v x e (kids_at least up ps v e.value)) where
  pub row_next : i < n → row least up v (kids_at least up ps v) x (read_entries p (128 + 96 * i) (n - i))
      ≡ row least up v (kids_at least up ps v) y (read_entries p (128 + 96 * (i + 1)) (n - (i + 1)))
  row_next l =
      row_step least up v (kids_at least up ps v) x p i n l
      ∙ ap (λ (z : Note). row least up v (kids_at least up ps v) z (read_entries p (128 + 96 * (i + 1)) (n - (i + 1))))
      (ap (λ (d : Entry). step least up v x d (kids_at least up ps v d.value)) (sym is) ∙ sym next)

  -- rule 4 is broken
  pub row-stops : i < n → x.keys ≡ true → y.keys ≡ false
      → row least up v (kids_at least up ps v) x (read_entries p (128 + 96 * i) (n - i)) ≡ y
  row-stops l k b =
      let q : y ≡ bad = next ∙ step-broken least up v x e (kids_at least up ps v e.value) k (ap (λ (z : Note). z.keys) (sym next) ∙ b) in
      row_next l ∙ ap (λ (z : Note). row least up v (kids_at least up ps v) z (read_entries p (128 + 96 * (i + 1)) (n - (i + 1)))) q
      ∙ row-bad least up v (kids_at least up ps v) (read_entries p (128 + 96 * (i + 1)) (n - (i + 1))) ∙ sym q

  pub live-next : x.live ≤ i → y.live ≤ i + 1
  live-next l =
      let g : y.live ≡ (step least up v x e (kids_at least up ps v e.value)).live = ap (λ (z : Note). z.live) next in
      omega (arith, step-live least up v x e (kids_at least up ps v e.value))

pub kept-after : (least up : ℕ) (ps : List Page) (v n : ℕ) (x : Note) (ns ms : List ℕ) → Kept least ps v ns → n < 4096 → height_of ps n ≡ up
    → x.keys ≡ true → x ≡ note_at least up ps v n → ms ≡ put_note ns n x → Kept least ps v ms
kept-after least up ps v n x ns ms k low h ok is q =
    subst (Kept least ps v) (sym q) (kept_put least ps v n x ns low (is ∙ ap (λ (u : ℕ). note_at least u ps v n) (sym h)) ok k)
