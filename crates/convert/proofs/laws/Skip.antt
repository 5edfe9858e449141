-- Laws about convert/specs/Skip. Assumes nothing.
use Prim.Native.Nat.{ℕ, zero, suc, ◌+◌, ◌*◌, ◌-◌, ◌^◌, ◌≤◌, ◌<◌}
use native.Mathlib.Omega.{arith}
use mathlib.Core.Bool.{Bool, true, false}
use mathlib.Core.Logic.{◌⊎◌, inl, inr}
use mathlib.Core.Path.{◌≡◌, refl, ap, ap₂, sym, subst, ◌∙◌}
use mathlib.Core.List.{List, []}
use lib.Dec.{leb, ltb}
use lib.ListN.{length, get_or-eq_default}
use borrow.Author.Tests.{leb-true, leb-false, ltb-true, ltb-false}
use Rattle.model.specs.declared.Limits.{Limits}
use Rattle.model.specs.declared.Header.{Header}
use Rattle.model.specs.declared.Delta.{Delta}
use Rattle.model.specs.Limits.{Edition}
use Rattle.model.specs.Header.{with_flag, with_version}
use Rattle.model.specs.Page.{Page, free, is_free, pairs_at}
use Rattle.model.specs.Store.{Store, page}
use Rattle.model.specs.Walk.{settings}
use Rattle.model.specs.Layout.{page_of, header_of, read_header, size_of, decode, encode}
use Rattle.model.specs.Judged.{is_sound}
use Rattle.model.specs.Calls.{committed}
use Rattle.model.specs.Differ.{differ}
use Rattle.model.specs.Return.{reached, and_on, through, carried}
use Rattle.model.specs.Convert.{replayed, replay}
use Rattle.model.proofs.lists.Members.{bool_cases}
use Rattle.model.proofs.reading.Lookups.{settings-rise}
use Rattle.model.proofs.reading.Differs.{none-differs}
use Rattle.model.proofs.reading.Alike.{alike-settings}
use Rattle.model.specs.Inner.{Out}
use Rattle.model.specs.ByRule.{Sound}
use Rattle.model.specs.Remade.{Upto}
use Rattle.model.proofs.sound.Quiet.{root-still, out-less}
use Rattle.model.proofs.turning.Returned.{Runs}
use Rattle.model.proofs.turning.Converted.{begun, current-last, runs, one_more, replayed-is}
use Rattle.page.specs.Head.{read_head}
use Rattle.page.proofs.laws.Read.{entries-of, length-entries}
use Rattle.store.specs.Header.{put_header}
use Rattle.store.proofs.laws.Read.{count-pages, page-at}
use Rattle.store.proofs.laws.Set.{state-set}
use Rattle.store.proofs.laws.Sure.{sure, whole}
use Rattle.notes.proofs.laws.Ready.{quiet-slots}
use Rattle.notes.specs.Ready.{BehindUpto}
use Rattle.reach.specs.Versions.{QuietPart}
use Rattle.reach.proofs.laws.Quiet.{pairs-quiet}
use Rattle.turn.specs.Turned.{HeadedBytes}
use Rattle.convert.proofs.laws.Ready.{is-sound, is_held}
use Rattle.convert.specs.Version.{Replaying}
use Rattle.convert.proofs.laws.Version.{source_sound}
use Rattle.convert.specs.Skip.{moved, Still, Skipped}

pub moved-bytes : (least : ℕ) → 4 ≤ least → least ≤ 8 → (b : List ℕ) → HeadedBytes least b → (n : ℕ) → n < 2 ^ 20
    → put_header least b (with_flag (with_version (read_header least b) n) false) ≡ encode least (moved n (decode least b))
moved-bytes least four eight b k n low =
    ap (λ (h : Header). put_header least b (with_flag (with_version h n) false)) (sym k.header)
    ∙ ap (λ (x : List ℕ). put_header least x (with_flag (with_version (header_of (decode least b)) n) false)) (sym k.same)
    ∙ state-set least four eight (decode least b) k.holds n false low

-- ---- versions that show the same

module _ (of : ℕ) (first : 4 ≤ of) (s : Store) (d : Sound of s) (z : s.oldest ≡ 0) (least : ℕ) (four : 4 ≤ least) where
  still-moved : (v : ℕ) (t : Store) → Upto least s v t → t ≡ moved v t
  still-moved v t p =
      ap₂ (λ (n : ℕ) (b : Bool). record { current = n; opened = b; oldest = t.oldest; slots = t.slots; pages = t.pages }) p.current
      p.closed

  module _ (v : ℕ) (h : v < s.current) (t : Store) (p : Upto least s v t) (e : settings s (suc v) ≡ settings s v) where
    none : differ (settings s v) (settings s (suc v)) ≡ []
    none =
        ap (differ (settings s v)) e ∙ none-differs (settings s v)
        (settings-rise of (omega arith) s d v (record { from = omega (arith, z); upto = omega (arith, h, current-last s) }))

    ran : carried least (differ (settings s v) (settings s (suc v))) (begun t) ≡ reached (begun t)
    unfolding carried through
    ran = ap (λ (ds : List Delta). carried least ds (begun t)) none

    one-empty : replayed least (differ (settings s v) (settings s (suc v))) t ≡ reached (committed (begun t))
    one-empty = replayed-is of first s d z least four v h t p ∙ ap (and_on (λ (w : Store). reached (committed w))) ran

    one-upto : Upto least s (suc v) (committed (begun t))
    one-upto =
        one_more of first s d z least four v h t p (begun t)
        (subst (Runs least (begun t) (settings s (suc v))) ran (runs of first s d z least four v h t p))

  pub skips : (k v : ℕ) (t : Store) → Upto least s v t → v + k ≤ s.current → ((u : ℕ) → v ≤ u → u ≤ v + k → settings s u ≡ settings s v)
      → Upto least s (v + k) (moved (v + k) t) × ((m : ℕ) → replay least s v (k + m) t ≡ replay least s (v + k) m (moved (v + k) t))
  unfolding replay
  skips zero v t p h same =
      let z : v ≡ v + 0 = omega arith in
      let q : t ≡ moved (v + 0) t = still-moved v t p ∙ ap (λ (n : ℕ). moved n t) z in (
        subst (λ (n : ℕ). Upto least s n (moved (v + 0) t)) z (subst (Upto least s v) q p),
        λ m. let y : 0 + m ≡ m = omega arith in ap (λ (n : ℕ). replay least s v n t) y
            ∙ ap₂ (λ (n : ℕ) (x : Store). replay least s n m x) z q,
      )
  skips (suc k) v t p h same =
      let low : v < s.current = omega (arith, h) in
      let e : settings s (suc v) ≡ settings s v = same (suc v) (omega arith) (omega arith) in
      let t₁ : Store = committed (begun t) in
      let up : suc v + k ≡ v + suc k = omega arith in
      let (a, b) = skips k (suc v) t₁ (one-upto v low t p e) (omega (arith, h))
      (λ u x y. same u (omega (arith, x)) (omega (arith, y)) ∙ sym e) in (
        subst (λ (n : ℕ). Upto least s n (moved n t)) up a,
        λ m.
            let y : suc k + m ≡ suc (k + m) = omega arith in
            ap (λ (n : ℕ). replay least s v n t) y ∙ ap (and_on (replay least s (suc v) (k + m))) (one-empty v low t p e) ∙ b m
            ∙ ap (λ (n : ℕ). replay least s n m (moved n t)) up,
      )

module _ {l : Limits} (d : Edition l) (a : List ℕ) (h : is_sound l.least a ≡ true) where
  abbrev ps : List Page
  ps = (decode l.least a).pages

  size_is : length (decode l.least a).pages ≡ size_of l.least a
  size_is = count-pages l.least a (omega (arith, (whole d a h).six))

  pub room : (n : ℕ) → 5 ≤ n → n < size_of l.least a → (read_head l.least (page_of l.least a n)).count ≤ 5 * l.least
  room n five less = at (bool_cases (is_free (page ps n)))
    where
      long : length (page ps n).entries ≡ (read_head l.least (page_of l.least a n)).count
      long =
          ap (λ (p : Page). length p.entries) (page-at l.least a n five less)
          ∙ ap length (entries-of l.least (page_of l.least a n))
          ∙ length-entries (page_of l.least a n) 128 (read_head l.least (page_of l.least a n)).count

      at : (is_free (page ps n) ≡ true) ⊎ (is_free (page ps n) ≡ false) → (read_head l.least (page_of l.least a n)).count ≤ 5 * l.least
      at (inl z) = omega (arith, sym long ∙ ap (λ (p : Page). length p.entries) ((sure d a h).zeros n z))
      at (inr z) = omega (arith, long, ((sure d a h).pages n z).few)

  module _ (v r : ℕ) (q : Still l.least a v r) (u : ℕ) (low : v ≤ u) (high : u < r) where
    shows : (n : ℕ) → pairs_at v (page ps n) ≡ pairs_at u (page ps n)
    shows n = at (bool_cases (leb 5 n)) (bool_cases (ltb n (size_of l.least a)))
      where
        none : page ps n ≡ free → pairs_at v (page ps n) ≡ pairs_at u (page ps n)
        none e = rw e

        at : (leb 5 n ≡ true) ⊎ (leb 5 n ≡ false) → (ltb n (size_of l.least a) ≡ true) ⊎ (ltb n (size_of l.least a) ≡ false)
            → pairs_at v (page ps n) ≡ pairs_at u (page ps n)
        at (inl x) (inl y) =
            let five = leb-true 5 n x in
            let less = ltb-true n (size_of l.least a) y in
            pairs-quiet l.least a n v u r (five, less) low high (q.pages n five less)
        at (inr x) y = none ((sure d a h).zeros n ((sure d a h).front n (leb-false 5 n x)))
        at (inl x) (inr y) = none (get_or-eq_default ps free (omega (arith, size_is, ltb-false n (size_of l.least a) y)))

    pub still-settings : settings (decode l.least a) u ≡ settings (decode l.least a) v
    still-settings =
        alike-settings (decode l.least a) v (decode l.least a) u (record {
          root = sym (root-still v u r low high (decode l.least a).slots (quiet-slots l.least a v r q.slots) 0);
          height = refl;
          shows = λ n. sym (shows n);
        })

-- ---- the target moved on

module _ {k : Limits} {a : List ℕ} {l : Limits} {b : List ℕ} {v : ℕ} (p : Replaying k a l b v) (w : ℕ) (low : v ≤ w)
    (high : w ≤ (decode k.least a).current)
    (same : (u : ℕ) → v ≤ u → u ≤ w → settings (decode k.least a) u ≡ settings (decode k.least a) v) (b' : List ℕ)
    (e : b' ≡ encode l.least (moved w (decode l.least b))) where
  abbrev s : Store
  s = decode k.least a

  abbrev t : Store
  t = decode l.least b

  up : v + (w - v) ≡ w
  up = omega (arith, low)

  both : Upto l.least (decode k.least a) (v + (w - v)) (moved (v + (w - v)) (decode l.least b))
      × ((m : ℕ) → replay l.least (decode k.least a) v (w - v + m) (decode l.least b)
      ≡ replay l.least (decode k.least a) (v + (w - v)) m (moved (v + (w - v)) (decode l.least b)))
  both =
      skips k.least p.from.four s (source_sound p) p.whole l.least p.into.four (w - v) v t p.upto
      (omega (arith, up, high)) (λ u x y. same u x (omega (arith, up, y)))

  there : Upto l.least (decode k.least a) w (moved w (decode l.least b))
  there = subst (λ (n : ℕ). Upto l.least s n (moved n t)) up both.0

  held : decode l.least b' ≡ moved w (decode l.least b)
  held = is_held p.into (moved w t) there.is-sound b' e

  pub moves : Replaying k a l b' w
  moves = record {
    from = p.from;
    source = p.source;
    whole = p.whole;
    into = p.into;
    target = is-sound p.into (moved w t) there.is-sound b' e;
    upto = subst (Upto l.least s w) (sym held) there;
  }

  pub moves-on : replay l.least (decode k.least a) v ((decode k.least a).current - v) (decode l.least b)
      ≡ replay l.least (decode k.least a) w ((decode k.least a).current - w) (decode l.least b')
  moves-on =
      let z : s.current - v ≡ w - v + (s.current - w) = omega (arith, low, high) in
      ap (λ (n : ℕ). replay l.least s v n t) z ∙ both.1 (s.current - w)
      ∙ ap (λ (n : ℕ). replay l.least s n (s.current - w) (moved n t)) up
      ∙ ap (replay l.least s w (s.current - w)) (sym held)

-- ---- a shorter stretch, and one more page

pub slots-less : (f : ℕ → ℕ) (c v r q : ℕ) → ((i : ℕ) → i < c → Out v r (f i)) → q ≤ r → (i : ℕ) → i < c → Out v q (f i)
slots-less f c v r q h le i l = out-less v r q (f i) (h i l) le

part-less : (least : ℕ) (p : List ℕ) (v r q : ℕ) → QuietPart least p v r → q ≤ r → QuietPart least p v q
part-less least p v r q x le = record {
  start = out-less v r q _ x.start le;
  end = out-less v r q _ x.end le;
  entries = record {
    starts = λ i l. out-less v r q _ (x.entries.starts i l) le;
    ends = λ i l. out-less v r q _ (x.entries.ends i l) le;
  };
}

pub parts_more : (least : ℕ) (f : ℕ → List ℕ) (n v r q : ℕ) → ((m : ℕ) → 5 ≤ m → m < n → QuietPart least (f m) v r) → q ≤ r
    → QuietPart least (f n) v q
    → (m : ℕ) → 5 ≤ m → m < n + 1 → QuietPart least (f m) v q
parts_more least f n v r q h le x m five l = at (bool_cases (ltb m n))
  where
    at : (ltb m n ≡ true) ⊎ (ltb m n ≡ false) → QuietPart least (f m) v q
    at (inl z) = part-less least (f m) v r q (h m five (ltb-true m n z)) le
    at (inr z) = let e : m ≡ n = omega (arith, ltb-false m n z) in subst (λ (i : ℕ). QuietPart least (f i) v q) (sym e) x

-- ---- one step over versions that read the same

pub source-low : {k : Limits} {a : List ℕ} {l : Limits} {b : List ℕ} {v : ℕ} → Replaying k a l b v → (decode k.least a).current ≤ 1048574
source-low {k} {a} p = omega (arith, current-last (decode k.least a), (source_sound p).last-low)

pub skipped : {k : Limits} {a : List ℕ} {l : Limits} {b : List ℕ} {v : ℕ} (p : Replaying k a l b v) (c q : ℕ)
    → c ≡ (decode k.least a).current → v ≤ c → BehindUpto v (c + 1) q → Still k.least a v q
    → (b' : List ℕ) → b' ≡ encode l.least (moved (q - 1) (decode l.least b)) → Skipped k a l b b' v (q - 1)
skipped {k} {a} {l} {b} {v} p c q e le s still b' f =
    let low : v ≤ q - 1 = omega (arith, s.above) in
    let high : q - 1 ≤ (decode k.least a).current = omega (arith, s.below, e) in
    let same : (u : ℕ) → v ≤ u → u ≤ q - 1 → settings (decode k.least a) u ≡ settings (decode k.least a) v
    = λ u x y. still-settings p.from a p.source v q still u x (omega (arith, y, s.above)) in
    record { low = low; high = high; now-at = moves p (q - 1) low high same b' f; same = moves-on p (q - 1) low high same b' f }
