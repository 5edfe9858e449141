-- Laws about cursor/specs/Reaches. Assumes nothing.
use Prim.Native.Nat.{ℕ, suc, ◌≤◌, ◌<◌}
use native.Mathlib.Omega.{arith}
use mathlib.Core.Bool.{Bool, true, false}
use mathlib.Core.Path.{◌≡◌, refl, ap, ap₂, sym, ◌∙◌, subst}
use mathlib.Core.List.{List, [], ◌∷◌, ◌++◌, append_assoc, append-nil}
use lib.Dec.{leb, ltb}
use borrow.Author.Tests.{leb-true, leb-false, ltb-true, le-leb}
use Rattle.model.specs.declared.Pair.{Pair}
use Rattle.model.specs.Entry.{pair, within}
use Rattle.model.specs.Page.{Page, pairs_at}
use Rattle.model.specs.Store.{Store, page}
use Rattle.model.specs.Walk.{follow_from, followed, root_at, height_of, settings, key_limit}
use Rattle.model.specs.Tree.{Row, in_range}
use Rattle.model.specs.ByRule.{Readable, Sound}
use Rattle.model.proofs.lists.Lists.{both_true, all_cons}
use Rattle.model.proofs.tree.Tree.{Tree, widen, row-le, row-keys}
use Rattle.model.proofs.tree.Local.{all_append}
use Rattle.model.proofs.tree.UpdateChanges.{holds-range, row-range}
use Rattle.model.proofs.sound.Ready.{holds-all, root-level}
use Rattle.walk.specs.Ends.{upto}
use Rattle.walk.specs.Covers.{Covers}
use Rattle.cursor.specs.First.{at_or_above}
use Rattle.cursor.proofs.laws.First.{above-append, above-none, above-all}
use Rattle.cursor.specs.Reaches.{Reaches}

pub reaches-root : (least : ℕ) → 2 ≤ least → (s : Store) → Sound least s → (v k : ℕ) → Readable s v → k < key_limit
    → Reaches least v s.pages (settings s v) (height_of s.pages (root_at s.slots v)) (root_at s.slots v) k key_limit
reaches-root least two s d v k h low = record {
  low = 0;
  shown = settings s v;
  before = [];
  after = [];
  level = root-level least two s d v h.from;
  holds = holds-all least two s d v h;
  from = omega arith;
  below = low;
  top = omega arith;
  is = sym (append-nil (settings s v));
  lefts = refl;
  rights = refl;
}

-- no router is above the largest key
all-upto : (lo hi : ℕ) (rs : List Pair) → in_range lo hi rs ≡ true → hi ≤ key_limit → upto 16777215 rs ≡ rs
all-upto lo hi [] i h = refl
all-upto lo hi (x ∷ rs) i h =
    let (here, rest) = all_cons (λ (y : Pair). within lo hi y.key) x rs i in
    let (p, q) = both_true (leb lo x.key) (ltb x.key hi) here in
    rw (le-leb x.key 16777215 (omega (arith, ltb-true x.key hi q))) (ap (λ (zs : List Pair). x ∷ zs) (all-upto lo hi rs rest h))

module _ (least v : ℕ) (ps : List Page) where
  pub reaches-covers : (whole : List Pair) (up n k high : ℕ) → Reaches least v ps whole up n k high → Covers least v ps up n k
  reaches-covers whole up n k high r =
      record { low = r.low; high = high; shown = r.shown; level = r.level; holds = r.holds; from = r.from; below = r.below }

  -- Of routers from lo up to hi, those that a walk for k follows: the one for k leads to page n, which has the keys up to mid, and the
  -- others come after it.
  pub record LedFor (l k lo hi : ℕ) (zs qs : List Pair) : Type 0 where
    pub n : ℕ
    pub after : List Pair
    pub low : ℕ
    pub mid : ℕ
    pub befores : List Pair
    pub mine : List Pair
    pub afters : List Pair
    pub is : qs ≡ pair k n ∷ after
    pub lefts : in_range lo low befores ≡ true
    pub bottom : lo ≤ low
    pub here : Tree least v l ps low mid n mine
    pub rights : Row (Tree least v l ps) hi after mid afters
    pub from : low ≤ k
    pub upto : k < mid
    pub all_of : zs ≡ befores ++ (mine ++ afters)

  module _ (l k : ℕ) where
    led : (rest : List Pair) (x : Pair) (lo hi : ℕ) (zs : List Pair) → Row (Tree least v l ps) hi (x ∷ rest) lo zs → lo ≤ k → k < hi
        → hi ≤ key_limit
        → LedFor l k lo hi zs (follow_from k 16777215 x rest)
    led [] x lo hi zs t p q top = record {
      n = x.value;
      after = [];
      low = lo;
      mid = t.mid;
      befores = [];
      mine = t.mine;
      afters = t.others;
      is = refl;
      lefts = refl;
      bottom = omega arith;
      here = t.here;
      rights = t.rest;
      from = p;
      upto = omega (arith, t.rest.met);
      all_of = t.all_of;
    }
    led (y ∷ ys) x lo hi zs t p q top = at (leb y.key k) refl (λ far. led ys y t.mid hi t.others t.rest far q top)
      where
        at : (b : Bool) → leb y.key k ≡ b → (t.mid ≤ k → LedFor l k t.mid hi t.others (follow_from k 16777215 y ys))
            → LedFor l k lo hi zs
            (elim b as (λ z. List Pair) [ true ↦ follow_from k 16777215 y ys | false ↦ pair k x.value ∷ upto 16777215 (y ∷ ys) ])
        at true e ih =
            let f = ih (omega (arith, leb-true y.key k e, t.rest.low)) in
            record {
              n = f.n;
              after = f.after;
              low = f.low;
              mid = f.mid;
              befores = t.mine ++ f.befores;
              mine = f.mine;
              afters = f.afters;
              is = f.is;
              lefts = all_append (λ (z : Pair). within lo f.low z.key) t.mine f.befores
                  (widen lo t.mid lo f.low t.mine (omega arith) f.bottom
                  (holds-range least v ps l lo t.mid (pairs_at v (page ps x.value)) t.mine t.here.holds))
                  (widen t.mid f.low lo f.low f.befores (omega (arith, t.room)) (omega arith) f.lefts);
              bottom = omega (arith, t.room, f.bottom);
              here = f.here;
              rights = f.rights;
              from = f.from;
              upto = f.upto;
              all_of = t.all_of ∙ ap (λ (us : List Pair). t.mine ++ us) f.all_of
                  ∙ sym (append_assoc t.mine f.befores (f.mine ++ f.afters));
            }
        at false e ih = record {
          n = x.value;
          after = y ∷ ys;
          low = lo;
          mid = t.mid;
          befores = [];
          mine = t.mine;
          afters = t.others;
          is = ap (λ (us : List Pair). pair k x.value ∷ us)
              (all-upto t.mid hi (y ∷ ys) (row-keys (Tree least v l ps) hi (y ∷ ys) t.mid t.others t.rest) top);
          lefts = refl;
          bottom = omega arith;
          here = t.here;
          rights = t.rest;
          from = p;
          upto = omega (arith, leb-false y.key k e, t.rest.low);
          all_of = t.all_of;
        }

    led-in : (rs : List Pair) (lo hi : ℕ) (zs : List Pair) → Row (Tree least v l ps) hi rs lo zs → lo ≤ k → k < hi → hi ≤ key_limit
        → LedFor l k lo hi zs (followed k 16777215 rs)
    led-in [] lo hi zs t p q top = absurd (omega (arith, t.met))
    led-in (x ∷ rs) lo hi zs t p q top = led rs x lo hi zs t p q top

  -- one page further down
  module _ (whole : List Pair) (up n k high : ℕ) (r : Reaches least v ps whole (suc up) n k high) where
    way : LedFor up k r.low high r.shown (followed k 16777215 (pairs_at v (page ps n)))
    way = led-in up k (pairs_at v (page ps n)) r.low high r.shown r.holds r.from r.below r.top

    further : Reaches least v ps whole up way.n k way.mid
    further =
        let f = way in
        let far : f.mid ≤ high = row-le (Tree least v up ps) high f.after f.mid f.afters f.rights in
        record {
          low = f.low;
          shown = f.mine;
          before = r.before ++ f.befores;
          after = f.afters ++ r.after;
          level = f.here.level;
          holds = f.here.holds;
          from = f.from;
          below = f.upto;
          top = omega (arith, far, r.top);
          is = r.is ∙ ap (λ (us : List Pair). r.before ++ (us ++ r.after)) f.all_of
              ∙ regroup r.before f.befores f.mine f.afters r.after;
          lefts = all_append (λ (z : Pair). within 0 f.low z.key) r.before f.befores
              (widen 0 r.low 0 f.low r.before (omega arith) f.bottom r.lefts)
              (widen r.low f.low 0 f.low f.befores (omega arith) (omega arith) f.lefts);
          rights = all_append (λ (z : Pair). within f.mid key_limit z.key) f.afters r.after
              (widen f.mid high f.mid key_limit f.afters (omega arith) r.top
              (row-range least v ps up (holds-range least v ps up) high f.after f.mid f.afters f.rights))
              (widen high key_limit f.mid key_limit r.after far (omega arith) r.rights);
        }
      where
        regroup : (a b c d e : List Pair) → a ++ ((b ++ (c ++ d)) ++ e) ≡ (a ++ b) ++ (c ++ (d ++ e))
        regroup a b c d e = simp append_assoc

    -- by what the walk follows: the page for k, and behind it another router, or none
    abbrev first : List Pair → ℕ
    first [] = 0
    first (x ∷ xs) = x.value

    abbrev rest : List Pair → List Pair
    rest [] = []
    rest (x ∷ xs) = xs

    module _ (m : ℕ) (qs : List Pair) (e : followed k 16777215 (pairs_at v (page ps n)) ≡ pair k m ∷ qs) where
      same-page : way.n ≡ m
      same-page = ap first (sym way.is ∙ e)

      same_rest : way.after ≡ qs
      same_rest = ap rest (sym way.is ∙ e)

      pub reaches-next : (x : Pair) (xs : List Pair) → qs ≡ x ∷ xs → Reaches least v ps whole up m k x.key
      reaches-next x xs q =
          let t = subst (λ (us : List Pair). Row (Tree least v up ps) high us way.mid way.afters) (same_rest ∙ q) way.rights in
          subst (Reaches least v ps whole up m k) (sym t.low)
          (subst (λ (i : ℕ). Reaches least v ps whole up i k way.mid) same-page further)

      pub reaches-last : qs ≡ [] → Reaches least v ps whole up m k high
      reaches-last q =
          let t = subst (λ (us : List Pair). Row (Tree least v up ps) high us way.mid way.afters) (same_rest ∙ q) way.rights in
          subst (Reaches least v ps whole up m k) t.met (subst (λ (i : ℕ). Reaches least v ps whole up i k way.mid) same-page further)

  -- at a leaf: what the whole has from k on is what the leaf has, and then what the whole has from the next leaf on
  module _ (whole : List Pair) (n k high : ℕ) (r : Reaches least v ps whole 0 n k high) where
    pub leaf-range : in_range r.low high (pairs_at v (page ps n)) ≡ true
    leaf-range = r.holds.keys

    pub leaf-then : at_or_above k whole ≡ at_or_above k (pairs_at v (page ps n)) ++ at_or_above high whole
    leaf-then =
        let mine : List Pair = pairs_at v (page ps n) in
        let e : whole ≡ r.before ++ (mine ++ r.after) = r.is
        ∙ ap (λ (us : List Pair). r.before ++ (us ++ r.after)) (sym r.holds.same) in
        ap (at_or_above k) e ∙ above-append k r.before (mine ++ r.after)
        ∙ ap₂ ◌++◌ (above-none k 0 r.low r.before r.lefts r.from)
        (above-append k mine r.after ∙ ap (λ (us : List Pair). at_or_above k mine ++ us)
        (above-all k high key_limit r.after r.rights (omega (arith, r.below))))
        ∙ ap (λ (us : List Pair). at_or_above k mine ++ us)
        (sym (ap (at_or_above high) e ∙ above-append high r.before (mine ++ r.after)
        ∙ ap₂ ◌++◌ (above-none high 0 r.low r.before r.lefts (omega (arith, r.from, r.below)))
        (above-append high mine r.after ∙ ap₂ ◌++◌ (above-none high r.low high mine leaf-range (omega arith))
        (above-all high high key_limit r.after r.rights (omega arith)))))
