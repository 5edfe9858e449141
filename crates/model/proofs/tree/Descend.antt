-- The way down for a key leads to the leaf whose range has it, and gives the way up.
-- Assumes nothing.
use Prim.Native.Nat.{ℕ, zero, suc, ◌≤◌, ◌<◌}
use native.Mathlib.Omega.{arith}
use mathlib.Core.Bool.{Bool, true, false}
use mathlib.Core.Option.{Option, none, some}
use mathlib.Core.Path.{◌≡◌, refl, ap, ap₂, sym, ◌∙◌, subst}
use mathlib.Core.List.{List, [], ◌∷◌, ◌++◌, append_assoc, append-nil}
use lib.Dec.{leb}
use lib.ListN.{length}
use borrow.Author.Tests.{leb-true, leb-false}
use Rattle.model.specs.declared.Pair.{Pair}
use Rattle.model.specs.Page.{Page, pairs_at}
use Rattle.model.specs.Store.{page}
use Rattle.model.specs.Walk.{Around, around_from, around, way_down}
use Rattle.model.specs.Tree.{Says, Row, LeafHolds, Holds}
use Rattle.model.proofs.tree.Tree.{Tree, row-append}
use Rattle.model.proofs.tree.Shows.{LastIs, HeadIs, Company, Tidy, Standing, Touched, inside, Way, Some}

-- the place of k among routers
pub record RouterPlace (least w : ℕ) (S : Says) (k lo hi : ℕ) (rs zs : List Pair) (a : Around) : Type 0 where
  pub before : List Pair
  pub after : List Pair
  pub befores : List Pair
  pub mine : List Pair
  pub afters : List Pair
  pub low : ℕ
  pub mid : ℕ
  pub split : rs ≡ before ++ (a.own ∷ after)
  pub key : a.own.key ≡ low
  pub lefts : Row S low before lo befores
  pub room : low < mid
  pub here : S low mid a.own.value mine
  pub rights : Row S hi after mid afters
  pub from : low ≤ k
  pub upto : k < mid
  pub left_is : LastIs least w before a.left
  pub right_is : HeadIs least w after a.right
  pub all_of : zs ≡ befores ++ (mine ++ afters)

module _ (least w k : ℕ) (S : Says) where
  found : (rest : List Pair) (x : Pair) (l : Option Pair) (before : List Pair) (bot lo hi : ℕ) (bs zs : List Pair) → LastIs least w before l
      → Row S lo before bot bs
      → Row S hi (x ∷ rest) lo zs → lo ≤ k → k < hi
      → RouterPlace least w S k bot hi (before ++ (x ∷ rest)) (bs ++ zs) (around_from k l x rest)
  found [] x l before bot lo hi bs zs last lefts t p q = record {
    before = before;
    after = [];
    befores = bs;
    mine = t.mine;
    afters = t.others;
    low = lo;
    mid = t.mid;
    split = refl;
    key = t.low;
    lefts = lefts;
    room = t.room;
    here = t.here;
    rights = t.rest;
    from = p;
    upto = omega (arith, t.rest.met);
    left_is = last;
    right_is = refl;
    all_of = ap (λ (us : List Pair). bs ++ us) t.all_of;
  }
  found (y ∷ ys) x l before bot lo hi bs zs last lefts t p q = at (leb y.key k) refl (found ys y (some x))
    where
      one : Row S t.mid (x ∷ []) lo t.mine
      one =
          record {
            mid = t.mid;
            mine = t.mine;
            others = [];
            low = t.low;
            room = t.room;
            here = t.here;
            rest = record { met = refl; nothing = refl };
            all_of = sym (append-nil t.mine);
          }

      at : (b : Bool) → leb y.key k ≡ b
          → ((before' : List Pair) (bot' lo' hi' : ℕ) (bs' zs' : List Pair) → LastIs least w before' (some x) → Row S lo' before' bot' bs'
          → Row S hi' (y ∷ ys) lo' zs' → lo' ≤ k → k < hi'
          → RouterPlace least w S k bot' hi' (before' ++ (y ∷ ys)) (bs' ++ zs') (around_from k (some x) y ys))
          → RouterPlace least w S k bot hi (before ++ (x ∷ y ∷ ys)) (bs ++ zs)
          (elim b as (λ z. Around) [ true ↦ around_from k (some x) y ys | false ↦ record { left = l; own = x; right = some y } ])
      at true e ih =
          let yk : y.key ≡ t.mid = t.rest.low in
          let f = ih (before ++ (x ∷ [])) bot t.mid hi (bs ++ t.mine) t.others (before, refl)
          (row-append S t.mid lo before (x ∷ []) bot bs t.mine lefts one) t.rest
          (omega (arith, leb-true y.key k e, yk)) q in
          record {
            before = f.before;
            after = f.after;
            befores = f.befores;
            mine = f.mine;
            afters = f.afters;
            low = f.low;
            mid = f.mid;
            split = sym (append_assoc before (x ∷ []) (y ∷ ys)) ∙ f.split;
            key = f.key;
            lefts = f.lefts;
            room = f.room;
            here = f.here;
            rights = f.rights;
            from = f.from;
            upto = f.upto;
            left_is = f.left_is;
            right_is = f.right_is;
            all_of = ap (λ (us : List Pair). bs ++ us) t.all_of ∙ sym (append_assoc bs t.mine t.others) ∙ f.all_of;
          }
      at false e ih = record {
        before = before;
        after = y ∷ ys;
        befores = bs;
        mine = t.mine;
        afters = t.others;
        low = lo;
        mid = t.mid;
        split = refl;
        key = t.low;
        lefts = lefts;
        room = t.room;
        here = t.here;
        rights = t.rest;
        from = p;
        upto = omega (arith, leb-false y.key k e, t.rest.low);
        left_is = last;
        right_is = (ys, refl);
        all_of = ap (λ (us : List Pair). bs ++ us) t.all_of;
      }

  pub found_in : (rs : List Pair) (lo hi : ℕ) (zs : List Pair) → Row S hi rs lo zs → lo ≤ k → k < hi
      → RouterPlace least w S k lo hi rs zs (around k rs)
  found_in [] lo hi zs t p q = absurd (omega (arith, t.met))
  found_in (x ∷ rs) lo hi zs t p q = found rs x none [] lo lo hi [] zs refl (record { met = refl; nothing = refl }) t p q

company : (least w : ℕ) (before after : List Pair) (o : Pair) (x y : Option Pair) → LastIs least w before x → HeadIs least w after y
    → 2 ≤ length (before ++ (o ∷ after)) → Company least w x y
company least w before after o x (some y) l h n = tt
company least w before after o (some x) none l h n = tt
company least w before after o none none l h n = omega (arith, ap₂ (λ (b a : List Pair). length (b ++ (o ∷ a))) l h)

module _ (least w k : ℕ) (ps : List Page) (r : ℕ) (tidy : (m : ℕ) → Tidy least w (page ps m))
    (many : (m l : ℕ) → (page ps m).level ≡ suc (suc l) → Some least w (pairs_at w (page ps m)) → 2 ≤ length (pairs_at w (page ps m))) where
  -- the leaf that the way down leads to
  abbrev pub LeafAnchor : List Around → ℕ → ℕ → ℕ → Type 0
  LeafAnchor [] lo hi n = Unit {0}
  LeafAnchor (a ∷ up) lo hi n = Touched least w ps 1 lo hi n

  abbrev NodeAnchor : ℕ → List Around → ℕ → ℕ → ℕ → Type 0
  NodeAnchor l [] lo hi n = Unit {0}
  NodeAnchor l (a ∷ up) lo hi n = Touched least w ps (suc l) lo hi n

  pub record LeadsDown (total : List Pair) (up : List Around) : Type 0 where
    pub lo : ℕ
    pub hi : ℕ
    pub n : ℕ
    pub xs : List Pair
    pub ys : List Pair
    pub way : Way least w ps r 0 up lo hi n xs ys
    pub level : (page ps n).level ≡ 1
    pub anchor : LeafAnchor up lo hi n
    pub standing : Standing least w up 0 (page ps n)
    pub holds : LeafHolds lo hi (pairs_at w (page ps n)) (pairs_at w (page ps n))
    pub from : lo ≤ k
    pub upto : k < hi
    pub is : total ≡ xs ++ (pairs_at w (page ps n) ++ ys)

  pub descend : (l : ℕ) (acc : List Around) (lo hi n : ℕ) (xs ys zs total : List Pair) → Way least w ps r l acc lo hi n xs ys
      → (page ps n).level ≡ suc l → NodeAnchor l acc lo hi n → Standing least w acc l (page ps n)
      → Holds least w l ps lo hi (pairs_at w (page ps n)) zs → lo ≤ k → k < hi → total ≡ xs ++ (zs ++ ys)
      → LeadsDown total (way_down l ps w k n acc)
  descend zero acc lo hi n xs ys zs total way e anchor stand h p q is = record {
    lo = lo;
    hi = hi;
    n = n;
    xs = xs;
    ys = ys;
    way = way;
    level = e;
    anchor = leaf-anchor acc anchor;
    standing = stand;
    from = p;
    upto = q;
    holds = record { same = refl; keys = h.keys; rising = h.rising };
    is = is ∙ ap (λ (us : List Pair). xs ++ (us ++ ys)) (sym h.same);
  }
    where
      leaf-anchor : (up : List Around) → NodeAnchor 0 up lo hi n → LeafAnchor up lo hi n
      leaf-anchor [] u = tt
      leaf-anchor (x ∷ up) u = u
  descend (suc l) acc lo hi n xs ys zs total way e anchor stand h p q is =
      let a : Around = around k (pairs_at w (page ps n)) in
      let f = found_in least w k (Tree least w l ps) (pairs_at w (page ps n)) lo hi zs h p q in
      let t = f.here in
      descend l (a ∷ acc) f.low f.mid a.own.value (xs ++ f.befores) (f.afters ++ ys) f.mine total
      (record {
        key = f.key;
        value = refl;
        room = f.room;
        parent = n;
        low = lo;
        high = hi;
        level = e;
        tidy = tidy n;
        standing = stand;
        before = f.before;
        after = f.after;
        live = f.split;
        befores = f.befores;
        afters = f.afters;
        lefts = f.lefts;
        rights = f.rights;
        left_is = f.left_is;
        right_is = f.right_is;
        company = company least w f.before f.after a.own a.left a.right f.left_is f.right_is
            (subst (λ (us : List Pair). 2 ≤ length us) f.split
            (many n l e (subst (Some least w) (sym f.split) (some-middle f.before a.own f.after))));
        out_before = xs;
        out_after = ys;
        outer = way;
        xs-is = refl;
        ys-is = refl;
      })
      t.level (inside t.level t.first t.others t.shown t.first-low t.first-high) t.fair t.holds f.from
      f.upto
      (is ∙ ap (λ (us : List Pair). xs ++ (us ++ ys)) f.all_of ∙ regroup xs f.befores f.mine f.afters ys)
    where
      some-middle : (b : List Pair) (x : Pair) (c : List Pair) → Some least w (b ++ (x ∷ c))
      some-middle [] x c = record { first = x; others = c; is = refl }
      some-middle (y ∷ b) x c = record { first = y; others = b ++ (x ∷ c); is = refl }

      regroup : (a b c d e : List Pair) → a ++ ((b ++ (c ++ d)) ++ e) ≡ (a ++ b) ++ (c ++ (d ++ e))
      regroup a b c d e = simp append_assoc
