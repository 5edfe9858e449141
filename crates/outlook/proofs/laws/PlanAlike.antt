-- Changes that differ in the numbers of new pages alone: a page does the same with either.
-- Assumes nothing.
use Prim.Native.Nat.{ℕ, zero, suc, ◌+◌, ◌*◌, ◌/◌}
use native.Mathlib.Omega.{arith}
use mathlib.Core.Bool.{Bool, true, false, ◌&&◌, ◌||◌, not}
use mathlib.Core.Option.{Option, none, some}
use mathlib.Core.Path.{◌≡◌, refl, ap, ap₂, sym, ◌∙◌, subst}
use mathlib.Core.Logic.{◌⊎◌, inl, inr, ◌≢◌}
use mathlib.Core.List.{List, [], ◌∷◌, ◌++◌, map}
use lib.Dec.{leb, ltb, eqb}
use lib.ListN.{length, take, drop, length-map}
use borrow.Author.Tests.{ne_eqb}
use Rattle.model.specs.Basic.{keep, those, any, has, pick}
use Rattle.model.specs.declared.Pair.{Pair}
use Rattle.model.specs.declared.Entry.{Entry}
use Rattle.model.specs.Entry.{pair, live_at, born, placed, enter, enter_pair, end_those}
use Rattle.model.specs.Page.{Page, Change, pairs_at, enter_all, born_all, wanted, changed}
use Rattle.model.specs.Store.{page}
use Rattle.model.specs.Walk.{Around}
use Rattle.model.specs.Rules
use Rattle.model.specs.Rules.{Group, low_key, same_pair, exchange, routers_to, roomy}
use Rattle.model.specs.Needs.{fills, takes_in_place, group_at, goes}
use Rattle.model.specs.Inner.{In}
use Rattle.model.proofs.lists.Lists.{length-enter}
use Rattle.outlook.specs.Plan.{root_fills}

abbrev pub keys_of : List Pair → List ℕ
keys_of xs = map (λ (x : Pair). x.key) xs

pub record KeysAlike (c d : Change) : Type 0 where
  pub drops : c.drop ≡ d.drop
  pub takes : keys_of c.take ≡ keys_of d.take

pub alike_refl : (c : Change) → KeysAlike c c
alike_refl c = record { drops = refl; takes = refl }

pub same_length : (xs ys : List Pair) → keys_of xs ≡ keys_of ys → length xs ≡ length ys
same_length xs ys e = sym (length-map xs (λ (x : Pair). x.key)) ∙ ap (λ (ks : List ℕ). length ks) e ∙ length-map ys (λ (x : Pair). x.key)

-- ---- the wanted list

abbrev enter_key : ℕ → List ℕ → List ℕ
enter_key k [] = k ∷ []
enter_key k (x ∷ xs) = placed (ltb k x) k x xs (enter_key k xs)

abbrev enter_keys : List ℕ → List ℕ → List ℕ
enter_keys [] ks = ks
enter_keys (x ∷ xs) ks = enter_keys xs (enter_key x ks)

keys-enter : (p : Pair) (xs : List Pair) → keys_of (enter_pair p xs) ≡ enter_key p.key (keys_of xs)
keys-enter p [] = refl
keys-enter p (x ∷ xs) = at (ltb p.key x.key) (keys-enter p xs)
  where
    at : (b : Bool) → keys_of (enter_pair p xs) ≡ enter_key p.key (keys_of xs)
        → keys_of (placed b p x xs (enter_pair p xs)) ≡ placed b p.key x.key (keys_of xs) (enter_key p.key (keys_of xs))
    at true e = refl
    at false e = ap (λ (ks : List ℕ). x.key ∷ ks) e

keys-enter_all : (xs ps : List Pair) → keys_of (enter_all xs ps) ≡ enter_keys (keys_of xs) (keys_of ps)
keys-enter_all [] ps = refl
keys-enter_all (x ∷ xs) ps = keys-enter_all xs (enter_pair x ps) ∙ ap (enter_keys (keys_of xs)) (keys-enter x ps)

length-born : (w : ℕ) (xs : List Pair) (es : List Entry) → length (born_all w xs es) ≡ length xs + length es
length-born w [] es = omega arith
length-born w (x ∷ xs) es = omega (arith, length-born w xs (enter (born w x) es), length-enter (born w x) es)

module _ {c d : Change} (h : KeysAlike c d) where
  pub wanted-alike : (w : ℕ) (p : Page) → keys_of (wanted w c p) ≡ keys_of (wanted w d p)
  wanted-alike w p =
      let base : List ℕ → List Pair = λ ks. those (λ (x : Pair). not (has x.key ks)) (pairs_at w p) in
      keys-enter_all c.take (base c.drop) ∙ ap₂ enter_keys h.takes (ap (λ (ks : List ℕ). keys_of (base ks)) h.drops)
      ∙ sym (keys-enter_all d.take (base d.drop))

  pub count-alike : (w : ℕ) (p : Page) → length (wanted w c p) ≡ length (wanted w d p)
  count-alike w p = same_length (wanted w c p) (wanted w d p) (wanted-alike w p)

  changed-alike : (w : ℕ) (p : Page) → length (changed w c p).entries ≡ length (changed w d p).entries
  changed-alike w p =
      let base : List ℕ → List Entry = λ ks. end_those (λ (e : Entry). live_at w e && has e.key ks) w p.entries in
      length-born w c.take (base c.drop) ∙ ap₂ ◌+◌ (same_length c.take d.take h.takes)
      (ap (λ (ks : List ℕ). length (base ks)) h.drops) ∙ sym (length-born w d.take (base d.drop))

  pub roomy-alike : (least w : ℕ) (p : Page) → roomy least w c p ≡ roomy least w d p
  roomy-alike least w p = ap (λ (n : ℕ). leb n (5 * least)) (changed-alike w p)

  pub place-alike : (least w : ℕ) (p : Page) → takes_in_place least w c p ≡ takes_in_place least w d p
  place-alike least w p = ap₂ ◌&&◌ (roomy-alike least w p) (ap (leb least) (count-alike w p))

  pub goes-alike : (w : ℕ) (p : Page) → goes w c p ≡ goes w d p
  goes-alike w p = ap (λ (n : ℕ). leb 2 p.level && eqb n 1) (count-alike w p)

-- ---- what is gathered

keys-append : (xs ys : List Pair) → keys_of (xs ++ ys) ≡ keys_of xs ++ keys_of ys
keys-append [] ys = refl
keys-append (x ∷ xs) ys = ap (λ (ks : List ℕ). x.key ∷ ks) (keys-append xs ys)

-- groups of the same pages, with the same keys gathered
pub record Gathered (g h : Group) : Type 0 where
  pub routers : g.routers ≡ h.routers
  pub keys : keys_of g.pairs ≡ keys_of h.pairs

module _ (w : ℕ) (ps : List Page) (a : Around) (us vs : List Pair) (e : keys_of us ≡ keys_of vs) where
  near-alike : (x y : Option Pair) → Gathered (Rules.with_neighbour w ps a us x y) (Rules.with_neighbour w ps a vs x y)
  unfolding Rules.with_neighbour
  near-alike x (some r) =
      let more : List Pair = pairs_at w (page ps r.value) in
      record { routers = refl; keys = keys-append us more ∙ ap (λ (ks : List ℕ). ks ++ keys_of more) e ∙ sym (keys-append vs more) }
  near-alike (some r) none =
      let more : List Pair = pairs_at w (page ps r.value) in
      record { routers = refl; keys = keys-append more us ∙ ap (λ (ks : List ℕ). keys_of more ++ ks) e ∙ sym (keys-append more vs) }
  near-alike none none = record { routers = refl; keys = e }

  gather-alike : (b : Bool) → Gathered (Rules.gather_by b w ps a us) (Rules.gather_by b w ps a vs)
  unfolding Rules.gather_by
  gather-alike true = near-alike a.left a.right
  gather-alike false = record { routers = refl; keys = e }

pub group-alike : {c d : Change} → KeysAlike c d → (least w : ℕ) (ps : List Page) (a : Around)
    → Gathered (group_at least w ps a c) (group_at least w ps a d)
group-alike {c} {d} h least w ps a =
    let p : Page = page ps a.own.value in
    subst (λ (n : ℕ). Gathered (group_at least w ps a c) (Rules.gather_by (ltb n (2 * least)) w ps a (wanted w d p))) (count-alike h w p)
    (gather-alike w ps a (wanted w c p) (wanted w d p) (wanted-alike h w p) (ltb (length (wanted w c p)) (2 * least)))

-- ---- the parent's change

-- the routers to pages n and m are to those of rs what the routers to n' and m' are
pub record Twin (rs : List Pair) (x y : Pair) : Type 0 where
  pub key : x.key ≡ y.key
  pub to : (r : Pair) → In r rs → same_pair r x ≡ same_pair r y
  pub from : (r : Pair) → In r rs → same_pair x r ≡ same_pair y r

abbrev pub Twins : List Pair → List Pair → List Pair → Type 0
Twins rs [] [] = Unit {0}
Twins rs [] (y ∷ ys) = ⊥
Twins rs (x ∷ xs) [] = ⊥
Twins rs (x ∷ xs) (y ∷ ys) = Twin rs x y × Twins rs xs ys

abbrev pub Outside : List Pair → ℕ → Type 0
Outside rs n = (r : Pair) → In r rs → r.value ≢ n

abbrev pub Aside : List Pair → ℕ → ℕ → Type 0
Aside rs n m = (n ≡ m) ⊎ (Outside rs n × Outside rs m)

pub twin-of : (rs : List Pair) (j k n m : ℕ) → j ≡ k → Aside rs n m → Twin rs (pair j n) (pair k m)
twin-of rs j k n m e a =
    record {
      key = e;
      to = λ r i. ap₂ ◌&&◌ (ap (eqb r.key) e) (to r i a);
      from = λ r i. ap₂ ◌&&◌ (ap (λ (z : ℕ). eqb z r.key) e) (from r i a);
    }
  where
    to : (r : Pair) → In r rs → Aside rs n m → eqb r.value n ≡ eqb r.value m
    to r i (inl s) = ap (eqb r.value) s
    to r i (inr (o, q)) = ne_eqb r.value n (o r i) ∙ sym (ne_eqb r.value m (q r i))

    from : (r : Pair) → In r rs → Aside rs n m → eqb n r.value ≡ eqb m r.value
    from r i (inl s) = ap (λ (z : ℕ). eqb z r.value) s
    from r i (inr (o, q)) = ne_eqb n r.value (λ (z : n ≡ r.value). o r i (sym z))
        ∙ sym (ne_eqb m r.value (λ (z : m ≡ r.value). q r i (sym z)))

module _ (rs : List Pair) where
  any-to : (r : Pair) → In r rs → (xs ys : List Pair) → Twins rs xs ys → any (same_pair r) xs ≡ any (same_pair r) ys
  any-to r i [] [] t = refl
  any-to r i [] (y ∷ ys) t = absurd t
  any-to r i (x ∷ xs) [] t = absurd t
  any-to r i (x ∷ xs) (y ∷ ys) t = ap₂ ◌||◌ (t.0.to r i) (any-to r i xs ys t.1)

  any-from : (x y : Pair) → Twin rs x y → (qs : List Pair) → ((r : Pair) → In r qs → In r rs) → any (same_pair x) qs ≡ any (same_pair y) qs
  any-from x y t [] f = refl
  any-from x y t (q ∷ qs) f = ap₂ ◌||◌ (t.from q (f q (inl refl))) (any-from x y t qs (λ r i. f r (inr i)))

  those-same : (f g : Pair → Bool) (qs : List Pair) → ((r : Pair) → In r qs → f r ≡ g r) → those f qs ≡ those g qs
  those-same f g [] h = refl
  those-same f g (q ∷ qs) h = ap₂ (λ (b : Bool) (zs : List Pair). keep b q zs) (h q (inl refl)) (those-same f g qs (λ r i. h r (inr i)))

  keep-keys : (b : Bool) (x y : Pair) (xs ys : List Pair) → x.key ≡ y.key → keys_of xs ≡ keys_of ys
      → keys_of (keep b x xs) ≡ keys_of (keep b y ys)
  keep-keys true x y xs ys e h = ap₂ (λ (k : ℕ) (ks : List ℕ). k ∷ ks) e h
  keep-keys false x y xs ys e h = h

  those-keys : (f : Pair → Bool) (xs ys : List Pair) → ((x y : Pair) → Twin rs x y → f x ≡ f y) → Twins rs xs ys
      → keys_of (those f xs) ≡ keys_of (those f ys)
  those-keys f [] [] h t = refl
  those-keys f [] (y ∷ ys) h t = absurd t
  those-keys f (x ∷ xs) [] h t = absurd t
  those-keys f (x ∷ xs) (y ∷ ys) h t =
      keep-keys (f x) x y (those f xs) (those f ys) t.0.key (those-keys f xs ys h t.1)
      ∙ ap (λ (b : Bool). keys_of (keep b y (those f ys))) (h x y t.0)

  pub exchange-alike : (xs ys : List Pair) → Twins rs xs ys → KeysAlike (exchange rs xs) (exchange rs ys)
  unfolding Rules.exchange
  exchange-alike xs ys t = record {
    drops = ap keys_of
        (those-same (λ (r : Pair). not (any (same_pair r) xs)) (λ (r : Pair). not (any (same_pair r) ys)) rs
        (λ r i. ap not (any-to r i xs ys t)));
    takes = those-keys (λ (x : Pair). not (any (same_pair x) rs)) xs ys (λ x y s. ap not (any-from x y s rs (λ r i. i))) t;
  }

-- ---- the parts and their routers

abbrev first_key : List ℕ → ℕ
first_key [] = 0
first_key (k ∷ ks) = k

low_first : (xs : List Pair) → low_key xs ≡ first_key (keys_of xs)
low_first [] = refl
low_first (x ∷ xs) = refl

keys-drop : (n : ℕ) (xs : List Pair) → keys_of (drop n xs) ≡ drop n (keys_of xs)
keys-drop zero xs = refl
keys-drop (suc n) [] = refl
keys-drop (suc n) (x ∷ xs) = keys-drop n xs

module _ (least : ℕ) (us vs : List Pair) (e : keys_of us ≡ keys_of vs) where
  pub fills_alike : fills least us ≡ fills least vs
  fills_alike = ap (λ (n : ℕ). pick (leb n (4 * least)) 1 2) (same_length us vs e)

  pub root_fills-alike : root_fills least us ≡ root_fills least vs
  root_fills-alike = ap (λ (n : ℕ). pick (leb n (4 * least)) 1 3) (same_length us vs e)

  low_alike : low_key (drop ((length us + 1) / 2) us) ≡ low_key (drop ((length vs + 1) / 2) vs)
  low_alike =
      let half : List ℕ → ℕ → ℕ = λ ks n. first_key (drop ((n + 1) / 2) ks) in
      low_first (drop ((length us + 1) / 2) us) ∙ ap first_key (keys-drop ((length us + 1) / 2) us) ∙ ap₂ half e (same_length us vs e)
      ∙ sym (low_first (drop ((length vs + 1) / 2) vs) ∙ ap first_key (keys-drop ((length vs + 1) / 2) vs))

  pub routers-alike : (rs : List Pair) (n m n' m' : ℕ) → Aside rs n n' → Aside rs m m'
      → Twins rs (routers_to rs (Rules.parts least us) n m) (routers_to rs (Rules.parts least vs) n' m')
  unfolding Rules.parts Rules.parts_by Rules.routers_to
  routers-alike rs n m n' m' a b =
      subst (λ (i : ℕ). Twins rs (routers_to rs (Rules.parts least us) n m) (routers_to rs (Rules.parts_by (leb i (4 * least)) vs) n' m'))
      (same_length us vs e) (at (leb (length us) (4 * least)))
    where
      at : (t : Bool) → Twins rs (routers_to rs (Rules.parts_by t us) n m) (routers_to rs (Rules.parts_by t vs) n' m')
      at true = (twin-of rs (low_key rs) (low_key rs) n n' refl a, tt)
      at false = (twin-of rs (low_key rs) (low_key rs) n n' refl a, (twin-of rs _ _ m m' low_alike b, tt))
