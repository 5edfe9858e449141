-- Laws about gather/specs/Kept. Assumes nothing.
use Prim.Native.Nat.{ℕ, zero, suc, ◌+◌, ◌*◌, ◌-◌, ◌<◌, ◌≤◌}
use mathlib.Core.Path.{◌≡◌, refl, ap, sym, ◌∙◌}
use mathlib.Core.Bool.{Bool, true, false, ◌&&◌, not}
use mathlib.Core.List.{List, [], ◌∷◌, ◌++◌, map, append-nil, append_assoc}
use lib.Dec.{eqb}
use lib.ListN.{length}
use native.Mathlib.Omega.{arith}
use Rattle.model.specs.declared.Entry.{Entry}
use Rattle.model.specs.declared.Pair.{Pair}
use Rattle.model.specs.declared.Limits.{Limits}
use Rattle.model.specs.Basic.{has, those, keep}
use Rattle.model.specs.Entry.{pair_of, live_at, born, enter, enter_pair, end_one, end_those}
use Rattle.model.specs.Page.{Page, Change, wanted, changed, born_all, pairs_at}
use Rattle.model.specs.Layout.{count_of, read_entry, read_entries, decode_page}
use Rattle.page.specs.Head.{read_head}
use Rattle.model.proofs.needs.Sizes.{wanted-few}
use Rattle.model.proofs.lists.Lists.{length-enter}
use Rattle.page.proofs.laws.Read.{count-of, entries-of, length-entries, entries-step, entries-end}
use Rattle.edit.specs.declared.Change as code
use Rattle.edit.specs.Same.{first_of}
use Rattle.std.specs.Int.{from_bool}
use Rattle.edit.specs.Change.{first_pairs, change_of}
use Rattle.gather.specs.Kept.{Counted, Fits, kept_pairs}

-- ---- its entries, from place i on

unfoldable pub rest : List ℕ → ℕ → ℕ → List Entry
rest p i n = read_entries p (128 + 96 * i) (n - i)

module _ (p : List ℕ) where
  pub rest_all : (least n : ℕ) → n ≡ (read_head least p).count → (decode_page least p).entries ≡ rest p 0 n
  unfolding rest
  rest_all least n e = let z : n - 0 ≡ n = omega arith in rw (entries-of least p, ← e, z)

  pub rest-step : (i n : ℕ) → i < n → rest p i n ≡ read_entry p (128 + 96 * i) ∷ rest p (i + 1) n
  unfolding rest
  rest-step i n h = entries-step p i n h

  pub rest-none : (i n : ℕ) → n ≤ i → rest p i n ≡ []
  unfolding rest
  rest-none i n h = entries-end p (128 + 96 * i) i n h

pub kept_step : (w : ℕ) (c : Change) (e : Entry) (es : List Entry) (g : List Pair) (b : Bool)
    → b ≡ (live_at w e && not (has e.key c.drop))
    → g ++ kept_pairs w c (e ∷ es) ≡ (g ++ keep b (pair_of e) []) ++ kept_pairs w c es
kept_step w c e es g b h = rw h (by (live_at w e) (not (has e.key c.drop)) refl)
  where
    by : (x y : Bool) → not (has e.key c.drop) ≡ y
        → g ++ those (λ (x : Pair). not (has x.key c.drop)) (map pair_of (keep x e (those (live_at w) es)))
        ≡ (g ++ keep (x && y) (pair_of e) []) ++ kept_pairs w c es
    by true true q = rw (q, append_assoc g (pair_of e ∷ []) (kept_pairs w c es))
    by true false q = rw (q, append-nil g)
    by false y q = rw (append-nil g)

pub kept-few : (w : ℕ) (c : Change) (p : Page) → length (kept_pairs w c p.entries) ≤ length p.entries
kept-few w c p = omega (arith, wanted-few w (record { drop = c.drop; take = [] }) p)

-- no more than the page has room for
pub kept-room : (l : Limits) (b : List ℕ) (w : ℕ) (c : Change) → Counted l b
    → length (kept_pairs w c (decode_page l.least b).entries) ≤ 40
kept-room l b w c k =
    let n : length (decode_page l.least b).entries ≡ count_of l.least b
    = ap length (entries-of l.least b) ∙ length-entries b 128 (read_head l.least b).count ∙ sym (count-of l.least b) in
    omega (arith, kept-few w c (decode_page l.least b), k.room, k.edition.eight)

-- with no key dropped, the pairs alive
pub kept-live : (w : ℕ) (p : Page) (c : Change) → c.drop ≡ [] → kept_pairs w c p.entries ≡ pairs_at w p
kept-live w p c e = rw e (all_in (pairs_at w p))
  where
    all_in : (xs : List Pair) → those (λ (x : Pair). true) xs ≡ xs
    all_in [] = refl
    all_in (x ∷ xs) = ap (λ (ys : List Pair). x ∷ ys) (all_in xs)

-- the wanted list, by the number of pairs that come in
module _ (w : ℕ) (c : code.Change) (p : Page) where
  pub wanted-none : c.takes ≡ 0 → kept_pairs w (change_of c) p.entries ≡ wanted w (change_of c) p
  unfolding change_of
  wanted-none e = rw e

  pub wanted-one : c.takes ≡ 1 → enter_pair c.take1 (kept_pairs w (change_of c) p.entries) ≡ wanted w (change_of c) p
  unfolding change_of
  wanted-one e = rw e

  pub wanted-two : c.takes ≡ 2 → enter_pair c.take2 (enter_pair c.take1 (kept_pairs w (change_of c) p.entries))
      ≡ wanted w (change_of c) p
  unfolding change_of
  wanted-two e = rw e

-- ---- how many entries

pub one-most : (b : Bool) → from_bool b ≤ 1
one-most true = omega arith
one-most false = omega arith

-- an entry goes if the change ends it and it starts at w
abbrev pub stays : ℕ → Change → Entry → Bool
stays w c e = not ((live_at w e && has e.key c.drop) && eqb e.start w)

unfoldable pub staying : ℕ → Change → List Entry → ℕ
staying w c [] = 0
staying w c (e ∷ es) = from_bool (stays w c e) + staying w c es

pub staying-none : (w : ℕ) (c : Change) → staying w c [] ≡ 0
unfolding staying
staying-none w c = refl

pub staying-step : (w : ℕ) (c : Change) (e : Entry) (es : List Entry) → staying w c (e ∷ es) ≡ from_bool (stays w c e) + staying w c es
unfolding staying
staying-step w c e es = refl

pub staying-few : (w : ℕ) (c : Change) (es : List Entry) → staying w c es ≤ length es
unfolding staying
staying-few w c [] = omega arith
staying-few w c (e ∷ es) = by (stays w c e) (staying-few w c es)
  where
    by : (b : Bool) → staying w c es ≤ length es → from_bool b + staying w c es ≤ suc (length es)
    by true h = omega arith
    by false h = omega arith

ended : (w : ℕ) (c : Change) (es : List Entry) → length (end_those (λ (e : Entry). live_at w e && has e.key c.drop) w es)
    ≡ staying w c es
unfolding staying
ended w c [] = refl
ended w c (e ∷ es) = by (live_at w e && has e.key c.drop) (eqb e.start w) (ended w c es)
  where
    rest : List Entry
    rest = end_those (λ (e : Entry). live_at w e && has e.key c.drop) w es

    by : (a b : Bool) → length rest ≡ staying w c es → length (end_one a b w e rest) ≡ from_bool (not (a && b)) + staying w c es
    by true true h = omega arith
    by true false h = omega arith
    by false b h = omega arith

length-born : (w : ℕ) (xs : List Pair) (es : List Entry) → length (born_all w xs es) ≡ length es + length xs
length-born w [] es = omega arith
length-born w (x ∷ xs) es = omega (arith, length-born w xs (enter (born w x) es), length-enter (born w x) es)

firsts : (n : ℕ) (a b : Pair) → n ≤ 2 → length (first_pairs n a b) ≡ n
firsts zero a b h = refl
firsts (suc zero) a b h = refl
firsts (suc (suc zero)) a b h = refl
firsts (suc (suc (suc n))) a b h = absurd (omega arith)

pub takes-few : (c : code.Change) → Fits c → length (change_of c).take ≤ 2
unfolding change_of
takes-few c f = omega (arith, firsts c.takes c.take1 c.take2 f.takes, f.takes)

-- "at most 20 entries, dead ones counted"
pub after_is : (w : ℕ) (c : code.Change) (p : Page) → Fits c
    → staying w (change_of c) p.entries + c.takes ≡ length (changed w (change_of c) p).entries
unfolding change_of
after_is w c p f =
    let d : Change = record { drop = first_of c.drops c.drop1 c.drop2; take = first_pairs c.takes c.take1 c.take2 } in
    let es : List Entry = end_those (λ (e : Entry). live_at w e && has e.key d.drop) w p.entries in
    omega (arith, ended w d p.entries, length-born w d.take es, firsts c.takes c.take1 c.take2 f.takes)
