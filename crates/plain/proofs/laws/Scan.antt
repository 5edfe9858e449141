-- Laws about plain/specs/Scan. Assumes nothing.
use Prim.Native.Nat.{ℕ, zero, suc, ◌+◌, ◌-◌, ◌≤◌, ◌<◌}
use native.Mathlib.Omega.{arith}
use mathlib.Core.Bool.{Bool, true, false, ◌&&◌}
use mathlib.Core.Option.{Option, none, some}
use mathlib.Core.Path.{◌≡◌, refl, ap, ap₂, sym, ◌∙◌}
use mathlib.Core.List.{List, [], ◌∷◌, ◌++◌}
use lib.Dec.{leb, eqb}
use borrow.Author.Tests.{leb-true, leb-false}
use Rattle.model.specs.Basic.{pick, flat_map, count, is_empty}
use Rattle.model.specs.declared.Entry.{Entry}
use Rattle.model.specs.declared.Delta.{Delta}
use Rattle.model.specs.Entry.{live_at}
use Rattle.model.specs.Walk.{key_limit}
use Rattle.model.specs.Differ.{says_of}
use Rattle.plain.specs.Plain.{value_at, same_value, keys, differs}
use Rattle.plain.specs.Items.{item, from}
use Rattle.plain.proofs.laws.Items.{value_on}
use Rattle.plain.specs.Scan.{Lower, SkipsKeys}

-- on the way: the items passed say nothing of the keys from a up to r
pub record Skipping (a r u v : ℕ) (ns : List ℕ) (i n : ℕ) : Type 0 where
  pub behind : a ≤ r
  pub within : r ≤ key_limit
  pub old : (k : ℕ) → a ≤ k → k < r → value_at k u (from ns 0 n) ≡ value_at k u (from ns i n)
  pub new : (k : ℕ) → a ≤ k → k < r → value_at k v (from ns 0 n) ≡ value_at k v (from ns i n)

pub skips-on : (a r u v : ℕ) (ns : List ℕ) (i n : ℕ) → i < n → Skipping a r u v ns i n → (e : Entry) → e ≡ item ns i → (q : ℕ)
    → Lower e a r u v q → Skipping a q u v ns (i + 1) n
skips-on a r u v ns i n h s e is q l = record {
  behind = l.behind;
  within = omega (arith, l.within, s.within);
  old = λ k x y. s.old k x (omega (arith, l.within))
      ∙ value_on k u ns i n h (ap (λ (f : Entry). eqb f.key k && live_at u f) (sym is) ∙ l.old k x y);
  new = λ k x y. s.new k x (omega (arith, l.within))
      ∙ value_on k v ns i n h (ap (λ (f : Entry). eqb f.key k && live_at v f) (sym is) ∙ l.new k x y);
}

-- ---- each key from a up to, not including, h

module _ {A : Type 0} (f : ℕ → List A) where
  abbrev pub told : ℕ → ℕ → List A
  told a h = flat_map f (count a (h - a))

  pub told-end : (a h : ℕ) → h ≤ a → told a h ≡ []
  told-end a h i = let e : h - a ≡ 0 = omega arith in rw e refl

  pub told-step : (a h : ℕ) → a < h → told a h ≡ f a ++ told (a + 1) h
  told-step a h i =
      let e : h - a ≡ suc (h - (a + 1)) = omega arith in
      let g : a + 1 ≡ suc a = omega arith in
      rw (e, g) refl

  skip : (m a h : ℕ) → ((k : ℕ) → a ≤ k → k < a + m → f k ≡ []) → told a h ≡ told (a + m) h
  skip zero a h s = let e : a + 0 ≡ a = omega arith in rw e refl
  skip (suc m) a h s = at (leb h a) refl (skip m (suc a) h (λ k x y. s k (omega arith) (omega arith)))
    where
      at : (b : Bool) → leb h a ≡ b → told (suc a) h ≡ told (suc a + m) h → told a h ≡ told (a + suc m) h
      at true e ih = let i : h ≤ a = leb-true h a e in told-end a h i ∙ sym (told-end (a + suc m) h (omega arith))
      at false e ih =
          let i : a < h = leb-false h a e in
          let p : a + 1 ≡ suc a = omega arith in
          let q : suc a + m ≡ a + suc m = omega arith in
          told-step a h i ∙ ap (λ (xs : List A). xs ++ told (a + 1) h) (s a (omega arith) (omega arith)) ∙ ap (λ (n : ℕ). told n h) p ∙ ih
          ∙ ap (λ (n : ℕ). told n h) q

  pub told-skip : (a r h : ℕ) → a ≤ r → ((k : ℕ) → a ≤ k → k < r → f k ≡ []) → told a h ≡ told r h
  told-skip a r h i s =
      let e : a + (r - a) ≡ r = omega arith in
      skip (r - a) a h (λ k x y. s k x (omega arith)) ∙ ap (λ (n : ℕ). told n h) e

pub keys-limit : keys ≡ key_limit
unfolding keys
keys-limit = refl

-- ---- what differs

abbrev pub saying : ℕ → ℕ → List Entry → ℕ → List Delta
saying u v es k = says_of k (value_at k u es) (value_at k v es)

pub differs-told : (u v : ℕ) (es : List Entry) → differs u v es ≡ told (saying u v es) 0 keys
differs-told u v es = let e : keys - 0 ≡ keys = omega arith in rw e refl

pub saying-skip : (a r u v : ℕ) (es : List Entry) → SkipsKeys a r u v es → told (saying u v es) a keys ≡ told (saying u v es) r keys
saying-skip a r u v es s = told-skip (saying u v es) a r keys s.behind (λ k x y. ap₂ (says_of k) (s.old k x y) (s.new k x y))

says_same : (k : ℕ) (o p : Option ℕ) → same_value o p ≡ true → says_of k o p ≡ []
says_same k none none h = refl
says_same k none (some y) h = absurd (let z : ◌≡◌ {A = ℕ} 0 1 = cc in omega arith)
says_same k (some x) none h = absurd (let z : ◌≡◌ {A = ℕ} 0 1 = cc in omega arith)
says_same k (some x) (some y) h = ap (λ (b : Bool). pick b [] (record { key = k; kind = 2; old = x; new = y } ∷ [])) h

says_other : (k : ℕ) (o p : Option ℕ) → same_value o p ≡ false → (ds : List Delta) → is_empty (says_of k o p ++ ds) ≡ false
says_other k none none h ds = absurd (let z : ◌≡◌ {A = ℕ} 0 1 = cc in omega arith)
says_other k none (some y) h ds = refl
says_other k (some x) none h ds = refl
says_other k (some x) (some y) h ds = ap (λ (b : Bool). is_empty (pick b [] (record { key = k; kind = 2; old = x; new = y } ∷ []) ++ ds)) h

module _ (u v : ℕ) (es : List Entry) (k : ℕ) (low : k < key_limit) where
  pub saying-same : same_value (value_at k u es) (value_at k v es) ≡ true → told (saying u v es) k keys ≡ told (saying u v es) (k + 1) keys
  saying-same h =
      told-step (saying u v es) k keys (omega (arith, low, keys-limit))
      ∙ ap (λ (ds : List Delta). ds ++ told (saying u v es) (k + 1) keys) (says_same k (value_at k u es) (value_at k v es) h)

  pub saying-other : same_value (value_at k u es) (value_at k v es) ≡ false → is_empty (told (saying u v es) k keys) ≡ false
  saying-other h =
      ap (λ (ds : List Delta). is_empty ds) (told-step (saying u v es) k keys (omega (arith, low, keys-limit)))
      ∙ says_other k (value_at k u es) (value_at k v es) h (told (saying u v es) (k + 1) keys)

pub saying-end : (u v : ℕ) (es : List Entry) (k : ℕ) → key_limit ≤ k → told (saying u v es) k keys ≡ []
saying-end u v es k h = told-end (saying u v es) k keys (omega (arith, h, keys-limit))
