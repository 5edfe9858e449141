-- The converter on bytes: what it gives, and what it leaves where it is done, where a step lacks a page or a slot, and where it is refused.
-- Assumes nothing.
use Rattle.promises.proofs.Limiting.{limits_of, edition-of}
use Prim.Native.Nat.{ℕ, ◌≤◌}
use native.Mathlib.Omega.{arith}
use mathlib.Core.Bool.{Bool, true, false, ◌||◌, not}
use mathlib.Core.Path.{◌≡◌, refl, ap, sym, subst, ◌∙◌}
use mathlib.Core.Logic.{◌⊎◌, inl, inr, ◌≢◌}
use mathlib.Core.List.{List, [], ◌∷◌}
use lib.Dec.{ltb}
use lib.ListN.{length}
use borrow.Author.Tests.{eq-eqb}
use Rattle.model.specs.Limits.{Edition}
use Rattle.model.specs.Store.{Store, fresh, last, last_of}
use Rattle.model.specs.Walk.{settings}
use Rattle.model.specs.Layout.{size_of, encode, decode}
use Rattle.model.specs.Judged.{length_ok, magic_ok, edition_ok, judged, is_sound}
use Rattle.model.specs.Calls.{rule, first_of, get, range}
use Rattle.model.specs.Differ.{difference}
use Rattle.model.specs.Life.{lived}
use Rattle.model.specs.Return.{Ran, reached, stopped, lacking}
use Rattle.model.specs.Lent.{Outcome, judged_first, listed, fresh_lent, lookup_lent, range_lent, difference_lent, life_lent}
use Rattle.model.specs.Any.{judged_any, lookup_any, range_any, difference_any, life_any}
use Rattle.model.specs.Convert.{convert_tests, convert_lent}
use Rattle.model.specs.ByRule.{Readable}
use Rattle.model.specs.Remade.{Upto}
use Rattle.model.proofs.kept.Stops.{lacking-is}
use Rattle.model.proofs.theorems.Editions.{Lends, accepted-lent, goes_at}
use Rattle.model.proofs.turning.Converting.{TestsPassed, is-judged, source_sound, source-whole, lent_by}
use Rattle.model.proofs.reading.Readings.{get-same, range_same, difference-same, life-same}
use Rattle.near.proofs.laws.Same.{lookup-same, range_same as range-lent-same}
use Rattle.written.proofs.laws.Encoded.{encoded-accepted, encoded-held}
use Rattle.promises.specs.Converts.{replay_of, Numbers, Converted, Emptied, Lacks, Converts}

-- ---- readings of accepted bytes of one edition

module _ (least : ℕ) (four : 4 ≤ least) (eight : least ≤ 8) (b : List ℕ) (ok : (judged least b).number ≡ 0) (l : Lends least b) where
  sure : is_sound least b ≡ true
  unfolding is_sound
  sure = eq-eqb (judged least b).number 0 ok

  edition : Edition (limits_of least four eight)
  edition = edition-of least four eight

  lookup-is : (k v : ℕ) → lookup_any b k v ≡ get (decode least b) k v
  unfolding lookup_any
  lookup-is k v = goes_at least b l _ (λ (n : ℕ). lookup_lent n b k v) ∙ lookup-same edition b sure k v

  range-is : (lo hi v : ℕ) (ns : List ℕ) → range_any b lo hi v ns ≡ listed ns (range (decode least b) lo hi v (length ns))
  unfolding range_any
  range-is lo hi v ns = goes_at least b l _ (λ (n : ℕ). range_lent n b lo hi v ns) ∙ range-lent-same edition b sure lo hi v ns

  difference-is : (u v : ℕ) (ns : List ℕ) → difference_any b u v ns ≡ listed ns (difference (decode least b) u v (length ns))
  unfolding difference_any difference_lent
  difference-is u v ns =
      goes_at least b l _ (λ (n : ℕ). difference_lent n b u v ns)
      ∙ ap (λ (n : ℕ). judged_first n (λ j. record { number = j; count = 0; list = ns })
      (listed ns (difference (decode least b) u v (length ns)))) ok

  life-is : (k : ℕ) (ns : List ℕ) → life_any b k ns ≡ listed ns (lived (decode least b) k (length ns))
  unfolding life_any life_lent
  life-is k ns =
      goes_at least b l _ (λ (n : ℕ). life_lent n b k ns)
      ∙ ap (λ (n : ℕ). judged_first n (λ j. record { number = j; count = 0; list = ns })
      (listed ns (lived (decode least b) k (length ns)))) ok

  judged-is : (judged_any b).number ≡ 0
  unfolding judged_any
  judged-is = ap (λ v. v.number) (goes_at least b l _ (λ (n : ℕ). judged n b)) ∙ ok

-- ---- done

module _ (b t : List ℕ) (p : TestsPassed b t) (u : Store) (r : Upto 8 (decode 4 b) (decode 4 b).current u) where
  abbrev made : List ℕ
  made = encode 8 u

  ok : (judged 8 (encode 8 u)).number ≡ 0
  ok = encoded-accepted 8 (omega arith) (omega arith) u r.is-sound

  held : decode 8 (encode 8 u) ≡ u
  held = encoded-held 8 (omega arith) (omega arith) u r.is-sound

  target : Lends 8 (encode 8 u)
  target = accepted-lent 8 (inr refl) (encode 8 u) ok

  source : Lends 4 b
  source = accepted-lent 4 (inl refl) b (is-judged p)

  old-is : u.oldest ≡ (decode 4 b).oldest
  old-is = r.oldest ∙ sym (source-whole p)

  same-now : (v : ℕ) → Readable (decode 4 b) v → settings u v ≡ settings (decode 4 b) v
  same-now v h =
      let e : last (decode 4 b) ≡ (decode 4 b).current = ap (λ (q : Bool). last_of q (decode 4 b).current) p.shut in
      r.same v (omega (arith, h.upto, e))

  whole : Converted b (encode 8 u)
  whole = record {
    accepted = judged-is 8 (omega arith) (omega arith) made ok target;
    edition = target.is;
    closed = ap (λ (x : Store). x.opened) held ∙ r.closed;
    current = ap (λ (x : Store). x.current) held ∙ r.current;
    shows = λ v h. ap (λ (x : Store). settings x v) held ∙ r.same v h;
    lookups = λ k v.
        lookup-is 8 (omega arith) (omega arith) made ok target k v ∙ ap (λ (x : Store). get x k v) held
        ∙ get-same 4 (omega arith) (decode 4 b) (source_sound p) 8 (omega arith) u r.is-sound p.shut r.closed
        r.current old-is same-now k v
        ∙ sym (lookup-is 4 (omega arith) (omega arith) b (is-judged p) source k v);
    ranges = λ lo hi v ns.
        range-is 8 (omega arith) (omega arith) made ok target lo hi v ns ∙ ap (λ (x : Store). listed ns (range x lo hi v (length ns))) held
        ∙ ap (listed ns)
        (range_same 4 (omega arith) (decode 4 b) (source_sound p) 8 (omega arith) u r.is-sound p.shut r.closed
        r.current old-is same-now lo hi v (length ns))
        ∙ sym (range-is 4 (omega arith) (omega arith) b (is-judged p) source lo hi v ns);
    differences = λ w v ns.
        difference-is 8 (omega arith) (omega arith) made ok target w v ns
        ∙ ap (λ (x : Store). listed ns (difference x w v (length ns))) held
        ∙ ap (listed ns)
        (difference-same 4 (omega arith) (decode 4 b) (source_sound p) 8 (omega arith) u r.is-sound p.shut r.closed
        r.current old-is same-now w v (length ns))
        ∙ sym (difference-is 4 (omega arith) (omega arith) b (is-judged p) source w v ns);
    lives = λ k ns.
        life-is 8 (omega arith) (omega arith) made ok target k ns ∙ ap (λ (x : Store). listed ns (lived x k (length ns))) held
        ∙ ap (listed ns)
        (life-same 4 (omega arith) (decode 4 b) (source_sound p) 8 (omega arith) u r.is-sound p.shut r.closed
        r.current old-is same-now k (length ns))
        ∙ sym (life-is 4 (omega arith) (omega arith) b (is-judged p) source k ns);
  }

-- ---- case by case

none : (n : ℕ) → lacking n ≡ true → n ≡ 0 → ⊥
none n l e = at (lacking-is n l)
  where
    at : (n ≡ 12) ⊎ (n ≡ 13) → ⊥
    at (inl z) = omega (arith, e, z)
    at (inr z) = omega (arith, e, z)

converted-done : (b t : List ℕ) → (convert_lent b t).number ≡ 0 → Converted b (convert_lent b t).store
converted-done b t =
    lent_by (λ (o : Outcome). o.number ≡ 0 → Converted b o.store) b t (λ z e. absurd (z e)) (λ z p u r q e. whole b t p u r)
    (λ z p n u l q e. absurd (none n l e))

fresh-is : (b t : List ℕ) → TestsPassed b t → Emptied t (encode 8 (fresh (size_of 8 t)))
unfolding fresh_lent
fresh-is b t p = record { made = rw p.long; fresh = rw p.long }

-- the refusals before the replay give no number above 8
early-low : (x1 x2 x3 x4 x5 x6 : Bool) → first_of (rule 1 x1 ∷ rule 2 x2 ∷ rule 3 x3 ∷ rule 1 x4 ∷ rule 4 x5 ∷ rule 8 x6 ∷ []) ≤ 8
early-low true x2 x3 x4 x5 x6 = omega arith
early-low false true x3 x4 x5 x6 = omega arith
early-low false false true x4 x5 x6 = omega arith
early-low false false false true x5 x6 = omega arith
early-low false false false false true x6 = omega arith
early-low false false false false false true = omega arith
early-low false false false false false false = omega arith

early-few : (b t : List ℕ) → Lacks (first_of (convert_tests b t)) → ⊥
early-few b t z =
    at (first_of (convert_tests b t))
    (early-low (ltb (length b) 5) (not (magic_ok b)) (not (edition_ok 4 b)) (not (length_ok 4 b) || not (length_ok 8 t)) (not (is_sound 4 b))
    (decode 4 b).opened) z
  where
    at : (n : ℕ) → n ≤ 8 → Lacks n → ⊥
    at n h (inl e) = omega (arith, h, e)
    at n h (inr e) = omega (arith, h, e)

converted-lacking : (b t : List ℕ) → Lacks (convert_lent b t).number → Emptied t (convert_lent b t).store
converted-lacking b t =
    lent_by (λ (o : Outcome). Lacks o.number → Emptied t o.store) b t (λ z e. absurd (early-few b t e))
    (λ z p u r q e. absurd (zero-few e)) (λ z p n u l q e. fresh-is b t p)
  where
    zero-few : Lacks 0 → ⊥
    zero-few (inl e) = omega (arith, e)
    zero-few (inr e) = omega (arith, e)

converted-untouched : (b t : List ℕ) → (convert_lent b t).number ≢ 0 → (Lacks (convert_lent b t).number → ⊥) → (convert_lent b t).store ≡ t
converted-untouched b t =
    lent_by (λ (o : Outcome). o.number ≢ 0 → (Lacks o.number → ⊥) → o.store ≡ t) b t (λ z n l. refl) (λ z p u r q n l. absurd (n refl))
    (λ z p n u k q m l. absurd (l (lacking-is n k)))

-- ---- the number

abbrev number_of : Ran → ℕ
number_of (reached u) = 0
number_of (stopped n u) = n

apart : (b t : List ℕ) (n : ℕ) (u w : Store) → lacking n ≡ true → replay_of b t ≡ reached u → replay_of b t ≡ stopped n w → ⊥
apart b t n u w l e f = none n l (sym (ap number_of (sym e ∙ f)))

-- a replay that is stopped lacks a page or a slot
numbers-are : (b t : List ℕ) → Numbers b t
numbers-are b t = record {
  early = lent_by (λ (o : Outcome). first_of (convert_tests b t) ≢ 0 → o.number ≡ first_of (convert_tests b t)) b t (λ z y. refl)
      (λ z p u r q y. absurd (y z)) (λ z p n u l q y. absurd (y z));
  else = lent_by (λ (o : Outcome). first_of (convert_tests b t) ≡ 0 → (o.number ≡ 0) ⊎ ((o.number ≡ 12) ⊎ (o.number ≡ 13))) b t
      (λ z y. absurd (z y)) (λ z p u r q y. inl refl)
      (λ z p n u l q y. inr (lacking-is n l));
  done = lent_by (λ (o : Outcome). first_of (convert_tests b t) ≡ 0 → o.number ≡ 0 → (u : Store) × (replay_of b t ≡ reached u)) b t
      (λ z y. absurd (z y)) (λ z p u r q y e. (u, q))
      (λ z p n u l q y e. absurd (none n l e));
  goes = lent_by (λ (o : Outcome). first_of (convert_tests b t) ≡ 0 → (u : Store) → replay_of b t ≡ reached u → o.number ≡ 0) b t
      (λ z y. absurd (z y)) (λ z p u r q y w e. refl)
      (λ z p n u l q y w e. absurd (apart b t n w u l e q));
  lacks = lent_by
      (λ (o : Outcome). first_of (convert_tests b t) ≡ 0 → (n : ℕ) → n ≢ 0 → o.number ≡ n → (u : Store) × (replay_of b t ≡ stopped n u)) b t
      (λ z y. absurd (z y))
      (λ z p u r q y n m e. absurd (m (sym e))) (λ z p n u l q y m d e. (u, subst (λ (k : ℕ). replay_of b t ≡ stopped k u) e q));
  stops = lent_by (λ (o : Outcome). first_of (convert_tests b t) ≡ 0 → (n : ℕ) (u : Store) → replay_of b t ≡ stopped n u → o.number ≡ n) b t
      (λ z y. absurd (z y))
      (λ z p u r q y n w e. ap number_of (sym q ∙ e)) (λ z p m u l q y n w e. ap number_of (sym q ∙ e));
}

pub converts : Converts
converts = record { numbers = numbers-are; done = converted-done; lacking = converted-lacking; untouched = converted-untouched }
