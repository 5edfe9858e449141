-- `kept_out`: no insert brings a bench key in, so what has none gets none.
-- Assumes nothing.
use Prim.Native.Nat.{ℕ, zero, suc, ◌≤◌, ◌<◌}
use native.Mathlib.Omega.{arith}
use mathlib.Core.Bool.{Bool, true, false, not}
use mathlib.Core.Path.{◌≡◌, refl, ap, ap₂, sym, ◌∙◌, subst}
use mathlib.Core.Logic.{◌⊎◌, inl, inr}
use mathlib.Core.List.{List, [], ◌∷◌}
use lib.Dec.{leb, ltb, eqb}
use borrow.Author.Tests.{le-leb, leb-true, leb-false, lt-ltb, ltb-false, eqb-false}
use Rattle.model.specs.Basic.{all, pick, those}
use Rattle.model.specs.declared.Pair.{Pair}
use Rattle.model.specs.Entry.{pair, enter_pair}
use Rattle.model.specs.Store.{Store, next, last, last_of, fresh}
use Rattle.model.specs.Walk.{lookup}
use Rattle.model.specs.Editions.{least_of}
use Rattle.model.specs.Calls.{is_some, rule, bench_limit, insert_tests, first_of, insert, beyond}
use Rattle.model.proofs.sound.ByRule.{old-current, upto-last}
use Rattle.model.proofs.lists.Members.{neither}
use Rattle.model.specs.Return.{return_tests}
use Rattle.model.specs.Histories.{Call, begins, commits, abandons, inserts, deletes, returns, prunes}
use Rattle.model.specs.Settings.{Machine, start, step, put}
use Rattle.model.specs.Ended.{Asked, to_insert, to_delete, to_return, ended}
use Rattle.model.specs.Inner.{In}
use Rattle.model.proofs.lists.Lists.{all_cons}
use Rattle.model.proofs.lists.Members.{all_in, all-by, in-those}
use Rattle.model.proofs.kept.OnePage.{entered-in}
use Rattle.promises.specs.Accepts.{store_of}
use Rattle.promises.specs.Runs.{Turn, Kind, making, changing, reading, kind_of, asks, fitting, gives_up, each}
use Rattle.promises.specs.Beside.{Beside, when_done, stepped, undone, onward, along, from_fresh, from_lent}
use Rattle.promises.specs.Answers.{last_in, alive_in, unchanged_in, Gives}
use Rattle.promises.specs.Bench.{BenchFree, not_behind, KeptOut}
use Rattle.promises.proofs.High.{number_of, insert-number}
use Rattle.promises.proofs.Lending.{kind-asks, by_kind, change-number}
use Rattle.promises.proofs.Agreed.{Agreed, one-turn, many-turns, fresh-agreed, lent-agreed}
use Rattle.promises.proofs.Answering.{answers}
use Rattle.promises.proofs.Changed.{delete-opened}
use Rattle.promises.proofs.Restored.{along-bytes}
use Rattle.promises.proofs.Releasing.{first-none}

-- ---- lists of settings

abbrev is_low : Pair → Bool
is_low x = ltb x.key bench_limit

low-entered : (k x : ℕ) (us : List Pair) → k < bench_limit → all is_low us ≡ true → all is_low (enter_pair (pair k x) us) ≡ true
low-entered k x us h a = all-by is_low (enter_pair (pair k x) us) (λ y i. at y (entered-in (pair k x) y us i))
  where
    at : (y : Pair) → (y ≡ pair k x) ⊎ In y us → is_low y ≡ true
    at y (inl e) = ap is_low e ∙ lt-ltb k bench_limit h
    at y (inr i) = all_in is_low y us a i

low-those : (g : Pair → Bool) (us : List Pair) → all is_low us ≡ true → all is_low (those g us) ≡ true
low-those g us a = all-by is_low (those g us) (λ y i. all_in is_low y us a (in-those g y us i).1)

-- ---- what the numbers say

-- an insert that is done is of a key below the bench's
insert-low : (k : ℕ) (o alive : Bool) (n : ℕ) → Gives (first_of (insert_tests k o alive)) n → n ≡ 0 → (k < bench_limit) × (o ≡ true)
insert-low k o alive n g e = at (leb bench_limit k) refl o g
  where
    at : (p : Bool) → leb bench_limit k ≡ p → (o : Bool) → Gives (first_of (rule 5 p ∷ rule 7 (not o) ∷ rule 10 alive ∷ [])) n
        → (k < bench_limit) × (o ≡ true)
    at true f o g = absurd (omega arith)
    at false f false g = absurd (omega arith)
    at false f true g = (leb-false bench_limit k f, refl)

-- a return that is done is to a committed version
return-opened : (old current : ℕ) (o : Bool) (v n : ℕ) → Gives (first_of (return_tests old current o v)) n → n ≡ 0
    → (o ≡ true) × (v ≤ current)
return-opened old current o v n g e = at (beyond current old v) refl o g
  where
    at : (p : Bool) → beyond current old v ≡ p → (o : Bool) → Gives (first_of (rule 6 p ∷ rule 7 (not o) ∷ [])) n
        → (o ≡ true) × (v ≤ current)
    at true f o g = absurd (omega arith)
    at false f false g = absurd (omega arith)
    at false f true g = (refl, ltb-false current v (neither (ltb current v) (ltb v old) f).0)

insert-five : (least : ℕ) (s : Store) (k x : ℕ) → bench_limit ≤ k → number_of (insert least s k x) ≡ 5
insert-five least s k x h =
    subst (λ (p : Bool). Gives (first_of (rule 5 p ∷ rule 7 (not s.opened) ∷ rule 10 (is_some (lookup s k (next s))) ∷ []))
    (number_of (insert least s k x))) (le-leb bench_limit k h) (insert-number least s k x)

-- ---- the machine

module _ (u : ℕ) where
  record Free (m : Machine) : Type 0 where
    from : u ≤ m.current
    keys : (v : ℕ) → u ≤ v → v ≤ last_in m → all is_low (m.shows v) ≡ true

  -- the open version's settings replaced
  put-free : (m : Machine) (us : List Pair) → all is_low us ≡ true → ((v : ℕ) → u ≤ v → v ≤ m.current → all is_low (m.shows v) ≡ true)
      → (v : ℕ) → u ≤ v → v ≤ suc m.current → all is_low (put (suc m.current) us m.shows v) ≡ true
  put-free m us a f v h g = at (eqb v (suc m.current)) refl
    where
      at : (b : Bool) → eqb v (suc m.current) ≡ b → all is_low (pick b us (m.shows v)) ≡ true
      at true e = a
      at false e = f v h (omega (arith, eqb-false v (suc m.current) e))

  when : (n : ℕ) (m n' : Machine) → (n ≡ 0 → Free n') → Free m → Free (when_done n n' m)
  when zero m n' f g = f refl
  when (suc n) m n' f g = g

  -- an abandon leaves the committed versions
  back : (m : Machine) → Free m → Free (step m abandons)
  back m f = record { from = f.from; keys = λ v h g. f.keys v h (omega (arith, g, upto-last m.opened m.current)) }

  undoes : (k : Kind) (n : ℕ) (m : Machine) → Free m → Free (undone k n m)
  undoes k n m f = at (gives_up k n)
    where
      at : (b : Bool) → Free (pick b (step m abandons) m)
      at true = back m f
      at false = f

  -- calls that bring no bench key: making fresh from version 0 on, and a return to a version from u on
  abbrev Brings : Kind → Type 0
  Brings making = u ≡ 0
  Brings (changing begins) = Unit {0}
  Brings (changing commits) = Unit {0}
  Brings (changing abandons) = Unit {0}
  Brings (changing (inserts k x)) = Unit {0}
  Brings (changing (deletes k)) = Unit {0}
  Brings (changing (returns v)) = u ≤ v
  Brings (changing (prunes v)) = Unit {0}
  Brings reading = Unit {0}

  module _ (x : Beside) (a : Agreed x) (f : Free x.machine) where
    abbrev m : Machine
    m = x.machine

    earlier : (v : ℕ) → u ≤ v → v ≤ x.machine.current → all is_low (x.machine.shows v) ≡ true
    earlier v h g = f.keys v h (omega (arith, g, upto-last x.machine.opened x.machine.current))

    opened-last : x.machine.opened ≡ true → last_in x.machine ≡ suc x.machine.current
    opened-last o = ap (λ (q : Bool). last_of q x.machine.current) o

    -- an insert, a delete or a return, where an update is open
    edits : x.machine.opened ≡ true → (us : List Pair)
        → (all is_low (x.machine.shows (suc x.machine.current)) ≡ true → all is_low us ≡ true)
        → Free (record {
          current = x.machine.current;
          opened = x.machine.opened;
          oldest = x.machine.oldest;
          shows = put (suc x.machine.current) us x.machine.shows;
        })
    edits o us g = record {
      from = f.from;
      keys = λ v h i. put-free x.machine us
          (g (f.keys (suc x.machine.current) (omega (arith, f.from)) (omega (arith, opened-last o)))) earlier v h
          (omega (arith, i, opened-last o));
    }

    steps : (c : Call) → Brings (changing c) → (ns : List ℕ) → (ended (asks c) x.bytes ns).number ≡ 0 → Free (step x.machine c)
    steps begins w ns e =
        record {
          from = f.from;
          keys = λ v h g. put-free x.machine (x.machine.shows x.machine.current)
              (earlier x.machine.current f.from (omega arith)) earlier v h g;
        }
    steps commits w ns e =
        let o : x.machine.opened ≡ true = (first-none x.machine.opened (unchanged_in x.machine)
        (sym ((answers x a).commits ns) ∙ e)).0 in
        record { from = omega (arith, f.from); keys = λ v h g. f.keys v h (omega (arith, g, opened-last o)) }
    steps abandons w ns e = back x.machine f
    steps (inserts k y) w ns e =
        let (low, o) = insert-low k x.machine.opened (alive_in x.machine k) (ended (to_insert k y) x.bytes ns).number
        ((answers x a).inserts k y ns) e in
        edits o (enter_pair (pair k y) (x.machine.shows (suc x.machine.current)))
        (low-entered k y (x.machine.shows (suc x.machine.current)) low)
    steps (deletes k) w ns e =
        let o = delete-opened k x.machine.opened (alive_in x.machine k) (ended (to_delete k) x.bytes ns).number
        ((answers x a).deletes k ns) e in
        edits o (those (λ (y : Pair). not (eqb y.key k)) (x.machine.shows (suc x.machine.current)))
        (low-those (λ (y : Pair). not (eqb y.key k)) (x.machine.shows (suc x.machine.current)))
    steps (returns v) w ns e =
        let (o, h) = return-opened x.machine.oldest x.machine.current x.machine.opened v
        (ended (to_return v) x.bytes ns).number ((answers x a).returns v ns) e in
        edits o (x.machine.shows v) (λ z. earlier v w h)
    steps (prunes v) w ns e = record { from = f.from; keys = λ y h g. f.keys y h g }

    one_free : (t : Turn) → Brings (kind_of t.call) → Free (onward x t).machine
    one_free t = at t.call
      where
        same : (n : ℕ) → Free (when_done n x.machine x.machine)
        same n = when n x.machine x.machine (λ e. f) f

        number : Asked → ℕ
        number c = (ended c x.bytes t.list).number

        by : (c : Call) → Brings (changing c) → Free
            (when_done (number (asks c)) (step x.machine c) (undone (changing c) (number (asks c)) x.machine))
        by c w =
            when (number (asks c)) (undone (changing c) (number (asks c)) x.machine) (step x.machine c) (steps c w t.list)
            (undoes (changing c) (number (asks c)) x.machine f)

        Goes : Asked → Kind → Type 0
        Goes c q =
            Free (when_done (ended c x.bytes t.list).number (stepped q x.machine)
            (undone q (ended c x.bytes t.list).number x.machine))

        at : (c : Asked) → Brings (kind_of c) → Goes c (kind_of c)
        at =
            by_kind (λ (c : Asked). Brings (kind_of c) → Goes c (kind_of c))
            (λ least c y h. subst (Goes c) (sym y.kind)
            (let h' : u ≡ 0 = subst Brings y.kind h in
            when (ended c x.bytes t.list).number x.machine start
            (λ e. record { from = omega (arith, h'); keys = λ v i g. refl }) f))
            (λ c h. subst (Goes (asks c)) (sym (kind-asks c)) (by c (subst Brings (kind-asks c) h)))
            (λ c k stays h. subst (Goes c) (sym k) (same (ended c x.bytes t.list).number))

  many-free : (g : Kind → Bool) → ((k : Kind) → g k ≡ true → Brings k) → (ts : List Turn) → each fitting ts ≡ true → each g ts ≡ true
      → (x : Beside) → Agreed x → Free x.machine
      → Free (along x ts).machine
  many-free g z [] h i x a f = f
  many-free g z (t ∷ ts) h i x a f =
      let (p, q) = all_cons (λ (y : Turn). fitting (kind_of y.call)) t ts h in
      let (r, s) = all_cons (λ (y : Turn). g (kind_of y.call)) t ts i in
      many-free g z ts q s (onward x t) (one-turn x a t p) (one_free x a f t (z (kind_of t.call) r))

  -- in the words of the store
  store-free : (x : Beside) → Agreed x → Free x.machine → BenchFree u (store_of x.bytes)
  store-free x a f v h from g =
      let l : last (store_of x.bytes) ≡ last_in x.machine = ap₂ last_of a.agrees.opened a.agrees.current in
      ap (all is_low) (a.agrees.shows v (record { from = from; upto = g })) ∙ f.keys v h (omega (arith, g, l))

-- ---- the promise

any-kind : (ts : List Turn) → each (λ (k : Kind). true) ts ≡ true
any-kind [] = refl
any-kind (t ∷ ts) = any-kind ts

-- from version 0 on every call is such a one
any-brings : (k : Kind) → Brings 0 k
any-brings making = refl
any-brings (changing begins) = tt
any-brings (changing commits) = tt
any-brings (changing abandons) = tt
any-brings (changing (inserts k x)) = tt
any-brings (changing (deletes k)) = tt
any-brings (changing (returns v)) = omega arith
any-brings (changing (prunes v)) = tt
any-brings reading = tt

brings-none : (u : ℕ) (k : Kind) → not_behind u k ≡ true → Brings u k
brings-none u making e = absurd (let z : ◌≡◌ {A = ℕ} 0 1 = cc in omega arith)
brings-none u (changing begins) e = tt
brings-none u (changing commits) e = tt
brings-none u (changing abandons) e = tt
brings-none u (changing (inserts k x)) e = tt
brings-none u (changing (deletes k)) e = tt
brings-none u (changing (returns v)) e = leb-true u v e
brings-none u (changing (prunes v)) e = tt
brings-none u reading e = tt

pub kept_out : KeptOut
kept_out = record {
  five = λ b ok k x ns h. change-number b ok (inserts k x) ns ∙ insert-five (least_of b) (store_of b) k x h;
  fresh = λ least e n six most ts h.
      let x : Beside = from_fresh least n in
      let a : Agreed x = fresh-agreed least e n six most in
      let f : Free 0 x.machine = record { from = omega arith; keys = λ v i g. refl } in
      subst (λ (b : List ℕ). BenchFree 0 (store_of b)) (along-bytes ts x)
      (store-free 0 (along x ts) (many-turns ts h x a) (many-free 0 (λ (k : Kind). true) (λ k e. any-brings k) ts h (any-kind ts) x a f));
  cleaned = λ b ok clean ts h i.
      let u : ℕ = (store_of b).current in
      let x : Beside = from_lent b in
      let a : Agreed x = lent-agreed b ok in
      let f : Free u x.machine
      = record {
        from = omega arith;
        keys = λ v j g. clean v j
            (omega (arith, j, old-current (least_of b) (store_of b) a.agrees.is-sound.old-low)) g;
      } in
      subst (λ (q : List ℕ). BenchFree u (store_of q)) (along-bytes ts x)
      (store-free u (along x ts) (many-turns ts h x a) (many-free u (not_behind u) (brings-none u) ts h i x a f));
}
