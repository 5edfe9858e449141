-- Calls on accepted bytes, making fresh aside, are those calls on the store that they hold.
-- Assumes nothing.
use Prim.Native.Nat.{ℕ}
use mathlib.Core.Bool.{Bool, true, false, ◌||◌, not}
use mathlib.Core.Path.{◌≡◌, refl, ap, sym, ◌∙◌, subst}
use mathlib.Core.List.{List, [], ◌∷◌, ◌++◌}
use borrow.Author.Tests.{not-true}
use Rattle.model.specs.Basic.{all}
use Rattle.model.specs.Store.{Store}
use Rattle.model.specs.Editions.{least_of}
use Rattle.model.specs.Climb.{done, refused}
use Rattle.model.specs.Return.{Came, gave, gave_up}
use Rattle.model.specs.Histories.{Call, call_by, after}
use Rattle.model.specs.Settings
use Rattle.model.specs.Settings.{Both, together}
use Rattle.model.specs.Ended.{Asked, ended}
use Rattle.model.proofs.lists.Lists.{both_true, all_cons, both-intro}
use Rattle.model.proofs.lists.Members.{not-both}
use Rattle.promises.specs.Accepts.{Accepts, store_of}
use Rattle.promises.specs.Runs.{Turn, turned, run_bytes, Kind, making, changing, reading, kind_of, asks, not_making, fitting, gives_up}
use Rattle.promises.specs.Runs.{staying, inside, each}
use Rattle.promises.proofs.High.{number_by, Stopping, call-stops}
use Rattle.promises.proofs.Lending.{kind-asks, by_kind, change-number, Leaves, change-leaves}

-- ---- the calls that may change the store

abbrev pub with_call : Kind → List Call → List Call
with_call making cs = cs
with_call (changing c) cs = c ∷ cs
with_call reading cs = cs

abbrev pub calls_of : List Turn → List Call
calls_of [] = []
calls_of (t ∷ ts) = with_call (kind_of t.call) (calls_of ts)

with-fits : (k : Kind) (cs : List Call) → fitting k ≡ true → all Settings.fits cs ≡ true → all Settings.fits (with_call k cs) ≡ true
with-fits making cs h g = g
with-fits (changing c) cs h g = both-intro _ _ h g
with-fits reading cs h g = g

pub calls-fit : (ts : List Turn) → each fitting ts ≡ true → all Settings.fits (calls_of ts) ≡ true
calls-fit [] h = refl
calls-fit (t ∷ ts) h =
    let (x, y) = all_cons (λ (u : Turn). fitting (kind_of u.call)) t ts h in with-fits (kind_of t.call) (calls_of ts) x (calls-fit ts y)

pub staying-not : (k : Kind) (n : ℕ) → staying k n ≡ true → not_making k ≡ true
staying-not making n h = h
staying-not (changing c) n h = refl
staying-not reading n h = refl

-- a return that is the abandon is none of them
pub staying-up : (c : Call) (n : ℕ) → staying (changing c) n ≡ true → gives_up (changing c) n ≡ false
staying-up c n h = not-true (gives_up (changing c) n) (both_true (not (gives_up (changing c) n)) _ h).0

-- a call that is done and leaves an update open is none that ends one
pub staying-done : (c : Call) → staying (changing c) 0 ≡ true → Settings.is_inside c ≡ true
staying-done c h = at (Settings.is_inside c) (both_true (not (gives_up (changing c) 0)) _ h).1
  where
    at : (b : Bool) → (b || false) ≡ true → b ≡ true
    at true g = refl
    at false g = g

with_append : (k : Kind) (cs ds : List Call) → with_call k (cs ++ ds) ≡ with_call k cs ++ ds
with_append making cs ds = refl
with_append (changing c) cs ds = refl
with_append reading cs ds = refl

pub calls-append : (ts us : List Turn) → calls_of (ts ++ us) ≡ calls_of ts ++ calls_of us
calls-append [] us = refl
calls-append (t ∷ ts) us = ap (with_call (kind_of t.call)) (calls-append ts us) ∙ with_append (kind_of t.call) (calls_of ts) (calls_of us)

-- ---- one call

abbrev stored : ℕ → Kind → Store → Store
stored least making s = s
stored least (changing c) s = (after s (call_by least s c)).store
stored least reading s = s

abbrev both_by : ℕ → Kind → Both → Both
both_by least making y = y
both_by least (changing c) y = Settings.onward y c (call_by least y.store c)
both_by least reading y = y

onward-store : (y : Both) (c : Call) (r : Came) → (Settings.onward y c r).store ≡ (after y.store r).store
onward-store y c (gave (done t)) = refl
onward-store y c (gave (refused n)) = refl
onward-store y c (gave_up n t) = refl

by-store : (least : ℕ) (k : Kind) (y : Both) → (both_by least k y).store ≡ stored least k y.store
by-store least making y = refl
by-store least (changing c) y = onward-store y c (call_by least y.store c)
by-store least reading y = refl

together-with : (least : ℕ) (k : Kind) (y : Both) (cs : List Call) → together least y (with_call k cs) ≡ together least (both_by least k y) cs
together-with least making y cs = refl
together-with least (changing c) y cs = refl
together-with least reading y cs = refl

one-by : (b : List ℕ) → Accepts b → (a : Asked) → not_making (kind_of a) ≡ true → fitting (kind_of a) ≡ true → (ns : List ℕ)
    → Leaves (least_of b) b (stored (least_of b) (kind_of a) (store_of b)) (ended a b ns).store
one-by b ok =
    let l : ℕ = least_of b in
    by_kind
    (λ (c : Asked). not_making (kind_of c) ≡ true → fitting (kind_of c) ≡ true → (ns : List ℕ)
    → Leaves l b (stored l (kind_of c) (store_of b)) (ended c b ns).store)
    (λ least c x m h ns. absurd (not-both false (subst (λ (k : Kind). not_making k ≡ true) x.kind m) refl))
    (λ c m h ns. subst (λ (k : Kind). Leaves l b (stored l k (store_of b)) (ended (asks c) b ns).store) (sym (kind-asks c))
    (change-leaves b ok c (ap fitting (sym (kind-asks c)) ∙ h) ns))
    (λ c k same m h ns. subst (λ (q : Kind). Leaves l b (stored l q (store_of b)) (ended c b ns).store) (sym k)
    (subst (Leaves l b (store_of b)) (sym (same b ns)) (record { accepts = ok; edition = refl; holds = refl; bytes = λ z. z })))

module _ (least : ℕ) where
  one : (b : List ℕ) → Accepts b → least_of b ≡ least → (a : Asked) → not_making (kind_of a) ≡ true → fitting (kind_of a) ≡ true → (ns : List ℕ)
      → Leaves least b (stored least (kind_of a) (store_of b)) (ended a b ns).store
  one b ok is a m h ns = subst (λ (l : ℕ). Leaves l b (stored l (kind_of a) (store_of b)) (ended a b ns).store) is (one-by b ok a m h ns)

  -- ---- one after another

  pub ran : (ts : List Turn) → each not_making ts ≡ true → each fitting ts ≡ true → (b : List ℕ) → Accepts b → least_of b ≡ least → (y : Both)
      → y.store ≡ store_of b
      → Leaves least b (together least y (calls_of ts)).store (run_bytes b ts)
  ran [] m h b ok is y e = record { accepts = ok; edition = is; holds = sym e; bytes = λ z. z }
  ran (t ∷ ts) m h b ok is y e =
      let (m₁, m₂) = all_cons (λ (u : Turn). not_making (kind_of u.call)) t ts m in
      let (h₁, h₂) = all_cons (λ (u : Turn). fitting (kind_of u.call)) t ts h in
      let l = one b ok is t.call m₁ h₁ t.list in
      let same : (both_by least (kind_of t.call) y).store ≡ store_of (turned b t).store = by-store least (kind_of t.call) y
      ∙ ap (stored least (kind_of t.call)) e ∙ sym l.holds in
      let rest = ran ts m₂ h₂ (turned b t).store l.accepts l.edition (both_by least (kind_of t.call) y) same in
      record {
        accepts = rest.accepts;
        edition = rest.edition;
        holds = rest.holds ∙ ap (λ (z : Both). z.store) (sym (together-with least (kind_of t.call) y (calls_of ts)));
        bytes = λ z. rest.bytes (l.bytes z);
      }

-- ---- calls that leave an update open

abbrev stays_by : ℕ → Kind → Store → Bool
stays_by least making s = true
stays_by least (changing c) s = Settings.stays_in c (call_by least s c)
stays_by least reading s = true

change-stays : (b : List ℕ) → Accepts b → (c : Call) (ns : List ℕ) → staying (changing c) (ended (asks c) b ns).number ≡ true
    → stays_by (least_of b) (changing c) (store_of b) ≡ true
change-stays b ok c ns h =
    at (call_by (least_of b) (store_of b) c) (subst (λ (n : ℕ). staying (changing c) n ≡ true) (change-number b ok c ns) h)
    (call-stops (least_of b) (store_of b) c)
  where
    at : (r : Came) → staying (changing c) (number_by r) ≡ true → Stopping c r → Settings.stays_in c r ≡ true
    at (gave (done s)) g u = staying-done c g
    at (gave (refused n)) g u = refl
    at (gave_up n t) g u = absurd (not-both (gives_up (changing c) n) u (staying-up c n g))

turn-stays : (b : List ℕ) → Accepts b → (a : Asked) (ns : List ℕ) → staying (kind_of a) (ended a b ns).number ≡ true
    → stays_by (least_of b) (kind_of a) (store_of b) ≡ true
turn-stays b ok =
    let l : ℕ = least_of b in
    by_kind (λ (a : Asked). (ns : List ℕ) → staying (kind_of a) (ended a b ns).number ≡ true → stays_by l (kind_of a) (store_of b) ≡ true)
    (λ least a x ns h. ap (λ (q : Kind). stays_by l q (store_of b)) x.kind)
    (λ c ns h. subst (λ (k : Kind). stays_by l k (store_of b) ≡ true) (sym (kind-asks c))
    (change-stays b ok c ns (subst (λ (k : Kind). staying k (ended (asks c) b ns).number ≡ true) (kind-asks c) h)))
    (λ a k same ns h. ap (λ (q : Kind). stays_by l q (store_of b)) k)

module _ (least : ℕ) where
  inside-with : (k : Kind) (y : Both) (cs : List Call) → stays_by least k y.store ≡ true
      → Settings.inside least (both_by least k y) cs ≡ true → Settings.inside least y (with_call k cs) ≡ true
  inside-with making y cs h g = g
  inside-with (changing c) y cs h g = both-intro _ _ h g
  inside-with reading y cs h g = g

  pub calls-inside : (ts : List Turn) → each fitting ts ≡ true → (b : List ℕ) → Accepts b → least_of b ≡ least → inside b ts ≡ true
      → (y : Both) → y.store ≡ store_of b → Settings.inside least y (calls_of ts) ≡ true
  calls-inside [] h b ok is i y e = refl
  calls-inside (t ∷ ts) h b ok is i y e =
      let (i₁, i₂) = both_true (staying (kind_of t.call) (turned b t).number) (inside (turned b t).store ts) i in
      let (h₁, h₂) = all_cons (λ (u : Turn). fitting (kind_of u.call)) t ts h in
      let l = one least b ok is t.call (staying-not (kind_of t.call) (turned b t).number i₁) h₁ t.list in
      let same : (both_by least (kind_of t.call) y).store ≡ store_of (turned b t).store = by-store least (kind_of t.call) y
      ∙ ap (stored least (kind_of t.call)) e ∙ sym l.holds in
      let stays : stays_by least (kind_of t.call) (store_of b) ≡ true
      = subst (λ (n : ℕ). stays_by n (kind_of t.call) (store_of b) ≡ true) is (turn-stays b ok t.call t.list i₁) in
      inside-with (kind_of t.call) y (calls_of ts) (subst (λ (s : Store). stays_by least (kind_of t.call) s ≡ true) (sym e) stays)
      (calls-inside ts h₂ (turned b t).store l.accepts l.edition i₂ (both_by least (kind_of t.call) y) same)
