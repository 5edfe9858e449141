-- From what a call's contract says, in its clauses, to all that is promised of the call.
-- Assumes nothing.
use Prim.Native.Nat.{ℕ}
use mathlib.Core.Bool.{Bool}
use mathlib.Core.Path.{◌≡◌, refl, ap, ap₂, sym, ◌∙◌, subst}
use mathlib.Core.Logic.{◌≢◌}
use mathlib.Core.List.{List, [], ◌∷◌}
use Rattle.model.specs.Lent.{Outcome, leaving}
use Rattle.model.specs.Convert.{convert_lent}
use Rattle.model.specs.Ended.{Asked, Ended, Meets, to_open}
use Rattle.promises.specs.Accepts.{Accepts}
use Rattle.promises.specs.Demand1.{TurnedAway}
use Rattle.promises.specs.Converts.{Converted, Emptied, Lacks}
use Rattle.promises.proofs.Promises as promises
use Rattle.plain.specs.Guard.{is_state, read_plain, OpensGuarded, Spared, StateAgain, LentAgain}
use Rattle.plain.proofs.Again.{opens-again}
use Rattle.auditor.specs.Engine.{Plainly, of_given}
use Rattle.auditor.specs.Linked.{guardedly}
use Rattle.auditor.proofs.Linked.{linked}
use Rattle.offered.specs.Promised.{Promised, gave, Conversion, PlainPromised, plain_gave}

-- what meets a call's contract has all that is promised of the call
pub promised : (c : Asked) (b ns : List ℕ) (e : Ended) → Meets c b ns e → Promised c b ns e
promised c b ns e m = record {
  meets = m;
  only = λ f p. promises.unique c b ns f e p m;
  refused = promises.refused c b ns e m;
  blank = promises.blank c b ns e m;
  untrusted = λ j no. subst (λ (x : Ended). TurnedAway b ns x) (sym m) (promises.untrusted c b ns j no);
  stays = λ ok f. subst (λ (x : Ended). Accepts x.store) (sym m) (promises.sound-stays b ok (record { call = c; list = ns }) f);
}

-- and of the converter
pub conversion : (b t : List ℕ) (n : ℕ) (t' : List ℕ) → leaving n t' ≡ convert_lent b t → Conversion b t n t'
conversion b t n t' x = record {
  meets = x;
  done = subst (λ (o : Outcome). o.number ≡ 0 → Converted b o.store) (sym x) ((promises.converts).done b t);
  lacking = subst (λ (o : Outcome). Lacks o.number → Emptied t o.store) (sym x) ((promises.converts).lacking b t);
  untouched = subst (λ (o : Outcome). o.number ≢ 0 → (Lacks o.number → ⊥) → o.store ≡ t) (sym x) ((promises.converts).untouched b t);
}

-- and of the plain engine's calls
pub plain-promised : (lent : Bool) (c : Asked) (ns ms us : List ℕ) (f : Plainly) (ns' ms' : List ℕ) → f ≡ guardedly c ns ms us
    → f.plain ≡ read_plain ns' ms' → Spared lent ms ms' → Spared lent ns ns' → LentAgain ns ms ns' ms'
    → PlainPromised lent c ns ms us f ns' ms'
plain-promised lent c ns ms us f ns' ms' x l y z w = record {
  called = record { gave = x; left = l; again = w };
  linked = λ e h. x ∙ linked c ns ms us e h;
  spared = y;
  untouched = z;
}

-- a reading changes neither
pub plain-read : (lent : Bool) (c : Asked) (ns ms us : List ℕ) (f : Plainly) → f ≡ guardedly c ns ms us → f.plain ≡ read_plain ns ms
    → PlainPromised lent c ns ms us f ns ms
plain-read lent c ns ms us f x l = plain-promised lent c ns ms us f ns ms x l (λ e. refl) (λ e. refl) (λ e. (e, refl))

-- an open has no list: any that is lent beside it
pub plain-opened : (ms : List ℕ) (r : ℕ) (ms' : List ℕ) → OpensGuarded ms r ms' → Spared (is_state ms) ms ms' → StateAgain ms ms'
    → (ns us : List ℕ) → PlainPromised (is_state ms) to_open ns ms us (plain_gave r [] ns ms' us) ns ms'
plain-opened ms r ms' x y z ns us =
    plain-promised (is_state ms) to_open ns ms us (plain_gave r [] ns ms' us) ns ms' (ap (of_given us) (x ns)) refl y (λ q. refl)
    (opens-again ms r ms' x z ns)

-- ---- the parts of an outcome, put together

pub moved : {n m : ℕ} {q b : List ℕ} (ns : List ℕ) → n ≡ m → q ≡ b → gave n [] q ns ≡ gave m [] b ns
moved ns x y = ap₂ (λ (i : ℕ) (z : List ℕ). gave i [] z ns) x y

pub one_told : {n m c k : ℕ} (b ns : List ℕ) → n ≡ m → c ≡ k → gave n (c ∷ []) b ns ≡ gave m (k ∷ []) b ns
one_told b ns x y = ap₂ (λ (i j : ℕ). gave i (j ∷ []) b ns) x y

pub two-told : {n m c k d l : ℕ} (b ns : List ℕ) → n ≡ m → c ≡ k → d ≡ l → gave n (c ∷ d ∷ []) b ns ≡ gave m (k ∷ l ∷ []) b ns
two-told b ns x y z = λ i. gave (x i) (y i ∷ z i ∷ []) b ns

pub list-told : {n m c k : ℕ} {ns ms : List ℕ} (b : List ℕ) → n ≡ m → c ≡ k → ns ≡ ms → gave n (c ∷ []) b ns ≡ gave m (k ∷ []) b ms
list-told b x y z = λ i. gave (x i) (y i ∷ []) b (z i)

pub all_told : {n m : ℕ} {rs ts : List ℕ} (b ns : List ℕ) → n ≡ m → rs ≡ ts → gave n rs b ns ≡ gave m ts b ns
all_told b ns x y = ap₂ (λ (i : ℕ) (us : List ℕ). gave i us b ns) x y

pub plain-two : {n m c k d l : ℕ} (ns ms us : List ℕ) → n ≡ m → c ≡ k → d ≡ l
    → plain_gave n (c ∷ d ∷ []) ns ms us ≡ plain_gave m (k ∷ l ∷ []) ns ms us
plain-two ns ms us x y z = λ i. plain_gave (x i) (y i ∷ z i ∷ []) ns ms us

pub plain-list : {n m c k : ℕ} {us vs : List ℕ} (ns ms : List ℕ) → n ≡ m → c ≡ k → us ≡ vs
    → plain_gave n (c ∷ []) ns ms us ≡ plain_gave m (k ∷ []) ns ms vs
plain-list ns ms x y z = λ i. plain_gave (x i) (y i ∷ []) ns ms (z i)
