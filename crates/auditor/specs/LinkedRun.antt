-- The functions that a program links, called one after another on what they left, beside the tree: each gives what the tree gives.
-- Assumes nothing.
use Rattle.std.specs.Prelude.{ℕ, ◌*◌, ◌≤◌, Bool, true, false, ◌≡◌, List, [], ◌∷◌, length}
use Rattle.model.specs.Basic.{all}
use Rattle.model.specs.Limits.{edition_of}
use Rattle.model.specs.Store.{fresh}
use Rattle.model.specs.Layout.{encode}
use Rattle.model.specs.Return.{lacking}
use Rattle.model.specs.Ended.{Asked, to_abandon}
use Rattle.promises.specs.Accepts.{OfEdition}
use Rattle.promises.specs.Runs.{Turn, turned, kind_of, gives_up, fitting, each}
use Rattle.plain.specs.Plain.{empty}
use Rattle.plain.specs.Guard.{is_lent, read_plain, LentAgain}
use Rattle.auditor.specs.Engine.{has, Plainly}
use Rattle.auditor.specs.SideBySide.{Equal, accepted_in}
use Rattle.auditor.specs.Linked.{guardedly}

-- a call of a function, by its contract: lent the items ns, the state ms and the caller's list us, it gave f and left the items ns' and the
-- state ms'
pub record Called (c : Asked) (ns ms us : List ℕ) (f : Plainly) (ns' ms' : List ℕ) : Type 0 where
  pub gave : f ≡ guardedly c ns ms us
  pub left : f.plain ≡ read_plain ns' ms'
  pub again : LentAgain ns ms ns' ms'

-- whatever it gave and left, this holds of the one, and that of the other
abbrev pub Calling : Asked → List ℕ → List ℕ → List ℕ → (Plainly → Type 0) → (List ℕ → List ℕ → Type 0) → Type 0
Calling c ns ms us this that = (f : Plainly) (ns' ms' : List ℕ) → Called c ns ms us f ns' ms' → this f × that ns' ms'

-- the function beside the tree's call: none where the tree gave 12 or 13, and the abandon where a return did
abbrev pub CalledBeside : Bool → Bool → List ℕ → Turn → List ℕ → List ℕ → (List ℕ → List ℕ → Type 0) → Type 0
CalledBeside false g b t ns ms rest = Calling t.call ns ms t.list (λ (f : Plainly). Equal (turned b t) f) rest
CalledBeside true true b t ns ms rest = Calling to_abandon ns ms t.list (λ (f : Plainly). f.number ≡ 0) rest
CalledBeside true false b t ns ms rest = rest ns ms

-- before each call and after the last, what is lent is a plain store
abbrev pub EachLinked : List ℕ → List ℕ → List ℕ → List Turn → Type 0
EachLinked b ns ms [] = is_lent ns ms ≡ true
EachLinked b ns ms (t ∷ ts) =
    (is_lent ns ms ≡ true)
    × CalledBeside (lacking (turned b t).number) (gives_up (kind_of t.call) (turned b t).number) b t ns ms
    (λ (ns' ms' : List ℕ). EachLinked (turned b t).store ns' ms' ts)

-- from an empty plain store, with room lent for one item for each accepted insert
abbrev pub LinkedRun : Type 0
LinkedRun =
    (least : ℕ) → OfEdition least → (n : ℕ) → 6 ≤ n → n ≤ 4096 → (ts : List Turn) → each fitting ts ≡ true
    → all (λ (t : Turn). has t.call) ts ≡ true
    → (ns ms : List ℕ) → is_lent ns ms ≡ true → read_plain ns ms ≡ empty (edition_of least)
    → 4 * accepted_in (encode least (fresh n)) ts ≤ length ns
    → EachLinked (encode least (fresh n)) ns ms ts
