-- A call on a lent plain store, said once for all of them: the numbers are tested, and then the crate's own call, here any f, is made on
-- what is read from them. What it gives, and what it leaves. Assumes nothing.
use Prim.Native.Nat.{ℕ, ◌*◌, ◌^◌, ◌≤◌, ◌<◌}
use native.Mathlib.Omega.{arith}
use mathlib.Core.Path.{◌≡◌, ◌∙◌}
use mathlib.Core.List.{List}
use lib.ListN.{length}
use Rattle.plain.specs.declared.State.{State}
use Rattle.plain.specs.Plain.{Plain, Given}
use Rattle.plain.specs.Items.{plain_of}
use Rattle.plain.specs.Guard.{state_numbers, is_lent, read_plain, left_lent, guarded, Lends, LentAgain}
use Rattle.plain.proofs.Guards.{guarded-some, own-items, own-fits, own-left, state-back}
use Rattle.plain.proofs.Again.{NumbersStand, lent_again}

-- a plain store: s is the state as the code has it, and what the call leaves is t with the items in ns'
module _ (ns ms : List ℕ) (s : State) (l : Lends ns ms s) (t : State) (ns' : List ℕ) (f : Plain → Given)
    (does : record { number = 0; plain = plain_of t ns' } ≡ f (plain_of s ns)) where
  pub gives : (g : Given) → f (read_plain ns ms) ≡ g → left_lent 0 ns' (state_numbers t) ≡ guarded (is_lent ns ms) (read_plain ns ms) g
  gives g so =
      own-left ns ms l.lent s l.state 0 t ns' f does (state_numbers t) (state-back t) ∙ so
      ∙ guarded-some (is_lent ns ms) (read_plain ns ms) g l.lent

  module _ (room : 4 * length (f (plain_of s ns)).plain.items ≤ length ns) where
    pub fits : t.count < 2 ^ 32
    fits = own-fits ns ms l.lent s l.state 0 t ns' f does room

    pub again : ((p : Plain) → NumbersStand p → NumbersStand (f p).plain) → length ns' ≡ length ns → (ms' : List ℕ) → ms' ≡ state_numbers t
        → LentAgain ns ms ns' ms'
    again stands same = lent_again ns ms l.lent s l.state 0 t ns' (f (plain_of s ns)) does (stands (plain_of s ns)) room same

-- a call that adds no item has the room
pub few-room : (ns ms : List ℕ) (s : State) → Lends ns ms s → (f : Plain → Given)
    → ((p : Plain) → length (f p).plain.items ≤ length p.items)
    → 4 * length (f (plain_of s ns)).plain.items ≤ length ns
few-room ns ms s l f few = omega (arith, few (plain_of s ns), own-items ns ms l.lent s l.state)
