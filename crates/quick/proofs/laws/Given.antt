-- What rules 1 to 3 give is what quick judging asks. Assumes nothing.
use Prim.Native.Nat.{ℕ}
use mathlib.Core.Bool.{true}
use mathlib.Core.Path.{◌≡◌, ap}
use mathlib.Core.List.{List}
use mathlib.Core.Logic.{⊎_elim}
use native.Mathlib.Omega.{arith}
use Rattle.model.specs.Basic.{in_order}
use Rattle.model.specs.Entry.{before}
use Rattle.model.specs.Sound.{rule3}
use Rattle.model.specs.Layout.{decode, page_of, read_entries}
use Rattle.model.specs.Clean.{clean}
use Rattle.model.proofs.lists.Bools.{same?}
use Rattle.local.specs.Local.{Sized, Ruled, level_at, count_at}
use Rattle.local.proofs.laws.Ruled.{ruled, order}
use Rattle.local.proofs.laws.Linked.{child-lower}
use Rattle.quick.specs.Good.{QuickGood}

-- a free page has no entries
none : (p : List ℕ) (k : ℕ) → k ≡ 0 → in_order before (read_entries p 128 k) ≡ true
unfolding read_entries
none p k e = ap (λ (n : ℕ). in_order before (read_entries p 128 n)) e

pub good : (least : ℕ) (s : List ℕ) (size : ℕ) → Sized least s size → clean least s ≡ true → rule3 (decode least s) ≡ true
    → QuickGood least s
good least s size z one three =
    let r : Ruled least s = ruled least s size z one in
    record {
      linked = record {
        long = z.long;
        most = omega (arith, z.is, z.most);
        room = r.room;
        child = λ n i k u lt. r.child n i k (λ q. omega arith) lt;
        lower = child-lower least s r three;
      };
      low = r.level;
      order = λ n k. ⊎_elim (λ q. none (page_of least s n) (count_at least s n) (r.empty n k q)) (λ q. order least s size z one n k q)
          (same? (level_at least s n) 0);
    }
