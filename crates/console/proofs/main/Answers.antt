-- The arrays are as long as `serve` asks. Assumes nothing.
use Prim.Native.Nat.{ℕ}
use lib.ListN.{length-replicate}
use Rattle.console.proofs.main.Goals as goal

pub serve-requires : goal.serve-requires
serve-requires c = (
  length-replicate {A = ℕ} 65536 0,
  length-replicate {A = ℕ} 10040 0,
  length-replicate {A = ℕ} 65536 0,
  length-replicate {A = ℕ} 262144 0,
)
