-- A store that its bytes can hold comes back from them, and page by page.
use Rattle.std.specs.Prelude.{ℕ, ◌*◌, ◌<◌, ◌≤◌, ◌^◌, ◌≡◌, length, get_or, take, replicate}
use Rattle.model.specs.Limits.{oldest_bits}
use Rattle.model.specs.Page.{free}
use Rattle.model.specs.Store.{Store}
use Rattle.model.specs.Layout.{no_slot}
use Rattle.store.specs.Slots.{SlotFits}
use Rattle.store.specs.Pages.{AllValid}

-- a store that its bytes can hold
pub record Holds (least : ℕ) (s : Store) : Type 0 where
  pub five : 5 ≤ length s.pages
  pub most : length s.pages < 2 ^ 13
  pub front : take 5 s.pages ≡ replicate 5 free
  pub current : s.current < 2 ^ 20
  pub oldest : s.oldest < 2 ^ oldest_bits least
  pub few : length s.slots ≤ 64 * least
  pub slots : (k : ℕ) → SlotFits (get_or s.slots k no_slot)
  pub pages : AllValid least s.pages
