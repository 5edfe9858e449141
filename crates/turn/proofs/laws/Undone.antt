-- An abandon's bytes page by page: Rewritten, each page taken back. Assumes nothing.
use Prim.Native.Nat.{ℕ, ◌+◌, ◌*◌, ◌^◌, ◌≤◌, ◌<◌}
use mathlib.Core.Path.{◌≡◌}
use mathlib.Core.List.{List, map}
use lib.ListN.{length}
use Rattle.model.specs.Store.{Store}
use Rattle.model.specs.Layout.{page_of, with_page, decode_page, encode_page, encode}
use Rattle.model.specs.Calls.{back}
use Rattle.page.specs.Exact.{Exact}
use Rattle.store.specs.Holds.{Holds}
use Rattle.store.specs.Set.{with_pages}
use Rattle.edit.proofs.laws.Left.{valid-back}
use Rattle.turn.specs.Past.{Past, AllPast}
use Rattle.turn.proofs.laws.Partly.{free_back}
use Rattle.turn.proofs.laws.Rewritten.{Rewritten, rewritten-start, rewritten-short, rewritten-end, rewritten-part, rewritten-exact}
use Rattle.turn.proofs.laws.Rewritten.{rewritten-own, rewritten-step}

-- pages below n of the store came back
abbrev pub Undone : ℕ → Store → ℕ → ℕ → List ℕ → Type 0
Undone least s w n b = Rewritten least (back w) s n b

module _ (least : ℕ) (four : 4 ≤ least) (eight : least ≤ 8) (s : Store) (w : ℕ) where
  pub undone-start : (b : List ℕ) → b ≡ encode least s → Holds least s → 0 < w → Undone least s w 5 b
  undone-start b e h p = rewritten-start least four eight (back w) s (free_back w p) b e h

  module _ (n : ℕ) (b : List ℕ) (u : Undone least s w n b) where
    pub undone-short : length b ≤ 2 ^ 40
    undone-short = rewritten-short least four eight (back w) s n b u

    pub undone-end : length s.pages ≤ n → b ≡ encode least (with_pages s (map (back w) s.pages))
    undone-end = rewritten-end least four eight (back w) s n b u

    module _ (five : 5 ≤ n) (low : n < length s.pages) where
      pub undone-part : n * (64 * least) + 64 * least ≤ length b
      undone-part = rewritten-part least four eight (back w) s n b u five low

      pub undone-exact : Exact least (page_of least b n)
      undone-exact = rewritten-exact least four eight (back w) s n b u five low

      pub undone-past : AllPast w s.pages → Past w (decode_page least (page_of least b n))
      undone-past a = rw (rewritten-own least four eight (back w) s n b u five low) (a.at n)

      pub undone-step : w < 2 ^ 20 → (c : List ℕ) → c ≡ with_page least b n (encode_page least (back w (decode_page least (page_of least b n))))
          → Undone least s w (n + 1) c
      undone-step v = rewritten-step least four eight (back w) s n b u five low (λ p. valid-back least w p v)
