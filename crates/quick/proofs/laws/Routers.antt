-- Laws about quick/specs/Routers. Assumes nothing.
use Prim.Native.Nat.{ℕ}
use mathlib.Core.Bool.{◌&&◌}
use mathlib.Core.Path.{◌≡◌}
use mathlib.Core.List.{List}
use Rattle.model.specs.declared.Entry.{Entry}
use Rattle.model.specs.Layout.{page_of, decode_page, decode}
use Rattle.spans.specs.Quick.{fine_over, nexts}
use Rattle.store.proofs.laws.Read.{page-at}
use Rattle.local.specs.Local.{IsPage, level_at}
use Rattle.quick.specs.Under.{under_page}
use Rattle.quick.specs.Routers.{router_from}

-- the router as it is read, d, which leads to page m
module _ (least : ℕ) (s : List ℕ) (e d : Entry) (m : ℕ) (q : d ≡ e) (w : m ≡ d.value) where
  pub leads-to : (k : ℕ) → IsPage least s e.value → level_at least s e.value ≡ k → IsPage least s m × (level_at least s m ≡ k)
  leads-to k g v = (rw (w, q) g, rw (w, q) v)

  pub router-by : (up a : ℕ) (es : List Entry) (c : List ℕ) → IsPage least s m → c ≡ page_of least s m
      → router_from least up (decode least s).pages a e es
      ≡ (fine_over least d.key a d.end (decode_page least c) && nexts (under_page up (decode least s).pages m) a d.end es)
  router-by up a es c k z = rw (← q, ← w, page-at least s m k.0 k.1, ← z)
