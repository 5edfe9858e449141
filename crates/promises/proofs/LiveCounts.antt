-- Accepted bytes of edition 2 have the live counts that request 2026-09 says.
-- Assumes nothing.
use Prim.Native.Nat.{ℕ, ◌<◌, ◌≤◌}
use native.Mathlib.Omega.{arith}
use mathlib.Core.Path.{◌≡◌, refl, ap, sym, ◌∙◌, subst}
use mathlib.Core.List.{List}
use lib.ListN.{length}
use Rattle.model.specs.Basic.{those}
use Rattle.model.specs.declared.Entry.{Entry}
use Rattle.model.specs.Limits.{live_shown}
use Rattle.model.specs.Entry.{live_at}
use Rattle.model.specs.Page.{Page}
use Rattle.model.specs.Store.{Store, page, last}
use Rattle.model.specs.Field.{field}
use Rattle.model.specs.Layout.{lives, live_in, live_of, page_of, size_of}
use Rattle.model.specs.Editions.{least_of}
use Rattle.model.specs.ByRule.{Sound}
use Rattle.model.proofs.sound.ByRule.{used-in, high_used}
use Rattle.model.proofs.sound.Judging.{Accepted, accepted-sound}
use Rattle.model.proofs.sound.Counted.{those-last, killed-none}
use Rattle.store.proofs.laws.Read.{page-at, count-pages}
use Rattle.store.proofs.laws.Tested.{whole_length}
use Rattle.store.proofs.laws.Counted.{counted}
use Rattle.promises.specs.Accepts.{store_of}
use Rattle.promises.specs.LiveCounts.{live_count, LiveCounts}
use Rattle.promises.proofs.Known.{eight, taken}

shows : (least : ℕ) (es : List Entry) → live_in least es ≡ live_shown least (length (those lives es))
unfolding live_in
shows least es = refl

stands : (p : List ℕ) → live_of 8 p ≡ field p 50 6
unfolding live_of
stands p = refl

pub live-counts : LiveCounts
live-counts b ok e n u = record { right = right; killed = λ k. right ∙ ap length (killed-none (least_of b) s sure n u k) }
  where
    s : Store
    s = store_of b

    a : Accepted (least_of b) b
    a = taken b ok

    sure : Sound (least_of b) s
    sure = accepted-sound (least_of b) b a

    es : List Entry
    es = (page s.pages n).entries

    five : 5 ≤ n
    five = high_used s n sure.front u

    inside : n < size_of (least_of b) b
    inside =
        omega (arith, used-in s.pages n u, count-pages (least_of b) b (omega (arith, (whole_length (least_of b) b a.length-ok).six)))

    -- by the edition's own least
    told : live_of (least_of b) (page_of (least_of b) b n) ≡ live_shown (least_of b) (length (those (live_at (last s)) es))
    told =
        counted (least_of b) (eight b) b a n five inside
        ∙ ap (λ (p : Page). live_in (least_of b) p.entries) (sym (page-at (least_of b) b n five inside))
        ∙ shows (least_of b) es
        ∙ ap (λ (l : List Entry). live_shown (least_of b) (length l))
        (sym (those-last (last s) (length s.pages) (page s.pages n).level sure.last-low es (sure.pages n u).entries))

    right : live_count b n ≡ length (those (live_at (last s)) es)
    right =
        sym (stands (page_of 8 b n)) ∙ subst (λ (l : ℕ). live_of l (page_of l b n) ≡ live_shown l (length (those (live_at (last s)) es))) e told
