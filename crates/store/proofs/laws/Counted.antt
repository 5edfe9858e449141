-- Accepted bytes have the right live count in every page: rule 8 says it of a used one, and a free one is all zero. Assumes nothing.
use Prim.Native.Nat.{ℕ, zero, suc, ◌+◌, ◌-◌, ◌<◌, ◌≤◌}
use mathlib.Core.Bool.{Bool, true, false, ◌&&◌, ◌||◌}
use mathlib.Core.Path.{◌≡◌, refl, ap, sym, ◌∙◌, subst}
use mathlib.Core.List.{List}
use mathlib.Core.Logic.{⊎_elim}
use native.Mathlib.Omega.{arith}
use borrow.Author.Tests.{eqb-true}
use lib.Dec.{eqb}
use lib.ListN.{length}
use Rattle.bits.proofs.laws.Put.{less}
use Rattle.model.specs.Basic.{those}
use Rattle.model.specs.declared.Entry.{Entry}
use Rattle.model.specs.Limits.{live_shown}
use Rattle.model.specs.Field.{field}
use Rattle.model.specs.Entry.{live_at}
use Rattle.model.specs.Page.{Page, free, is_free}
use Rattle.model.specs.Store.{Store, page, last}
use Rattle.model.specs.Sound.{rule1}
use Rattle.model.specs.Layout.{lives, live_in, live_of, page_of, decode_page, decode, size_of}
use Rattle.model.specs.Clean.{clean_front, clean_page, clean_pages, clean}
use Rattle.model.specs.Counted.{counted_page, counted_pages, rule8}
use Rattle.model.specs.ByRule.{Sound}
use Rattle.model.proofs.lists.Lists.{both_true}
use Rattle.model.proofs.sound.Judging.{Accepted, accepted-sound}
use Rattle.model.proofs.sound.Counted.{those-last}
use Rattle.page.proofs.laws.Exact.{live-none}
use Rattle.page.proofs.laws.Clean.{passed, free-live}
use Rattle.store.proofs.laws.Read.{page-at}
use Rattle.store.proofs.laws.Tested.{Counted, pages-clean}

pub pages-counted : (least v : ℕ) (s : List ℕ) (n k : ℕ) → counted_pages least v s n k ≡ true → (m : ℕ) → n ≤ m → m < n + k
    → counted_page least v (page_of least s m) ≡ true
unfolding counted_pages
pages-counted least v s n zero e m l h = absurd (omega arith)
pages-counted least v s n (suc k) e m l h =
    let x = both_true (counted_page least v (page_of least s n)) (counted_pages least v s (n + 1) k) e in
    ⊎_elim (λ q. pages-counted least v s (n + 1) k x.1 m (omega arith) (omega arith)) (λ q. let i : m ≡ n = omega arith in rw i x.0)
    (less n m)

-- what rule 8 says of a used page
used-counted : (least v : ℕ) (p : List ℕ) → is_free (decode_page least p) ≡ false → counted_page least v p ≡ true
    → live_of least p ≡ live_shown least (length (those (live_at v) (decode_page least p).entries))
unfolding counted_page
used-counted least v p u e =
    let n : ℕ = live_shown least (length (those (live_at v) (decode_page least p).entries)) in
    eqb-true (live_of least p) n (subst (λ (b : Bool). (b || eqb (live_of least p) n) ≡ true) u e)

live-is : (least : ℕ) (es : List Entry) → live_shown least (length (those lives es)) ≡ live_in least es
unfolding live_in
live-is least es = refl

level-is : (least : ℕ) (p : List ℕ) → field p 0 4 ≡ (decode_page least p).level
unfolding decode_page
level-is least p = refl

pages-of : (least : ℕ) (b : List ℕ) → clean least b ≡ true → clean_pages least b 5 (size_of least b - 5) ≡ true
unfolding clean
pages-of least b h =
    (both_true (clean_pages least b 5 (size_of least b - 5)) (rule1 least (decode least b))
    (both_true (clean_front least b) (clean_pages least b 5 (size_of least b - 5) && rule1 least (decode least b)) h).1).0

eight-of : (least : ℕ) (b : List ℕ) → rule8 least b ≡ true → counted_pages least (last (decode least b)) b 5 (size_of least b - 5) ≡ true
unfolding rule8
eight-of least b h = h

module _ (least : ℕ) (eight : least ≤ 8) (b : List ℕ) (a : Accepted least b) where
  abbrev s : Store
  s = decode least b

  sure : Sound least s
  sure = accepted-sound least b a

  pub counted : Counted least b
  counted n five lt = at (is_free q) refl
    where
      p : List ℕ
      p = page_of least b n

      q : Page
      q = decode_page least p

      here : page s.pages n ≡ q
      here = page-at least b n five lt

      at : (f : Bool) → is_free q ≡ f → live_of least p ≡ live_in least q.entries
      at true e =
          let blank : q ≡ free = sym here ∙ sure.zeros n (subst (λ (x : Page). is_free x ≡ true) (sym here) e) in
          let c : clean_page least p ≡ true = pages-clean least b 5 (size_of least b - 5) (pages-of least b a.is-clean) n five
          (omega arith) in
          free-live least p eight (passed least p c) (level-is least p ∙ eqb-true q.level 0 e)
          ∙ sym (ap (λ (x : Page). live_in least x.entries) blank ∙ live-none least)
      at false e =
          let c : counted_page least (last s) p ≡ true
          = pages-counted least (last s) b 5 (size_of least b - 5) (eight-of least b a.is-counted) n five (omega arith) in
          let u : is_free (page s.pages n) ≡ false = subst (λ (x : Page). is_free x ≡ false) (sym here) e in
          let es : those (live_at (last s)) (page s.pages n).entries ≡ those lives (page s.pages n).entries
          = those-last (last s) (length s.pages) (page s.pages n).level sure.last-low (page s.pages n).entries
          (sure.pages n u).entries in
          let fs : those (live_at (last s)) q.entries ≡ those lives q.entries
          = subst (λ (x : Page). those (live_at (last s)) x.entries ≡ those lives x.entries) here es in
          used-counted least (last s) p e c ∙ ap (λ (x : List Entry). live_shown least (length x)) fs ∙ live-is least q.entries
