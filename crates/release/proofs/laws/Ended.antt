-- A leaf that ended by the current version has nothing of the open one: "An entry's span lies in its page's span". Assumes nothing.
use Prim.Native.Nat.{ℕ, ◌≤◌, ◌<◌}
use native.Mathlib.Omega.{arith}
use mathlib.Core.Bool.{true, false}
use mathlib.Core.Path.{◌≡◌, refl, ap, sym, ◌∙◌}
use mathlib.Core.Logic.{inl}
use mathlib.Core.List.{List}
use borrow.Author.Tests.{ne_eqb}
use Rattle.model.specs.Basic.{all}
use Rattle.model.specs.declared.Entry.{Entry}
use Rattle.model.specs.declared.Limits.{Limits}
use Rattle.model.specs.Page.{Page, is_free}
use Rattle.model.specs.Store.{Store, page, next}
use Rattle.model.specs.Layout.{page_of, decode_page, decode}
use Rattle.model.proofs.lists.Members.{all-by}
use Rattle.model.proofs.sound.ByRule.{entry_of}
use Rattle.model.proofs.sound.Ready.{level-used}
use Rattle.page.specs.Head.{read_head}
use Rattle.store.proofs.laws.Read.{page-at}
use Rattle.store.proofs.laws.Sure.{sure}
use Rattle.walk.proofs.laws.Sure.{five, size}
use Rattle.release.specs.Settled.{settled}
use Rattle.release.specs.Opened.{Opened}

module _ (s : Store) (p : Page) (h : p.end < next s) where
  quiet : (e : Entry) → e.end ≤ p.end → e.start < e.end → settled s e ≡ true
  quiet e a b =
      rw (
        ne_eqb e.start (next s) (λ (z : e.start ≡ next s). omega (arith, z, h, a, b)),
        ne_eqb e.end (next s) (λ (z : e.end ≡ next s). omega (arith, z, h, a)),
      )

end_read : (least : ℕ) (p : List ℕ) → (decode_page least p).end ≡ (read_head least p).end
unfolding decode_page read_head
end_read least p = refl

module _ {l : Limits} {b : List ℕ} {c : ℕ} (o : Opened l b c) (n : ℕ) (e : (page (decode l.least b).pages n).level ≡ 1) where
  end_is : (page (decode l.least b).pages n).end ≡ (read_head l.least (page_of l.least b n)).end
  end_is =
      ap (λ (p : Page). p.end) (page-at l.least b n (five o.edition b o.sound n 0 e) (size o.edition b o.sound n 0 e))
      ∙ end_read l.least (page_of l.least b n)

  pub ended-settled : (read_head l.least (page_of l.least b n)).end ≤ c
      → true ≡ all (settled (decode l.least b)) (page (decode l.least b).pages n).entries
  ended-settled h =
      let s : Store = decode l.least b in
      let d = sure o.edition b o.sound in
      let u : is_free (page s.pages n) ≡ false = level-used (page s.pages n) 0 e in
      sym (all-by (settled s) (page s.pages n).entries (λ x i.
      let g = entry_of l.least s d n u x i in
      quiet s (page s.pages n) (omega (arith, h, end_is, o.current)) x (g.sooner (inl e)) g.span.some))
