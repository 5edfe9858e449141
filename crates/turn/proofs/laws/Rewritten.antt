-- A store's bytes while its pages are rewritten one by one, each by f: what holds of them at each stage, and three laws: at the start, from
-- a page to the next, at the end. Assumes nothing.
use Prim.Native.Nat.{ℕ, ◌+◌, ◌*◌, ◌^◌, ◌≤◌, ◌<◌}
use native.Mathlib.Omega.{arith}
use native.Mathlib.Nat.{mul-le-mul_right}
use mathlib.Core.Path.{◌≡◌, ap, ◌∙◌, subst}
use mathlib.Core.List.{List, map}
use lib.ListN.{length, set}
use Rattle.model.specs.Page.{Page, free}
use Rattle.model.specs.Store.{Store, page}
use Rattle.model.specs.Layout.{page_of, with_page, decode_page, encode_page, encode}
use Rattle.page.specs.Exact.{Valid, Exact}
use Rattle.page.proofs.laws.Exact.{decode-encode, encode-exact}
use Rattle.store.proofs.laws.Parts.{page-fits}
use Rattle.store.specs.Holds.{Holds}
use Rattle.store.proofs.laws.Holds.{encoded-length, page-encoded}
use Rattle.store.specs.Set.{with_pages}
use Rattle.store.proofs.laws.Set.{page-set, holds-page}
use Rattle.turn.proofs.laws.Partly.{partly, partly-at, partly-start, partly-step, partly-end, partly-length}

-- the store's pages below n are written
pub record Rewritten (least : ℕ) (f : Page → Page) (s : Store) (n : ℕ) (b : List ℕ) : Type 0 where
  pub bytes : b ≡ encode least (with_pages s (partly f n s.pages))
  pub holds : Holds least (with_pages s (partly f n s.pages))

module _ (least : ℕ) (four : 4 ≤ least) (eight : least ≤ 8) (f : Page → Page) (s : Store) where
  pub rewritten-start : f free ≡ free → (b : List ℕ) → b ≡ encode least s → Holds least s → Rewritten least f s 5 b
  rewritten-start z b e h =
      let q : s.pages ≡ partly f 5 s.pages = partly-start f z s.pages h.front in
      record {
        bytes = e ∙ ap (λ (ps : List Page). encode least (with_pages s ps)) q;
        holds = subst (λ (ps : List Page). Holds least (with_pages s ps)) q h;
      }

  module _ (n : ℕ) (b : List ℕ) (u : Rewritten least f s n b) where
    abbrev now : Store
    now = with_pages s (partly f n s.pages)

    long : length b ≡ length s.pages * (64 * least)
    long =
        ap (λ (x : List ℕ). length x) u.bytes ∙ encoded-length least four eight now u.holds
        ∙ ap (λ (k : ℕ). k * (64 * least)) (partly-length f n s.pages)

    pub rewritten-short : length b ≤ 2 ^ 40
    rewritten-short =
        let q : length s.pages * (64 * least) ≤ 8192 * (64 * least)
        = mul-le-mul_right (64 * least) (omega (arith, u.holds.most, partly-length f n s.pages)) in
        omega (arith, long)

    pub rewritten-end : length s.pages ≤ n → b ≡ encode least (with_pages s (map f s.pages))
    rewritten-end h = u.bytes ∙ ap (λ (ps : List Page). encode least (with_pages s ps)) (partly-end f n s.pages h)

    module _ (five : 5 ≤ n) (low : n < length s.pages) where
      here : Page
      here = page (partly f n s.pages) n

      valid : Valid least here
      unfolding here
      valid = u.holds.pages n

      part-is : page_of least b n ≡ encode_page least here
      unfolding here
      part-is =
          ap (λ (x : List ℕ). page_of least x n) u.bytes
          ∙ page-encoded least four eight now u.holds n five (omega (arith, partly-length f n s.pages))

      pub rewritten-part : n * (64 * least) + 64 * least ≤ length b
      rewritten-part = page-fits least (length s.pages) n b long low

      pub rewritten-exact : Exact least (page_of least b n)
      rewritten-exact = rw part-is (encode-exact least four eight here valid)

      -- page n is still the store's own
      pub rewritten-own : decode_page least (page_of least b n) ≡ page s.pages n
      unfolding here
      rewritten-own = ap (decode_page least) part-is ∙ decode-encode least four eight _ valid ∙ partly-at f n s.pages

      pub rewritten-step : ((p : Page) → Valid least p → Valid least (f p)) → (c : List ℕ)
          → c ≡ with_page least b n (encode_page least (f (decode_page least (page_of least b n)))) → Rewritten least f s (n + 1) c
      unfolding here
      rewritten-step v c e =
          let q : Page = f (page (partly f n s.pages) n) in
          let d : decode_page least (page_of least b n) ≡ page (partly f n s.pages) n = ap (decode_page least) part-is
          ∙ decode-encode least four eight _ valid in
          let t : set (partly f n s.pages) n q ≡ partly f (n + 1) s.pages = partly-step f n s.pages low in
          record {
            bytes = e ∙ ap (λ (p : Page). with_page least b n (encode_page least (f p))) d
                ∙ ap (λ (x : List ℕ). with_page least x n (encode_page least q)) u.bytes
                ∙ page-set least four eight now u.holds n q five (omega (arith, partly-length f n s.pages))
                ∙ ap (λ (ps : List Page). encode least (with_pages s ps)) t;
            holds = subst (λ (ps : List Page). Holds least (with_pages s ps)) t (holds-page least now u.holds n q five (v _ valid));
          }
