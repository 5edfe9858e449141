-- Laws about parts/specs/Kept. Assumes nothing.
use Prim.Native.Nat.{ℕ, suc, ◌+◌, ◌*◌, ◌^◌, ◌<◌, ◌≤◌}
use mathlib.Core.Bool.{true, false}
use mathlib.Core.Path.{◌≡◌, ap, sym, ◌∙◌}
use mathlib.Core.List.{List}
use native.Mathlib.Nat.{mul-le-mul_right}
use native.Mathlib.Omega.{arith}
use lib.ListN.{length}
use Rattle.model.specs.declared.Limits.{Limits}
use Rattle.model.specs.Limits.{Edition}
use Rattle.model.specs.Field.{Bytes}
use Rattle.model.specs.Judged.{is_sound}
use Rattle.model.specs.Page.{is_free, pairs_at, wanted}
use Rattle.model.specs.Store.{Store, page}
use Rattle.model.specs.Layout.{page_of, encode_page, decode_page, decode, read_header, header_of}
use Rattle.page.specs.Exact.{Valid, Exact}
use Rattle.page.proofs.laws.Exact.{encode-exact, decode-encode}
use Rattle.store.proofs.laws.Parts.{page-fits}
use Rattle.store.proofs.laws.Holds.{encoded-length, page-encoded, header-encoded}
use Rattle.store.proofs.laws.Sure.{sure, held, same_bytes}
use Rattle.model.proofs.sound.ByRule.{used-in, high_used}
use Rattle.model.proofs.sound.Ready.{level-used}
use Rattle.model.proofs.needs.Sizes.{pairs-few, wanted-few}
use Rattle.edit.specs.declared.Change as code
use Rattle.edit.specs.Change.{change_of}
use Rattle.gather.specs.Kept.{Counted, Fits}
use Rattle.gather.proofs.laws.Kept.{takes-few}
use Rattle.parts.specs.Kept.{pages_of, ExactBytes, Inside}

-- a sound store's bytes
module _ {l : Limits} (d : Edition l) (b : List ℕ) (h : is_sound l.least b ≡ true) where
  pub kept-sound : Bytes b → ExactBytes l b
  kept-sound z = record { edition = d; holds = held d b h z; same = same_bytes d b h z; most = (sure d b h).short }

  -- a page that is not free is one of them
  pub inside-used : (n up : ℕ) → (page (pages_of l b) n).level ≡ suc up → Inside l b n
  inside-used n up e =
      let used : is_free (page (pages_of l b) n) ≡ false = level-used (page (pages_of l b) n) up e in
      record { low = high_used (decode l.least b) n (sure d b h).front used; high = used-in (pages_of l b) n used }

module _ {l : Limits} {b : List ℕ} (k : ExactBytes l b) where
  abbrev s : Store
  s = decode l.least b

  pub long : length b ≡ length (pages_of l b) * (64 * l.least)
  long = ap length (sym k.same) ∙ encoded-length l.least k.edition.four k.edition.eight s k.holds

  pub short : length b ≤ 2 ^ 40
  short =
      let q : length (pages_of l b) * (64 * l.least) ≤ 4096 * (64 * l.least) = mul-le-mul_right (64 * l.least) k.most in
      omega (arith, long, k.edition.eight)

  pub front : 5 * (64 * l.least) ≤ length b
  front =
      let q : 5 * (64 * l.least) ≤ length (pages_of l b) * (64 * l.least) = mul-le-mul_right (64 * l.least) k.holds.five in
      omega (arith, long)

  pub header_is : read_header l.least b ≡ header_of (decode l.least b)
  header_is = ap (read_header l.least) (sym k.same) ∙ header-encoded l.least k.edition.four k.edition.eight s k.holds

  module _ {n : ℕ} (i : Inside l b n) where
    pub part_in : n * (64 * l.least) + 64 * l.least ≤ length b
    part_in = page-fits l.least (length (pages_of l b)) n b long i.high

    pub valid : Valid l.least (page (pages_of l b) n)
    valid = k.holds.pages n

    part-is : page_of l.least b n ≡ encode_page l.least (page (pages_of l b) n)
    part-is =
        ap (λ (x : List ℕ). page_of l.least x n) (sym k.same)
        ∙ page-encoded l.least k.edition.four k.edition.eight s k.holds n i.low i.high

    pub exact : Exact l.least (page_of l.least b n)
    exact = rw part-is (encode-exact l.least k.edition.four k.edition.eight (page (pages_of l b) n) valid)

    -- the page that its part shows
    pub shown : decode_page l.least (page_of l.least b n) ≡ page (pages_of l b) n
    shown = rw part-is (decode-encode l.least k.edition.four k.edition.eight (page (pages_of l b) n) valid)

    pub counted : Counted l (page_of l.least b n)
    counted = record { edition = k.edition; long = exact.size; room = exact.room }

    -- how many pairs are alive in it
    pub live-few : (w : ℕ) → length (pairs_at w (page (pages_of l b) n)) ≤ 5 * l.least
    live-few w = omega (arith, pairs-few w (page (pages_of l b) n), valid.room)

    -- and wanted
    pub wanted_room : (w : ℕ) (c : code.Change) → Fits c → length (wanted w (change_of c) (page (pages_of l b) n)) < 7 * l.least
    wanted_room w c f = omega (arith, wanted-few w (change_of c) (page (pages_of l b) n), valid.room, takes-few c f, k.edition.four)
