-- The live entries of a page, counted after a rule has closed it up. Assumes nothing.
use Prim.Native.Nat.{ℕ, ◌*◌, ◌-◌, ◌^◌, ◌<◌, ◌≤◌}
use mathlib.Core.Path.{◌≡◌, ap, sym, ◌∙◌}
use mathlib.Core.List.{List}
use lib.ListN.{length}
use lib.Seq.{ext_get_or}
use native.Mathlib.Omega.{arith}
use Rattle.model.specs.declared.Entry.{Entry}
use Rattle.model.specs.Page.{Page}
use Rattle.model.specs.Basic.{those}
use Rattle.model.specs.Limits.{live_shown}
use Rattle.model.specs.Field.{zeros}
use Rattle.model.specs.Layout.{lives, live_in, live_of, unused, padded, encode_page, decode_page, read_entries}
use Rattle.page.specs.Head.{head_of, front_bytes, put_live}
use Rattle.page.specs.Exact.{Valid, Exact, encode_with}
use Rattle.page.specs.Stage.{entries_in}
use Rattle.page.proofs.laws.Read.{count-of, entries-of, entries_at, length-entries}
use Rattle.page.proofs.laws.Front.{head-length}
use Rattle.page.proofs.laws.Entries.{entry-get, length-padded, padded-get, padded-sized}
use Rattle.page.proofs.laws.Exact.{live-right, valid-read}
use Rattle.edit.specs.declared.sift.Rule.{Rule}
use Rattle.edit.specs.Sift.{sifted, sifted_page}
use Rattle.edit.proofs.laws.Sift.{fewer}
use Rattle.edit.proofs.laws.Valid.{valid-sifted}

-- of a page whose live count is yet another's
module _ (least : ℕ) (four : 4 ≤ least) (eight : least ≤ 8) where
  with_entries : (q : Page) (m : ℕ) → Valid least q → read_entries (encode_with least q m) 128 (length q.entries) ≡ q.entries
  unfolding encode_with
  with_entries q m v =
      let n : ℕ = length q.entries in
      let b : List ℕ = encode_with least q m in
      ext_get_or unused (read_entries b 128 n) q.entries (length-entries b 128 n) λ k lt.
      let h : k < n = omega (arith, length-entries b 128 n) in
      entries_at b 128 n k h
      ∙ entry-get (front_bytes least (head_of q) m) (zeros (4 * least - 16)) (padded least q.entries) k (head-length least (head_of q) m)
      (omega (arith, v.room, length-padded least q.entries v.room)) (padded-sized least q.entries v.sized k)
      ∙ padded-get least q.entries k

  module _ (p : List ℕ) (x : Exact least p) (r : Rule) (w : ℕ) (small : w < 2 ^ 20) where
    pub sift-live : put_live least (encode_with least (sifted_page r w (decode_page least p)) (live_of least p))
        (live_shown least (length (those lives (read_entries (encode_with least (sifted_page r w (decode_page least p)) (live_of least p)) 128
        (length (sifted r w (entries_in least p)))))))
        ≡ encode_page least (sifted_page r w (decode_page least p))
    unfolding sifted_page live_in
    sift-live =
        let q : Page = sifted_page r w (decode_page least p) in
        let b : List ℕ = encode_with least q (live_of least p) in
        let v : Valid least q = valid-sifted least r w (decode_page least p) small (valid-read least p x.room) in
        let es : entries_in least p ≡ (decode_page least p).entries
        = sym (entries-of least p ∙ ap (read_entries p 128) (sym (count-of least p))) in
        ap (λ (l : List Entry). put_live least b (live_shown least (length (those lives l))))
        (ap (λ (l : List Entry). read_entries b 128 (length (sifted r w l))) es ∙ with_entries q (live_of least p) v)
        ∙ live-right least q (live_of least p) eight v.room

    pub sift-low : length (sifted r w (entries_in least p)) < 64
    sift-low = omega (arith, fewer least four eight p x r w small, x.room)
