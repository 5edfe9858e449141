-- Laws about edit/specs/Sift. Assumes nothing.
use Prim.Native.Nat.{ℕ, ◌+◌, ◌*◌, ◌-◌, ◌^◌, ◌<◌, ◌≤◌}
use mathlib.Core.Path.{◌≡◌, refl, ap, sym, ◌∙◌}
use Rattle.std.specs.Prelude.{Option, Some, None}
use mathlib.Core.List.{List, [], ◌∷◌, ◌++◌, append_assoc, append-nil}
use lib.ListN.{length, get_or, take, length-append}
use lib.Seq.{take-suc}
use native.Mathlib.Numerals.{add-one}
use native.Mathlib.Omega.{arith}
use Rattle.model.specs.declared.Entry.{Entry}
use Rattle.model.specs.Page.{Page}
use Rattle.model.specs.Field.{lay}
use Rattle.model.specs.Layout.{live_of, unused, entry_parts, count_of, decode_page, read_entry, read_entries}
use Rattle.page.specs.declared.Head.{Head}
use Rattle.page.specs.Head.{read_head, put_head, HeadFits}
use Rattle.page.specs.Read.{FieldsFit}
use Rattle.page.proofs.laws.Read.{count-of, entries-of, level-of, start_of, end-of, length-entries}
use Rattle.page.proofs.laws.Front.{read_fits}
use Rattle.page.proofs.laws.Editions.{count_bits_lem}
use Rattle.page.specs.Exact.{Exact, encode_with}
use Rattle.page.specs.Stage.{staged, blanked, entries_in}
use Rattle.page.proofs.laws.Stage.{staged-from, staged-put, staged-read, staged-shut}
use Rattle.edit.specs.declared.sift.Rule.{Rule}
use Rattle.edit.specs.Fate.{fate_of, end_of, left, laid}
use Rattle.edit.proofs.laws.Fate.{Sized, end_fits}
use Rattle.edit.specs.Sift.{sifted, sifted_page}

-- the front of a page under a rule, with so many entries
abbrev pub sifted_head : Rule → ℕ → Head → ℕ → Head
sifted_head r w h n = record { level = h.level; count = n; start = h.start; end = end_of r w h.end }

sifted-append : (r : Rule) (w : ℕ) (a b : List Entry) → sifted r w (a ++ b) ≡ sifted r w a ++ sifted r w b
unfolding sifted
sifted-append r w [] b = refl
sifted-append r w (e ∷ a) b = rw (sifted-append r w a b, append_assoc (left (fate_of r w e)) (sifted r w a) (sifted r w b))

pub sifted-none : (r : Rule) (w : ℕ) → sifted r w [] ≡ []
unfolding sifted
sifted-none r w = refl

pub sifted-more : (r : Rule) (w : ℕ) (es : List Entry) (i : ℕ) → i < length es
    → sifted r w (take (i + 1) es) ≡ sifted r w (take i es) ++ left (fate_of r w (get_or es i unused))
unfolding sifted
sifted-more r w es i h =
    rw (
      add-one,
      take-suc es i unused h,
      sifted-append r w (take i es) (get_or es i unused ∷ []),
      append-nil (left (fate_of r w (get_or es i unused))),
    )

pub length-left : (f : Option Entry) → length (left f) ≤ 1
length-left None = omega arith
length-left (Some e) = omega arith

pub sifted-short : (r : Rule) (w : ℕ) (es : List Entry) → length (sifted r w es) ≤ length es
unfolding sifted
sifted-short r w [] = omega arith
sifted-short r w (e ∷ es) =
    omega (arith, length-append (left (fate_of r w e)) (sifted r w es), length-left (fate_of r w e), sifted-short r w es)

-- ---- the last stage of `sift`

module _ (least : ℕ) (four : 4 ≤ least) (eight : least ≤ 8) (p : List ℕ) (x : Exact least p) (r : Rule) (w : ℕ) (small : w < 2 ^ 20) where
  abbrev out : List Entry
  out = sifted r w (entries_in least p)

  pub fewer : length (sifted r w (entries_in least p)) ≤ count_of least p
  fewer = omega (arith, sifted-short r w (entries_in least p), length-entries p 128 (count_of least p))

  pub head-fits : HeadFits least (sifted_head r w (read_head least p) (length (sifted r w (entries_in least p))))
  head-fits =
      let f : HeadFits least (read_head least p) = read_fits least p in
      record {
        level = f.level;
        count = omega (arith, fewer, x.room, count_bits_lem least eight);
        start = f.start;
        end = end_fits r w (read_head least p).end f.end small;
      }

  pub sift-end : put_head least
      (blanked (staged least p (sifted r w (entries_in least p))) (length (sifted r w (entries_in least p)))
      (count_of least p - length (sifted r w (entries_in least p))))
      (sifted_head r w (read_head least p) (length (sifted r w (entries_in least p))))
      ≡ encode_with least (sifted_page r w (decode_page least p)) (live_of least p)
  unfolding sifted_page
  sift-end =
      let es : entries_in least p ≡ (decode_page least p).entries
      = sym (entries-of least p ∙ ap (read_entries p 128) (sym (count-of least p))) in
      staged-shut least four eight p x out (sifted_head r w (read_head least p) (length out)) fewer head-fits refl
      ∙ ap (λ (q : Page). encode_with least q (live_of least p))
      (λ i. record {
        level = sym (level-of least p) i;
        start = sym (start_of least p) i;
        end = end_of r w (sym (end-of least p) i);
        entries = sifted r w (es i);
      })

-- ---- the stages of its loop

-- q is p with these entries first: the limits are not named where the loop runs
abbrev pub Staged : List ℕ → ℕ → List Entry → List ℕ → Type 0
Staged p n out q = (least : ℕ) → 4 ≤ least → least ≤ 8 → Exact least p → n ≡ count_of least p → q ≡ staged least p out

pub sift-none : (p : List ℕ) (n : ℕ) (r : Rule) (w : ℕ) → Staged p n (sifted r w (take 0 (read_entries p 128 n))) p
sift-none p n r w least four eight x e = staged-from least four eight p x 0 (omega arith) ∙ ap (staged least p) (sym (sifted-none r w))

-- an entry is read as it was
pub sift-read : (p q : List ℕ) (n : ℕ) (out : List Entry) (i least : ℕ) → 4 ≤ least → least ≤ 8 → Exact least p → n ≡ count_of least p
    → Staged p n out q → length out ≤ i → i < n
    → read_entry q (128 + 96 * i) ≡ get_or (read_entries p 128 n) i unused
sift-read p q n out i least four eight x e s h lt =
    ap (λ (b : List ℕ). read_entry b (128 + 96 * i)) (s least four eight x e) ∙ staged-read least four eight p x out i h (omega arith)
    ∙ ap (λ (k : ℕ). get_or (read_entries p 128 k) i unused) (sym e)

-- one that is kept is written
sift-put : (p q : List ℕ) (n : ℕ) (out : List Entry) (e : Entry) → Staged p n out q → length out < n → FieldsFit e
    → Staged p n (out ++ e ∷ []) (lay q (128 + 96 * length out) (entry_parts e))
sift-put p q n out e s lt z least four eight x c =
    ap (λ (b : List ℕ). lay b (128 + 96 * length out) (entry_parts e)) (s least four eight x c)
    ∙ staged-put least four eight p x out e (omega (arith, x.room)) z

-- one fate more
pub sift-step : (p q : List ℕ) (n : ℕ) (out : List Entry) (f : Option Entry) → Staged p n out q → length out < n → Sized f
    → Staged p n (out ++ left f) (laid q (length out) f)
sift-step p q n out (Some e) s lt z = sift-put p q n out e s lt z
sift-step p q n out None s lt z = λ least four eight x e. s least four eight x e ∙ ap (staged least p) (sym (append-nil out))
