-- What a line does to the store and to what is written, and then the lines behind it. Assumes nothing.
use Prim.Native.Nat.{ℕ, ◌+◌, ◌-◌, ◌<◌, ◌≤◌}
use native.Mathlib.Omega.{arith}
use mathlib.Core.Path.{◌≡◌, refl, ap, sym, subst, ◌∙◌}
use mathlib.Core.List.{List, [], ◌++◌, append-nil, append_assoc}
use lib.ListN.{length, take, drop, length-append, length-drop}
use lib.Seq.{take_at, take_all, drop-drop, length-take-le}
use Rattle.std.specs.Prelude.{Option, Some, None}
use Rattle.model.specs.Basic.{flat_map}
use Rattle.lines.specs.declared.Line.{Line}
use Rattle.lines.specs.declared.Held.{Held}
use Rattle.lines.specs.declared.Taken.{Taken}
use Rattle.lines.specs.Answers.{text_of, Put}
use Rattle.lines.specs.Reading.{reading, read_on, told, last_of, heard_lines, Hears}
use Rattle.lines.proofs.Steps.{tells, reads_on}
use Rattle.lines.specs.Session.{writes, after}
use Rattle.console.specs.declared.Obeyed.{Obeyed}
use Rattle.console.specs.declared.Filled.{Filled}
use Rattle.console.specs.Obeys.{store_in, Sure, heard_said, Obeys, PieceUpto, LastWritten}

pub writes-heard : (b : List ℕ) (h : Option Line) (ls : List Line)
    → writes 4 b (heard_lines h ++ ls) ≡ flat_map text_of (heard_said b h).answers ++ writes 4 (heard_said b h).store ls
unfolding writes
writes-heard b (Some l) ls = refl
writes-heard b None ls = refl

pub after-heard : (b : List ℕ) (h : Option Line) (ls : List Line) → after 4 b (heard_lines h ++ ls) ≡ after 4 (heard_said b h).store ls
unfolding after
after-heard b (Some l) ls = refl
after-heard b None ls = refl

-- what was put stands behind what stood before it
take_put : {d d' t : List ℕ} {at r : ℕ} → Put d at t d' r → at ≤ length d → take r d' ≡ take at d ++ t
take_put {d} {d'} {t} {at} {r} p h =
    let front : length (take at d ++ t) ≡ at + length t = rw (length-append, length-take-le at d h) in
    rw (p.out, p.behind) (take_at (take at d ++ t) (drop (at + length t) d) (at + length t) front)

-- ---- before the first line of a piece

pub from-here : (h : Held) (bytes : List ℕ) (pages : ℕ) (piece out : List ℕ) → h.len ≤ 81 → pages ≤ 256 → Sure bytes pages
    → PieceUpto h (store_in bytes pages) piece bytes out (record { held = h; pages = pages; used = 0; len = 0 })
from-here h bytes pages piece out room few s = record {
  written = refl;
  store = refl;
  read = refl;
  within = omega arith;
  room = room;
  few = omega arith;
  pages = few;
  sure = s;
  len = omega arith;
}

-- what `hear` is lent is all that is left
pub from-part : {h : Held} {t : Taken} (piece : List ℕ) (used : ℕ) → Hears h (take (length piece - used) (drop used piece)) t
    → Hears h (drop used piece) t
from-part {h} {t} piece used k =
    subst (λ (c : List ℕ). Hears h c t) (take_all (length piece - used) (drop used piece) (omega (arith, length-drop used piece))) k

pub moves-on : {h : Held} {t : Taken} (piece : List ℕ) (used : ℕ) → Hears h (drop used piece) t → used < length piece
    → (0 < t.used) × (used + t.used ≤ length piece)
moves-on piece used k l = (k.moves (omega (arith, length-drop used piece)), omega (arith, k.within, length-drop used piece))

-- ---- one line more

module _ {h₀ : Held} {b piece bytes out : List ℕ} {f : Filled} (u : PieceUpto h₀ b piece bytes out f) {t : Taken}
    (k : Hears f.held (drop f.used piece) t)
    {bytes' out' : List ℕ} {o : Obeyed} (a : Obeys (heard_said (store_in bytes f.pages) t.heard) bytes' out f.len out' o) where
  abbrev rest : List ℕ
  rest = drop (f.used + t.used) piece

  behind : drop t.used (drop f.used piece) ≡ rest
  behind = drop-drop t.used f.used piece

  telling : told (reading f.held) (drop f.used piece) ≡ heard_lines t.heard ++ told (reading t.held) rest
  telling = tells k u.room ∙ ap (λ (c : List ℕ). heard_lines t.heard ++ told (reading t.held) c) behind

  abbrev left : List Line
  left = told (reading t.held) rest

  abbrev text : List ℕ
  text = flat_map text_of (heard_said (store_in bytes f.pages) t.heard).answers

  written : writes 4 b (told (reading h₀) piece) ≡ take o.at out' ++ writes 4 (store_in bytes' o.pages) left
  written =
      u.written
      ∙ ap (λ (ls : List Line). take f.len out ++ writes 4 (store_in bytes f.pages) ls) telling
      ∙ ap (λ (x : List ℕ). take f.len out ++ x) (writes-heard (store_in bytes f.pages) t.heard left)
      ∙ sym (append_assoc (take f.len out) text (writes 4 (heard_said (store_in bytes f.pages) t.heard).store left))
      ∙ ap (λ (x : List ℕ). take f.len out ++ text ++ writes 4 x left) (sym a.store)
      ∙ ap (λ (x : List ℕ). x ++ writes 4 (store_in bytes' o.pages) left) (sym (take_put a.put u.len))

  store : after 4 b (told (reading h₀) piece) ≡ after 4 (store_in bytes' o.pages) left
  store =
      u.store
      ∙ ap (after 4 (store_in bytes f.pages)) telling
      ∙ after-heard (store_in bytes f.pages) t.heard left
      ∙ ap (λ (x : List ℕ). after 4 x left) (sym a.store)

  pub one_more : o.at ≤ length out' → PieceUpto h₀ b piece bytes' out'
      (record { held = t.held; pages = o.pages; used = f.used + t.used; len = o.at })
  one_more len = record {
    written = written;
    store = store;
    read = u.read ∙ reads_on k u.room ∙ ap (read_on (reading t.held)) behind;
    within = omega (arith, k.within, u.within, length-drop f.used piece);
    room = k.room;
    few = omega (arith, k.few, u.few);
    pages = a.pages;
    sure = a.sure;
    len = len;
  }

-- ---- the end of the input

nothing : (t c : List ℕ) → t ++ writes 4 c [] ≡ t
unfolding writes
nothing t c = append-nil t

pub ended : {h : Held} {b bytes d d' : List ℕ} {o : Obeyed} (x : Option Line) → x ≡ last_of (reading h) → Obeys (heard_said b x) bytes d 0 d' o
    → o.at ≤ length d' → LastWritten h b d' o.at
ended {h} {b} {bytes} {d} {d'} {o} x e a len = record {
  written =
      ap (λ (y : Option Line). writes 4 b (heard_lines y)) (sym e)
      ∙ ap (writes 4 b) (sym (append-nil (heard_lines x)))
      ∙ writes-heard b x []
      ∙ nothing (flat_map text_of (heard_said b x).answers) (heard_said b x).store
      ∙ sym (take_put a.put (omega arith));
  room = len;
}
