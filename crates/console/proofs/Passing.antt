-- A piece in stretches, each as long as the buffer has room. Assumes nothing.
use Prim.Native.Nat.{ℕ, ◌+◌, ◌-◌, ◌<◌, ◌≤◌}
use native.Mathlib.Nat.{min-le_right}
use native.Mathlib.Omega.{arith}
use Rattle.std.specs.Prelude.{Option}
use Rattle.std.specs.Io.KnownBytes.{Appends}
use Rattle.std.proofs.KnownBytes.{Appends-nil, Appends-trans}
use mathlib.Core.Path.{◌≡◌, refl, ap, sym, subst, ◌∙◌}
use mathlib.Core.List.{List, [], ◌++◌, append-nil, append_assoc}
use lib.ListN.{length, take, drop, length-take, length-drop, drop_of_length-le}
use lib.Seq.{take_all, length-take-le, drop-drop}
use Rattle.lines.specs.declared.Held.{Held}
use Rattle.lines.specs.Reading.{reading, read_on, told}
use Rattle.lines.specs.Session.{writes, after}
use Rattle.console.specs.declared.Filled.{Filled}
use Rattle.console.specs.Obeys.{store_in, Sure, PieceUpto, Passed, CutOff}

-- what is to be written for the piece, the store after it and the line that is being read then, as what is written so far and what is
-- left give them
pub record PieceGoing (h₀ : Held) (b piece bytes : List ℕ) (h : Held) (p at : ℕ) (put : List ℕ) : Type 0 where
  pub written : writes 4 b (told (reading h₀) piece) ≡ put ++ writes 4 (store_in bytes p) (told (reading h) (drop at piece))
  pub store : after 4 b (told (reading h₀) piece) ≡ after 4 (store_in bytes p) (told (reading h) (drop at piece))
  pub read : read_on (reading h₀) piece ≡ read_on (reading h) (drop at piece)
  pub within : at ≤ length piece
  pub room : h.len ≤ 81
  pub few : h.before ≤ h₀.before + at
  pub pages : p ≤ 256
  pub sure : Sure bytes p

-- the same, with what a writer held when the piece began, and what it holds now, where that is known
pub record PieceOut (old new : Option (List ℕ)) (h₀ : Held) (b piece bytes : List ℕ) (h : Held) (p at : ℕ) : Type 0 where
  pub put : List ℕ
  pub out : Appends old new put
  pub going : PieceGoing h₀ b piece bytes h p at put

pub set_out : (known : Option (List ℕ)) (h : Held) (bytes : List ℕ) (pages : ℕ) (piece : List ℕ) → h.len ≤ 81 → pages ≤ 256 → Sure bytes pages
    → PieceOut known known h (store_in bytes pages) piece bytes h pages 0
set_out known h bytes pages piece room few s = record {
  put = [];
  out = Appends-nil known;
  going = record {
    written = refl;
    store = refl;
    read = refl;
    within = omega arith;
    room = room;
    few = omega arith;
    pages = few;
    sure = s;
  };
}

pub part-most : (n : ℕ) (l : List ℕ) → length (take n l) ≤ length l
part-most n l = rw length-take (min-le_right n (length l))

module _ (piece : List ℕ) (at : ℕ) where
  pub length_part : at ≤ length piece → length (take (length piece - at) (drop at piece)) ≡ length piece - at
  length_part h = length-take-le (length piece - at) (drop at piece) (omega (arith, length-drop at piece))

  pub part-moves : {h : Held} {b bytes out : List ℕ} {f : Filled} → PieceUpto h b (take (length piece - at) (drop at piece)) bytes out f
      → (0 < length (take (length piece - at) (drop at piece)) → 0 < f.used) → at < length piece
      → (0 < f.used) × (at + f.used ≤ length piece)
  part-moves u moves l = (moves (omega (arith, length_part (omega arith))), omega (arith, u.within, length_part (omega arith)))

-- what `fill` is lent is all that is left
pub filled-part : {h : Held} {b bytes out : List ℕ} {f : Filled} (piece : List ℕ) (at : ℕ)
    → PieceUpto h b (take (length piece - at) (drop at piece)) bytes out f
    → PieceUpto h b (drop at piece) bytes out f
filled-part {h} {b} {bytes} {out} {f} piece at u =
    subst (λ (c : List ℕ). PieceUpto h b c bytes out f)
    (take_all (length piece - at) (drop at piece) (omega (arith, length-drop at piece))) u

go_on_lem : {h₀ h : Held} {b piece bytes bytes' out put : List ℕ} {pages at : ℕ} {f : Filled} → PieceGoing h₀ b piece bytes h pages at put
    → PieceUpto h (store_in bytes pages) (drop at piece) bytes' out f
    → PieceGoing h₀ b piece bytes' f.held f.pages (at + f.used) (put ++ take f.len out)
go_on_lem {h₀} {h} {b} {piece} {bytes} {bytes'} {out} {put} {pages} {at} {f} g u =
    let e : drop f.used (drop at piece) ≡ drop (at + f.used) piece = drop-drop f.used at piece in
    let left : List ℕ = writes 4 (store_in bytes' f.pages) (told (reading f.held) (drop (at + f.used) piece)) in
    record {
      written =
          g.written
          ∙ ap (λ (c : List ℕ). put ++ c) u.written
          ∙ ap (λ (c : List ℕ). put ++ (take f.len out ++ writes 4 (store_in bytes' f.pages) (told (reading f.held) c))) e
          ∙ sym (append_assoc put (take f.len out) left);
      store = g.store ∙ u.store ∙ ap (λ (c : List ℕ). after 4 (store_in bytes' f.pages) (told (reading f.held) c)) e;
      read = g.read ∙ u.read ∙ ap (read_on (reading f.held)) e;
      within = omega (arith, g.within, u.within, length-drop at piece);
      room = u.room;
      few = omega (arith, g.few, u.few);
      pages = u.pages;
      sure = u.sure;
    }

-- a stretch that was written
pub went_on : {old mid new : Option (List ℕ)} {h₀ h : Held} {b piece bytes bytes' out : List ℕ} {pages at : ℕ} {f : Filled}
    → PieceOut old mid h₀ b piece bytes h pages at → PieceUpto h (store_in bytes pages) (drop at piece) bytes' out f
    → Appends mid new (take f.len out) → PieceOut old new h₀ b piece bytes' f.held f.pages (at + f.used)
went_on {old} {mid} {new} {out = out} {f = f} g u w = record {
  put = g.put ++ take f.len out;
  out = Appends-trans old mid new g.put (take f.len out) g.out w;
  going = go_on_lem g.going u;
}

-- a stretch that was obeyed, and not written
pub stopped : {old mid : Option (List ℕ)} {h₀ h : Held} {b piece bytes bytes' out : List ℕ} {pages at : ℕ} {f : Filled}
    → PieceOut old mid h₀ b piece bytes h pages at → PieceUpto h (store_in bytes pages) (drop at piece) bytes' out f
    → CutOff h₀ b piece bytes'
stopped {piece = piece} {bytes' = bytes'} {out = out} {at = at} {f = f} g u =
    let due : List ℕ = g.put ++ take f.len out in
    let k = go_on_lem g.going u in (
      due,
      record { held = f.held; pages = f.pages; used = at + f.used; len = length due },
      record {
        written =
            k.written
            ∙ ap (λ (c : List ℕ). c ++ writes 4 (store_in bytes' f.pages) (told (reading f.held) (drop (at + f.used) piece)))
            (sym (take_all (length due) due (omega arith)));
        store = k.store;
        read = k.read;
        within = k.within;
        room = k.room;
        few = k.few;
        pages = k.pages;
        sure = k.sure;
        len = omega arith;
      },
    )

module _ {h₀ h : Held} {b piece bytes put : List ℕ} {pages at : ℕ} (g : PieceGoing h₀ b piece bytes h pages at put) (l : length piece ≤ at) where
  nothing-left : drop at piece ≡ []
  nothing-left = drop_of_length-le piece l

  pub arrive : Passed h₀ b piece bytes (record { held = h; pages = pages })
  unfolding after told read_on
  arrive = record {
    store = sym (g.store ∙ ap (λ (c : List ℕ). after 4 (store_in bytes pages) (told (reading h) c)) nothing-left);
    read = sym (g.read ∙ ap (read_on (reading h)) nothing-left);
    room = g.room;
    few = omega (arith, g.few, g.within);
    pages = g.pages;
    sure = g.sure;
  }

  pub all-put : put ≡ writes 4 b (told (reading h₀) piece)
  unfolding writes told
  all-put =
      sym
      (g.written
      ∙ ap (λ (c : List ℕ). put ++ writes 4 (store_in bytes pages) (told (reading h) c)) nothing-left
      ∙ append-nil put)
