-- An input read piece by piece, and what is written for it, where a reader's and a writer's bytes are known. Assumes nothing.
use Rattle.std.proofs.Common.{◌≡◌, ℕ, ◌+◌, ◌*◌, ◌<◌, ◌≤◌, None, Some, IfSome, List, [], ◌∷◌, ◌++◌, length, take, sym, refl, subst, ap, ◌∙◌, append-nil, arith, length-append, length-take-le}
use mathlib.Core.List.{flatten}
use Rattle.std.specs.Prelude.{Option}
use Rattle.std.specs.Io.KnownBytes.{Appends, Consumes, IsAtEnd}
use Rattle.std.proofs.KnownBytes.{Appends-nil, Appends-trans, Consumes-nil, Consumes-trans}
use Rattle.lines.specs.declared.Held.{Held}
use Rattle.lines.specs.declared.Line.{Line}
use Rattle.lines.specs.Console.{records_of}
use Rattle.lines.specs.Reading.{Reading, start, reading, read_on, told, last_of, heard_lines, told_all}
use Rattle.lines.specs.Session.{said, writes, after, written}
use Rattle.lines.proofs.Streams.{read_on-append, told-append, streams}
use Rattle.console.specs.declared.Kept.{Kept}
use Rattle.console.specs.Obeys.{store_in, Sure, Passed}
use Rattle.console.proofs.Whole.{writes-append}

-- from a reader that had `had` to a writer that held `held`: what was read so far, and what was made of it
pub record Served (had now : Option (List ℕ)) (held out : Option (List ℕ)) (bytes : List ℕ) (h : Held) (p reads : ℕ) : Type 0 where
  pub took : List ℕ
  pub read : Consumes had now took
  pub put : Appends held out (writes 4 [] (told start took))
  pub line : reading h ≡ read_on start took
  pub store : store_in bytes p ≡ after 4 [] (told start took)
  pub each : reads ≤ length took
  pub within : reads ≤ 1099511627776
  pub room : h.len ≤ 81
  pub few : h.before ≤ 65536 * reads
  pub pages : p ≤ 256
  pub sure : Sure bytes p

pub not-begun : (had held : Option (List ℕ)) (bytes : List ℕ) (h : Held) → reading h ≡ start → h.len ≤ 81
    → Served had had held held bytes h 0 0
unfolding writes after told read_on
not-begun had held bytes h e room = record {
  took = [];
  read = Consumes-nil had;
  put = Appends-nil held;
  line = e;
  store = refl;
  each = omega arith;
  within = omega arith;
  room = room;
  few = omega (arith, ap (λ (r : Reading). r.before) e);
  pages = omega arith;
  sure = λ t. absurd (omega arith);
}

-- ---- a piece more

after-append : (b : List ℕ) (xs ys : List Line) → after 4 b (xs ++ ys) ≡ after 4 (after 4 b xs) ys
unfolding after
after-append b [] ys = refl
after-append b (x ∷ xs) ys = after-append (said 4 b x.command).store xs ys

-- what is written for some of the input and then for more
module _ (took : List ℕ) (ls : List Line) (b : List ℕ) (e : b ≡ after 4 [] (told start took)) where
  writes-more : writes 4 [] (told start took ++ ls) ≡ writes 4 [] (told start took) ++ writes 4 b ls
  writes-more = rw e (writes-append [] (told start took) ls)

  after-more : after 4 [] (told start took ++ ls) ≡ after 4 b ls
  after-more = rw e (after-append [] (told start took) ls)

pub further-on : {had now held out : Option (List ℕ)} {bytes bytes' : List ℕ} {h : Held} {p reads : ℕ} {k : Kept}
    (now' out' : Option (List ℕ)) (buf : List ℕ) (n reads' : ℕ)
    → Served had now held out bytes h p reads → Consumes now now' (take n buf) → n ≤ length buf → 0 < n → length buf ≡ 65536
    → Passed h (store_in bytes p) (take n buf) bytes' k
    → Appends out out' (writes 4 (store_in bytes p) (told (reading h) (take n buf)))
    → reads' ≡ reads + 1 → reads' ≤ 1099511627776
    → Served had now' held out' bytes' k.held k.pages reads'
further-on {had} {now} {held} {out} {bytes} {bytes'} {h} {p} {reads} {k} now' out' buf n reads' s c le some long q w next within =
    let piece : List ℕ = take n buf in
    let len : length piece ≡ n = length-take-le n buf le in
    let ls : List Line = told (reading h) piece in
    let lines : told start (s.took ++ piece) ≡ told start s.took ++ ls =
    told-append start s.took piece ∙ ap (λ (r : Reading). told start s.took ++ told r piece) (sym s.line) in
    record {
      took = s.took ++ piece;
      read = Consumes-trans had now now' s.took piece s.read c;
      put =
          subst (Appends held out')
          (sym (ap (writes 4 []) lines ∙ writes-more s.took ls (store_in bytes p) s.store))
          (Appends-trans held out out' (writes 4 [] (told start s.took)) (writes 4 (store_in bytes p) ls) s.put w);
      line = q.read ∙ ap (λ (r : Reading). read_on r piece) s.line ∙ sym (read_on-append start s.took piece);
      store = q.store ∙ sym (ap (after 4 []) lines ∙ after-more s.took ls (store_in bytes p) s.store);
      each = omega (arith, s.each, length-append s.took piece);
      within = within;
      room = q.room;
      few = omega (arith, q.few, s.few);
      pages = q.pages;
      sure = q.sure;
    }

-- ---- the end of the input

-- a read that gave nothing, though there was room
pub at-end : (now now' : Option (List ℕ)) (buf : List ℕ) (n : ℕ) → Consumes now now' (take n buf) → n ≡ 0 → IsAtEnd now' → IsAtEnd now
at-end None now' buf n c z e = tt
at-end (Some xs) None buf n c z e = absurd c
at-end (Some xs) (Some ys) buf n c z e = c ∙ ap (λ (m : ℕ). take m buf ++ ys) z ∙ e

-- the lines of an input in one piece
one-piece : (xs : List ℕ) → told start xs ++ heard_lines (last_of (read_on start xs)) ≡ records_of xs
unfolding told_all flatten
one-piece xs = streams (xs ∷ []) ∙ ap records_of (append-nil xs)

all-taken : (xs took : List ℕ) (now : Option (List ℕ)) → Consumes (Some xs) now took → IsAtEnd now → took ≡ xs
all-taken xs took None c e = absurd c
all-taken xs took (Some ys) c e = sym (c ∙ ap (λ (l : List ℕ). took ++ l) e ∙ append-nil took)

taken-most : (xs took : List ℕ) (now : Option (List ℕ)) → Consumes (Some xs) now took → length took ≤ length xs
taken-most xs took None c = absurd c
taken-most xs took (Some ys) c = omega (arith, ap length c, length-append took ys)

pub finished : (had : Option (List ℕ)) {now held out : Option (List ℕ)} {bytes : List ℕ} {h : Held} {p reads : ℕ} (out' : Option (List ℕ))
    → Served had now held out bytes h p reads → (reads < 1099511627776 → IsAtEnd now)
    → Appends out out' (writes 4 (store_in bytes p) (heard_lines (last_of (reading h))))
    → IfSome had (λ xs. length xs < 1099511627776 → Appends held out' (written xs))
finished None out' s e w = tt
finished (Some xs) {now} {held} {out} {bytes} {h} {p} {reads} out' s e w = λ small.
    let ended : IsAtEnd now = e (omega (arith, s.each, taken-most xs s.took now s.read)) in
    let all : s.took ≡ xs = all-taken xs s.took now s.read ended in
    let last : List Line = heard_lines (last_of (reading h)) in
    let lines : told start s.took ++ last ≡ records_of xs =
    ap (λ (r : Reading). told start s.took ++ heard_lines (last_of r)) s.line ∙ one-piece s.took ∙ ap records_of all in
    subst (Appends held out')
    (sym (writes-more s.took last (store_in bytes p) s.store) ∙ ap (writes 4 []) lines)
    (Appends-trans held out out' (writes 4 [] (told start s.took)) (writes 4 (store_in bytes p) last) s.put w)
