-- A step to the next newline tells what its bytes tell, one by one: what a loop over a piece goes by. Assumes nothing.
use Rattle.std.proofs.Common.{◌≡◌, ℕ, suc, ◌+◌, ◌<◌, ◌≤◌, Bool, true, false, eqb, List, [], ◌∷◌, ◌++◌, length, get_or, take, drop, sym, refl, ap, ◌∙◌, subst, append_assoc, append-nil, add-one, arith, take-append-drop, length-take, take_all, drop-cons, eqb-true}
use native.Mathlib.Decide.{dec_lt}
use native.Mathlib.Nat.{min-le_left}
use Rattle.lines.specs.declared.Command.{Command}
use Rattle.lines.specs.declared.Held.{Held}
use Rattle.lines.specs.declared.Taken.{Taken}
use Rattle.lines.specs.Words.{until, until_by}
use Rattle.lines.specs.Console.{command_of}
use Rattle.lines.specs.Reading.{Reading, kept, push_by, read_on, told, heard_lines, Step, step_by, ended, step_of, reading, shown, Hears}
use Rattle.lines.proofs.Keeping.{take_again, step-whole, step_part}
use Rattle.lines.proofs.Streams.{enough, told-append, read_on-append}

-- ---- the bytes before a mark, and the mark

mark-by : (mark b : ℕ) (bs : List ℕ) (u : Bool) → eqb b mark ≡ u
    → (until mark bs < length bs → get_or bs (until mark bs) 0 ≡ mark)
    → until_by u (until mark bs) < suc (length bs) → get_or (b ∷ bs) (until_by u (until mark bs)) 0 ≡ mark
mark-by mark b bs true q rest h = eqb-true b mark q
mark-by mark b bs false q rest h = rest (omega arith)

until-mark : (mark : ℕ) (l : List ℕ) → until mark l < length l → get_or l (until mark l) 0 ≡ mark
unfolding until
until-mark mark [] h = absurd (omega arith)
until-mark mark (b ∷ bs) h = mark-by mark b bs (eqb b mark) refl (until-mark mark bs) h

-- ---- bytes that are no newline

quiet_by : (r : Reading) (b : ℕ) (bs : List ℕ) (u : Bool) → eqb b 10 ≡ u → told (kept r (b ∷ [])) (take (until 10 bs) bs) ≡ []
    → told r (take (until_by u (until 10 bs)) (b ∷ bs)) ≡ []
unfolding told
quiet_by r b bs true q rest = refl
quiet_by r b bs false q rest = rw q rest

quiet : (r : Reading) (c : List ℕ) → told r (take (until 10 c) c) ≡ []
unfolding told until
quiet r [] = refl
quiet r (b ∷ bs) = quiet_by r b bs (eqb b 10) refl (quiet (kept r (b ∷ [])) bs)

kept-none : (r : Reading) → length r.text ≤ 81 → kept r [] ≡ r
kept-none r h = ap (λ (t : List ℕ). record { text = t; before = r.before }) (rw append-nil (take_all 81 r.text h))

kept-twice : (r : Reading) (b : ℕ) (w : List ℕ) → kept (kept r (b ∷ [])) w ≡ kept r (b ∷ w)
kept-twice r b w =
    ap (λ (t : List ℕ). record { text = t; before = r.before })
    (take_again 81 (r.text ++ (b ∷ [])) w ∙ ap (take 81) (append_assoc r.text (b ∷ []) w))

kept-room : (r : Reading) (w : List ℕ) → length (kept r w).text ≤ 81
kept-room r w = rw length-take (min-le_left 81 (length (r.text ++ w)))

read_by : (r : Reading) (b : ℕ) (bs : List ℕ) → length r.text ≤ 81 → (u : Bool) → eqb b 10 ≡ u
    → read_on (kept r (b ∷ [])) (take (until 10 bs) bs) ≡ kept (kept r (b ∷ [])) (take (until 10 bs) bs)
    → read_on r (take (until_by u (until 10 bs)) (b ∷ bs)) ≡ kept r (take (until_by u (until 10 bs)) (b ∷ bs))
unfolding read_on
read_by r b bs h true q rest = sym (kept-none r h)
read_by r b bs h false q rest =
    ap (λ (u : Bool). read_on (push_by u r b) (take (until 10 bs) bs)) q ∙ rest ∙ kept-twice r b (take (until 10 bs) bs)

read-quiet : (r : Reading) (c : List ℕ) → length r.text ≤ 81 → read_on r (take (until 10 c) c) ≡ kept r (take (until 10 c) c)
unfolding read_on until
read-quiet r [] h = sym (kept-none r h)
read-quiet r (b ∷ bs) h = read_by r b bs h (eqb b 10) refl (read-quiet (kept r (b ∷ [])) bs (kept-room r (b ∷ [])))

-- ---- the step

-- a line that ended with its bytes kept
pub step-kept : (r : Reading) (c : List ℕ) (e : ℕ) (k : Command) {m : Reading} → m ≡ kept r (take e c) → e ≡ until 10 c → e < length c
    → k ≡ command_of m.text → ended m k e ≡ step_of r c
step-kept r c e k {m} more found h said = (λ i. ended m (said i) e) ∙ ap (λ (x : Reading). step_by true x e) more ∙ step-whole r c e found h

-- nothing is held of a line that is whole in the piece: its text there tells what the bytes kept of it would tell
pub step-standing : (r : Reading) (c : List ℕ) (e : ℕ) (k : Command) → r.text ≡ [] → e ≡ until 10 c → e < length c
    → k ≡ command_of (take e c) → ended r k e ≡ step_of r c
step-standing r c e k none found h said =
    let same : command_of (take 81 (r.text ++ take e c)) ≡ command_of (take e c) = rw none (enough (take e c)) in
    (λ i. ended r ((said ∙ sym same) i) e) ∙ step-whole r c e found h

-- what is to be heard of a line that ended
pub hears-ended : {h : Held} {c : List ℕ} {t : Taken} (r : Reading) (k : Command) (e : ℕ) → shown t ≡ ended r k e
    → ended r k e ≡ step_of (reading h) c → r.before ≡ h.before → t.held.len ≤ 81 → e < length c → Hears h c t
hears-ended {h} {c} {t} r k e p q same room within =
    let used : t.used ≡ e + 1 = ap (λ (s : Step). s.used) p in
    let before : t.held.before ≡ r.before + 1 = ap (λ (s : Step). s.after.before) p in
    record { step = p ∙ q; room = room; moves = λ _. omega arith; within = omega arith; few = omega arith }

module _ (r : Reading) (c : List ℕ) (room : length r.text ≤ 81) where
  -- the bytes up to the newline, and the rest
  parted : c ≡ take (until 10 c) c ++ drop (until 10 c) c
  parted = sym (take-append-drop (until 10 c) c)

  told-parts : told r c ≡ told (kept r (take (until 10 c) c)) (drop (until 10 c) c)
  told-parts =
      ap (told r) parted ∙ told-append r (take (until 10 c) c) (drop (until 10 c) c)
      ∙ rw (quiet r c, read-quiet r c room)

  read-parts : read_on r c ≡ read_on (kept r (take (until 10 c) c)) (drop (until 10 c) c)
  read-parts =
      ap (read_on r) parted ∙ read_on-append r (take (until 10 c) c) (drop (until 10 c) c)
      ∙ ap (λ (x : Reading). read_on x (drop (until 10 c) c)) (read-quiet r c room)

  -- what the bytes tell is the step's line, if it has one, and what the bytes behind it tell
  abbrev Follows : Step → Type 0
  Follows s = (told r c ≡ heard_lines s.heard ++ told s.after (drop s.used c)) × (read_on r c ≡ read_on s.after (drop s.used c))

  newline : until 10 c < length c → drop (until 10 c) c ≡ 10 ∷ drop (until 10 c + 1) c
  newline h = rw (add-one, drop-cons c (until 10 c) 0 h, until-mark 10 c h)

  pub follows : Follows (step_of r c)
  unfolding told read_on
  follows = by (dec_lt (until 10 c) (length c)) where
    by : Dec (until 10 c < length c) → Follows (step_of r c)
    by (yes h) = rw (← step-whole r c (until 10 c) refl h) (rw (newline h) at told-parts, rw (newline h) at read-parts)
    by (no h) = rw (← step_part r c (until 10 c) refl (omega arith)) (told-parts, read-parts)

-- what `hear` gives, in the same words: for a loop over a piece
module _ {h : Held} {c : List ℕ} {t : Taken} (k : Hears h c t) (room : h.len ≤ 81) where
  held-room : length (reading h).text ≤ 81
  held-room = rw length-take (omega (arith, min-le_left h.len (length h.bytes)))

  heard-on : Follows (reading h) c held-room (shown t)
  heard-on = subst (Follows (reading h) c held-room) (sym k.step) (follows (reading h) c held-room)

  pub tells : told (reading h) c ≡ heard_lines t.heard ++ told (reading t.held) (drop t.used c)
  tells = heard-on.0

  pub reads_on : read_on (reading h) c ≡ read_on (reading t.held) (drop t.used c)
  reads_on = heard-on.1
