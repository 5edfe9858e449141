-- Laws about page/specs/Over. Assumes nothing.
use Prim.Native.Nat.{ℕ, suc, ◌+◌, ◌*◌, ◌-◌, ◌<◌, ◌≤◌}
use mathlib.Core.Path.{◌≡◌, refl, ap, sym, ◌∙◌}
use mathlib.Core.List.{List, [], ◌∷◌, ◌++◌, append_assoc}
use native.Mathlib.Omega.{arith}
use lib.ListN.{length, get_or, set, take, drop, replicate, length-append, length-drop, length-replicate, take-append-drop}
use lib.ListN.{replicate-append-replicate, get_or-append}
use lib.Seq.{drop-cons, set_at, get_or-append-add, get_or-drop, length-take-le, drop_at, drop-drop}
use Rattle.model.specs.declared.Entry.{Entry}
use Rattle.model.specs.Layout.{unused, padded}
use Rattle.page.specs.Over.{over}

pub length_over : (out l : List Entry) → length out ≤ length l → length (over out l) ≡ length l
unfolding over
length_over out l h = simp (length-append, length-drop) (omega arith)

pub over-put : (out l : List Entry) (x : Entry) → length out < length l → set (over out l) (length out) x ≡ over (out ++ x ∷ []) l
unfolding over
over-put out l x h =
    let e : length (out ++ x ∷ []) ≡ suc (length out) = length-append out (x ∷ []) ∙ omega arith in
    rw (e, append_assoc out (x ∷ []) (drop (suc (length out)) l), drop-cons l (length out) unused h)
    (set_at out (get_or l (length out) unused) (drop (suc (length out)) l) x (length out) refl)

-- one of those written, written again
pub over-set : (u v l : List Entry) (a b : Entry) → set (over (u ++ a ∷ v) l) (length u) b ≡ over (u ++ b ∷ v) l
unfolding over
over-set u v l a b =
    let d : List Entry = drop (length (u ++ a ∷ v)) l in
    let e : length (u ++ a ∷ v) ≡ length (u ++ b ∷ v) = length-append u (a ∷ v) ∙ sym (length-append u (b ∷ v)) in
    ap (λ (x : List Entry). set x (length u) b) (append_assoc u (a ∷ v) d) ∙ set_at u a (v ++ d) b (length u) refl
    ∙ sym (append_assoc u (b ∷ v) d) ∙ ap (λ (n : ℕ). (u ++ b ∷ v) ++ drop n l) e

pub over-low : (out l : List Entry) (i : ℕ) → i < length out → get_or (over out l) i unused ≡ get_or out i unused
unfolding over
over-low out l i h = get_or-append out (drop (length out) l) unused i h

pub over-high : (out l : List Entry) (i : ℕ) → length out ≤ i → get_or (over out l) i unused ≡ get_or l i unused
unfolding over
over-high out l i h =
    let e : i ≡ length out + (i - length out) = omega arith in
    let f : length out + (i - length out) ≡ i = omega arith in
    ap (λ (x : ℕ). get_or (out ++ drop (length out) l) x unused) e ∙ get_or-append-add out (drop (length out) l) (i - length out) unused
    ∙ get_or-drop (length out) l (i - length out) unused ∙ ap (λ (x : ℕ). get_or l x unused) f

-- its own first ones
pub over-own : (l : List Entry) (i : ℕ) → i ≤ length l → over (take i l) l ≡ l
unfolding over
over-own l i h = rw (length-take-le i l h) (take-append-drop i l)

drop-unused : (n k t : ℕ) → n + k ≡ t → drop n (replicate t unused) ≡ replicate k unused
drop-unused n k t e =
    rw (← e, ← replicate-append-replicate n k unused) (drop_at (replicate n unused) (replicate k unused) n (length-replicate n unused))

-- at least as many as were in use
pub over-padded : (least : ℕ) (out es : List Entry) → length es ≤ length out → length out ≤ 5 * least
    → over out (padded least es) ≡ padded least out
unfolding over padded
over-padded least out es h k =
    let n : ℕ = length out - length es in
    let u : List Entry = replicate (5 * least - length es) unused in
    let e : length out ≡ length es + n = omega arith in
    let d : drop (length out) (es ++ u) ≡ drop n u
    = ap (λ (x : ℕ). drop x (es ++ u)) e ∙ sym (drop-drop n (length es) (es ++ u)) ∙ ap (drop n) (drop_at es u (length es) refl) in
    ap (λ (x : List Entry). out ++ x) (d ∙ drop-unused n (5 * least - length out) (5 * least - length es) (omega arith))

pub padded-unused : (least : ℕ) (out : List Entry) (n : ℕ) → length out + n ≤ 5 * least
    → padded least (out ++ replicate n unused) ≡ padded least out
unfolding padded
padded-unused least out n h =
    let e : length (out ++ replicate n unused) ≡ length out + n = length-append out (replicate n unused)
    ∙ ap (λ (x : ℕ). length out + x) (length-replicate n unused) in
    let f : n + (5 * least - (length out + n)) ≡ 5 * least - length out = omega arith in
    rw (
      e,
      append_assoc out (replicate n unused) (replicate (5 * least - (length out + n)) unused),
      replicate-append-replicate n (5 * least - (length out + n)) unused,
      f,
    )

pub length-blank : (out : List Entry) (n : ℕ) → length (out ++ replicate n unused) ≡ length out + n
length-blank out n = length-append out (replicate n unused) ∙ ap (λ (x : ℕ). length out + x) (length-replicate n unused)
