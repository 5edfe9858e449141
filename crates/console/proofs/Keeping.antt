-- The store in the front of the program's bytes, lent to a call and given back. Assumes nothing.
use Prim.Native.Nat.{ℕ, ◌*◌, ◌%◌, ◌<◌, ◌≤◌}
use mathlib.Core.Path.{◌≡◌, refl, ap, sym, subst, ◌∙◌}
use mathlib.Core.Bool.{true}
use mathlib.Core.List.{List, [], ◌∷◌, ◌++◌}
use lib.ListN.{length, take, drop}
use lib.Seq.{take_at, length-take-le}
use native.Mathlib.Omega.{arith}
use borrow.Author.Tests.{eq-eqb, le-leb, lt-leb}
use Rattle.model.specs.declared.Limits.{Limits}
use Rattle.model.specs.Store.{Store, fresh}
use Rattle.model.specs.Layout.{size_of, encode, decode}
use Rattle.model.specs.Judged.{judged, is_sound, length_ok}
use Rattle.model.specs.Climb.{Result}
use Rattle.model.specs.Calls.{insert, delete, begin, commit, abandon}
use Rattle.model.specs.Lent.{Outcome, leaving, left, judged_first, lent, open_lent, insert_lent, delete_lent, commit_lent, abandon_lent}
use Rattle.model.specs.Lent.{fresh_lent}
use Rattle.store.proofs.laws.Answers.{done-store}
use Rattle.lines.specs.declared.Answer.TheVariants.{Done, Refused}
use Rattle.lines.specs.Session.{Said, answered, outcome, stored, settings}
use Rattle.console.specs.declared.Reply.{Reply}
use Rattle.console.specs.Obeys.{store_in, Sure, Single, Replies}
use Rattle.console.proofs.Staying.{made-sound}

-- the part that is lent
pub front : (bytes : List ℕ) (pages : ℕ) → pages ≤ 256 → length bytes ≡ 65536 → pages * 256 ≡ length (store_in bytes pages)
front bytes pages h e = sym (length-take-le (pages * 256) bytes (omega arith))

-- the part that came back
pub back : (q z : List ℕ) (pages : ℕ) → pages * 256 ≡ length q → store_in (q ++ z) pages ≡ q
back q z pages e = take_at q z (pages * 256) (sym e)

-- what a call asks of the program, which is sure of a store that it has
pub asks : (l : Limits) → l.least ≡ 4 → (bytes : List ℕ) (pages : ℕ) → Sure bytes pages → 0 < pages
    → true ≡ true → is_sound l.least (store_in bytes pages) ≡ true
asks l e bytes pages s h t = rw e (s h)

-- a call that changes the store
pub updated : (o : ℕ → Outcome) (l : Limits) (n : ℕ) (bytes q : List ℕ) (pages : ℕ) (r : Reply) → l.least ≡ 4 → leaving n q ≡ o l.least
    → r ≡ record { pages = pages; answer = answered n; count = 0 } → pages ≤ 256 → length bytes ≡ 65536
    → length q ≡ length (store_in bytes pages) → (0 < pages → is_sound 4 (o 4).store ≡ true)
    → Single (outcome (o 4)) (q ++ drop (pages * 256) bytes) r
updated o l n bytes q pages r one e f h long same stays =
    let g : pages * 256 ≡ length q = front bytes pages h long ∙ sym same in
    let at : store_in (q ++ drop (pages * 256) bytes) pages ≡ q = back q (drop (pages * 256) bytes) pages g in
    let left : leaving n q ≡ o 4 = e ∙ ap o one in
    subst
    (λ (x : Reply). Single (outcome (o 4)) (q ++ drop (pages * 256) bytes) x)
    (sym f)
    (subst
    (λ (x : Outcome). Single (outcome x) (q ++ drop (pages * 256) bytes) (record { pages = pages; answer = answered n; count = 0 }))
    left
    (record {
      store = at;
      answers = refl;
      alone = refl;
      pages = h;
      sure = λ t. subst (λ (b : List ℕ). is_sound 4 b ≡ true) (sym (at ∙ ap (λ (x : Outcome). x.store) left)) (stays t);
    }))

-- ---- before an accepted `store`

judged-none : (judged 4 []).number ≡ 1
unfolding judged length_ok
judged-none = refl

none_lent : (f : Store → Result) → lent 4 f [] ≡ leaving 1 []
unfolding lent
none_lent f = ap (λ (n : ℕ). judged_first n (λ (m : ℕ). leaving m []) (left 4 [] (f (decode 4 [])))) judged-none

module _ (bytes : List ℕ) (pages : ℕ) (z : pages ≡ 0) (r : Reply) (e : r ≡ record { pages = pages; answer = Refused 1; count = 0 }) where
  none_kept : (f : Store → Result) → Single (outcome (lent 4 f (store_in bytes pages))) bytes r
  none_kept f =
      rw (e, z)
      (subst
      (λ (o : Outcome). Single (outcome o) bytes (record { pages = 0; answer = Refused 1; count = 0 }))
      (sym (none_lent f))
      (record { store = refl; answers = refl; alone = refl; pages = omega arith; sure = λ t. absurd (omega arith) }))

  pub open_none : Single (outcome (open_lent 4 (store_in bytes pages))) bytes r
  unfolding open_lent
  open_none = none_kept begin

  pub commit-none : Single (outcome (commit_lent 4 (store_in bytes pages))) bytes r
  unfolding commit_lent
  commit-none = none_kept commit

  pub abandon-none : Single (outcome (abandon_lent 4 (store_in bytes pages))) bytes r
  unfolding abandon_lent
  abandon-none = none_kept abandon

  pub insert-none : (k x : ℕ) → Single (outcome (insert_lent 4 (store_in bytes pages) k x)) bytes r
  unfolding insert_lent
  insert-none k x = none_kept (λ (s : Store). insert 4 s k x)

  pub delete-none : (k : ℕ) → Single (outcome (delete_lent 4 (store_in bytes pages) k)) bytes r
  unfolding delete_lent
  delete-none k = none_kept (λ (s : Store). delete 4 s k)

-- ---- making a store

-- n whole pages, 6 to 256, made fresh
module _ (p : List ℕ) (n : ℕ) (e : n * 256 ≡ length p) (few : 6 ≤ n) (many : n ≤ 256) where
  size : size_of 4 p ≡ n
  size = omega arith

  right : length_ok 4 p ≡ true
  unfolding length_ok
  right =
      let whole : length p % 256 ≡ 0 = omega arith in
      rw (eq-eqb (length p % 256) 0 whole, le-leb 6 (size_of 4 p) (omega (arith, size)), le-leb (size_of 4 p) 4096 (omega (arith, size)))

  fresh-made : (fresh_lent 4 p).store ≡ encode 4 (fresh n)
  fresh-made = sym (done-store 4 p right) ∙ ap (λ (m : ℕ). encode 4 (fresh m)) size

  fresh-sound : is_sound 4 (fresh_lent 4 p).store ≡ true
  fresh-sound = made-sound p right

module _ (b : List ℕ) (n : ℕ) where
  abbrev stays : Said
  stays = record { store = b; answers = Refused 1 ∷ [] }

  too_few : n < 6 → stays ≡ stored 4 b n
  too_few l = rw (lt-leb 6 n l)

  too_many : 256 < n → stays ≡ stored 4 b n
  too_many l = rw (le-leb 6 n (omega arith), lt-leb n 256 l)

  pub made : 6 ≤ n → n ≤ 256 → record { store = encode 4 (fresh n); answers = Done ∷ [] } ≡ stored 4 b n
  made few many = rw (le-leb 6 n few, le-leb n 256 many)

module _ (bytes : List ℕ) (n pages : ℕ) (h : pages ≤ 256) (s : Sure bytes pages) where
  kept : stays (store_in bytes pages) n ≡ stored 4 (store_in bytes pages) n
      → Single (stored 4 (store_in bytes pages) n) bytes (record { pages = pages; answer = Refused 1; count = 0 })
  kept e =
      subst
      (λ (x : Said). Single x bytes (record { pages = pages; answer = Refused 1; count = 0 }))
      e
      (record { store = refl; answers = refl; alone = refl; pages = h; sure = s })

  pub few-kept : n < 6 → Single (stored 4 (store_in bytes pages) n) bytes (record { pages = pages; answer = Refused 1; count = 0 })
  few-kept l = kept (too_few (store_in bytes pages) n l)

  pub many-kept : 256 < n → Single (stored 4 (store_in bytes pages) n) bytes (record { pages = pages; answer = Refused 1; count = 0 })
  many-kept l = kept (too_many (store_in bytes pages) n l)

-- p was lent, q came back; b is the store before
pub made-new : (b p q z : List ℕ) (n : ℕ) → n * 256 ≡ length p → n * 256 ≡ length q → q ≡ (fresh_lent 4 p).store → 6 ≤ n → n ≤ 256
    → Single (stored 4 b n) (q ++ z) (record { pages = n; answer = Done; count = 0 })
made-new b p q z n ep eq e few many =
    subst
    (λ (x : Said). Single x (q ++ z) (record { pages = n; answer = Done; count = 0 }))
    (made b n few many)
    (record {
      store = back q z n eq ∙ e ∙ fresh-made p n ep few many;
      answers = refl;
      alone = refl;
      pages = many;
      sure = λ t. subst (λ (x : List ℕ). is_sound 4 x ≡ true) (sym (back q z n eq ∙ e)) (fresh-sound p n ep few many);
    })

-- one answer is a reply with no setting behind it
pub alone : {s : Said} {bytes : List ℕ} {r : Reply} (list : List ℕ) → Single s bytes r → Replies s bytes list r
alone {s} {bytes} {r} list k = record {
  store = k.store;
  answers = k.answers ∙ ap (λ (c : ℕ). r.answer ∷ settings (take (2 * c) list)) (sym k.alone);
  listed = omega (arith, k.alone);
  pages = k.pages;
  sure = k.sure;
}
