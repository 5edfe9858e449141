-- Every update of a sound store fills pages as document 01 counts them (specs/Gathered).
-- Assumes nothing.
use Prim.Native.Nat.{ℕ, suc, ◌+◌, ◌*◌, ◌-◌, ◌/◌, ◌≤◌, ◌<◌}
use native.Mathlib.Omega.{arith}
use mathlib.Core.Bool.{Bool, true, false, ◌&&◌}
use mathlib.Core.Path.{◌≡◌, refl, ap, sym, subst}
use mathlib.Core.List.{List, [], ◌∷◌}
use lib.Dec.{T, leb, ltb, eqb}
use lib.ListN.{length, take, drop, length-drop}
use lib.Seq.{length-take-le}
use borrow.Author.Tests.{leb-true, leb-false, eqb-false, lt-ltb}
use Rattle.model.specs.Basic.{all, pick}
use Rattle.model.specs.declared.Pair.{Pair}
use Rattle.model.specs.Entry.{alive}
use Rattle.model.specs.Page.{Page, Change, wanted}
use Rattle.model.specs.Store.{Store, page, next}
use Rattle.model.specs.Walk.{Around, root_at, way, key_limit}
use Rattle.model.specs.Sound.{sound}
use Rattle.model.specs.Rules
use Rattle.model.specs.Rules.{Worked, upward, parts, roomy, work}
use Rattle.model.specs.Needs.{goes, group_at, inserting, deleting}
use Rattle.model.specs.Gathered.{Filled, root_low, Gathers, GathersWell}
use Rattle.model.specs.ByRule.{Sound}
use Rattle.model.proofs.lists.Lists.{both-intro}
use Rattle.model.proofs.lists.Members.{holds-true}
use Rattle.model.proofs.sound.ByRule.{from-tests}
use Rattle.model.proofs.sound.Ready.{fit-insert, fit-delete}
use Rattle.model.proofs.kept.OnePage.{kind_ok}
use Rattle.model.proofs.tree.Shows.{Some, Top}
use Rattle.model.proofs.tree.Climbs.{Pending, group_of}
use Rattle.model.proofs.kept.WayUp.{Keeps, group-in, WorkedKeeps, work-keeps}
use Rattle.model.proofs.tree.UpdateChanges.{Fit}
use Rattle.model.proofs.kept.Preserve.{pend, keeps, insert-few, delete-few}
use Rattle.model.proofs.kept.SoundAfter.{two-of, lim, pos, low-old}

-- so many entries fill one page or two
module _ (least low : ℕ) (xs : List Pair) (from : low ≤ length xs) (upto : length xs ≤ 8 * least) where
  half : ℕ
  half = (length xs + 1) / 2

  fills : (b : Bool) → leb (length xs) (4 * least) ≡ b → Filled least low (Rules.parts_by b xs)
  unfolding Rules.parts_by half
  fills true e = record { from = from; upto = leb-true (length xs) (4 * least) e }
  fills false e =
      let more : 4 * least < length xs = leb-false (length xs) (4 * least) e in
      let lower : length (take half xs) ≡ half = length-take-le half xs (omega arith) in
      let upper : length (drop half xs) ≡ length xs - half = length-drop half xs in
      (record { from = omega arith; upto = omega arith }, record { from = omega arith; upto = omega arith })

  pub filled-so : Filled least low (parts least xs)
  unfolding Rules.parts
  filled-so = fills (leb (length xs) (4 * least)) refl

module _ (least : ℕ) (two : 2 ≤ least) (w : ℕ) (limit : w < alive) (first : 1 ≤ w) (N : ℕ) (old : ℕ) (lowest : old < w) where
  some-long : (us : List Pair) → Some least w us → 1 ≤ length us
  some-long us h = omega (arith, ap (λ (vs : List Pair). length vs) h.is)

  -- the root
  root-low : (c : Change) (p : Page) → Some least w (wanted w c p) → goes w c p ≡ false → root_low p.level ≤ length (wanted w c p)
  root-low c p s g = at (leb 2 p.level) g
    where
      at : (b : Bool) → (b && eqb (length (wanted w c p)) 1) ≡ false → pick b 2 1 ≤ length (wanted w c p)
      at true q =
          let ne : length (wanted w c p) ≡ 1 → ⊥ = eqb-false (length (wanted w c p)) 1 q in omega (arith, some-long (wanted w c p) s)
      at false q = some-long (wanted w c p) s

  climb-gathers : (r : ℕ) (up : List Around) (l : ℕ) (c : Change) (ps : List Page) (total : List Pair)
      (p : Pending least two w limit ps r l up c total) → Keeps least two w limit first N old lowest ps r p.n l c
      → Gathers least w r up c ps
  climb-gathers r [] l c ps total p k =
      let t : Top least w r p.lo p.hi p.n p.xs p.ys = p.way in
      let few : length (wanted w c (page ps r)) ≤ suc (5 * least)
      = subst (λ (m : ℕ). length (wanted w c (page ps m)) ≤ suc (5 * least)) t.root k.upper in
      λ stays full.
      let some : Some least w (wanted w c (page ps r))
      = subst (λ (m : ℕ). roomy least w c (page ps m) ≡ false → Some least w (wanted w c (page ps m))) t.root p.anchor full in
      filled-so least (root_low (page ps r).level) (wanted w c (page ps r)) (root-low c (page ps r) some stays) (omega arith)
  climb-gathers r (a ∷ up) l c ps total p k = (
    λ _. here,
    λ d qs e. at (work least w ps a c) (work-keeps least two w limit first N old lowest ps r l a up c total p k) d qs e
        (λ q. climb-gathers r up (suc l) d qs total q),
  )
    where
      group : Filled least (2 * least - 1)
          (parts least (Rules.gather_by (ltb (length (wanted w c (page ps p.n))) (2 * least)) w ps a
          (wanted w c (page ps p.n))).pairs)
      group =
          let few : Bool = ltb (length (wanted w c (page ps p.n))) (2 * least) in
          let g = group_of least two w limit ps r l a up c total p few refl in
          filled-so least (2 * least - 1) (Rules.gather_by few w ps a (wanted w c (page ps p.n))).pairs (omega (arith, g.enough))
          (group-in least two w limit first N old lowest ps r l a up c total p k few refl g).bound

      here : Filled least (2 * least - 1) (parts least (group_at least w ps a c).pairs)
      here =
          subst (λ (i : ℕ). Filled least (2 * least - 1)
          (parts least (Rules.gather_by (ltb (length (wanted w c (page ps i))) (2 * least)) w ps a (wanted w c (page ps i))).pairs))
          (sym p.way.value) group

      at : (x : Worked) → WorkedKeeps least two w limit first N old lowest ps r l a up c total p k x → (d : Change) (qs : List Page)
          → x ≡ upward d qs
          → ((q : Pending least two w limit qs r (suc l) up d total) → Keeps least two w limit first N old lowest qs r q.n (suc l) d
          → Gathers least w r up d qs) → Gathers least w r up d qs
      at x f d qs e ih = let (q, k') = subst (WorkedKeeps least two w limit first N old lowest ps r l a up c total p k) e f in ih q k'

-- Every sound store with an update open.
pub gathers-well : (least : ℕ) → 4 ≤ least → (s : Store) → T (sound least s) → s.opened ≡ true → GathersWell least s
gathers-well least four s sure o = record {
  insert = λ k x low absent fits.
      by k (inserting k x) low (fit-insert least (two-of least four s d o) s d o k low x absent)
      (both-intro _ _ (both-intro _ _ (lt-ltb k key_limit low) (lt-ltb x 4294967296 fits)) refl) (insert-few least four s d o k x);
  delete = λ k low. by k (deleting k) low (fit-delete least (two-of least four s d o) s d o k low) refl (delete-few least four s d o k);
}
  where
    d : Sound least s
    d = from-tests least s (holds-true (sound least s) sure)

    by : (k : ℕ) (c : Change) → k < key_limit → Fit least s k c → all (kind_ok (length s.pages) 1) c.take ≡ true
        → ((n : ℕ) → (page s.pages n).level ≡ 1 → length (wanted (next s) c (page s.pages n)) ≤ suc (5 * least))
        → Gathers least (next s) (root_at s.slots (next s)) (way s (next s) k) c s.pages
    by k c low f takes few =
        climb-gathers least (two-of least four s d o) (next s) (lim least four s d o) (pos least four s d o) (length s.pages) s.oldest
        (low-old least four s d o) (root_at s.slots (next s)) (way s (next s) k) 0 c s.pages _
        (pend least four s d o k c low f takes few) (keeps least four s d o k c low f takes few)
