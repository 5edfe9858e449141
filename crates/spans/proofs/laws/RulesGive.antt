-- What follows from rules 1 to 3 alone.
-- Assumes nothing.
use Prim.Native.Nat.{ℕ, zero, suc, ◌≤◌, ◌<◌}
use native.Mathlib.Omega.{arith}
use mathlib.Core.Bool.{true, false, ◌&&◌, ◌||◌, not}
use mathlib.Core.Path.{◌≡◌, ap, sym, ◌∙◌, subst}
use mathlib.Core.Logic.{◌⊎◌, inl, inr}
use mathlib.Core.List.{List}
use lib.Dec.{leb, eqb}
use borrow.Author.Tests.{leb-true, eqb-true, eq-eqb, not-true}
use Rattle.model.specs.Basic.{all}
use Rattle.model.specs.declared.Pair.{Pair}
use Rattle.model.specs.declared.Entry.{Entry}
use Rattle.model.specs.Entry.{alive}
use Rattle.model.specs.Page.{Page, is_free, pairs_at}
use Rattle.model.specs.Store.{Store, page, last}
use Rattle.model.specs.Walk.{seen, root_at, height_of, key_limit, settings}
use Rattle.model.specs.Sound.{inside, lies_well}
use Rattle.model.specs.Inner.{In}
use Rattle.model.specs.ByRule.{lives_at}
use Rattle.model.specs.Tree.{Holds}
use Rattle.model.proofs.lists.Lists.{both_true, both-intro}
use Rattle.model.proofs.lists.Members.{either_true, all_in, all-by}
use Rattle.model.proofs.sound.ByRule.{Front, GoodEntry, span_of, entry-ok}
use Rattle.model.proofs.sound.Walks.{Reach}
use Rattle.model.proofs.sound.Ready.{root_is, used-level, level-used, of-within, Child}
use Rattle.model.proofs.tree.Bridge.{passes_at, root-passes}
use Rattle.spans.proofs.laws.Stretches.{Alive, shows-of}

module _ (least : ℕ) (two : 2 ≤ least) (s : Store) (d : Front least s) where
  abbrev ps : List Page
  ps = s.pages

  pub entry_at : (n : ℕ) → is_free (page ps n) ≡ false → (e : Entry) → In e (page ps n).entries → GoodEntry s (page ps n) e
  entry_at n u e i =
      entry-ok s (page ps n) e (all_in _ e (page ps n).entries (d.pages n u).entries i)
      (all_in (lies_well s (page ps n)) e (page ps n).entries (d.spans n u) i)

  pub entry-some : (n : ℕ) → is_free (page ps n) ≡ false → (e : Entry) → In e (page ps n).entries → e.start < e.end
  entry-some n u e i = (entry_at n u e i).span.some

  -- no span goes on behind `alive`
  pub entry-ends : (n : ℕ) → is_free (page ps n) ≡ false → (e : Entry) → In e (page ps n).entries → e.end ≤ alive
  entry-ends n u e i = at (entry_at n u e i).span.ends
    where
      at : (e.end ≤ last s) ⊎ (e.end ≡ alive) → e.end ≤ alive
      at (inl x) = omega (arith, d.last-low)
      at (inr x) = omega arith

  pub page-ends : (n : ℕ) → is_free (page ps n) ≡ false → (page ps n).end ≤ alive
  page-ends n u = at (span_of (last s) (page ps n).start (page ps n).end (d.pages n u).span).ends
    where
      at : ((page ps n).end ≤ last s) ⊎ ((page ps n).end ≡ alive) → (page ps n).end ≤ alive
      at (inl x) = omega (arith, d.last-low)
      at (inr x) = omega arith

  pub page-some : (n : ℕ) → is_free (page ps n) ≡ false → (page ps n).start < (page ps n).end
  page-some n u = (span_of (last s) (page ps n).start (page ps n).end (d.pages n u).span).some

  -- ---- where a router leads

  pub record RouterLeads (up : ℕ) (e : Entry) : Type 0 where
    pub level : (page ps e.value).level ≡ suc up
    pub later : (page ps e.value).start ≤ e.start
    pub sooner : e.end ≤ (page ps e.value).end

  pub leads-of : (n up : ℕ) (e : Entry) → (page ps n).level ≡ suc (suc up) → In e (page ps n).entries → s.oldest < e.end
      → RouterLeads up e
  leads-of n up e l i kept =
      at (either_true (eqb (page ps n).level 1 || leb e.end s.oldest) _ (entry_at n (level-used (page ps n) (suc up) l) e i).leads)
    where
      not-out : (eqb (page ps n).level 1 ≡ true) ⊎ (leb e.end s.oldest ≡ true) → ⊥
      not-out (inl z) = omega (arith, eqb-true (page ps n).level 1 z)
      not-out (inr z) = omega (arith, leb-true e.end s.oldest z)

      at : ((eqb (page ps n).level 1 || leb e.end s.oldest) ≡ true)
          ⊎ ((inside e (page ps e.value) && eqb (suc (page ps e.value).level) (page ps n).level) ≡ true) → RouterLeads up e
      at (inl z) = absurd (not-out (either_true (eqb (page ps n).level 1) (leb e.end s.oldest) z))
      at (inr z) =
          let (i, f) = both_true (inside e (page ps e.value)) (eqb (suc (page ps e.value).level) (page ps n).level) z in
          let (p, q) = both_true (leb (page ps e.value).start e.start) (leb e.end (page ps e.value).end) i in
          record {
            level = omega (arith, eqb-true (suc (page ps e.value).level) (page ps n).level f);
            later = leb-true (page ps e.value).start e.start p;
            sooner = leb-true e.end (page ps e.value).end q;
          }

  pub child-at : (v : ℕ) → s.oldest ≤ v → (n up : ℕ) (x : Pair) → (page ps n).level ≡ suc (suc up) → In x (pairs_at v (page ps n))
      → Child ps v up x.value
  child-at v from n up x l i =
      let h = shows-of v (page ps n).entries x i in
      let e = h.entry in
      let g = leads-of n up e l h.is-in (omega (arith, h.live.upto)) in
      subst (λ (z : Pair). Child ps v up z.value) (sym h.is)
      (record {
        level = g.level;
        lives = of-within (page ps e.value).start (page ps e.value).end v
            (omega (arith, g.later, h.live.from)) (omega (arith, g.sooner, h.live.upto));
      })

  -- a page with a live entry lives
  pub lives-with : (v : ℕ) → s.oldest ≤ v → (n : ℕ) (e : Entry) → is_free (page ps n) ≡ false → In e (page ps n).entries → Alive v e
      → lives_at v (page ps n) ≡ true
  lives-with v from n e u i l =
      let g = entry_at n u e i in
      both-intro _ _ (ap not u)
      (of-within (page ps n).start (page ps n).end v (omega (arith, g.later (inr (omega (arith, l.upto))), l.from))
      (omega (arith, g.sooner (inr (omega (arith, l.upto))), l.upto)))

  pub reach-level : (v : ℕ) → s.oldest ≤ v → (l n j m : ℕ) → (page ps n).level ≡ suc l → Reach ps v l n j m → (page ps m).level ≡ suc j
  reach-level v from zero n j m e r = ap (λ (k : ℕ). (page ps k).level) r.number ∙ e ∙ ap suc (sym r.height)
  reach-level v from (suc l) n j m e (inl r) = ap (λ (k : ℕ). (page ps k).level) r.number ∙ e ∙ ap suc (sym r.height)
  reach-level v from (suc l) n j m e (inr r) =
      reach-level v from l r.router.value j m (child-at v from n l r.router e r.is-in).level r.rest

  -- ---- the root

  abbrev pub root : ℕ → ℕ
  root v = root_at s.slots v

  abbrev pub height : ℕ → ℕ
  height v = height_of ps (root v)

  pub root-used : (v : ℕ) → s.oldest ≤ v → is_free (page ps (root v)) ≡ false
  root-used v from =
      not-true (is_free (page ps (root v)))
      (root_is (λ (n : ℕ). not (is_free (page ps n))) v s.oldest s.slots from d.begins d.root-used)

  pub root-level : (v : ℕ) → s.oldest ≤ v → (page ps (root v)).level ≡ suc (height v)
  root-level v from = used-level (page ps (root v)) (root-used v from)

  -- a walk that passes shows a tree
  pub holds_at : (v : ℕ) → s.oldest ≤ v → all (passes_at least) (seen s v) ≡ true
      → Holds least v (height v) ps 0 key_limit (pairs_at v (page ps (root v))) (settings s v)
  holds_at v from h =
      root-passes least two v ps
      (λ m l e. all-by _ (pairs_at v (page ps m))
      (λ x i. both-intro _ _ (eq-eqb (page ps x.value).level (suc l) (child-at v from m l x e i).level)
      (child-at v from m l x e i).lives))
      (height v) (root v) (root-level v from) h
