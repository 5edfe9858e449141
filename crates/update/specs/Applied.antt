-- An update carried out: the way up, the root, its slot.
use Rattle.std.specs.Prelude.{ℕ, ◌^◌, ◌<◌, ◌≡◌, List, length}
use Rattle.model.specs.declared.Limits.{Limits}
use Rattle.model.specs.Page.{Page}
use Rattle.model.specs.Page as changes
use Rattle.model.specs.Store.{Store, page, next}
use Rattle.model.specs.Layout.{decode}
use Rattle.model.specs.Rules.{upward}
use Rattle.model.specs.Climb.{work_root, climb, Result, done, rooted}
use Rattle.model.specs.ByRule.{Sound}
use Rattle.edit.specs.declared.Change as code
use Rattle.edit.specs.Change.{change_of}
use Rattle.gather.specs.Kept.{Fits}
use Rattle.parts.specs.Kept.{ExactBytes, Inside, pages_of}
use Rattle.plan.specs.declared.Way.{Way}
use Rattle.plan.specs.Plan.{ups_of, Led}
use Rattle.climb.specs.Climb.{climb_up}
use Rattle.root.specs.Slotted.{Slotted}

-- it is done, with no number, and what it leaves is sound
pub record Done (least : ℕ) (r : Result) : Type 0 where
  pub store : Store
  pub is : r ≡ done store
  pub sound : Sound least store

-- ---- what the work asks

module _ (l : Limits) (b : List ℕ) (w : ℕ) where
  -- what the page rules make of a change at the root, and of one from the leaf up
  abbrev pub at_root : ℕ → code.Change → Result
  at_root n c = rooted l.least (decode l.least b) (work_root l.least w (pages_of l b) n (change_of c))

  abbrev pub from_leaf : Way → code.Change → Result
  from_leaf way c =
      rooted l.least (decode l.least b) (climb l.least w way.root (ups_of way.list way.n) (change_of c) (pages_of l b))

  -- at the root
  pub record ToRoot (n : ℕ) (c : code.Change) (size : ℕ) : Type 0 where
    pub kept : ExactBytes l b
    pub root : Inside l b n
    pub fits : Fits c
    pub low : w < 2 ^ 20
    pub size_is : size ≡ length (pages_of l b)
    pub version : w ≡ next (decode l.least b)
    pub level : (page (pages_of l b) n).level < 15
    pub slots : Slotted l b
    pub planned : Done l.least (at_root n c)

  -- on the whole way up
  pub record ToApply (way : Way) (c : code.Change) (size : ℕ) : Type 0 where
    pub kept : ExactBytes l b
    pub led : Led l b way
    pub fits : Fits c
    pub low : w < 2 ^ 20
    pub size_is : size ≡ length (pages_of l b)
    pub version : w ≡ next (decode l.least b)
    pub level : (d : changes.Change) (qs : List Page)
        → climb_up l.least w (ups_of way.list way.n) (change_of c) (pages_of l b) ≡ upward d qs → (page qs way.root).level < 15
    pub slots : Slotted l b
    pub planned : Done l.least (from_leaf way c)
