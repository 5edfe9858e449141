-- Laws about page/specs/Head. Assumes nothing.
use Prim.Native.Nat.{ℕ, ◌≤◌, ◌<◌}
use mathlib.Core.Path.{◌≡◌}
use mathlib.Core.List.{List}
use borrow.Author.Tests.{le-leb, lt-leb}
use Rattle.model.specs.Field.{Part}
use Rattle.model.specs.Layout.{count_of, head_parts}
use Rattle.page.specs.declared.Head.{Head}
use Rattle.page.specs.Head.{read_head, put_head, HeadFits, front_by, put_front, FrontFits}

-- with a live count behind it
abbrev pub parts_of : ℕ → Head → ℕ → List Part
parts_of least h n = head_parts least h.level h.count h.start h.end n

module _ (least : ℕ) (p : List ℕ) (h : Head) where
  -- edition 1
  module _ (e : least ≤ 4) where
    pub front-five : front_by 5 p ≡ read_head least p
    unfolding front_by read_head count_of
    front-five = rw (le-leb least 4 e)

    pub put_five : put_front 5 p h ≡ put_head least p h
    unfolding put_front put_head
    put_five = rw (le-leb least 4 e)

    pub fits-five : HeadFits least h → FrontFits 5 h
    fits-five f = record { level = f.level; count = rw (le-leb least 4 e) at f.count; start = f.start; end = f.end }

  -- edition 2
  module _ (e : 4 < least) where
    pub front-six : front_by 6 p ≡ read_head least p
    unfolding front_by read_head count_of
    front-six = rw (lt-leb least 4 e)

    pub put_six : put_front 6 p h ≡ put_head least p h
    unfolding put_front put_head
    put_six = rw (lt-leb least 4 e)

    pub fits-six : HeadFits least h → FrontFits 6 h
    fits-six f = record { level = f.level; count = rw (lt-leb least 4 e) at f.count; start = f.start; end = f.end }
