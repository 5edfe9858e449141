-- What rules 1 to 3 give is what the notes ask. Assumes nothing.
use Prim.Native.Nat.{ℕ, ◌<◌}
use native.Mathlib.Omega.{arith}
use mathlib.Core.Bool.{true}
use mathlib.Core.Path.{◌≡◌, ap}
use mathlib.Core.List.{List}
use Rattle.model.specs.declared.Header.{Header}
use Rattle.model.specs.Sound.{rule2, rule3}
use Rattle.model.specs.Layout.{read_header, decode}
use Rattle.local.specs.Local.{Held, IsPage, slot_at}
use Rattle.local.proofs.laws.Linked.{child-lower, root-used}
use Rattle.local.proofs.laws.Second.{some-root, root-first}
use Rattle.notes.specs.Ready.{Ready}

module _ (least : ℕ) (s : List ℕ) (h : Header) (d : Held least s h) (two : rule2 (decode least s) ≡ true)
    (three : rule3 (decode least s) ≡ true) where
  roots-are : h.roots ≡ (read_header least s).roots
  roots-are = ap (λ (x : Header). x.roots) d.header

  pub ready : Ready least s h
  ready =
      record {
        header = d.header;
        sized = d.sized;
        linked = record {
          long = d.sized.long;
          most = omega (arith, d.sized.is, d.sized.most);
          room = d.ruled.room;
          child = λ n i k a lt. d.ruled.child n i k (λ q. omega arith) lt;
          lower = child-lower least s d.ruled three;
        };
        roots = rw roots-are d.ruled.roots;
        some = rw roots-are (some-root least s two);
        first = omega (arith, root-first least s two, ap (λ (x : Header). x.oldest) d.header);
        old = d.old;
        rooted = λ i lt.
            let j : i < (read_header least s).roots = rw roots-are at lt in
            let g : IsPage least s (slot_at least s i).root = d.ruled.root i j in
            record {
              is_page = g;
              used = root-used least s d.ruled three i j;
              low = d.ruled.level (slot_at least s i).root g;
            };
        last = d.last;
      }
