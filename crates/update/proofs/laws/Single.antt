-- Laws about update/specs/Single. Assumes nothing.
use Prim.Native.Nat.{ℕ, ◌^◌, ◌<◌}
use mathlib.Core.Bool.{true}
use mathlib.Core.Path.{◌≡◌, sym}
use mathlib.Core.List.{List}
use borrow.Author.Tests.{lt-leb}
use Rattle.model.specs.declared.Limits.{Limits}
use Rattle.model.specs.Limits.{Edition}
use Rattle.model.specs.Store.{Store, next}
use Rattle.model.specs.Walk.{key_limit, lookup}
use Rattle.model.specs.Layout.{decode}
use Rattle.model.specs.Judged.{is_sound}
use Rattle.model.specs.Page.{Change}
use Rattle.model.specs.Climb.{Result, update}
use Rattle.model.specs.Calls.{is_some, raw_insert, delete}
use Rattle.model.specs.Needs.{inserting, deleting}
use Rattle.model.specs.Lent.{left}
use Rattle.model.proofs.kept.Preserve.{Sounds, raw-keeps, delete-keeps}
use Rattle.model.proofs.lists.Bools.{is_none}
use Rattle.store.proofs.laws.Sure.{sure}
use Rattle.update.specs.Whole.{LeavesSound}
use Rattle.update.specs.Single.{Enters, Ends}

-- there a delete is its change
pub delete-is : (least : ℕ) (s : Store) (k : ℕ) → k < key_limit → s.opened ≡ true → is_some (lookup s k (next s)) ≡ true
    → delete least s k ≡ update least s k (deleting k)
unfolding delete
delete-is least s k low o a = rw (lt-leb key_limit k low, o, a)

follows : {l : Limits} (d : Edition l) (b : List ℕ) (h : is_sound l.least b ≡ true) (o : (decode l.least b).opened ≡ true) (r : Result)
    → Sounds l.least d.four (decode l.least b) (sure d b h) o r → LeavesSound l.least r
follows d b h o r f t e = (rw e at f).sound-now

pub insert-leaves : {l : Limits} {b : List ℕ} {k : ℕ} → Enters l b k → (x : ℕ) → x < 2 ^ 32 → (c : Change) → c ≡ inserting k x
    → LeavesSound l.least (update l.least (decode l.least b) k c)
insert-leaves {l} {b} {k} p x low c e =
    let s = decode l.least b in
    rw e (follows p.edition b p.sound p.opened (raw_insert l.least s k x)
    (raw-keeps l.least p.edition.four s (sure p.edition b p.sound) p.opened k x p.key
    (is_none (lookup s k (next s)) p.absent) low))

pub delete-leaves : {l : Limits} {b : List ℕ} {k : ℕ} → Ends l b k → (c : Change) → c ≡ deleting k
    → LeavesSound l.least (update l.least (decode l.least b) k c)
delete-leaves {l} {b} {k} p c e =
    let s = decode l.least b in
    rw e (follows p.edition b p.sound p.opened (update l.least s k (deleting k))
    (rw (delete-is l.least s k p.key p.opened p.present) at
    (delete-keeps l.least p.edition.four s (sure p.edition b p.sound) p.opened k)))

-- what a change comes to, by the one that it is
pub comes-to : (least : ℕ) (b : List ℕ) (k : ℕ) (c e : Change) → c ≡ e → (r : ℕ) (b' : List ℕ)
    → r ≡ (left least b (update least (decode least b) k c)).number
    → b' ≡ (left least b (update least (decode least b) k c)).store
    → (r ≡ (left least b (update least (decode least b) k e)).number) × (b' ≡ (left least b (update least (decode least b) k e)).store)
comes-to least b k c e f r b' g h = rw (sym f) (g, h)
