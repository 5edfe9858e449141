-- The functions called one after another, by the machine beside the tree as in SideBySide.
-- Assumes nothing.
use Prim.Native.Nat.{ℕ, ◌+◌, ◌*◌, ◌≤◌}
use native.Mathlib.Omega.{arith}
use mathlib.Core.Bool.{Bool, true, false}
use mathlib.Core.Path.{◌≡◌, refl, ap, ap₂, sym, ◌∙◌, subst}
use mathlib.Core.List.{List, [], ◌∷◌}
use lib.ListN.{length}
use Rattle.model.specs.Basic.{pick, all}
use Rattle.model.specs.Limits.{edition_of}
use Rattle.model.specs.Settings.{start}
use Rattle.model.specs.Return.{lacking}
use Rattle.model.specs.Editions.{least_of}
use Rattle.model.specs.Ended.{Ended, to_abandon}
use Rattle.model.proofs.lists.Lists.{all_cons}
use Rattle.promises.specs.Accepts.{store_of}
use Rattle.promises.specs.Runs.{Turn, turned, kind_of, gives_up, fitting, each}
use Rattle.promises.specs.Beside.{Beside, when_done, onward, from_fresh}
use Rattle.promises.proofs.Agreed.{Agreed, fresh-agreed, one-turn}
use Rattle.plain.specs.Plain.{Plain, abandon}
use Rattle.plain.specs.Guard.{state_of, is_lent, read_plain}
use Rattle.plain.proofs.laws.Laid.{from-length}
use Rattle.plain.proofs.Guards.{lent_fits}
use Rattle.plain.proofs.Shows.{shows-start}
use Rattle.auditor.specs.Engine.{has, Plainly, plainly}
use Rattle.auditor.specs.SideBySide.{Equal, OneCall, followed, inserts_by, accepted, accepted_in}
use Rattle.auditor.specs.Linked.{may_insert, HasRoom}
use Rattle.auditor.specs.LinkedRun.{CalledBeside, EachLinked, LinkedRun}
use Rattle.auditor.proofs.SideBySide.{plain_by, Mirrors, MirrorsWithin, goes, own_room, same-edition, fresh-edition}
use Rattle.auditor.proofs.Linked.{linked}

-- one call beside the tree's, lent a plain store of which all is known, and room
record OneBeside (x : Beside) (t : Turn) (p : Plain) : Type 0 where
  pub one : OneCall x.bytes p t
  pub after : MirrorsWithin (edition_of (least_of x.bytes)) (onward x t).machine (followed (turned x.bytes t).number p t) p
      (accepted x.bytes t)
  pub room : (plainly t.call p t.list).number ≡ 0 → may_insert t.call p ≤ inserts_by (kind_of t.call) (store_of x.bytes)

one-beside : (x : Beside) → Agreed x → (t : Turn) → has t.call ≡ true → (p : Plain)
    → Mirrors (edition_of (least_of x.bytes)) x.machine p → OneBeside x t p
one-beside x a t own p follows =
    let now = goes x a follows.items follows.shows t.call own t.list in
    subst (λ (q : Plain). OneBeside x t q) (sym follows.is)
    (record { one = now.one; after = now.later; room = own_room x a follows.items follows.shows t.call t.list })

module _ (x : Beside) (t : Turn) (ns ms : List ℕ) (lent : is_lent ns ms ≡ true) (now : OneBeside x t (read_plain ns ms)) where
  abbrev own : Plain
  own = read_plain ns ms

  abbrev tree : Ended
  tree = turned x.bytes t

  -- the room is there
  has_room : (more room : ℕ) → length own.items + (accepted x.bytes t + more) ≤ room → 4 * room ≤ length ns
      → lacking tree.number ≡ false → HasRoom t.call ns ms t.list
  has_room more room fits big e z =
      let done : tree.number ≡ 0 = sym (now.one.equal e).number ∙ z in
      let cost : accepted x.bytes t ≡ inserts_by (kind_of t.call) (store_of x.bytes)
      = ap (λ (n : ℕ). when_done n (inserts_by (kind_of t.call) (store_of x.bytes)) 0) done in
      omega (arith, from-length ns (state_of ms).count, now.room z, cost, fits, big)

  called-beside : (rest : List ℕ → List ℕ → Type 0) → (lacking tree.number ≡ false → HasRoom t.call ns ms t.list)
      → ((ns' ms' : List ℕ) → is_lent ns' ms' ≡ true → length ns' ≡ length ns → read_plain ns' ms' ≡ followed tree.number own t
      → rest ns' ms')
      → (l : Bool) → lacking tree.number ≡ l → (g : Bool) → gives_up (kind_of t.call) tree.number ≡ g
      → CalledBeside l g x.bytes t ns ms rest
  called-beside rest roomy on false e g i =
      λ f ns' ms' c.
      let is : f ≡ plainly t.call own t.list = c.gave ∙ linked t.call ns ms t.list lent (roomy e) in
      let again = c.again lent in
      let goes_on : (plainly t.call own t.list).plain ≡ followed tree.number own t =
      sym (ap (λ (b : Bool). pick b (pick (gives_up (kind_of t.call) tree.number) (abandon own).plain own)
      (plainly t.call own t.list).plain) e) in (
        subst (λ (y : Plainly). Equal tree y) (sym is) (now.one.equal e),
        on ns' ms' again.0 again.1 (sym c.left ∙ ap (λ (y : Plainly). y.plain) is ∙ goes_on),
      )
  called-beside rest roomy on true e true i =
      λ f ns' ms' c.
      let is : f ≡ plainly to_abandon own t.list = c.gave
      ∙ linked to_abandon ns ms t.list lent (λ z. omega (arith, (lent_fits ns ms lent).1)) in
      let again = c.again lent in
      let goes_on : (abandon own).plain ≡ followed tree.number own t
      = sym (ap₂ (λ (b c : Bool). pick b (pick c (abandon own).plain own) (plainly t.call own t.list).plain) e i) in (
        ap (λ (y : Plainly). y.number) is ∙ now.one.abandons i,
        on ns' ms' again.0 again.1 (sym c.left ∙ ap (λ (y : Plainly). y.plain) is ∙ goes_on),
      )
  called-beside rest roomy on true e false i =
      on ns ms lent refl (sym (ap₂ (λ (b c : Bool). pick b (pick c (abandon own).plain own) (plainly t.call own t.list).plain) e i))

each-linked : (ts : List Turn) → each fitting ts ≡ true → all (λ (t : Turn). has t.call) ts ≡ true → (x : Beside) → Agreed x
    → (ns ms : List ℕ) → is_lent ns ms ≡ true
    → Mirrors (edition_of (least_of x.bytes)) x.machine (read_plain ns ms) → (room : ℕ)
    → length (read_plain ns ms).items + accepted_in x.bytes ts ≤ room → 4 * room ≤ length ns
    → EachLinked x.bytes ns ms ts
each-linked [] f h x a ns ms lent follows room fits big = lent
each-linked (t ∷ ts) f h x a ns ms lent follows room fits big =
    let (fit, fits_on) = all_cons (λ (u : Turn). fitting (kind_of u.call)) t ts f in
    let (own, own_on) = all_cons (λ (u : Turn). has u.call) t ts h in
    let now = one-beside x a t own (read_plain ns ms) follows in
    let n = (turned x.bytes t).number in (
      lent,
      called-beside x t ns ms lent now (λ (us vs : List ℕ). EachLinked (turned x.bytes t).store us vs ts)
          (has_room x t ns ms lent now (accepted_in (onward x t).bytes ts) room fits big)
          (λ ns' ms' l same is.
          let few = now.after.few in
          let long = ap (λ (q : Plain). length q.items) is in
          each-linked ts fits_on own_on (onward x t) (one-turn x a t fit) ns' ms' l
          (subst (λ (q : Plain). Mirrors (edition_of (least_of (onward x t).bytes)) (onward x t).machine q) (sym is)
          (subst (λ (k : ℕ). Mirrors (edition_of k) (onward x t).machine (followed n (read_plain ns ms) t)) (same-edition x a t fit own)
          now.after.follows))
          room (omega (arith, few, long, fits)) (omega (arith, same, big)))
          (lacking n) refl (gives_up (kind_of t.call) n) refl,
    )

pub linked-run : LinkedRun
linked-run least e n six most ts f h ns ms lent none room =
    each-linked ts f h (from_fresh least n) (fresh-agreed least e n six most) ns ms lent
    (record {
      items = [];
      is = none ∙ ap {B = Plain} (λ (l : ℕ). plain_by (edition_of l) start []) (sym (fresh-edition least e n six most));
      shows = shows-start;
    })
    (accepted_in (from_fresh least n).bytes ts) (let long = ap (λ (q : Plain). length q.items) none in omega (arith, long)) room
