-- Bytes and the machine of settings beside them agree, call by call.
-- Assumes nothing.
use Prim.Native.Nat.{ℕ, zero, suc, ◌≤◌}
use native.Mathlib.Omega.{arith}
use mathlib.Core.Bool.{Bool, true, false}
use mathlib.Core.Path.{◌≡◌, refl, ap, sym, ◌∙◌, subst}
use mathlib.Core.List.{List, [], ◌∷◌}
use lib.ListN.{length}
use Rattle.model.specs.Basic.{pick}
use Rattle.model.specs.declared.Pair.{Pair}
use Rattle.model.specs.Store.{Store, fresh}
use Rattle.model.specs.Sound.{sound}
use Rattle.model.specs.Layout.{size_of, encode}
use Rattle.model.specs.Judged.{length_ok}
use Rattle.model.specs.Editions.{least_of}
use Rattle.model.specs.Climb.{done, refused}
use Rattle.model.specs.Return.{Came, gave, gave_up}
use Rattle.model.specs.Histories.{Call, abandons, call_by, after}
use Rattle.model.specs.Settings
use Rattle.model.specs.Settings.{Machine, Both, beginning, Tally, nothing_yet, counted_by}
use Rattle.model.specs.Lent.{Outcome, left_by, fresh_lent}
use Rattle.model.specs.Ended.{Asked, Ended, of_outcome, ended}
use Rattle.model.proofs.lists.Lists.{all_cons}
use Rattle.model.proofs.lists.Members.{true-holds}
use Rattle.model.proofs.sound.ByRule.{to-tests}
use Rattle.model.proofs.turning.Turns.{fresh-sound}
use Rattle.model.proofs.theorems.History.{Agrees, one-call, fresh-agrees}
use Rattle.model.proofs.theorems.Undone.{lent-agrees}
use Rattle.model.proofs.theorems.Numbered.{Counts, one-count}
use Rattle.model.proofs.theorems.Editions.{edition-four}
use Rattle.store.proofs.laws.Tested.{whole_length}
use Rattle.promises.specs.Accepts.{Accepts, store_of, OfEdition, Written}
use Rattle.promises.specs.Runs.{Turn, Kind, making, changing, kind_of, asks, fitting, each}
use Rattle.promises.specs.Beside.{Beside, when_done, stepped, undone, tallied_by, onward, along, from_fresh, from_lent}
use Rattle.promises.proofs.Known.{four}
use Rattle.promises.proofs.Encoded.{encoded-sound}
use Rattle.promises.proofs.High.{SomeBy, call-some, Stopping, call-stops}
use Rattle.promises.proofs.Lending.{kind-asks, Makes, by_kind, change-is, made-right, made-wrong, Leaves, change-leaves}
use Rattle.promises.proofs.Lending.{fresh-leaves, held-sound}

-- the store that the bytes hold, beside the machine
abbrev pub both_of : Beside → Both
both_of x = record { store = store_of x.bytes; machine = x.machine }

pub record Agreed (x : Beside) : Type 0 where
  pub accepted : Accepts x.bytes
  pub agrees : Agrees (least_of x.bytes) (both_of x)
  pub counts : Counts (both_of x) x.tally

-- a call that gave and left e
abbrev gone : Beside → Ended → Kind → Beside
gone x e k = record {
  bytes = e.store;
  machine = when_done e.number (stepped k x.machine) (undone k e.number x.machine);
  tally = when_done e.number (tallied_by k x.machine x.tally) x.tally;
}

-- by what the bytes left hold
agreed-by : (least : ℕ) (b b' : List ℕ) (s : Store) → Leaves least b s b' → (m : Machine) (t : Tally)
    → Agrees least (record { store = s; machine = m }) → Counts (record { store = s; machine = m }) t
    → Agreed (record { bytes = b'; machine = m; tally = t })
agreed-by least b b' s l m t ag co = record {
  accepted = l.accepts;
  agrees = subst (λ (n : ℕ). Agrees n (record { store = store_of b'; machine = m })) (sym l.edition)
      (subst (λ (u : Store). Agrees least (record { store = u; machine = m })) (sym l.holds) ag);
  counts = subst (λ (u : Store). Counts (record { store = u; machine = m }) t) (sym l.holds) co;
}

-- ---- the beginnings

module _ (least : ℕ) (e : OfEdition least) (n : ℕ) (six : 6 ≤ n) (most : n ≤ 4096) where
  fresh-counts : Counts (beginning n) nothing_yet
  fresh-counts =
      record {
        is = λ v h.
            omega (arith, ap (λ (us : List Pair). length us) ((fresh-agrees least (edition-four least e) n six most).shows v h));
      }

  begun : (b b' : List ℕ) → Leaves least b (fresh n) b' → Agreed (record { bytes = b'; machine = Settings.start; tally = nothing_yet })
  begun b b' l =
      agreed-by least b b' (fresh n) l Settings.start nothing_yet (fresh-agrees least (edition-four least e) n six most) fresh-counts

  pub fresh-agreed : Agreed (from_fresh least n)
  fresh-agreed =
      let two : 4 ≤ least = edition-four least e in
      let w : Written least (fresh n) = encoded-sound least e (fresh n)
      (true-holds (sound least (fresh n)) (to-tests least (fresh n) (fresh-sound least (omega arith) n six most))) in
      begun (encode least (fresh n)) (encode least (fresh n))
      (record { accepts = w.accepted; edition = w.edition; holds = w.held; bytes = λ h. h })

pub lent-agreed : (b : List ℕ) → Accepts b → Agreed (from_lent b)
lent-agreed b ok = record {
  accepted = ok;
  agrees = lent-agrees (least_of b) (store_of b) (held-sound b ok);
  counts = record { is = λ v h. omega arith };
}

-- ---- one call

module _ (x : Beside) (a : Agreed x) where
  abbrev b : List ℕ
  b = x.bytes

  abbrev l : ℕ
  l = least_of x.bytes

  abbrev s : Store
  s = store_of x.bytes

  make : (least : ℕ) (c : Asked) → Makes least c → (ns : List ℕ) → Agreed (gone x (ended c x.bytes ns) making)
  make least c m ns = subst (λ (e : Ended). Agreed (gone x e making)) (sym (m.is x.bytes ns)) (at (length_ok least x.bytes) refl)
    where
      at : (t : Bool) → length_ok least x.bytes ≡ t → Agreed (gone x (of_outcome ns (fresh_lent least x.bytes)) making)
      at true ok =
          let w = whole_length least x.bytes ok in
          let is = made-right least x.bytes ok in
          subst (λ (o : Outcome). Agreed (gone x (of_outcome ns o) making)) (sym is)
          (begun least m.edition (size_of least x.bytes) w.six w.most x.bytes (encode least (fresh (size_of least x.bytes)))
          (subst (λ (o : Outcome). Leaves least x.bytes (fresh (size_of least x.bytes)) o.store) is
          (fresh-leaves least m.edition x.bytes ok)))
      at false ok = subst (λ (o : Outcome). Agreed (gone x (of_outcome ns o) making)) (sym (made-wrong least x.bytes ok)) a

  change : (c : Call) → Settings.fits c ≡ true → (ns : List ℕ) → Agreed (gone x (ended (asks c) x.bytes ns) (changing c))
  change c h ns =
      let is = change-is x.bytes a.accepted c ns in
      let left = change-leaves x.bytes a.accepted c h ns in
      let ag = one-call l (four b) (both_of x) a.agrees c h in
      let co = one-count l (four b) (both_of x) a.agrees x.tally a.counts c ag in
      subst (λ (e : Ended). Agreed (gone x e (changing c))) (sym is)
      (at (call_by l s c) (call-some l s c) (call-stops l s c) ag co
      (subst (λ (e : Ended). Leaves l x.bytes (after s (call_by l s c)).store e.store) is left))
    where
      at : (r : Came) → SomeBy r → Stopping c r → Agrees l (Settings.onward (both_of x) c r)
          → Counts (Settings.onward (both_of x) c r) (counted_by x.machine x.tally c r)
          → Leaves l x.bytes (after s r).store (left_by l x.bytes r).store
          → Agreed (gone x (of_outcome ns (left_by l x.bytes r)) (changing c))
      at (gave (done t)) hi st ag co left = agreed-by l x.bytes (encode l t) t left (Settings.step x.machine c)
          (Settings.counted x.machine x.tally c) ag co
      at (gave (refused zero)) hi st ag co left = absurd (omega arith)
      at (gave (refused (suc n))) hi st ag co
          left = subst (λ (b : Bool). Agreed
          (record { bytes = x.bytes; machine = pick b (Settings.step x.machine abandons) x.machine; tally = x.tally })) (sym st) a
      at (gave_up zero t) hi st ag co left = absurd (omega arith)
      at (gave_up (suc n) t) hi st ag co left =
          subst (λ (b : Bool). Agreed
          (record { bytes = encode l t; machine = pick b (Settings.step x.machine abandons) x.machine; tally = x.tally })) (sym st)
          (agreed-by l x.bytes (encode l t) t left (Settings.step x.machine abandons) x.tally ag co)

  -- a call that only reads
  same : (n : ℕ)
      → Agreed (record { bytes = x.bytes; machine = when_done n x.machine x.machine; tally = when_done n x.tally x.tally })
  same zero = a
  same (suc n) = a

  pub one-turn : (t : Turn) → fitting (kind_of t.call) ≡ true → Agreed (onward x t)
  one-turn t =
      by_kind (λ (c : Asked). fitting (kind_of c) ≡ true → Agreed (gone x (ended c x.bytes t.list) (kind_of c)))
      (λ least c m h. subst (λ (k : Kind). Agreed (gone x (ended c x.bytes t.list) k)) (sym m.kind) (make least c m t.list))
      (λ c h. subst (λ (k : Kind). Agreed (gone x (ended (asks c) x.bytes t.list) k)) (sym (kind-asks c))
      (change c (ap fitting (sym (kind-asks c)) ∙ h) t.list))
      (λ c k stays h.
      subst (λ (q : Kind). Agreed (gone x (ended c x.bytes t.list) q)) (sym k)
      (subst (λ (q : List ℕ). Agreed
      (record {
        bytes = q;
        machine = when_done (ended c x.bytes t.list).number x.machine x.machine;
        tally = when_done (ended c x.bytes t.list).number x.tally x.tally;
      }))
      (sym (stays x.bytes t.list)) (same (ended c x.bytes t.list).number)))
      t.call

-- ---- one after another

pub many-turns : (ts : List Turn) → each fitting ts ≡ true → (x : Beside) → Agreed x → Agreed (along x ts)
many-turns [] h x a = a
many-turns (t ∷ ts) h x a =
    let (f, g) = all_cons (λ (u : Turn). fitting (kind_of u.call)) t ts h in many-turns ts g (onward x t) (one-turn x a t f)
