-- Laws about release/specs/Opened. Assumes nothing.
use Prim.Native.Nat.{ℕ, suc, ◌+◌, ◌^◌, ◌≤◌, ◌<◌}
use native.Mathlib.Omega.{arith}
use mathlib.Core.Bool.{Bool, true, false}
use mathlib.Core.Path.{◌≡◌, ap, ap₂, sym, ◌∙◌}
use mathlib.Core.List.{List}
use lib.Dec.{eqb}
use lib.ListN.{length}
use borrow.Author.Tests.{eq-eqb, ne_eqb}
use Rattle.model.specs.Basic.{pick}
use Rattle.model.specs.declared.Entry.{Entry}
use Rattle.model.specs.declared.Header.{Header}
use Rattle.model.specs.declared.Limits.{Limits}
use Rattle.model.specs.Field.{Bytes}
use Rattle.model.specs.Store.{Store, next, last, last_of}
use Rattle.model.specs.Layout.{read_header, size_of, decode}
use Rattle.model.specs.Calls.{unchanged}
use Rattle.store.proofs.laws.Read.{count-pages}
use Rattle.store.proofs.laws.Exactly.{header_of_lem}
use Rattle.model.proofs.sound.ByRule.{old-current}
use Rattle.store.proofs.laws.Sure.{sure, whole, exact}
use Rattle.walk.specs.Sure.{Walkable}
use Rattle.release.specs.Settled.{has, settled}
use Rattle.release.proofs.laws.Settled.{settled_from}
use Rattle.release.proofs.laws.Exactly.{settled-unchanged}
use Rattle.release.specs.Opened.{Opened}

module _ {l : Limits} {b : List ℕ} {c : ℕ} (o : Opened l b c) where
  abbrev s : Store
  s = decode l.least b

  last-is : last (decode l.least b) ≡ suc c
  last-is = ap (λ (q : Bool). last_of q (decode l.least b).current) o.opened ∙ ap suc o.current

  -- both versions can be read
  pub reads-upto : (v : ℕ) → c ≤ v → v ≤ c + 1 → Walkable l b v
  reads-upto v g h =
      record {
        edition = o.edition;
        sound = o.sound;
        version = omega (
          arith,
          last-is,
          o.current,
          old-current l.least (decode l.least b) (sure o.edition b o.sound).old-low,
        );
      }

  next-is : next (decode l.least b) ≡ c + 1
  next-is = omega (arith, o.current)

  pub next_low : c + 1 < 2 ^ 20
  next_low = omega (arith, (sure o.edition b o.sound).last-low, last-is)

  pub size_is : length (decode l.least b).pages ≡ size_of l.least b
  size_is = count-pages l.least b (omega (arith, (whole o.edition b o.sound).six))

  pub header-size : Bytes b → (read_header l.least b).pages ≡ length (decode l.least b).pages
  header-size y =
      sym (ap (λ (h : Header). h.pages)
      (header_of_lem l.least o.edition.four o.edition.eight b (size_of l.least b) (exact o.edition b o.sound y)))

  -- the whole by its pages
  pub whole_is : settled_from (decode l.least b) 5 ≡ unchanged (decode l.least b)
  whole_is =
      settled-unchanged l.least (omega (arith, o.edition.four)) (decode l.least b) (sure o.edition b o.sound) o.opened

  -- ---- an entry

  module _ (e : Entry) where
    abbrev by : Bool → Bool → Bool
    by x y =
        pick x (has (decode l.least b) (decode l.least b).current e)
        (pick y (has (decode l.least b) (next (decode l.least b)) e) true)

    starts-not : (e.start ≡ c + 1 → ⊥) → eqb e.start (next (decode l.least b)) ≡ false
    starts-not h = ne_eqb e.start (next (decode l.least b)) (λ z. h (z ∙ next-is))

    pub settled-start : e.start ≡ c + 1 → has (decode l.least b) c e ≡ settled (decode l.least b) e
    settled-start h =
        ap (λ (v : ℕ). has (decode l.least b) v e) (sym o.current)
        ∙ sym (ap (λ (x : Bool). by x (eqb e.end (next (decode l.least b))))
        (eq-eqb e.start (next (decode l.least b)) (h ∙ sym next-is)))

    pub settled-end : (e.start ≡ c + 1 → ⊥) → e.end ≡ c + 1 → has (decode l.least b) (c + 1) e ≡ settled (decode l.least b) e
    settled-end n h =
        ap (λ (v : ℕ). has (decode l.least b) v e) (sym next-is)
        ∙ sym (ap₂ by (starts-not n) (eq-eqb e.end (next (decode l.least b)) (h ∙ sym next-is)))

    pub settled-apart : (e.start ≡ c + 1 → ⊥) → (e.end ≡ c + 1 → ⊥) → true ≡ settled (decode l.least b) e
    settled-apart n h = sym (ap₂ by (starts-not n) (ne_eqb e.end (next (decode l.least b)) (λ z. h (z ∙ next-is))))
