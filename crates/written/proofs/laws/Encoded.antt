-- The bytes of a sound store are accepted, are bytes, and hold it.
-- Assumes nothing.
use Prim.Native.Nat.{ℕ, zero, suc, ◌*◌, ◌%◌, ◌≤◌, ◌<◌}
use native.Mathlib.Omega.{arith}
use native.Mathlib.Nat.{mul-mod_left, mul-le-mul_right}
use mathlib.Core.Bool.{Bool, true, false, ◌&&◌}
use mathlib.Core.Path.{◌≡◌, refl, ap, sym, ◌∙◌}
use mathlib.Core.List.{List, [], append_assoc}
use lib.ListN.{length, get_or, take}
use lib.Seq.{ext_get_or, get_or-take, length-take-le}
use borrow.Author.Tests.{le-leb, eq-eqb}
use Rattle.bits.proofs.laws.Laws.{field-byte}
use Rattle.bits.proofs.laws.Append.{field-left}
use Rattle.bits.proofs.laws.Lay.{Shows, packed-shows}
use Rattle.model.specs.Basic.{eq_list}
use Rattle.model.specs.Field.{field, Bytes}
use Rattle.model.specs.Page.{Page}
use Rattle.model.specs.Store.{Store, page}
use Rattle.model.specs.Layout.{magic, header_parts, header_bytes, header_of, size_of, encode, decode}
use Rattle.model.specs.Clean.{clean}
use Rattle.model.specs.Sound.{sound, rule1, rule2, rule3, rule4, rule5, rule6, rule7}
use Rattle.model.specs.Verdict.{Verdict}
use Rattle.model.specs.Judged.{length_ok, magic_ok, edition_ok, judged}
use Rattle.model.specs.ByRule.{Sound}
use Rattle.model.proofs.lists.Lists.{both-intro}
use Rattle.model.proofs.sound.ByRule.{to-tests}
use Rattle.model.proofs.sound.Judging.{Accepted, judged-accepted}
use Rattle.page.proofs.laws.Editions.{root-bits, oldest-bits}
use Rattle.store.proofs.laws.Header.{header-length, edition-small, bit-small}
use Rattle.store.proofs.laws.Exactly.{encode-is}
use Rattle.store.specs.Holds.{Holds}
use Rattle.store.proofs.laws.Holds.{header-holds, encoded-length, decode-encoded}
use Rattle.written.proofs.laws.Holding.{holds}
use Rattle.written.proofs.laws.Counted.{all-counted}
use Rattle.written.proofs.laws.Spare.{front-clean, all-clean, encoded-size, encoded-bytes, total-is}

module _ (least : ℕ) (four : 4 ≤ least) (eight : least ≤ 8) (s : Store) (v : Holds least s) where
  abbrev b : List ℕ
  b = encode least s

  abbrev header : List ℕ
  header = header_bytes least (header_of s)

  header-shows : Shows header 0 (header_parts least (header_of s))
  unfolding header_bytes
  header-shows =
      let h = header-holds least four eight s v in
      packed-shows (64 * least) (header_parts least (header_of s))
      (omega (arith, total-is least four eight s v, root-bits least eight, oldest-bits least)) (
        omega arith,
        (
          omega arith,
          (
            omega arith,
            (omega arith, (edition-small least, (h.pages, (h.current, (bit-small s.opened, (h.roots, (h.oldest, refl))))))),
          ),
        ),
      )

  name-field : (at : ℕ) → at ≤ 32 → field b at 8 ≡ field header at 8
  name-field at l =
      let n : length header ≡ 64 * least = header-length least (header_of s) in
      ap (λ (x : List ℕ). field x at 8) (encode-is least s ∙ append_assoc header _ _) ∙ field-left header _ at 8 (omega arith)

  name-byte : (i : ℕ) → i < 4 → get_or b i 0 ≡ get_or magic i 0
  name-byte i l = sym (field-byte b i (encoded-bytes least four eight s v i)) ∙ name-field (8 * i) (omega arith) ∙ at i l
    where
      at : (i : ℕ) → i < 4 → field header (8 * i) 8 ≡ get_or magic i 0
      at zero l = header-shows.0
      at (suc zero) l = header-shows.1.0
      at (suc (suc zero)) l = header-shows.1.1.0
      at (suc (suc (suc zero))) l = header-shows.1.1.1.0
      at (suc (suc (suc (suc i)))) l = absurd (omega arith)

  name-is : take 4 b ≡ magic
  name-is =
      let n : length (take 4 b) ≡ 4 = length-take-le 4 b
      (omega (arith, encoded-length least four eight s v, mul-le-mul_right (64 * least) v.five)) in
      ext_get_or 0 (take 4 b) magic n (λ i l. get_or-take 4 b i 0 (omega arith) ∙ name-byte i (omega arith))

  pub magic-ok : magic_ok b ≡ true
  unfolding magic_ok
  magic-ok = ap (λ (x : List ℕ). eq_list x magic) name-is

  pub edition-ok : edition_ok least b ≡ true
  unfolding edition_ok
  edition-ok = eq-eqb _ _ (name-field 32 (omega arith) ∙ header-shows.1.1.1.1.0)

  pub length-ok : 6 ≤ length s.pages → length s.pages ≤ 4096 → length_ok least b ≡ true
  unfolding length_ok
  length-ok six most =
      let whole : length b % (64 * least) ≡ 0 = ap (λ (x : ℕ). x % (64 * least)) (encoded-length least four eight s v)
      ∙ mul-mod_left (length s.pages) (64 * least) in
      both-intro _ _ (both-intro _ _ (eq-eqb _ 0 whole) (le-leb 6 (size_of least b) (omega (arith, encoded-size least four eight s v))))
      (le-leb (size_of least b) 4096 (omega (arith, encoded-size least four eight s v)))

  pub is-clean : rule1 least s ≡ true → ((m : ℕ) → (page s.pages m).level ≡ 0 → (page s.pages m).entries ≡ []) → clean least b ≡ true
  unfolding clean
  is-clean one none =
      both-intro _ _ (front-clean least four eight s v)
      (both-intro _ _ (all-clean least four eight s v none) (ap (rule1 least) (decode-encoded least four eight s v) ∙ one))

rule-one : (least : ℕ) (s : Store) → sound least s ≡ true → rule1 least s ≡ true
unfolding sound
rule-one least s h = at (rule1 least s) (rule2 s) (rule3 s) (rule4 s) (rule5 least s) (rule6 s) (rule7 s) h
  where
    at : (r1 r2 r3 r4 r5 r6 r7 : Bool) → (r1 && r2 && r3 && r4 && r5 && r6 && r7) ≡ true → r1 ≡ true
    at true r2 r3 r4 r5 r6 r7 e = refl
    at false r2 r3 r4 r5 r6 r7 e = e

module _ (least : ℕ) (four : 4 ≤ least) (eight : least ≤ 8) where
  passes : (s : Store) → Sound least s → Accepted least (encode least s)
  passes s d =
      let h : sound least s ≡ true = to-tests least s d in
      let v : Holds least s = holds least s d in
      record {
        length-ok = length-ok least four eight s v d.long d.short;
        magic-ok = magic-ok least four eight s v;
        edition-ok = edition-ok least four eight s v;
        is-clean = is-clean least four eight s v (rule-one least s h)
            (λ m e. ap (λ (p : Page). p.entries) (d.zeros m (eq-eqb (page s.pages m).level 0 e)));
        is-sound = ap (sound least) (decode-encoded least four eight s v) ∙ h;
        is-counted = all-counted least four eight s d v;
      }

  module _ (s : Store) (d : Sound least s) where
    pub encoded-accepted : (judged least (encode least s)).number ≡ 0
    encoded-accepted = ap (λ (x : Verdict). x.number) (judged-accepted least (encode least s) (passes s d))

    pub encoded-are-bytes : Bytes (encode least s)
    encoded-are-bytes = encoded-bytes least four eight s (holds least s d)

    pub encoded-held : decode least (encode least s) ≡ s
    encoded-held = decode-encoded least four eight s (holds least s d)
