-- Entries in their bytes, and the entries of a page with those unused behind them. Assumes nothing.
use Prim.Native.Nat.{ℕ, zero, suc, ◌+◌, ◌*◌, ◌-◌, ◌<◌, ◌≤◌}
use mathlib.Core.Path.{◌≡◌, refl, ap, sym, ◌∙◌}
use mathlib.Core.List.{List, [], ◌∷◌, ◌++◌, append_assoc}
use mathlib.Core.Logic.{⊎_elim}
use native.Mathlib.Omega.{arith}
use lib.ListN.{length, get_or, set, take, drop, replicate, length-append, length-replicate, get_or-replicate, get_or-append}
use lib.ListN.{get_or-eq_default}
use lib.Seq.{get_or-append-add}
use Rattle.bits.proofs.laws.Put.{less}
use Rattle.bits.proofs.laws.Append.{field-part}
use Rattle.bits.proofs.laws.Lay.{Shows, Fit, length-packed, bytes_packed, packed-shows, packed-whole, part_bytes, part_length, two-parts}
use Rattle.bits.proofs.laws.Over.{relay, packed-zeros, zeros-append}
use Rattle.bits.proofs.laws.Rows.{Even, rows-length, row_field, row-lay}
use Rattle.model.specs.declared.Entry.{Entry}
use Rattle.model.specs.Basic.{flat_map}
use Rattle.model.specs.Field.{field, Bytes, lay, zeros, packed}
use Rattle.model.specs.Layout.{entry_parts, entry_bytes, read_entry, read_entries, entries_bytes, unused, padded}
use Rattle.page.specs.Read.{FieldsFit}

-- ---- one entry

pub entry_length : (e : Entry) → length (entry_bytes e) ≡ 12
unfolding entry_bytes
entry_length e = length-packed 12 (entry_parts e)

pub entry-bytes : (e : Entry) → Bytes (entry_bytes e)
unfolding entry_bytes
entry-bytes e = bytes_packed 12 (entry_parts e) (omega arith)

entry-fit : (e : Entry) → FieldsFit e → Fit (entry_parts e)
entry-fit e z = (z.key, (z.start, (z.end, (z.value, refl))))

pub entry-over : (x e : Entry) → FieldsFit e → lay (entry_bytes x) 0 (entry_parts e) ≡ entry_bytes e
unfolding entry_bytes
entry-over x e z = relay 12 (entry_parts x) (entry_parts e) refl (omega arith) (entry-fit e z)

pub entry_read : (e : Entry) → FieldsFit e → read_entry (entry_bytes e) 0 ≡ e
unfolding entry_bytes read_entry
entry_read e z =
    let h : Shows (packed 12 (entry_parts e)) 0 (entry_parts e) = packed-shows 12 (entry_parts e) (omega arith) (entry-fit e z) in
    λ i. record { key = h.0 i; start = h.1.0 i; end = h.1.1.0 i; value = h.1.1.1.0 i }

pub unused-bytes : entry_bytes unused ≡ zeros 12
unfolding entry_bytes
unused-bytes = packed-zeros 12 (entry_parts unused) (omega arith) (refl, (refl, (refl, (refl, refl))))

-- ---- entries one after the other

pub entries-rows : (l : List Entry) → entries_bytes l ≡ flat_map entry_bytes l
unfolding entries_bytes
entries-rows [] = refl
entries-rows (e ∷ l) = ap (λ (x : List ℕ). entry_bytes e ++ x) (entries-rows l)

pub entries-length : (l : List Entry) → length (entries_bytes l) ≡ 12 * length l
entries-length l = rw (entries-rows l) (rows-length entry_bytes unused 12 l (λ i. entry_length (get_or l i unused)) ∙ omega arith)

pub entries-append : (a b : List Entry) → entries_bytes (a ++ b) ≡ entries_bytes a ++ entries_bytes b
unfolding entries_bytes
entries-append [] b = refl
entries-append (e ∷ a) b = rw (entries-append a b) (sym (append_assoc (entry_bytes e) (entries_bytes a) (entries_bytes b)))

pub unused-zeros : (n : ℕ) → entries_bytes (replicate n unused) ≡ zeros (12 * n)
unfolding entries_bytes zeros
unused-zeros zero = refl
unused-zeros (suc n) = let e : 12 * suc n ≡ 12 + 12 * n = omega arith in rw (e, unused-bytes, unused-zeros n) (zeros-append 12 (12 * n))

-- ---- entry i behind 16 bytes h, with z behind all

module _ (h z : List ℕ) (l : List Entry) (i : ℕ) (sixteen : length h ≡ 16) (lt : i < length l) where
  even : Even entry_bytes unused 12 l
  even k = entry_length (get_or l k unused)

  at : (a : ℕ) → 128 + 96 * i + a ≡ 8 * (length h + i * 12) + a
  at a = omega arith

  pub entry-put : (e : Entry) → FieldsFit e → lay (h ++ (entries_bytes l ++ z)) (128 + 96 * i) (entry_parts e)
      ≡ h ++ (entries_bytes (set l i e) ++ z)
  entry-put e s =
      let o : 128 + 96 * i ≡ 8 * (length h + i * 12) = omega arith in
      rw (o, entries-rows l, entries-rows (set l i e))
      (row-lay entry_bytes unused 12 h z l i lt even (entry_parts e) e (omega arith) (entry-over (get_or l i unused) e s))

  field_at : (a n : ℕ) → a + n ≤ 96 → field (h ++ (entries_bytes l ++ z)) (128 + 96 * i + a) n ≡ field (entry_bytes (get_or l i unused)) a n
  field_at a n le = rw (at a, entries-rows l) (row_field entry_bytes unused 12 h z l i lt even a n (omega arith))

  pub entry-get : FieldsFit (get_or l i unused) → read_entry (h ++ (entries_bytes l ++ z)) (128 + 96 * i) ≡ get_or l i unused
  unfolding read_entry
  entry-get s =
      let o : 128 + 96 * i ≡ 128 + 96 * i + 0 = omega arith in
      let e : read_entry (entry_bytes (get_or l i unused)) 0 ≡ get_or l i unused = entry_read (get_or l i unused) s in
      let k : field (h ++ (entries_bytes l ++ z)) (128 + 96 * i) 24 ≡ field (entry_bytes (get_or l i unused)) 0 24
      = rw o (field_at 0 24 (omega arith)) in
      rw (k, field_at 24 20 (omega arith), field_at 44 20 (omega arith), field_at 64 32 (omega arith)) e

-- ---- what is read is what stands there

pub entry-part : (s : List ℕ) (a : ℕ) → Bytes s → a + 12 ≤ length s → entry_bytes (read_entry s (8 * a)) ≡ take 12 (drop a s)
unfolding entry_bytes read_entry
entry-part s a b h =
    let e : 8 * a + 0 ≡ 8 * a = omega arith in
    packed-whole (take 12 (drop a s)) 12 (entry_parts (read_entry s (8 * a))) (part_bytes s a 12 b) (part_length s a 12 h) (omega arith) (
      field-part s a 12 0 24 (omega arith) ∙ ap (λ (x : ℕ). field s x 24) e,
      (field-part s a 12 24 20 (omega arith), (field-part s a 12 44 20 (omega arith), (field-part s a 12 64 32 (omega arith), refl))),
    )
    (λ i l k. absurd (omega arith))

pub entries-part : (s : List ℕ) (a n : ℕ) → Bytes s → a + 12 * n ≤ length s
    → entries_bytes (read_entries s (8 * a) n) ≡ take (12 * n) (drop a s)
unfolding entries_bytes read_entries
entries-part s a zero b h = refl
entries-part s a (suc n) b h =
    let e : 8 * a + 96 ≡ 8 * (a + 12) = omega arith in
    let f : 12 * suc n ≡ 12 + 12 * n = omega arith in
    rw (e, entry-part s a b (omega arith), entries-part s (a + 12) n b (omega arith), f) (two-parts s a 12 (12 * n))

-- ---- the entries of a page, unused ones behind them

module _ (least : ℕ) (es : List Entry) where
  pub length-padded : length es ≤ 5 * least → length (padded least es) ≡ 5 * least
  unfolding padded
  length-padded h = simp (length-append, length-replicate) (omega arith)

  pub padded-get : (k : ℕ) → get_or (padded least es) k unused ≡ get_or es k unused
  unfolding padded
  padded-get k = ⊎_elim (λ l. get_or-append es (replicate n unused) unused k l) high (less k (length es))
    where
      n : ℕ
      n = 5 * least - length es

      blank : (j : ℕ) → get_or (replicate n unused) j unused ≡ unused
      blank j =
          ⊎_elim (λ l. get_or-replicate n j unused unused l)
          (λ l. get_or-eq_default (replicate n unused) unused (rw (length-replicate n unused) l)) (less j n)

      high : length es ≤ k → get_or (es ++ replicate n unused) k unused ≡ get_or es k unused
      high l =
          let e : k ≡ length es + (k - length es) = omega arith in
          ap (λ (x : ℕ). get_or (es ++ replicate n unused) x unused) e ∙ get_or-append-add es (replicate n unused) (k - length es) unused
          ∙ blank (k - length es)
          ∙ sym (get_or-eq_default es unused l)

  pub padded-sized : ((k : ℕ) → FieldsFit (get_or es k unused)) → (k : ℕ) → FieldsFit (get_or (padded least es) k unused)
  padded-sized h k = rw (padded-get k) (h k)

  -- their bytes end in zeros
  pub padded-bytes : entries_bytes (padded least es) ≡ entries_bytes es ++ zeros (12 * (5 * least - length es))
  unfolding padded
  padded-bytes =
      entries-append es (replicate (5 * least - length es) unused)
      ∙ ap (λ (x : List ℕ). entries_bytes es ++ x) (unused-zeros (5 * least - length es))
