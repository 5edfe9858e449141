-- What soundness says, rule by rule, in the form that proofs use. Words of contracts inside the code, as Inner: that they say the same as
-- the tests of Sound is proved in proofs/ByRule.
-- Assumes nothing.
use Rattle.std.specs.Prelude.{ℕ, ◌*◌, ◌≤◌, ◌<◌, Bool, true, false, ◌&&◌, not, ◌≡◌, List, map, leb, ltb, length, drop}
use Rattle.model.specs.Basic.{all, has, pick, in_order}
use Rattle.model.specs.Entry.{within, before}
use Rattle.model.specs.Page.{Page, free, is_free}
use Rattle.model.specs.declared.Slot.{Slot}
use Rattle.model.specs.Store.{Store, page, last}
use Rattle.model.specs.Walk.{Seen, seen}
use Rattle.model.specs.Sound.{is_page, span_ok, entry_ok, first_version, lies_well, keys_ok, fewest, rule7}

-- the versions that rules 4 to 6 speak of
pub record Readable (s : Store) (v : ℕ) : Type 0 where
  pub from : s.oldest ≤ v
  pub upto : v ≤ last s

-- the committed ones among them
pub record Committed (s : Store) (v : ℕ) : Type 0 where
  pub from : s.oldest ≤ v
  pub upto : v ≤ s.current

-- a used page as rule 1 has it
pub record GoodPage (least : ℕ) (s : Store) (p : Page) : Type 0 where
  pub low : p.level ≤ 7
  pub few : length p.entries ≤ 5 * least
  pub span : span_ok (last s) p.start p.end ≡ true
  pub order : in_order before p.entries ≡ true
  pub entries : all (entry_ok (last s) (length s.pages) p.level) p.entries ≡ true

abbrev pub spans_well : Store → Page → Bool
spans_well s p = all (lies_well s p) p.entries

abbrev pub numbers : Store → ℕ → List ℕ
numbers s v = map (λ (x : Seen). x.number) (seen s v)

abbrev pub lives_at : ℕ → Page → Bool
lives_at v p = not (is_free p) && within p.start p.end v

abbrev pub enough : ℕ → Seen → Bool
enough least x = leb (fewest least x.is_root x.up) (length x.pairs)

-- rules 1 to 7
pub record Sound (least : ℕ) (s : Store) : Type 0 where
  pub long : 6 ≤ length s.pages
  pub short : length s.pages ≤ 4096
  pub slots-few : length s.slots ≤ 64 * least
  pub last-low : last s ≤ 1048574
  pub roots : all (λ (x : Slot). is_page (length s.pages) x.root) s.slots ≡ true
  pub front : (n : ℕ) → n < 5 → is_free (page s.pages n) ≡ true
  pub zeros : (n : ℕ) → is_free (page s.pages n) ≡ true → page s.pages n ≡ free
  pub pages : (n : ℕ) → is_free (page s.pages n) ≡ false → GoodPage least s (page s.pages n)
  pub old-low : s.oldest ≤ pick (leb least 4) 0 s.current
  pub begins : first_version s.oldest s.slots ≤ s.oldest
  pub newer : all (λ (x : Slot). ltb s.oldest x.version) (drop 1 s.slots) ≡ true
  pub rises : in_order (λ (x y : Slot). ltb x.version y.version) s.slots ≡ true
  pub upto : all (λ (x : Slot). leb x.version (last s)) s.slots ≡ true
  pub spans : (n : ℕ) → is_free (page s.pages n) ≡ false → spans_well s (page s.pages n) ≡ true
  pub root-used : all (λ (x : Slot). not (is_free (page s.pages x.root))) s.slots ≡ true
  pub keys : (v : ℕ) → Readable s v → all keys_ok (seen s v) ≡ true
  pub counts : (v : ℕ) → Readable s v → all (enough least) (seen s v) ≡ true
  pub reached : (v : ℕ) → Readable s v → (n : ℕ) → 5 ≤ n → n < length s.pages → lives_at v (page s.pages n) ≡ has n (numbers s v)
  pub young : rule7 s ≡ true
