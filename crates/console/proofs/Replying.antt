-- From what each call gave to what is said of its command. Assumes nothing.
use Rattle.std.specs.Prelude.{None}
use Prim.Native.Nat.{ℕ, ◌+◌, ◌*◌, ◌≤◌}
use native.Mathlib.Omega.{arith}
use lib.ListN.{take}
use mathlib.Core.Path.{◌≡◌, refl, ap, sym, subst, ◌∙◌}
use mathlib.Core.List.{List, [], ◌∷◌}
use Rattle.model.specs.Lent.{open_lent, insert_lent, delete_lent, commit_lent, abandon_lent, lookup_lent}
use Rattle.model.specs.Basic.{flat_map}
use Rattle.lines.specs.declared.Answer.{Answer}
use Rattle.lines.specs.declared.Answer.TheVariants.{BadLine}
use Rattle.lines.specs.declared.Command.{Command}
use Rattle.lines.specs.declared.Command.TheVariants.{Store, Open, Insert, Delete, Commit, Abandon, Get, Bad}
use Rattle.lines.specs.Answers.{text_of, Put}
use Rattle.lines.specs.Session.{Said, outcome, looked, settings, stored, said}
use Rattle.console.specs.declared.Reply.{Reply}
use Rattle.console.specs.Obeys.{store_in, Sure, Single, Replies, Obeys, heard_said}
use Rattle.console.proofs.Keeping.{alone}
use Rattle.console.proofs.Settings.{put-none}

module _ (b : List ℕ) where
  pub said-store : (n : ℕ) → said 4 b (Store n) ≡ stored 4 b n
  unfolding said
  said-store n = refl

  pub said-open : said 4 b Open ≡ outcome (open_lent 4 b)
  unfolding said
  said-open = refl

  pub said-insert : (k v : ℕ) → said 4 b (Insert k v) ≡ outcome (insert_lent 4 b k v)
  unfolding said
  said-insert k v = refl

  pub said-delete : (k : ℕ) → said 4 b (Delete k) ≡ outcome (delete_lent 4 b k)
  unfolding said
  said-delete k = refl

  pub said-commit : said 4 b Commit ≡ outcome (commit_lent 4 b)
  unfolding said
  said-commit = refl

  pub said-abandon : said 4 b Abandon ≡ outcome (abandon_lent 4 b)
  unfolding said
  said-abandon = refl

-- a command that has one answer
pub replied : (b : List ℕ) {s : Said} {bytes : List ℕ} {c d : Command} {r : Reply} (list : List ℕ) → c ≡ d → said 4 b d ≡ s
    → Single s bytes r → Replies (said 4 b c) bytes list r
replied b {s} {bytes} {c} {d} {r} list e f k = subst (λ (x : Said). Replies x bytes list r) (sym (ap (said 4 b) e ∙ f)) (alone list k)

pub got : (bytes : List ℕ) (pages k v : ℕ) (a : Answer) (r : Reply) → pages ≤ 256 → Sure bytes pages
    → a ≡ looked (lookup_lent 4 (store_in bytes pages) k v)
    → r ≡ record { pages = pages; answer = a; count = 0 } → Single (said 4 (store_in bytes pages) (Get k v)) bytes r
unfolding said
got bytes pages k v a r h s e f =
    subst
    (λ (x : Reply). Single (said 4 (store_in bytes pages) (Get k v)) bytes x)
    (sym f)
    (record { store = refl; answers = ap (λ (x : Answer). x ∷ []) (sym e); alone = refl; pages = h; sure = s })

pub not-a-command : (bytes : List ℕ) (pages : ℕ) (r : Reply) → pages ≤ 256 → Sure bytes pages
    → r ≡ record { pages = pages; answer = BadLine; count = 0 }
    → Single (said 4 (store_in bytes pages) Bad) bytes r
unfolding said
not-a-command bytes pages r h s f =
    subst
    (λ (x : Reply). Single (said 4 (store_in bytes pages) Bad) bytes x)
    (sym f)
    (record { store = refl; answers = refl; alone = refl; pages = h; sure = s })

-- ---- a reply as text

pub obeyed : {s : Said} {bytes list d d' : List ℕ} {at e : ℕ} {r : Reply} → Replies s bytes list r
    → Put d at (flat_map text_of (r.answer ∷ settings (take (2 * r.count) list))) d' e → e ≤ at + 110462
    → Obeys s bytes d at d' (record { pages = r.pages; at = e })
obeyed {s} {bytes} {list} {d} {d'} {at} {e} {r} k p h = record {
  store = k.store;
  put = subst (λ (x : List Answer). Put d at (flat_map text_of x) d' e) (sym k.answers) p;
  room = h;
  pages = k.pages;
  sure = k.sure;
}

pub nothing-heard : (bytes : List ℕ) (pages : ℕ) (d : List ℕ) (at : ℕ) → pages ≤ 256 → Sure bytes pages
    → Obeys (heard_said (store_in bytes pages) None) bytes d at d (record { pages = pages; at = at })
nothing-heard bytes pages d at h s = record { store = refl; put = put-none d at; room = omega arith; pages = h; sure = s }
