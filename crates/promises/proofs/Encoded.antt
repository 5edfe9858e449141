-- `encoded-sound`: the bytes of a sound store are accepted, and hold it. `accepted`: accepted bytes are those of a sound store.
-- Assumes nothing.
use Prim.Native.Nat.{ℕ, ◌-◌, ◌≤◌}
use mathlib.Core.Bool.{◌&&◌}
use mathlib.Core.Path.{◌≡◌, refl, ap, ◌∙◌}
use mathlib.Core.List.{List}
use lib.Dec.{T}
use Rattle.model.specs.Field.{Bytes}
use Rattle.model.specs.Store.{Store}
use Rattle.model.specs.Layout.{size_of, encode, decode}
use Rattle.model.specs.Clean.{clean_front, clean_pages, clean}
use Rattle.model.specs.Sound.{sound, rule1}
use Rattle.model.specs.Editions.{least_of}
use Rattle.model.specs.ByRule.{Sound}
use Rattle.model.proofs.lists.Lists.{both_true}
use Rattle.model.proofs.lists.Members.{holds-true, true-holds}
use Rattle.model.proofs.sound.ByRule.{from-tests}
use Rattle.model.proofs.sound.Judging.{Accepted}
use Rattle.model.proofs.theorems.Editions.{edition-four, edition-eight}
use Rattle.store.proofs.laws.Exactly.{encode-decode}
use Rattle.store.proofs.laws.Tested.{whole_length, exactly}
use Rattle.store.proofs.laws.Counted.{counted}
use Rattle.written.proofs.laws.Encoded.{encoded-accepted, encoded-are-bytes, encoded-held}
use Rattle.promises.specs.Accepts.{Accepts, store_of, OfEdition, Written, SoundBytes}
use Rattle.promises.proofs.Known.{four, eight, taken, of-edition}

clean_is : (least : ℕ) (b : List ℕ) → (clean_front least b && (clean_pages least b 5 (size_of least b - 5) && rule1 least (decode least b)))
    ≡ clean least b
unfolding clean
clean_is least b = refl

-- The bytes of a sound store are accepted, and hold it.
pub encoded-sound : (least : ℕ) → OfEdition least → (s : Store) → T (sound least s) → Written least s
encoded-sound least e s sure =
    let low : 4 ≤ least = edition-four least e in
    let high : least ≤ 8 = edition-eight least e in
    let d : Sound least s = from-tests least s (holds-true (sound least s) sure) in
    let (ok, is) = of-edition least e (encode least s) (encoded-accepted least low high s d) in
    record {
      accepted = ok;
      bytes = encoded-are-bytes least low high s d;
      edition = is;
      held = ap (λ (l : ℕ). decode l (encode least s)) is ∙ encoded-held least low high s d;
    }

-- Accepted bytes are those of a sound store.
pub accepted : (b : List ℕ) → Bytes b → Accepts b → SoundBytes b
accepted b bytes ok =
    let l : ℕ = least_of b in
    let a : Accepted (least_of b) b = taken b ok in
    let (front, rest) = both_true (clean_front l b) (clean_pages l b 5 (size_of l b - 5) && rule1 l (store_of b))
    (clean_is l b ∙ a.is-clean) in
    let (pages, one) = both_true (clean_pages l b 5 (size_of l b - 5)) (rule1 l (store_of b)) rest in
    record {
      is-sound = true-holds (sound l (store_of b)) a.is-sound;
      same = encode-decode l (four b) (eight b) b (size_of l b)
          (exactly l (eight b) b bytes (whole_length l b a.length-ok) (counted l (eight b) b a) a.magic-ok
          a.edition-ok front pages);
    }
