-- Tests over lists of what is seen. Assumes nothing.
use mathlib.Core.Path.{◌≡◌, refl, ap, sym, ◌∙◌}
use mathlib.Core.Bool.{Bool, true, false, ◌&&◌, ◌||◌, not, or_assoc}
use mathlib.Core.List.{List, [], ◌∷◌, ◌++◌}
use Rattle.model.specs.Basic.{all, any}
use Rattle.model.specs.Walk.{Seen}
use Rattle.reach.proofs.laws.Pending.{Same}

module _ {A : Type 0} where
  pub any_append : (g : A → Bool) (a b : List A) → any g (a ++ b) ≡ (any g a || any g b)
  any_append g [] b = refl
  any_append g (x ∷ a) b = rw (any_append g a b) (sym (or_assoc (g x) (any g a) (any g b)))

  pub all_any : (g : A → Bool) (a : List A) → all g a ≡ not (any (λ (x : A). not (g x)) a)
  all_any g [] = refl
  all_any g (x ∷ a) = rw (all_any g a) (cases (g x) (any (λ (y : A). not (g y)) a))
    where
      cases : (b c : Bool) → (b && not c) ≡ not (not b || c)
      cases true c = refl
      cases false c = refl

  pub all-ext : (f g : A → Bool) → ((x : A) → f x ≡ g x) → (xs : List A) → all f xs ≡ all g xs
  all-ext f g e [] = refl
  all-ext f g e (x ∷ xs) = rw (e x, all-ext f g e xs)

  pub all_true : (f : A → Bool) → ((x : A) → f x ≡ true) → (xs : List A) → all f xs ≡ true
  all_true f e [] = refl
  all_true f e (x ∷ xs) = rw (e x, all_true f e xs)

pub same-all : (g : Seen → Bool) (a b : List Seen) → Same a b → all g a ≡ all g b
same-all g a b h = all_any g a ∙ ap not (h (λ (x : Seen). not (g x))) ∙ sym (all_any g b)
