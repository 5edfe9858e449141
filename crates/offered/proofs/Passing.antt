-- From a function's contract, in one to four clauses, to what follows from it.
-- Assumes nothing.
use base.Logic.{sep, id⊢, via, fst∗, snd∗}
use prog.Wired.{Code}
use mir.Syntax.{Callee}
use contract.Monad.{fact, fact_i, fact_use}
use denote.Ask.Run.{routine_mono}
use denote.Triple.Clauses.{Ended, at_exit}
use denote.Triple.Weaken.{weaken}
use Rattle.offered.specs.Does.{Says, always, Holds, Does}

module _ (T : Ended) (c : Code) (n : Callee) {M : Type 1} (P : Says T) where
  pub by_one : (X : Says T) → Does T c n X M → ((κs : _) (a : _) (r : _) (e : _) → X κs a r e → P κs a r e) → Does T c n P M
  by_one X d p 𝓤 𝓛 𝓜 𝓡 wired =
      weaken 𝓛 T (always T 𝓤 (λ κs a r e. fact 𝓤 (X κs a r e))) (λ κs a g r e. fact 𝓤 (P κs a r e))
      (λ κs a g r ws. let e = at_exit T κs a ws in
      fact_use 𝓤 (X κs a r e) (id⊢ 𝓤 (fact 𝓤 (X κs a r e))) (λ x. fact_i 𝓤 (P κs a r e) (fact 𝓤 (X κs a r e)) (p κs a r e x)))
      (𝓡.run (𝓡.env n)) (routine_mono 𝓤 𝓛.H 𝓜 𝓡 (𝓡.env n)) (d 𝓤 𝓛 𝓜 𝓡 wired)

  pub by_two : (X Y : Says T) → Holds T c n M (λ 𝓤 κs a r e. sep 𝓤 (fact 𝓤 (X κs a r e)) (fact 𝓤 (Y κs a r e)))
      → ((κs : _) (a : _) (r : _) (e : _) → X κs a r e → Y κs a r e → P κs a r e) → Does T c n P M
  by_two X Y d p 𝓤 𝓛 𝓜 𝓡 wired =
      weaken 𝓛 T (always T 𝓤 (λ κs a r e. sep 𝓤 (fact 𝓤 (X κs a r e)) (fact 𝓤 (Y κs a r e))))
      (λ κs a g r e. fact 𝓤 (P κs a r e))
      (λ κs a g r ws. let e = at_exit T κs a ws in
      fact_use 𝓤 (X κs a r e) (fst∗ 𝓤 (fact 𝓤 (X κs a r e)) (fact 𝓤 (Y κs a r e))) (λ x.
      fact_use 𝓤 (Y κs a r e) (snd∗ 𝓤 (fact 𝓤 (X κs a r e)) (fact 𝓤 (Y κs a r e))) (λ y.
      fact_i 𝓤 (P κs a r e) (sep 𝓤 (fact 𝓤 (X κs a r e)) (fact 𝓤 (Y κs a r e))) (p κs a r e x y))))
      (𝓡.run (𝓡.env n)) (routine_mono 𝓤 𝓛.H 𝓜 𝓡 (𝓡.env n)) (d 𝓤 𝓛 𝓜 𝓡 wired)

  pub by_three : (X Y Z : Says T)
      → Holds T c n M (λ 𝓤 κs a r e. sep 𝓤 (fact 𝓤 (X κs a r e)) (sep 𝓤 (fact 𝓤 (Y κs a r e)) (fact 𝓤 (Z κs a r e))))
      → ((κs : _) (a : _) (r : _) (e : _) → X κs a r e → Y κs a r e → Z κs a r e → P κs a r e) → Does T c n P M
  by_three X Y Z d p 𝓤 𝓛 𝓜 𝓡 wired =
      weaken 𝓛 T
      (always T 𝓤 (λ κs a r e. sep 𝓤 (fact 𝓤 (X κs a r e)) (sep 𝓤 (fact 𝓤 (Y κs a r e)) (fact 𝓤 (Z κs a r e)))))
      (λ κs a g r e. fact 𝓤 (P κs a r e))
      (λ κs a g r ws. let e = at_exit T κs a ws in
      fact_use 𝓤 (X κs a r e) (fst∗ 𝓤 (fact 𝓤 (X κs a r e)) (sep 𝓤 (fact 𝓤 (Y κs a r e)) (fact 𝓤 (Z κs a r e)))) (λ x.
      fact_use 𝓤 (Y κs a r e)
      (via 𝓤 (sep 𝓤 (fact 𝓤 (Y κs a r e)) (fact 𝓤 (Z κs a r e)))
      (snd∗ 𝓤 (fact 𝓤 (X κs a r e)) (sep 𝓤 (fact 𝓤 (Y κs a r e)) (fact 𝓤 (Z κs a r e))))
      (fst∗ 𝓤 (fact 𝓤 (Y κs a r e)) (fact 𝓤 (Z κs a r e)))) (λ y.
      fact_use 𝓤 (Z κs a r e)
      (via 𝓤 (sep 𝓤 (fact 𝓤 (Y κs a r e)) (fact 𝓤 (Z κs a r e)))
      (snd∗ 𝓤 (fact 𝓤 (X κs a r e)) (sep 𝓤 (fact 𝓤 (Y κs a r e)) (fact 𝓤 (Z κs a r e))))
      (snd∗ 𝓤 (fact 𝓤 (Y κs a r e)) (fact 𝓤 (Z κs a r e)))) (λ z.
      fact_i 𝓤 (P κs a r e) (sep 𝓤 (fact 𝓤 (X κs a r e)) (sep 𝓤 (fact 𝓤 (Y κs a r e)) (fact 𝓤 (Z κs a r e)))) (p κs a r e x y z)))))
      (𝓡.run (𝓡.env n)) (routine_mono 𝓤 𝓛.H 𝓜 𝓡 (𝓡.env n)) (d 𝓤 𝓛 𝓜 𝓡 wired)

  pub by-four : (X Y Z W : Says T)
      → Holds T c n M
      (λ 𝓤 κs a r e. sep 𝓤 (fact 𝓤 (X κs a r e)) (sep 𝓤 (fact 𝓤 (Y κs a r e)) (sep 𝓤 (fact 𝓤 (Z κs a r e)) (fact 𝓤 (W κs a r e)))))
      → ((κs : _) (a : _) (r : _) (e : _) → X κs a r e → Y κs a r e → Z κs a r e → W κs a r e → P κs a r e) → Does T c n P M
  by-four X Y Z W d p 𝓤 𝓛 𝓜 𝓡 wired =
      weaken 𝓛 T
      (always T 𝓤 (λ κs a r e. sep 𝓤 (fact 𝓤 (X κs a r e))
      (sep 𝓤 (fact 𝓤 (Y κs a r e)) (sep 𝓤 (fact 𝓤 (Z κs a r e)) (fact 𝓤 (W κs a r e)))))) (λ κs a g r e. fact 𝓤 (P κs a r e))
      (λ κs a g r ws. let e = at_exit T κs a ws in
      fact_use 𝓤 (X κs a r e)
      (fst∗ 𝓤 (fact 𝓤 (X κs a r e)) (sep 𝓤 (fact 𝓤 (Y κs a r e)) (sep 𝓤 (fact 𝓤 (Z κs a r e)) (fact 𝓤 (W κs a r e))))) (λ x.
      fact_use 𝓤 (Y κs a r e)
      (via 𝓤 (sep 𝓤 (fact 𝓤 (Y κs a r e)) (sep 𝓤 (fact 𝓤 (Z κs a r e)) (fact 𝓤 (W κs a r e))))
      (snd∗ 𝓤 (fact 𝓤 (X κs a r e)) (sep 𝓤 (fact 𝓤 (Y κs a r e)) (sep 𝓤 (fact 𝓤 (Z κs a r e)) (fact 𝓤 (W κs a r e)))))
      (fst∗ 𝓤 (fact 𝓤 (Y κs a r e)) (sep 𝓤 (fact 𝓤 (Z κs a r e)) (fact 𝓤 (W κs a r e))))) (λ y.
      fact_use 𝓤 (Z κs a r e)
      (via 𝓤 (sep 𝓤 (fact 𝓤 (Z κs a r e)) (fact 𝓤 (W κs a r e)))
      (via 𝓤 (sep 𝓤 (fact 𝓤 (Y κs a r e)) (sep 𝓤 (fact 𝓤 (Z κs a r e)) (fact 𝓤 (W κs a r e))))
      (snd∗ 𝓤 (fact 𝓤 (X κs a r e)) (sep 𝓤 (fact 𝓤 (Y κs a r e)) (sep 𝓤 (fact 𝓤 (Z κs a r e)) (fact 𝓤 (W κs a r e)))))
      (snd∗ 𝓤 (fact 𝓤 (Y κs a r e)) (sep 𝓤 (fact 𝓤 (Z κs a r e)) (fact 𝓤 (W κs a r e)))))
      (fst∗ 𝓤 (fact 𝓤 (Z κs a r e)) (fact 𝓤 (W κs a r e)))) (λ z.
      fact_use 𝓤 (W κs a r e)
      (via 𝓤 (sep 𝓤 (fact 𝓤 (Z κs a r e)) (fact 𝓤 (W κs a r e)))
      (via 𝓤 (sep 𝓤 (fact 𝓤 (Y κs a r e)) (sep 𝓤 (fact 𝓤 (Z κs a r e)) (fact 𝓤 (W κs a r e))))
      (snd∗ 𝓤 (fact 𝓤 (X κs a r e)) (sep 𝓤 (fact 𝓤 (Y κs a r e)) (sep 𝓤 (fact 𝓤 (Z κs a r e)) (fact 𝓤 (W κs a r e)))))
      (snd∗ 𝓤 (fact 𝓤 (Y κs a r e)) (sep 𝓤 (fact 𝓤 (Z κs a r e)) (fact 𝓤 (W κs a r e)))))
      (snd∗ 𝓤 (fact 𝓤 (Z κs a r e)) (fact 𝓤 (W κs a r e)))) (λ w.
      fact_i 𝓤 (P κs a r e) (sep 𝓤 (fact 𝓤 (X κs a r e)) (sep 𝓤 (fact 𝓤 (Y κs a r e)) (sep 𝓤 (fact 𝓤 (Z κs a r e)) (fact 𝓤 (W κs a r e)))))
      (p κs a r e x y z w))))))
      (𝓡.run (𝓡.env n)) (routine_mono 𝓤 𝓛.H 𝓜 𝓡 (𝓡.env n)) (d 𝓤 𝓛 𝓜 𝓡 wired)
