-- What the rules of output streams say of a permit with no host turn since. Assumes nothing.
use Rattle.std.proofs.Common.{◌≡◌, ℕ, List, length, Err, Result, refl, ap, ◌∙◌, subst}
use Rattle.stream.specs.declared.error.StreamError.{StreamError}
use Rattle.stream.specs.declared.error.StreamError.TheVariants.{Trap}
use Rattle.stream.specs.declared.error.Trap.{Trap as Trapped}
use Rattle.stream.specs.HostTurns.{none}
use Rattle.stream.specs.Meaning.{Meaning, faulted, closed, open_with, permit}
use Rattle.stream.specs.StreamRules.{Honoured, PermitRule, KeepingRule}
use Rattle.stream.specs.WritePermitted.{Permits}

module _ {V : Type 0} (meaning : V → Meaning) (checked : V → V) (accepts : V → List ℕ → Result (Unit {0}) StreamError) (wrote : V → List ℕ → V) (keeping : KeepingRule meaning accepts checked wrote) where
  -- a write under a permit does not trap
  pub never_traps : (turned : V → V → Type 0) → PermitRule meaning turned checked accepts → (s : V) (part : List ℕ) (e : Trapped) → Permits (meaning s) (length part) → accepts s part ≡ Err (Trap e) → ⊥
  never_traps turned permits s part e permitted trapped = go (meaning s) refl permitted
    where
      go : (m : Meaning) → meaning s ≡ m → Permits m (length part) → ⊥
      go (faulted f) is p = p
      go closed is p = p
      go (open_with n) is (some, few) =
          let same : checked s ≡ s = keeping.checks s n is in
          let h : Honoured meaning turned (checked s) (checked s) (accepts (checked s) part) = permits s (checked s) n part (ap permit is) some few none in
          subst (Honoured meaning turned (checked s) (checked s)) (ap (λ v. accepts v part) same ∙ trapped) h
