-- The handles that stay when one leaves the queue. Assumes nothing.
use Rattle.std.proofs.Common.{◌≡◌, ℕ, ◌==◌, Bool, true, false, cond, not, List, [], ◌∷◌, filter, refl, ap}
use Rattle.promises.specs.SharedView.{without}

pub filter_without : (h : ℕ) (q : List ℕ) → filter (λ x. not (x == h)) q ≡ without h q
filter_without h [] = refl
filter_without h (x ∷ q) = go (x == h) _ _ (filter_without h q)
  where
    go : (b : Bool) (xs ys : List ℕ) → xs ≡ ys → cond (not b) (x ∷ xs) xs ≡ cond b ys (x ∷ ys)
    go true xs ys e = e
    go false xs ys e = ap (λ r. x ∷ r) e
