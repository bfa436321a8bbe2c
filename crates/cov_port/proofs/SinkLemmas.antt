-- What a put leaves.
use Rattle.std.proofs.Common.{◌≡◌, ℕ, List, [], ◌∷◌, ◌++◌, refl, ap, ◌∙◌}
use Rattle.cov_port.specs.Sinks.{PutsPart}

with_nothing : (xs : List ℕ) → xs ≡ xs ++ []
with_nothing [] = refl
with_nothing (x ∷ xs) = ap (λ (ys : List ℕ). x ∷ ys) (with_nothing xs)

-- to put nothing is to put some first bytes
pub nothing_put : (piece old new : List ℕ) → new ≡ old → PutsPart piece old new
nothing_put piece old new same = (piece, record { front = []; split = refl; put = same ∙ with_nothing old })
