-- What a refused addition tells.
use Rattle.std.proofs.Common.{◌≡◌, ℕ, Option, Some, Err, IsErrOf, ap, ◌∙◌}
use Rattle.cov_types.specs.declared.limit.LimitName.{LimitName}
use Rattle.cov_dat.specs.declared.merge_fault.MergeFault.{MergeFault}
use Rattle.cov_dat.specs.declared.merge_fault.MergeFault.TheVariants.{Limit}

-- the limit that is passed is the one that is told
pub limit-of_limit : (n : LimitName) (passed : Option LimitName) → passed ≡ Some n → (name : LimitName)
    → IsErrOf {T = ℕ} {E = MergeFault} (Err (Limit n)) (Limit name) → passed ≡ Some name
limit-of_limit n passed some name told = let same : n ≡ name = cc in some ∙ ap (λ (l : LimitName). Some l) same
