use Rattle.std.proofs.Common.{subst, w32}
use Rattle.std.specs.Prelude.{ℤ}
use Rattle.std.proofs.lemmas.Int.{to_z-of_z}
use Rattle.elab_heads.specs.Passes.{IsPassValue}
use Rattle.elab_heads.proofs.Passes.{passes}
use Rattle.elab_heads.proofs.pass.PassNames.new.Goals as goal

pub returns : goal.returns
returns c = λ fs are.
    let free = c.is_free_genvar-is_free.result in
    let v = c.value_where-value.result in
    let given = subst (λ (z : ℤ). IsPassValue free z v) (to_z-of_z w32 c.args.value c.ranges.value) c.value_where-value.ensures in
    passes fs c.new-outer.result.scopes.now c.args.name.now c.args.value free v
    (c.new-outer.ensures.environment fs are) (c.is_free_genvar-is_free.ensures fs (c.new-outer.ensures.frames fs are)) given
