use Rattle.std.proofs.Common.{subst, sym}
use Rattle.scope_meaning.specs.Scope.{frames}
use Rattle.scope_meaning.specs.Heads.{names_here}
use Rattle.scope_meaning.specs.Standing.{standing_port}
use Rattle.scope_meaning.specs.ScopeRules.{refusal_at}
use Rattle.elab_faults.specs.Judged.{Judges, Nothing}
use Rattle.elab_places.proofs.Rules.{judges}
use Rattle.elab_places.proofs.port.judge_port.Goals as goal
use Rattle.std.proofs.Common.{refl}

pub returns : goal.returns
returns c = λ design here at are d.
    let x = standing_port here at c.args.port.now in
    subst (Judges Nothing (refusal_at design x)) (sym c.at_place.ensures)
    (judges Nothing design x c.port_flaws.result d refl refl
    (c.port_flaws.ensures (names_here here at) (c.new-visible.ensures.environment (frames here at) are)))
