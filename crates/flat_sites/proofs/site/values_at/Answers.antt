use Rattle.flat_names.specs.Inside.{environment_by}
use Rattle.flat_passes.specs.Turns.{loop_of}
use Rattle.flat_sites.proofs.Loops.{made_are}
use Rattle.flat_sites.proofs.site.values_at.Goals as goal

pub returns-in-Made : goal.returns-in-Made
returns-in-Made c = λ env step_name body s.
    made_are env (environment_by c.names-names.result) (loop_of c.args.head step_name body) c.in_ok-made.made c.in-Made.values c.in-Made.is
    (c.names-names.ensures.environment env s) (c.in_ok-made.ensures step_name body)
