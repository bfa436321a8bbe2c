use Rattle.build_meaning.proofs.BuiltRuns as law
use Rattle.build_laws.proofs.built_runs_as_source.Goals as goal

pub returns : goal.returns
returns c = law.built_runs_as_source
