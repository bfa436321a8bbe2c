use Rattle.std.proofs.Common.{refl}
use Rattle.flat_names.proofs.Standing.{environments}
use Rattle.flat_names.proofs.inside.InsideNames.new.Goals as goal

pub returns-clause-environment : goal.returns-clause-environment
returns-clause-environment c = λ here place are n t.
    environments c.args.scopes.now.scopes.items c.args.at c.args.vars.now c.args.numbers.now c.args.loops.now
    (record { scopes = c.args.scopes; at = c.args.at; vars = c.args.vars; numbers = c.args.numbers; loops = c.args.loops }) refl refl refl refl refl here
    place are n t
