use Rattle.std.proofs.Common.{subst, List, ℕ, Some}
use Rattle.std.specs.List.{filter_map}
use Rattle.scope_meaning.specs.Heads.{module_named, names_here}
use Rattle.scope_meaning.specs.Overrides.{parameters, pairs, given_of}
use Rattle.scope_meaning.specs.Scope.{frames}
use Rattle.scope_meaning.specs.ScopeTrees.{modules}
use Rattle.elab_modules.specs.Modules.{IsFound}
use Rattle.elab_overrides.specs.Given.{AreGiven}
use Rattle.walk_instances.proofs.Made.{its_parameters}
use Rattle.walk_instances.proofs.instances.values_of.Goals as goal

pub returns-in-Ok : goal.returns-in-Ok
returns-in-Ok c = λ files here at table are named.
    let m = c.args.by.of.now in
    let known = names_here here at in
    let theirs = its_parameters (module_named (modules files) m.name) c.in-Some.found c.args.by.number m
    (subst (λ (n : List ℕ). IsFound (module_named (modules files) n) (Some c.in-Some.found)) c.as_slice.ensures (c.in-Some.ensures files table)) named in
    subst (λ (ns : List (List ℕ)). AreGiven (filter_map (given_of known) (pairs ns c.args.by.params.now)) c.in-Ok.given) (c.names.ensures (parameters m) theirs)
    (c.in-Ok.ensures known (c.new-visible.ensures.environment (frames here at) are)).1
