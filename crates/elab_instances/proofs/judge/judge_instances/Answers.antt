use Rattle.std.proofs.Common.{sym, subst, ℕ, List, []}
use Rattle.std.specs.List.{filter_map}
use Rattle.scope_meaning.specs.Scope.{frames}
use Rattle.scope_meaning.specs.Heads.{module_named, names_here}
use Rattle.scope_meaning.specs.Overrides.{parameters, pairs, given_of, expressions}
use Rattle.scope_meaning.specs.ScopeRules.{refusal_at}
use Rattle.scope_meaning.specs.ScopeTrees as trees
use Rattle.scope_meaning.specs.Wanted.{want}
use Rattle.std.proofs.Common.{map}
use Rattle.elab_overrides.specs.Given.{AreGiven}
use Rattle.elab_faults.specs.Flaws.{Finds, flaws_in}
use Rattle.elab_faults.specs.Judged.{IsRefusal}
use Rattle.elab_instances.proofs.Later.{of-none, is-none, is-some, made_at}
use Rattle.elab_instances.proofs.judge.judge_instances.Goals as goal

pub returns-in-Some : goal.returns-in-Some
returns-in-Some c = λ files here at ns made are above visible d.
    let design = trees.modules files in
    let of = c.args.of.now in
    let params = c.args.params.now in
    let known = names_here here at in
    let f = is-some (module_named design of) c.in-Some.found (c.in-Some.ensures files are) in
    c.of_module.ensures design here at ns of made f.m above f.named f.are d
    (subst (λ (names : List (List ℕ)). Finds (AreGiven (filter_map (given_of known) (pairs names params))) (flaws_in (map (want known) (expressions params)))
    c.values-given.result) (c.names.ensures (parameters f.m) f.are)
    (c.values-given.ensures known (c.new-visible.ensures.environment (frames here at) visible)))

pub returns-in-None : goal.returns-in-None
returns-in-None c = λ files here at ns made are above visible d.
    let design = trees.modules files in
    let of = c.args.of.now in
    let params = c.args.params.now in
    let known = names_here here at in
    subst (IsRefusal (refusal_at design (made_at here at c.args.place ns of params made))) (sym c.of_unknown.ensures)
    (of-none design here at c.args.place ns of params made (AreGiven (filter_map (given_of known) (pairs [] params))) c.values.result d
    (is-none (module_named design of) (c.in-None.ensures files are))
    (c.values.ensures known (c.new-visible.ensures.environment (frames here at) visible)))
