use Rattle.std.proofs.Common.{List, ℕ, Some, None, subst}
use Rattle.elab_overrides.specs.Given.{IsGiven}
use Rattle.elab_parameters.specs.Values.{given_value}
use Rattle.elab_parameters.proofs.Values.{given, not_given}
use Rattle.elab_parameters.proofs.value.parameter_value.Goals as goal

pub returns-in-Some : goal.returns-in-Some
returns-in-Some g c = λ here known same are.
    let p = c.args.of.now in
    let t = c.in-Some.value.now in
    given here known c.args.local c.args.size p t c.value_in.result
    (subst (λ (n : List ℕ). IsGiven (given_value here c.args.local n) (Some t)) c.as_slice.ensures (c.in-Some.ensures here are))
    c.value_in.ensures

pub returns-in-None : goal.returns-in-None
returns-in-None g c = λ here known same are.
    let p = c.args.of.now in
    not_given here known c.args.local c.args.size p c.own_value.result
    (subst (λ (n : List ℕ). IsGiven (given_value here c.args.local n) None) c.as_slice.ensures (c.in-None.ensures here are))
    (c.own_value.ensures known p.name.name same)
