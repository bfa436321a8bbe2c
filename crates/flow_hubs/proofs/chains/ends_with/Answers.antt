use Rattle.std.proofs.Common.{◌≡◌, ℕ, suc, ◌-◌, arith, get_or}
use Rattle.std.proofs.lemmas.Bool.{eqb-true}
use Rattle.flow_hubs.proofs.Chaining.{ends_there}
use Rattle.flow_hubs.proofs.chains.ends_with.Goals as goal

pub returns-then-head-gt0 : goal.returns-then-head-gt0
returns-then-head-gt0 c = λ h.
    let head : ℕ = get_or c.args.heads.now c.args.at 0 in
    ends_there c.args.heads.now c.args.links.now c.args.at (head - 1) c.args.number (omega (arith, c.if-head-gt0.true)) (eqb-true _ _ h)
