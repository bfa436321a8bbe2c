use Rattle.flow_hubs.proofs.Chaining.{blank_many, blank_empty}
use Rattle.flow_hubs.proofs.chains.Chains.new.Goals as goal

pub returns-clause-many : goal.returns-clause-many
returns-clause-many c =
    blank_many c.args.count c.in_ok-heads.heads.items c.new-links.result.items (c.in_ok-heads.ensures.items_if_clones_equal (λ y h. h))

pub returns-clause-empty : goal.returns-clause-empty
returns-clause-empty c =
    blank_empty c.args.count c.in_ok-heads.heads.items c.new-links.result.items (c.in_ok-heads.ensures.items_if_clones_equal (λ y h. h))
