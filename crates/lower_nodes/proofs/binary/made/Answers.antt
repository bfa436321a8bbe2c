use Rattle.lower_nodes.proofs.binary.made.Goals as goal

pub returns : goal.returns
returns c = rw (← c.sizing_of.ensures) c.sized.ensures
