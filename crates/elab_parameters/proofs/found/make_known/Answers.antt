use Rattle.elab_parameters.proofs.Founds.{knows}
use Rattle.elab_parameters.proofs.found.make_known.Goals as goal

pub returns : goal.returns
returns c = λ k named value.
    knows k c.args.names.now.items c.pop.new.self.items c.push.new.self.items c.in-Some.innermost c.make_known.new.self c.in-Some.ensures.items
    c.in_ok-push.ensures.items (λ f is. c.in_ok-make_known.ensures f k is named value)
