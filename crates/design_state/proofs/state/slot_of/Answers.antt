use Rattle.std.proofs.Common.{◌<◌, subst}
use Rattle.design_state.proofs.Layouts.{stands_at_base, length_split}
use Rattle.design_state.proofs.state.slot_of.Goals as goal

pub bounds-slots-var : goal.bounds-slots-var
bounds-slots-var c = subst (λ n. c.args.var < n) (length_split c.args.slots.now c.args.words.now) c.requires.var

pub returns : goal.returns
returns c = stands_at_base c.args.slots.now c.args.words.now c.args.var _ c.requires.laid
    (subst (λ n. c.args.var < n) (length_split c.args.slots.now c.args.words.now) c.requires.var)
