use Rattle.flat_design.proofs.TargetsIn as targets
use Rattle.flat_design.proofs.place.width_named.Goals as goal

pub width-requires : goal.width-requires
width-requires c = targets.whole_var c.args.state.now c.in-Whole.var (rw c.in-Whole.is at c.requires)

pub width-requires-in-Word : goal.width-requires-in-Word
width-requires-in-Word c = targets.word_var c.args.state.now c.in-Word.var _ (rw c.in-Word.is at c.requires)

pub returns-in-Part-clause-some : goal.returns-in-Part-clause-some
returns-in-Part-clause-some c = (targets.part_width c.args.state.now _ c.in-Part.width _ (rw c.in-Part.is at c.requires)).0

pub returns-in-Part-clause-most : goal.returns-in-Part-clause-most
returns-in-Part-clause-most c = (targets.part_width c.args.state.now _ c.in-Part.width _ (rw c.in-Part.is at c.requires)).1

pub returns-in-WordPart-clause-some : goal.returns-in-WordPart-clause-some
returns-in-WordPart-clause-some c = (targets.word_part_width c.args.state.now _ _ c.in-WordPart.width _ (rw c.in-WordPart.is at c.requires)).0

pub returns-in-WordPart-clause-most : goal.returns-in-WordPart-clause-most
returns-in-WordPart-clause-most c = (targets.word_part_width c.args.state.now _ _ c.in-WordPart.width _ (rw c.in-WordPart.is at c.requires)).1
