use Rattle.flow_spans.proofs.Arms as arm
use Rattle.flow_spans.proofs.targets.target_aim.Goals as goal

pub returns-then-is_some-clause-reads : goal.returns-then-is_some-clause-reads
returns-then-is_some-clause-reads c = arm.target_adds c.args.vars.now c.args.out.now.items c.fixed_position-in-WordPart.new.out.items
    c.fixed_position-in-WordPart-2.new.out.items
    c.in-WordPart.var c.in-WordPart.word c.in-WordPart.width c.in-WordPart.at c.args.target.now c.in-WordPart.is c.in_ok-word-in-WordPart.ensures.reads
    c.in_ok-at-in-WordPart.ensures.reads

pub returns-else-is_some-clause-reads : goal.returns-else-is_some-clause-reads
returns-else-is_some-clause-reads c = arm.target_adds c.args.vars.now c.args.out.now.items c.fixed_position-in-WordPart.new.out.items
    c.fixed_position-in-WordPart-2.new.out.items
    c.in-WordPart.var c.in-WordPart.word c.in-WordPart.width c.in-WordPart.at c.args.target.now c.in-WordPart.is c.in_ok-word-in-WordPart.ensures.reads
    c.in_ok-at-in-WordPart.ensures.reads
