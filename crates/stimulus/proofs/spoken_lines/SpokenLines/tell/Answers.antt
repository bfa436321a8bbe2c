use Rattle.std.proofs.Common.{◌+◌}
use Rattle.stimulus.proofs.LineLemmas.{said-refused, said-story}
use Rattle.stimulus.proofs.spoken_lines.SpokenLines.tell.Goals as goal

pub returns-in-Err-clause-fault : goal.returns-in-Err-clause-fault
returns-in-Err-clause-fault c =
    rw (← c.self.view_is) (said-refused (c.self.inside.number + 1) c.self.inside.bytes c.line_bytes.result c.self.inside.cutter.line c.line-line.result.now
    c.args.ended c.in-Err.fault
    c.line-line.ensures c.line_bytes.ensures.value (c.in-Err.ensures.says c.args.ended))

pub returns-clause-story : goal.returns-clause-story
returns-clause-story c =
    rw (← c.self.view_is, c.line_story.ensures)
    (said-story c.in-Ok.speaks (c.self.inside.number + 1) c.self.inside.bytes c.line_bytes.result c.self.inside.cutter.line
    c.line-line.result.now c.args.ended c.line-line.ensures c.line_bytes.ensures.value (c.in-Ok.ensures.says c.args.ended))
