use Rattle.stimulus.proofs.StreamLemmas.{refuses_row, tells_row}
use Rattle.stimulus.proofs.stim_reader.StimReader.next_row.Goals as goal

pub returns-in-Ok-true-clause-step : goal.returns-in-Ok-true-clause-step
returns-in-Ok-true-clause-step g c =
    let comes = rw c.in-Ok-true.field-0-test at c.in-Ok-true.ensures.comes in
    rw (← c.self.view_is) (tells_row c.tell.result c.self.inside.lines c.next_spoken.new.self c.self.inside.layout c.self.inside.cycles c.self.inside.fault
    c.tell.new.self c.tell.new.row
    (g.F.Files.rest c.args.files.now) (g.F.Files.rest c.next_spoken.new.files) c.in_default.is comes c.tell.ensures.step c.tell.ensures.row c.tell.ensures.new)

pub returns-in-Ok-true-clause-fault : goal.returns-in-Ok-true-clause-fault
returns-in-Ok-true-clause-fault g c =
    let comes = rw c.in-Ok-true.field-0-test at c.in-Ok-true.ensures.comes in
    rw (← c.self.view_is) (refuses_row c.tell.result c.self.inside.lines c.next_spoken.new.self c.self.inside.layout c.self.inside.cycles c.self.inside.fault
    (g.F.Files.rest c.args.files.now) (g.F.Files.rest c.next_spoken.new.files) c.in_default.is comes c.tell.ensures.fault)
