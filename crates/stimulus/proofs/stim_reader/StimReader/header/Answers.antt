use Rattle.stimulus.proofs.StreamLemmas.{header_refused, header_starts}
use Rattle.stimulus.proofs.stim_reader.StimReader.header.Goals as goal

pub returns-in-Ok-true-clause-rows : goal.returns-in-Ok-true-clause-rows
returns-in-Ok-true-clause-rows g c =
    let comes = rw (c.in-Ok-true.field-0-test, c.in-Ok.ensures) at c.in-Ok-true.ensures.comes in
    header_starts c.start.result c.args.design.now c.next_spoken.new.self (g.F.Files.rest c.args.files.now) (g.F.Files.rest c.next_spoken.new.files) comes
    c.start.ensures.ok c.start.ensures.rows c.start.ensures.new

pub returns-in-Ok-true-clause-fault : goal.returns-in-Ok-true-clause-fault
returns-in-Ok-true-clause-fault g c =
    let comes = rw (c.in-Ok-true.field-0-test, c.in-Ok.ensures) at c.in-Ok-true.ensures.comes in
    header_refused c.start.result c.args.design.now c.next_spoken.new.self (g.F.Files.rest c.args.files.now) (g.F.Files.rest c.next_spoken.new.files) comes
    c.start.ensures.fault
