use Rattle.std.proofs.Common.{◌+◌, ◌<◌, List, ℕ, length, ap, ◌∙◌, arith, Option, None, Some, inl, inr, refl}
use Rattle.command_check.proofs.ReadingLemmas.{long_stops, short_stops}
use Rattle.command_check.proofs.reading.read_design.Goals as goal

pub returns-then-len-room-clause-err : goal.returns-then-len-room-clause-err
returns-then-len-room-clause-err g c =
    long_stops (g.F.Files.held c.args.files.now) c.args.name.now c.in-Ok.text c.args.room _ _ c.over_limit.result c.in-Ok.ensures.ok_quiet c.in-Ok.ensures.ok
    (rw (← c.len.ensures) c.if-len-room.true) c.over_limit.ensures

pub returns-in-Err-clause-err : goal.returns-in-Err-clause-err
returns-in-Err-clause-err g c = short_stops (g.F.Files.held c.args.files.now) c.args.name.now c.args.room _ _ c.in-Err.ending c.in-Err.ensures.err
