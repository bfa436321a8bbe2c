use Rattle.std.proofs.Common.{refl}
use Rattle.sim_frame.specs.RunEnds.{stored, unput, unstored}
use Rattle.sim_frame.proofs.end_room.put_and_store.Goals as goal

pub returns-in-Ok-store : goal.returns-in-Ok-store
returns-in-Ok-store g c =
    rw c.well_ended.ensures
    (stored (record { files = c.in-Ok-store.ensures.ok_quiet; out = c.in-Ok.ensures.cause.kept }) c.in-Ok.ensures.put c.in-Ok-store.ensures.stored)

pub returns-in-Err-store : goal.returns-in-Err-store
returns-in-Err-store g c =
    rw c.in-Err-store.ensures.line
    (unstored c.in-Err-store.ensures.rose c.in-Ok.ensures.cause.kept c.in-Ok.ensures.put c.in-Err-store.ensures.part)

pub returns-in-Err : goal.returns-in-Err
returns-in-Err g c = unput c.in-Err.ensures.cause.failed refl refl c.in-Err.ensures.part
