use Rattle.std.proofs.Common.{get_or, refl}
use Rattle.command_ending.specs.Finish.{all_done, put_failed, store_failed}
use Rattle.command_ending.proofs.StoreLemmas.{no_file, name_of_store}
use Rattle.command_ending.proofs.stores.finish.Goals as goal

pub returns-in-Ok-store_each : goal.returns-in-Ok-store_each
returns-in-Ok-store_each g c =
    all_done (record { files = c.in-Ok-store_each.ensures.ok_quiet; out = c.in-Ok.ensures.cause.kept }) c.in-Ok.ensures.put
    (rw c.as_slice.ensures.value at c.in-Ok-store_each.ensures.ok)

pub returns-in-Err-store_each : goal.returns-in-Err-store_each
returns-in-Err-store_each g c =
    let within = rw c.as_slice.ensures.value at c.in-Err-store_each.ensures.within in
    let part = rw c.as_slice.ensures.value at c.in-Err-store_each.ensures.part in
    store_failed (get_or c.args.stores.items c.in-Err-store_each.at no_file).0 c.line_at.result
    (name_of_store c.args.stores.items c.in-Err-store_each.at within) c.line_at.ensures
    c.in-Err-store_each.ensures.rose c.in-Ok.ensures.cause.kept c.in-Ok.ensures.put part

pub returns-in-Err : goal.returns-in-Err
returns-in-Err g c = put_failed c.in-Err.ensures.cause.failed refl refl c.in-Err.ensures.part
