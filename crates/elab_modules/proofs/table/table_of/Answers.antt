use Rattle.std.proofs.Common.{subst, take}
use Rattle.std.proofs.lemmas.List.{take_all}
use Rattle.scope_meaning.specs.ScopeTrees.{modules}
use Rattle.elab_modules.specs.Tables.{IsTable}
use Rattle.elab_modules.proofs.Rows.{file-at, file-further, file-fails, none-yet}
use Rattle.elab_modules.proofs.table.table_of.Goals as goal

pub loop-number-init : goal.loop-number-init
loop-number-init c = none-yet c.args.files.now (record { rows = c.new.result; numbers = c.new-2.result }) c.new.ensures c.new-2.ensures

pub returns-in-Err : goal.returns-in-Err
returns-in-Err c =
    let files = c.args.files.now in
    let i = c.loop-number.number in
    let f = c.index-files-number.result in
    file-fails files i f c.in-Err.fault c.loop-number-test.true c.index-files-number.is
    (c.in-Err.ensures files (modules (take i files)) c.loop-number.invariant (file-at files i f c.loop-number-test.true c.index-files-number.is))

pub loop-number-preserved : goal.loop-number-preserved
loop-number-preserved c =
    let files = c.args.files.now in
    let i = c.loop-number.number in
    let f = c.index-files-number.result in
    file-further files i f c.in-Ok.more c.loop-number-test.true c.index-files-number.is
    (c.in-Ok.ensures files (modules (take i files)) c.loop-number.invariant (file-at files i f c.loop-number-test.true c.index-files-number.is))
