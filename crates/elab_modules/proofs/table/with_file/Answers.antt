use Rattle.std.proofs.Common.{◌≡◌, ◌∙◌, ◌++◌, ap, subst, take}
use Rattle.std.proofs.lemmas.List.{take_all}
use Rattle.elab_modules.specs.Tables.{IsTable}
use Rattle.elab_modules.proofs.Rows.{placed, module-further, module-fails}
use Rattle.elab_modules.proofs.table.with_file.Goals as goal

pub returns-in-Err : goal.returns-in-Err
returns-in-Err c = λ files ms h at.
    let mods = c.as_slice-modules.result.now in
    let i = c.loop-index.index in
    let m = c.index-modules-index.result in
    module-fails ms mods c.args.file.now.modules i m c.in-Err.fault c.loop-index-test.true c.index-modules-index.is c.as_slice-modules.ensures
    (c.in-Err.ensures files (ms ++ take i mods) (c.loop-index.invariant files ms h at)
    (placed files c.args.number i c.args.file.now mods m at c.as_slice-modules.ensures c.loop-index-test.true c.index-modules-index.is))

pub loop-index-preserved : goal.loop-index-preserved
loop-index-preserved c = λ files ms h at.
    let mods = c.as_slice-modules.result.now in
    let i = c.loop-index.index in
    let m = c.index-modules-index.result in
    module-further files ms mods i m c.in-Ok.more c.loop-index-test.true c.index-modules-index.is
    (c.in-Ok.ensures files (ms ++ take i mods) (c.loop-index.invariant files ms h at)
    (placed files c.args.number i c.args.file.now mods m at c.as_slice-modules.ensures c.loop-index-test.true c.index-modules-index.is))

pub returns : goal.returns
returns c = λ files ms h at.
    subst (λ l. IsTable files (ms ++ l) c.loop-index.all)
    (take_all c.loop-index.index c.as_slice-modules.result.now c.loop-index-test.false ∙ c.as_slice-modules.ensures)
    (c.loop-index.invariant files ms h at)
