use Rattle.std.proofs.Common.{◌≡◌, true, false, arith}
use Rattle.elab_modules.proofs.Rows.{adds, second, not_true, not_false}
use Rattle.elab_modules.proofs.table.with_module.Goals as goal

pub returns-then-not-is_new : goal.returns-then-not-is_new
returns-then-not-is_new c = λ files ms h at.
    let old : c.in_ok-is_new.is_new ≡ false =
    let t = c.if-not-is_new.true in first_of (assumption, grind (arith, not_true)) in
    second files ms c.args.table c.args.module.now c.as_slice.result.now c.in_ok-is_new.is_new h c.as_slice.ensures c.in_ok-is_new.ensures.was_new old

pub returns : goal.returns
returns c = λ files ms h at.
    let fresh : c.in_ok-is_new.is_new ≡ true =
    let t = c.if-not-is_new.false in first_of (assumption, grind (arith, not_false)) in
    adds files ms c.args.table (record { rows = c.push.new.self; numbers = c.put.new.self }) c.args.module.now
    (record { file = c.args.file; index = c.args.index; parameters = c.in_ok-parameters.parameters }) c.as_slice.result.now c.in_ok-is_new.is_new c.len.result h
    (record { place = at; parameters = c.in_ok-parameters.ensures }) c.as_slice.ensures c.in_ok-is_new.ensures.was_new fresh c.len.ensures
    c.in_ok-is_new.ensures.ok c.in_ok-push.ensures.ok
