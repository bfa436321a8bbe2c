use Rattle.std.proofs.Common.{ap, is_some}
use Rattle.flat_declared.proofs.Items.{once-step, seen-step, none_once}
use Rattle.flat_declared.proofs.declared.with_once.Goals as goal

pub loop-name-init : goal.loop-name-init
loop-name-init c = record {
  seen = λ q. ap is_some (c.new-seen.ensures q);
  all = none_once c.args.before;
}

pub loop-name-preserved : goal.loop-name-preserved
loop-name-preserved c =
    let names = c.args.names.now in
    let i = c.loop-name.name-index in
    let n = c.name-item.result in
    record {
      seen = seen-step names i n c.as_slice.result.now c.loop-name.seen c.put.new.self c.loop-name-test.true c.name-item.is c.as_slice.ensures
          c.loop-name.invariant.seen c.in_ok-is_new.ensures.ok;
      all = once-step names i n c.as_slice.result.now c.loop-name.seen c.args.before c.loop-name.all c.in_ok-all.all c.in_ok-is_new.is_new
          c.loop-name-test.true c.name-item.is c.as_slice.ensures c.loop-name.invariant.seen c.loop-name.invariant.all c.in_ok-is_new.ensures.was_new
          c.in_ok-all.ensures;
    }
