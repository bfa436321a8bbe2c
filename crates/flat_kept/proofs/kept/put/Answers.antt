use Rattle.flat_kept.proofs.Numbers.{numbered_push}
use Rattle.flat_kept.proofs.kept.put.Goals as goal

pub returns : goal.returns
returns c = record {
  vars = c.in_ok-push.ensures.ok;
  numbers = λ h.
      numbered_push c.args.kept.now.numbers c.put.new.self c.args.kept.now.vars c.push.new.self c.args.var c.as_slice-name.result.now c.len-count.result
      c.in_ok-push.ensures.ok c.len-count.ensures c.as_slice-name.ensures c.in_ok-put.ensures.ok h;
}
