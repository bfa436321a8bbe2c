use Rattle.elab_overrides.proofs.Names.{with_name}
use Rattle.elab_blocks.proofs.Twice.{one-twice}
use Rattle.elab_blocks.proofs.duplicate.stands_twice.Goals as goal

pub returns : goal.returns
returns c = record {
  value = λ before h. one-twice before c.args.earlier.now c.args.name.now c.in_ok-is_new.is_new h c.in_ok-is_new.ensures.was_new;
  earlier = λ before h. with_name before c.args.earlier.now c.put.new.self c.args.name.now h c.in_ok-is_new.ensures.ok;
}
