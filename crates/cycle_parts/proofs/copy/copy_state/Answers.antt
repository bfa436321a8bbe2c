use Rattle.cycle_parts.proofs.WordLaws.{one_shape}
use Rattle.cycle_parts.proofs.copy.copy_state.Goals as goal

pub copy_from-requires : goal.copy_from-requires
copy_from-requires c = one_shape c.args.design.now c.args.to.now c.args.from.now c.requires.to c.requires.from
