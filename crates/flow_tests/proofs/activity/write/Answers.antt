use Rattle.std.proofs.Common.{◌≡◌, sym, subst}
use Rattle.circuit_run.specs.States.{State}
use Rattle.circuit_run.specs.Writes.{Part, written}
use Rattle.design_tree.specs.declared.design.Design.{Design}
use Rattle.design_state.specs.Positions.{part_of}
use Rattle.design_meaning.specs.States.{IsStateOf}
use Rattle.design_meaning.proofs.StateKeeps.{written_keeps}
use Rattle.flow_tests.proofs.activity.write.Goals as goal

keeps : (d : Design) (s t : State) (p : Part) → t ≡ written s p → IsStateOf d s → IsStateOf d t
keeps d s t p is h = subst (IsStateOf d) (sym is) (written_keeps d s p h)

pub returns : goal.returns
returns c = keeps c.args.design.now c.args.state.now c.write_part.new.self (part_of c.args.part.now) c.write_part.ensures c.requires.of_design
