use Rattle.std.proofs.Common.{◌≡◌, ◌≤◌, ◌+◌, ◌++◌, length, drop, map, vec_len, vec_capacity}
use Rattle.design_meaning.specs.Writes.{target_widths, parts_at}
use Rattle.flat_design.specs.InDesign.{AreTargetsIn}
use Rattle.design_state.specs.Positions.{part_of}
use Rattle.flat_design.proofs.place.place.Given as goal

abbrev pub invariant-loop-target : goal.invariant-loop-target
invariant-loop-target l =
    let rest = drop l.target-index l.targets in
    record {
      parts : map part_of l.out.items ++ parts_at l.state rest l.value.bits ≡ map part_of l.fn.out.items ++ parts_at l.state l.targets l.value.bits;
      widths : target_widths l.state rest ≡ l.left;
      targets : AreTargetsIn l.state rest;
      room : vec_len l.out + length rest ≤ vec_capacity l.out;
      capacity : vec_capacity l.fn.out ≤ vec_capacity l.out;
      most : l.left ≤ 128;
    }
