use Rattle.std.proofs.Common.{◌≡◌, ◌+◌, ◌≤◌, true, length, map, sym, subst}
use Rattle.std.specs.List.{list_all}
use Rattle.counted_circuit.specs.Tells.{tells, arms_of}
use Rattle.counted_copy.specs.Blocks.{is_uncounted}
use Rattle.counted_copy.specs.Carried.{carried_by}
use Rattle.counted_copy.proofs.CountedProcesses as processes
use Rattle.counted_copy.proofs.process.body_process.Goals as goal

pub counted_block-requires-clause-uncounted : goal.counted_block-requires-clause-uncounted
counted_block-requires-clause-uncounted c =
    subst (λ xs. list_all is_uncounted xs ≡ true) (sym c.as_slice.ensures) (processes.body_without c.args.process.now c.requires.uncounted)

pub counted_block-requires-clause-room : goal.counted_block-requires-clause-room
counted_block-requires-clause-room c =
    subst (λ xs. c.args.arm + 1 + arms_of (map tells xs) ≤ length c.args.carriers.now) (sym c.as_slice.ensures)
    (processes.body_room c.args.process.now c.args.arm (length c.args.carriers.now) c.requires.assigns c.requires.covers c.requires.room)

pub returns : goal.returns
returns c =
    processes.body_counted (carried_by c.args.carriers.now) c.args.arm c.in_ok-block.block.next c.args.process.now c.as_slice.result.now
    c.in_ok-block.block.steps c.requires.assigns c.requires.covers c.as_slice.ensures c.in_ok-block.ensures
