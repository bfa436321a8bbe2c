use Rattle.std.proofs.Common.{sym, subst}
use Rattle.std.specs.Prelude.{All}
use Rattle.design_meaning.specs.Spans.{is_in_any}
use Rattle.design_meaning.specs.Paths.{assign_reads}
use Rattle.flow_spans.specs.Reads.{Adds}
use Rattle.flow_least.specs.Met.{IsMarked}
use Rattle.flow_paths.specs.Walking.{IsNoted}
use Rattle.flow_paths.proofs.Reading.{assign_adds, read_marked, read_passes}
use Rattle.flow_paths.proofs.reads.read_assignment.Goals as goal

pub note-requires : goal.note-requires
note-requires c = subst (λ z. All (IsMarked c.args.walk.now.left.slots) z) (sym c.as_slice.ensures.value)
    (read_marked c.args.vars.now c.args.walk.now c.args.walk.now c.requires.ready c.new-spans.result.items c.positions_read.new.out.items
    (λ b. is_in_any b (assign_reads c.args.targets.now c.args.value.now)) c.new-spans.ensures.items
    (assign_adds c.args.vars.now c.new-spans.result.items c.expression_reads.new.out.items c.positions_read.new.out.items c.args.targets.now c.args.value.now
    c.in_ok-expression_reads.ensures c.in_ok-positions_read.ensures))

pub returns : goal.returns
returns c = read_passes c.args.vars.now c.args.walk.now c.note.new.walk c.requires.ready c.new-spans.result.items c.positions_read.new.out.items
    (λ b. is_in_any b (assign_reads c.args.targets.now c.args.value.now)) c.new-spans.ensures.items
    (assign_adds c.args.vars.now c.new-spans.result.items c.expression_reads.new.out.items c.positions_read.new.out.items c.args.targets.now c.args.value.now
    c.in_ok-expression_reads.ensures c.in_ok-positions_read.ensures)
    (subst (λ z. IsNoted c.args.walk.now c.note.new.walk z) c.as_slice.ensures.value c.note.ensures)
