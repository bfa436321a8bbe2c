use Rattle.std.proofs.Common.{false, sym, subst}
use Rattle.std.proofs.lemmas.Bool.{true≢false}
use Rattle.cvd_cursor.specs.Reads.{Reads, line_marks}
use Rattle.cvd_steps.proofs.Adding.{stood}
use Rattle.cvd_steps.proofs.sums.refuse.Goals as goal

pub unreachable-requires : goal.unreachable-requires
unreachable-requires c =
    let h =
    subst (λ r. Reads (line_marks false) (λ (u : Unit {0}) (v : Unit {0}). Unit {0}) c.args.cursor.now r c.end_line.new.self) c.in-Ok.is
    c.end_line.ensures in
    true≢false (sym (stood false c.args.cursor.now c.end_line.new.self h.1.0))
