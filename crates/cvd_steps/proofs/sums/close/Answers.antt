use Rattle.std.proofs.Common.{ap, ◌∙◌, subst}
use Rattle.std.specs.Prelude.{◌&&◌}
use Rattle.std.proofs.lemmas.Result.{err_from_is_err_and}
use Rattle.cvd_cursor.specs.Reads.{Refused, Takes, line_marks}
use Rattle.cvd_steps.proofs.Adding.{right_of, stood}
use Rattle.cvd_steps.proofs.sums.close.Goals as goal

pub returns-in_err-end_line : goal.returns-in_err-end_line
returns-in_err-end_line c =
    let p = err_from_is_err_and c.from_residual.result c.from_residual.ensures.1 in
    let same = c.both-stands.ensures ∙ ap (λ w. c.args.holds && w) (c.are_within.ensures ∙ c.sum_of-after.ensures.same) in
    rw (p.1, p.2) (subst (λ b. Refused (line_marks b) c.args.cursor.now c.in_err-end_line.field-0.0 c.end_line.new.self) same c.in_err-end_line.ensures)

pub returns : goal.returns
returns c =
    let r = c.in_ok-end_line.ensures in
    let within = c.are_within.ensures ∙ c.sum_of-after.ensures.same in
    let same = c.both-stands.ensures ∙ ap (λ w. c.args.holds && w) within in
    let takes = subst (λ b. Takes (line_marks b) c.args.cursor.now c.end_line.new.self r.0) same r.1.0 in
    let is = right_of c.args.holds _ (stood _ c.args.cursor.now c.end_line.new.self takes) in
    (r.0, (takes, record { load_is = c.sum_of-after.ensures.exact (c.sum_of-after.ensures.same ∙ is); within = is }))
