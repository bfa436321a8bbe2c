use Rattle.std.proofs.Common.{◌≡◌, []}
use Rattle.std.proofs.lemmas.Result.{err_from_is_err_and}
use Rattle.cvd_text.specs.Sections.{output_line}
use Rattle.cvd_cursor.specs.Numerals.{number_tokens}
use Rattle.cvd_nodes.proofs.Fields.{apart_number}
use Rattle.cvd_sections.specs.Alone.{design_of}
use Rattle.cvd_sections.proofs.Lines.{refused_tokens, closes}
use Rattle.cvd_sections.proofs.output.read_output.Goals as goal

pub returns-in_err-var : goal.returns-in_err-var
returns-in_err-var c = λ before last.
    let p = err_from_is_err_and c.from_residual.result c.from_residual.ensures.1 in
    rw (p.1, p.2) (refused_tokens number_tokens (λ v. (output_line (design_of c.args.vars.now [] []) before v).holds) apart_number
    c.args.cursor.now _ _ c.in_err-var.ensures)

pub returns : goal.returns
returns c = λ before last.
    let a = c.in_ok-var.ensures in
    closes number_tokens (λ v. (output_line (design_of c.args.vars.now [] []) before v).holds) (λ v held. held ≡ v) apart_number
    c.args.cursor.now _ _ a.0 _ _ a.1.0 (c.output_of-found.ensures before a.0 last a.1.1) c.close.ensures
