use Rattle.std.proofs.Common.{◌≡◌, []}
use Rattle.std.proofs.lemmas.Result.{err_from_is_err_and}
use Rattle.cvd_text.specs.Sections.{toggle_line}
use Rattle.cvd_sections.specs.Alone.{design_of}
use Rattle.cvd_sections.specs.Fields.{toggle_tokens}
use Rattle.cvd_sections.proofs.Lines.{refused_tokens, closes}
use Rattle.cvd_sections.proofs.Tokens.{apart_toggle}
use Rattle.cvd_sections.proofs.toggle.read_toggle.Goals as goal

pub returns-in_err-fields : goal.returns-in_err-fields
returns-in_err-fields c = λ before last.
    let p = err_from_is_err_and c.from_residual.result c.from_residual.ensures.1 in
    rw (p.1, p.2) (refused_tokens toggle_tokens (λ t. (toggle_line (design_of c.args.vars.now [] []) c.args.counters before t).holds) apart_toggle
    c.args.cursor.now _ _ c.in_err-fields.ensures)

pub returns : goal.returns
returns c = λ before last.
    let a = c.in_ok-fields.ensures in
    closes toggle_tokens (λ t. (toggle_line (design_of c.args.vars.now [] []) c.args.counters before t).holds) (λ t held. held ≡ t) apart_toggle
    c.args.cursor.now _ _ a.0 _ _ a.1.0 (c.toggle_of-found.ensures before a.0 last a.1.1) c.close.ensures
