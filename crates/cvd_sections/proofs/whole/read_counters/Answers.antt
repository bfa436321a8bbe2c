use Rattle.std.proofs.Common.{◌≡◌}
use Rattle.std.specs.Prelude.{nat_le, codes}
use Rattle.std.proofs.lemmas.Result.{err_from_is_err_and}
use Rattle.cvd_text.specs.Spelling.{most_counters}
use Rattle.cvd_sections.proofs.Lines.{refused_tokens, closes}
use Rattle.cvd_sections.proofs.Tokens.{heading_tokens, apart_heading}
use Rattle.cvd_sections.proofs.whole.read_counters.Goals as goal

pub returns-in_err-count : goal.returns-in_err-count
returns-in_err-count c =
    let p = err_from_is_err_and c.from_residual.result c.from_residual.ensures.1 in
    rw (p.1, p.2) (refused_tokens (heading_tokens (codes "counters")) (λ n. nat_le n most_counters) (apart_heading (codes "counters"))
    c.args.cursor.now _ _ c.in_err-count.ensures)

pub returns : goal.returns
returns c =
    let a = c.in_ok-count.ensures in
    closes (heading_tokens (codes "counters")) (λ n. nat_le n most_counters) (λ n held. held ≡ n) (apart_heading (codes "counters"))
    c.args.cursor.now _ _ a.0 _ _ a.1.0 (c.counters_of.ensures a.0 a.1.1) c.close.ensures
