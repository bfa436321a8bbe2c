use Rattle.std.proofs.Common.{ℕ, true, ap, ◌∙◌}
use Rattle.cvd_cursor.specs.Numerals.{number_tokens}
use Rattle.cvd_cursor.specs.Reads.{marks}
use Rattle.std.proofs.lemmas.Result.{err_from_is_err_and}
use Rattle.cvd_cursor.proofs.Composed.{takes_both, refused_first, refused_second}
use Rattle.cvd_nodes.specs.Nodes.{Low, low_marks, held_fields}
use Rattle.cvd_nodes.specs.declared.head.Head.TheVariants as head
use Rattle.cvd_nodes.proofs.Fields.{apart_number}
use Rattle.cvd_nodes.proofs.node.part.Goals as goal

pub returns-in_err-width : goal.returns-in_err-width
returns-in_err-width c =
    let p = err_from_is_err_and c.from_residual.result c.from_residual.ensures.1 in
    rw (p.1, p.2) (refused_first ℕ (λ n. Low) (marks number_tokens) (λ n. low_marks) apart_number (λ n. (0, true)) c.args.cursor.now _ _ c.in_err-width.ensures)

pub returns-in_err-at : goal.returns-in_err-at
returns-in_err-at c =
    let a = c.in_ok-width.ensures in
    let p = err_from_is_err_and c.from_residual-in_err-at.result c.from_residual-in_err-at.ensures.1 in
    rw (p.1, p.2) (refused_second ℕ (λ n. Low) (marks number_tokens) (λ n. low_marks) a.0 (apart_number a.0) c.args.cursor.now _ _ _ a.1.0 c.in_err-at.ensures)

pub returns : goal.returns
returns c =
    let a = c.in_ok-width.ensures in
    let b = c.in_ok-at.ensures in (
      (a.0, b.0),
      (
        takes_both ℕ (λ n. Low) (marks number_tokens) (λ n. low_marks) c.args.cursor.now _ _ a.0 b.0 a.1.0 b.1.0,
        c.part_of.ensures a.0 b.0.0 a.1.1 b.1.1.0 ∙ ap (λ s. held_fields head.Part (a.0, (b.0.0, s))) b.1.1.1,
      ),
    )
