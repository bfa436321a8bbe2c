use Rattle.std.proofs.Common.{ℕ, ◌∷◌, []}
use Rattle.std.proofs.lemmas.Result.{err_from_is_err_and}
use Rattle.cvd_cursor.proofs.Composed.{takes_both, refused_first, refused_second}
use Rattle.cov_types.specs.declared.kind.VarKind.{VarKind}
use Rattle.cov_types.specs.declared.kind.VarKind.TheVariants as kind
use Rattle.cvd_text.specs.Tokens.{word}
use Rattle.cvd_text.specs.Sections.{kind_word}
use Rattle.cvd_cursor.specs.Numerals.{hex_tokens}
use Rattle.cvd_cursor.specs.Reads.{marks}
use Rattle.cvd_nodes.proofs.Fields.{apart_hex}
use Rattle.cvd_sections.proofs.var.start_and_kind.Goals as goal

pub returns-in_err-start : goal.returns-in_err-start
returns-in_err-start c =
    let p = err_from_is_err_and c.from_residual.result c.from_residual.ensures.1 in
    rw (p.1, p.2) (refused_first ℕ (λ n. VarKind) (marks hex_tokens) (λ n. marks (λ k. word (kind_word k) ∷ [])) apart_hex (λ n. kind.Reg) c.args.cursor.now
    _ _ c.in_err-start.ensures)

pub returns-in_err-kind : goal.returns-in_err-kind
returns-in_err-kind c =
    let a = c.in_ok-start.ensures in
    let p = err_from_is_err_and c.from_residual-in_err-kind.result c.from_residual-in_err-kind.ensures.1 in
    rw (p.1, p.2) (refused_second ℕ (λ n. VarKind) (marks hex_tokens) (λ n. marks (λ k. word (kind_word k) ∷ [])) a.0 (apart_hex a.0) c.args.cursor.now _ _ _
    a.1.0 c.in_err-kind.ensures)

pub returns : goal.returns
returns c =
    let a = c.in_ok-start.ensures in
    let b = c.in_ok-kind.ensures in (
      (a.0, b.0),
      (
        takes_both ℕ (λ n. VarKind) (marks hex_tokens) (λ n. marks (λ k. word (kind_word k) ∷ [])) c.args.cursor.now _ _ a.0 b.0 a.1.0 b.1.0,
        (a.1.1, b.1.1),
      ),
    )
