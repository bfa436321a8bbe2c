use Rattle.std.proofs.lemmas.Result.{err_from_is_err_and}
use Rattle.cvd_text.specs.Lines.{stands}
use Rattle.cvd_text.specs.Sections.{var_line}
use Rattle.cvd_sections.specs.Fields.{HoldsVar, load_of}
use Rattle.cvd_sections.proofs.Lines.{refused_tokens, closes}
use Rattle.cvd_sections.proofs.Tokens.{var_tokens, var_to, var_takes, var_front, var_back, apart_var}
use Rattle.cvd_sections.proofs.var.read_var.Goals as goal

pub returns-in_err-size : goal.returns-in_err-size
returns-in_err-size c =
    let p = err_from_is_err_and c.from_residual.result c.from_residual.ensures.1 in
    rw (p.1, p.2) (refused_tokens var_tokens (λ v. stands (load_of c.args.bits) (var_line v)) apart_var c.args.cursor.now _ _
    (var_front c.args.cursor.now _ _ c.in_err-size.ensures))

pub returns-in_err-rest : goal.returns-in_err-rest
returns-in_err-rest c =
    let a = c.in_ok-size.ensures in
    let p = err_from_is_err_and c.from_residual-in_err-rest.result c.from_residual-in_err-rest.ensures.1 in
    rw (p.1, p.2) (refused_tokens var_tokens (λ v. stands (load_of c.args.bits) (var_line v)) apart_var c.args.cursor.now _ _
    (var_back c.args.cursor.now _ _ a.0 _ a.1.0 c.in_err-rest.ensures))

pub returns : goal.returns
returns c =
    let a = c.in_ok-size.ensures in
    let b = c.in_ok-rest.ensures in
    closes var_tokens (λ v. stands (load_of c.args.bits) (var_line v)) (HoldsVar c.args.bits) apart_var c.args.cursor.now _ _ (var_to (a.0, b.0)) _ _
    (var_takes c.args.cursor.now _ _ a.0 b.0 a.1.0 b.1.0) (c.var_of-found.ensures (var_to (a.0, b.0)) a.1.1 b.1.1) c.close.ensures
