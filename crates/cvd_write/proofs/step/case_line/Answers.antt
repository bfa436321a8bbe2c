use Rattle.std.proofs.Common.{◌∷◌, [], codes}
use Rattle.cvd_text.specs.Expressions.{tokens_of}
use Rattle.cvd_text.specs.Tokens.{number}
use Rattle.cvd_write.proofs.Puts.{put_row, then_tokens}
use Rattle.cvd_write.proofs.step.case_line.Goals as goal

pub returns : goal.returns
returns c =
    let of = tokens_of c.args.on.now in
    put_row _ (codes "case") (number c.args.arms ∷ of) c.put.new.self c.expression.new.out _ _ c.in_ok-put.ensures
    (then_tokens _ (number c.args.arms ∷ []) of c.number.new.self _ c.in_ok-number.ensures c.in_ok-expression.ensures) c.end.ensures
