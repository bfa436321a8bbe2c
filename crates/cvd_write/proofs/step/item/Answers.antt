use Rattle.std.proofs.Common.{◌∷◌, [], codes}
use Rattle.cvd_text.specs.Expressions.{tokens_of}
use Rattle.cvd_text.specs.Tokens.{hex}
use Rattle.cvd_write.proofs.Puts.{put_row, then_tokens}
use Rattle.cvd_write.proofs.step.item.Goals as goal

pub returns : goal.returns
returns c =
    let one = c.args.one.now in
    put_row _ (codes "item") (hex one.mask ∷ tokens_of one.value) c.put.new.self c.expression.new.out _ _ c.in_ok-put.ensures
    (then_tokens _ (hex one.mask ∷ []) (tokens_of one.value) c.hex.new.self _ c.in_ok-hex.ensures c.in_ok-expression.ensures) c.end.ensures
