use Rattle.std.proofs.Common.{◌∷◌, []}
use Rattle.cvd_text.specs.Tokens.{decimal_text}
use Rattle.cvd_write.proofs.Puts.{put_behind}
use Rattle.cvd_write.proofs.section.output.Goals as goal

pub returns : goal.returns
returns c = put_behind _ (decimal_text c.args.var) (10 ∷ []) c.decimal.new.self _ _ c.in_ok-decimal.ensures c.end.ensures
