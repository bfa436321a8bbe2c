use Rattle.std.proofs.Common.{◌∙◌, arith}
use Rattle.cvd_write.proofs.Numerals.{decimal_same}
use Rattle.cvd_write.proofs.Puts.{put_same}
use Rattle.cvd_write.proofs.writer.Writer.decimal.Goals as goal

pub returns : goal.returns
returns c =
    let e = c.as_bytes.ensures.value ∙ c.format.ensures.text ∙ decimal_same c.args.value (omega arith) in
    put_same _ _ _ _ _ e c.put.ensures
