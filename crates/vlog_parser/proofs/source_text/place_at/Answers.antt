use Rattle.std.proofs.Common.{◌<◌, length, ap, sym, refl, arith}
use Rattle.std.proofs.lemmas.Option.{slice_get_read}
use Rattle.std.proofs.lemmas.Grind.{common_steps}
use Rattle.vlog_parser.proofs.source_text.place_at.Goals as goal

pub returns : goal.returns
returns c =
    let inside : c.min.result < length c.args.tokens.now = grind (arith, common_steps) in
    let read = slice_get_read c.args.tokens.now _ c.min.result c.index-tokens-min.result refl inside c.index-tokens-min.is in
    (c.min.result, c.index-tokens-min.result, read, ap (λ t. t.place) (sym c.index-tokens-min.is))
