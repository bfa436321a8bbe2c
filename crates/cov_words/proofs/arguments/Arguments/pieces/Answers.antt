use Rattle.std.proofs.Common.{length, map, string_bytes, ap, arith}
use Rattle.std.proofs.lemmas.List.{length-map}
use Rattle.cov_words.proofs.ShortLemmas.{pieces-short}
use Rattle.cov_words.proofs.arguments.Arguments.pieces.Goals as goal

pub returns-clause-short : goal.returns-clause-short
returns-clause-short c =
    let words = c.self.inside.words.now in
    let short = pieces-short c.self.inside.command (map string_bytes words) in
    let same = ap length c.self.view_is in
    let many = length-map words string_bytes in
    let room = c.self.told in omega arith
