use Rattle.std.proofs.Common.{arith}
use Rattle.std.proofs.lemmas.Str.Pattern.{split_parts}
use Rattle.cov_words.proofs.SignLemmas.{split_at}
use Rattle.cov_words.proofs.piece.at_equal_sign.Goals as goal

pub returns : goal.returns
returns c = split_at c.args.word.now c.split_once.result (split_parts 61 c.args.word.now c.split_once.result c.split_once.ensures.cases (omega arith))
