use Rattle.cov_words.proofs.RangeLemmas.{count_bits}
use Rattle.cov_words.proofs.law.count_bits_are_in_range.Goals as goal

pub returns : goal.returns
returns c = count_bits
