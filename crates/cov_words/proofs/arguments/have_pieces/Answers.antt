use Rattle.std.proofs.Common.{is_some, sym, ◌∙◌, ap}
use Rattle.cov_words.specs.Seen.{seen_piece}
use Rattle.cov_words.proofs.BehindLemmas.{is_some-behind}
use Rattle.cov_words.proofs.arguments.have_pieces.Goals as goal

pub fronts-preserved : goal.fronts-preserved
fronts-preserved c = sym (is_some-behind (seen_piece c.in-Next.piece) _) ∙ ap is_some (sym c.in-Next.ensures.0) ∙ c.fronts.invariant
