use Rattle.std.proofs.Common.{sym, ◌∙◌}
use Rattle.cov_words.specs.Seen.{seen_piece}
use Rattle.cov_words.proofs.BehindLemmas.{rest-is_some, rest-is_shorter, first-and-rest}
use Rattle.cov_words.proofs.arguments.PiecesIterator.next.Goals as goal

pub invariant_of-self : goal.invariant_of-self
invariant_of-self c = rest-is_some (seen_piece c.in-Next.piece) _ _ c.in-Next.ensures.0 c.self.invariant

pub returns-in-Next-clause-steps : goal.returns-in-Next-clause-steps
returns-in-Next-clause-steps c = sym c.self.view_is ∙ first-and-rest (seen_piece c.in-Next.piece) _ _ c.in-Next.ensures.0 c.self.invariant

pub returns-in-Next-clause-goes : goal.returns-in-Next-clause-goes
returns-in-Next-clause-goes c =
    let steps = sym c.self.view_is ∙ first-and-rest (seen_piece c.in-Next.piece) _ _ c.in-Next.ensures.0 c.self.invariant in
    record { on = λ _. (tt, tt, rest-is_shorter (seen_piece c.in-Next.piece) _ _ steps); keeps = tt; rests = λ _. tt }
