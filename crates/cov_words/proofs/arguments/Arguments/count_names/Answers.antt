use Rattle.std.proofs.Common.{◌≡◌, suc, List, ◌∷◌, length, ◌∙◌, ap, arith}
use Rattle.cov_words.specs.Command.{names_of}
use Rattle.cov_words.specs.Cut.{Piece}
use Rattle.cov_words.specs.Seen.{seen_piece}
use Rattle.cov_words.proofs.ShortLemmas.{names-short}
use Rattle.cov_words.proofs.arguments.Arguments.count_names.Goals as goal

pub overflow_add-count : goal.overflow_add-count
overflow_add-count c =
    let names = names-short c.args.self.now in
    let short = c.pieces-piece-items.ensures.short in
    let counted = c.loop-piece.invariant.2 in
    let more : length (names_of c.loop-piece.piece-iterator)
    ≡ suc (length (names_of c.next.new.self)) = ap (λ (ps : List Piece). length (names_of ps)) (c.in-Some.ensures.steps
    ∙ ap (λ p. seen_piece p ∷ c.next.new.self) c.in-Name.is) in
    omega arith
