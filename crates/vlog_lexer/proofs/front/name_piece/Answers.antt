use Rattle.std.proofs.Common.{◌≤◌, ap, arith, length}
use Rattle.vlog_lexer.proofs.FrontLemmas.{name-some}
use Rattle.vlog_lexer.specs.declared.piece.Piece.{Piece}
use Rattle.vlog_lexer.proofs.front.name_piece.Goals as goal

pub returns-in-Some-clause-within : goal.returns-in-Some-clause-within
returns-in-Some-clause-within c =
    let some = name-some c.args.text.now c.name_len-len.result c.requires.whole c.requires.first c.name_len-len.ensures.value in
    let same = ap (λ (p : Piece). p.len) c.token.ensures in
    let inside : c.name_len-len.result ≤ length c.args.text.now = c.name_len-len.ensures.within in
    (omega arith, omega arith)

pub returns-in-Ok-clause-within : goal.returns-in-Ok-clause-within
returns-in-Ok-clause-within c =
    let some = name-some c.args.text.now c.name_len-len.result c.requires.whole c.requires.first c.name_len-len.ensures.value in
    let same = ap (λ (p : Piece). p.len) c.token-in-Ok.ensures in
    let inside : c.name_len-len.result ≤ length c.args.text.now = c.name_len-len.ensures.within in
    (omega arith, omega arith)
