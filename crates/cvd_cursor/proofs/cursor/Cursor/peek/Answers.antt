use Rattle.std.proofs.Common.{sym, ap, ◌∙◌, arith}
use Rattle.cvd_cursor.specs.Places.{Reading, first_word, pieces_left}
use Rattle.cvd_cursor.proofs.Cutting.{word_at, nothing_at}
use Rattle.cvd_cursor.proofs.cursor.Cursor.peek.Goals as goal

pub returns-in-Some : goal.returns-in-Some
returns-in-Some c =
    let bytes = c.self.inside.rest.now in
    let found = c.in-Some.ensures in
    let is = ap (λ t. pieces_left t bytes) (sym c.if-self.false) ∙ ap (λ (r : Reading). r.rest) c.self.view_is in
    let word = word_at bytes c.in-Some.at c.self.invariant.ended found.0.high (λ k below. found.0.before k (omega arith) below) found.1 in
    sym (ap first_word (sym is ∙ word))

pub returns-in-None : goal.returns-in-None
returns-in-None c =
    let bytes = c.self.inside.rest.now in
    let none = c.in-None.ensures in
    let is = ap (λ t. pieces_left t bytes) (sym c.if-self.false) ∙ ap (λ (r : Reading). r.rest) c.self.view_is in
    sym (ap first_word (sym is ∙ nothing_at bytes c.self.invariant.ended (λ k below. none k (omega arith) below)))
