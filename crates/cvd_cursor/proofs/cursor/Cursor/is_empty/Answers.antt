use Rattle.std.proofs.Common.{sym, ap, ◌∙◌}
use Rattle.cvd_cursor.specs.Places.{Reading, pieces_left}
use Rattle.cvd_cursor.specs.Reads.{is_nothing}
use Rattle.cvd_cursor.proofs.Cutting.{nothing_is}
use Rattle.cvd_cursor.proofs.cursor.Cursor.is_empty.Goals as goal

pub returns-then-not-self : goal.returns-then-not-self
returns-then-not-self c =
    let bytes = c.self.inside.rest.now in
    let is = ap (λ t. pieces_left t bytes) (sym c.if-not-self.true) ∙ ap (λ (r : Reading). r.rest) c.self.view_is in
    c.is_empty.ensures ∙ sym (nothing_is bytes c.self.invariant.ended) ∙ ap is_nothing is
