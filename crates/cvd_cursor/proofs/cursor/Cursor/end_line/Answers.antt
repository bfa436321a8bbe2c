use Rattle.std.proofs.Common.{sym, ap, ◌∙◌}
use Rattle.cvd_text.specs.Pieces.{line_end, feed}
use Rattle.cvd_cursor.specs.Places.{Reading, pieces_left}
use Rattle.cvd_cursor.specs.Reads.{fault_at}
use Rattle.cvd_cursor.proofs.Cutting.{is_inside, pieces_inside}
use Rattle.cvd_cursor.proofs.Single.{starts, stops_here, takes_one, inside_starts, inside_fault}
use Rattle.cvd_cursor.proofs.cursor.Cursor.end_line.Goals as goal

pub returns-then-not-self : goal.returns-then-not-self
returns-then-not-self c =
    let bytes = c.self.inside.rest.now in
    let stands = c.args.stands in
    let is = ap (λ t. pieces_left t bytes) (sym c.if-not-self.true) ∙ ap (λ (r : Reading). r.rest) c.self.view_is in
    let inside = ap is_inside (sym is) ∙ pieces_inside bytes in
    stops_here (λ u. line_end stands) tt c.args.self.now c.wrong.result (λ u. inside_starts _ stands inside) (c.wrong.ensures ∙ inside_fault _ stands inside)

pub returns-then-not-stands : goal.returns-then-not-stands
returns-then-not-stands c =
    let bytes = c.self.inside.rest.now in
    let stands = c.args.stands in
    let is = ap (λ t. pieces_left t bytes) (sym c.if-not-self.false) ∙ ap (λ (r : Reading). r.rest) c.self.view_is in
    stops_here (λ u. line_end stands) tt c.args.self.now _ (λ u. ap (λ l. starts l (line_end stands)) (sym is) ∙ c.if-not-stands.true)
    (sym (ap (λ l. fault_at l (line_end stands)) (sym is)))

pub returns : goal.returns
returns c =
    let bytes = c.self.inside.rest.now in
    let stands = c.args.stands in
    let is = ap (λ t. pieces_left t bytes) (sym c.if-not-self.false) ∙ ap (λ (r : Reading). r.rest) c.self.view_is in
    (tt, (takes_one (λ u. line_end stands) tt c.args.self.now _ feed (ap (λ (r : Reading). r.text) c.self.view_is) (sym is) c.if-not-stands.false, tt))
