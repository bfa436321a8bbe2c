use Rattle.std.proofs.Common.{◌≡◌, ℕ, List, ◌++◌, take, sym, ◌∙◌, ap, arith, refl}
use Rattle.std.specs.List.{flat_map}
use Rattle.std.proofs.lemmas.List.{take_all}
use Rattle.std.proofs.lemmas.List.Folds.{flat_map-map}
use Rattle.report_text.specs.declared.file_table.LinePoint.{LinePoint}
use Rattle.report_text.specs.Tables.{seen_point}
use Rattle.report_lines.specs.Walks.{placed_line}
use Rattle.report_lines.proofs.annotation.push_points.Goals as goal

pub returns : goal.returns
returns c =
    let all : take c.points.point-index c.args.points.now ≡ c.args.points.now = take_all c.points.point-index c.args.points.now (omega arith) in
    c.points.invariant
    ∙ ap (λ (ps : List LinePoint). c.args.text.now.items ++ flat_map (λ p. placed_line c.args.minimum (seen_point p)) ps) all
    ∙ ap (λ (t : List ℕ). c.args.text.now.items ++ t) (sym (flat_map-map (placed_line c.args.minimum) seen_point c.args.points.now))
    ∙ rw (c.if-not-wanted.false) refl
