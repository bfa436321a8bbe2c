use Rattle.std.proofs.Common.{[], ◌∷◌, codes, cond}
use Rattle.std.specs.Prelude.{nat_lt}
use Rattle.cov_dat.specs.KeyFields.{field_or_empty, kind}
use Rattle.report_text.specs.Annotation.{six_digits}
use Rattle.report_lines.proofs.Joins.{nine}
use Rattle.report_lines.proofs.piece.push_point_line.Goals as goal

pub returns : goal.returns
returns c =
    rw (
      c.in_ok-extend_from_slice-8.ensures.items,
      c.in_ok-extend_from_slice-7.ensures.items,
      c.field_or_empty-2.ensures,
      c.in_ok-extend_from_slice-6.ensures.items,
      c.in_ok-extend_from_slice-5.ensures.items,
      c.field_or_empty.ensures,
      c.in_ok-extend_from_slice-4.ensures.items,
      c.in_ok-extend_from_slice-3.ensures.items,
      c.kind.ensures,
      c.in_ok-extend_from_slice-2.ensures.items,
      c.in_ok-push_six_digits.ensures,
      c.in_ok-extend_from_slice.ensures.items,
      c.sign.ensures,
    ) (nine c.args.text.now.items (cond (nat_lt c.args.count c.args.minimum) (codes "-") (codes "+")) (six_digits c.args.count) (9 ∷ codes "point: type=")
    (kind c.args.key.now) (codes " comment=")
    (field_or_empty c.args.key.now (codes "o")) (codes " hier=") (field_or_empty c.args.key.now (codes "h")) (10 ∷ []))
