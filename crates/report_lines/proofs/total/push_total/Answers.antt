use Rattle.std.proofs.Common.{[], ◌∷◌, codes}
use Rattle.std.specs.Prelude.{decimal}
use Rattle.report_text.specs.Totals.{hundredths, two_decimals}
use Rattle.report_lines.proofs.Joins.{eight}
use Rattle.report_lines.proofs.total.push_total.Goals as goal

pub returns : goal.returns
returns c =
    rw (
      c.in_ok-extend_from_slice-4.ensures.items,
      c.in_ok-push_two_decimals.ensures,
      c.hundredths.ensures,
      c.in_ok-extend_from_slice-3.ensures.items,
      c.in_ok-push_decimal-2.ensures,
      c.in_ok-extend_from_slice-2.ensures.items,
      c.in_ok-push_decimal.ensures,
      c.in_ok-extend_from_slice.ensures.items,
    ) (eight c.args.text.now.items (codes "Total coverage (") (decimal c.args.part) (codes "/") (decimal c.args.whole) (codes ") ")
    (two_decimals (hundredths c.args.part c.args.whole)) (codes "%") (10 ∷ []))
