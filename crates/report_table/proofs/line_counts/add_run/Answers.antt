use Rattle.std.proofs.Common.{◌≡◌, ◌==◌, ◌+◌, ◌-◌, ◌∙◌, ℕ, suc, Option, sym, ap, subst, arith}
use Rattle.std.specs.BTreeMap.{get}
use Rattle.std.specs.List.{range_with_len}
use Rattle.std.specs.Ordering.{nat_cmp}
use Rattle.report_text.specs.Items.{lines_of_range}
use Rattle.report_table.specs.LineCounts.{offered, has_line}
use Rattle.report_table.proofs.CountLemmas.{offered_twice}
use Rattle.report_table.proofs.line_counts.add_run.Goals as goal

pub lines-preserved : goal.lines-preserved
lines-preserved c = λ q.
    let line = c.lines.line in
    let count = c.args.count in
    let left = c.args.run.now.to + 1 - (line + 1) in
    let next : c.args.run.now.to + 1 - line ≡ suc left = omega (arith, c.lines-test.true) in
    let rest = has_line q (range_with_len (line + 1) left) in
    ap (λ (g : Option ℕ). offered g rest count) (c.in_ok-add_line.ensures q)
    ∙ sym (offered_twice (get nat_cmp c.lines.counts q) (line == q) rest count)
    ∙ subst (λ (n : ℕ). offered (get nat_cmp c.lines.counts q) (has_line q (range_with_len line n)) count
    ≡ offered (get nat_cmp c.args.counts.now q) (has_line q (lines_of_range c.args.run.now)) count)
    next (c.lines.invariant q)
