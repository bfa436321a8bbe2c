use Rattle.std.proofs.Common.{◌≡◌, Bool, true, false, cond, length, take, None, Some, sym, ◌∙◌, ap, arith}
use Rattle.std.specs.Prelude.{nat_lt}
use Rattle.std.proofs.lemmas.Bool.{lt-ltb}
use Rattle.std.proofs.lemmas.List.{take_all}
use Rattle.std.proofs.lemmas.List.Folds.{list_any_at}
use Rattle.cov_port.specs.Lines.{lines_of}
use Rattle.report_text.specs.declared.file_table.CountedLine.{CountedLine}
use Rattle.report_text.specs.Tables.{seen_table}
use Rattle.report_lines.proofs.SourceLaws.{any_past, short_of_table}
use Rattle.report_lines.proofs.short.short_source.Goals as goal

pub returns-then-lines-line : goal.returns-then-lines-line
returns-then-lines-line c = λ counts file seen.
    let past = rw (c.deref-line-items.ensures.value, c.count_lines-lines.ensures) at c.if-lines-line.true in
    let any : any_past (length (lines_of c.args.source.now)) c.args.table.now.lines.items ≡ true =
    list_any_at (λ (l : CountedLine). nat_lt (length (lines_of c.args.source.now)) l.line) c.args.table.now.lines.items c.lines.line-index _
    (omega (arith, c.deref-line-items.ensures.len)) (lt-ltb _ _ past) in
    ap Some c.count_lines-lines.ensures
    ∙ sym (ap (λ (b : Bool). cond b (Some (length (lines_of c.args.source.now))) None) any)
    ∙ short_of_table counts file c.args.source.now (seen_table c.args.table.now) seen

pub returns : goal.returns
returns c = λ counts file seen.
    let all : take c.lines.line-index c.args.table.now.lines.items ≡ c.args.table.now.lines.items =
    take_all c.lines.line-index c.args.table.now.lines.items (omega (arith, ap length c.deref-line-items.ensures.value)) in
    let none : any_past (length (lines_of c.args.source.now)) c.args.table.now.lines.items ≡ false =
    rw (c.count_lines-lines.ensures, all) at c.lines.invariant in
    sym (ap (λ (b : Bool). cond b (Some (length (lines_of c.args.source.now))) None) none)
    ∙ short_of_table counts file c.args.source.now (seen_table c.args.table.now) seen
