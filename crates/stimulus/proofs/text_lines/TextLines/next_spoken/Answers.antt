use Rattle.std.proofs.Common.{◌∙◌, arith, sym}
use Rattle.stimulus.proofs.LineLemmas.{text-refused, text-skipped, text-spoken}
use Rattle.stimulus.proofs.text_lines.TextLines.next_spoken.Goals as goal

pub returns-in-Err-clause-fault : goal.returns-in-Err-clause-fault
returns-in-Err-clause-fault c =
    let cut = c.cut_line-cut.result in
    let at = c.lines.self-inside in
    let p =
    text-refused at.number at.bytes c.line_bytes.result at.rest.now cut.rest.now cut.line.now cut.ended c.in-Err.fault c.cut_line-cut.ensures.lines
    c.line_bytes.ensures.value
    (c.in-Err.ensures.says cut.ended) in
    rw (← c.self.view_is) (p.0, sym c.lines.invariant.left ∙ p.1)

pub invariant_of-self-then-speaks : goal.invariant_of-self-then-speaks
invariant_of-self-then-speaks c = record {
  counted = omega (arith, c.cut_line-cut.ensures.bytes, c.lines.invariant.placed.counted);
  within = c.in-Ok.ensures.within;
}

pub returns-then-speaks-clause-spoken : goal.returns-then-speaks-clause-spoken
returns-then-speaks-clause-spoken c =
    let cut = c.cut_line-cut.result in
    let at = c.lines.self-inside in
    rw (← c.self.view_is) (sym c.lines.invariant.left
    ∙ text-spoken at.number at.bytes c.line_bytes.result at.rest.now cut.rest.now cut.line.now cut.ended c.in-Ok.speaks c.cut_line-cut.ensures.lines
    c.line_bytes.ensures.value
    c.if-speaks.true (c.in-Ok.ensures.says cut.ended))

pub lines-preserved : goal.lines-preserved
lines-preserved c =
    let cut = c.cut_line-cut.result in
    let at = c.lines.self-inside in
    record {
      left = sym (text-skipped at.number at.bytes c.line_bytes.result at.rest.now cut.rest.now cut.line.now cut.ended c.in-Ok.speaks
          c.cut_line-cut.ensures.lines c.line_bytes.ensures.value
          c.if-speaks.false (c.in-Ok.ensures.says cut.ended)) ∙ c.lines.invariant.left;
      placed = record {
        counted = omega (arith, c.cut_line-cut.ensures.bytes, c.lines.invariant.placed.counted);
        within = c.in-Ok.ensures.within;
      };
    }
