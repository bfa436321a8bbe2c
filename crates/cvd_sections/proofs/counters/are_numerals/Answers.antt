use Rattle.std.proofs.Common.{sym, ◌∙◌, arith}
use Rattle.cvd_sections.proofs.CounterLists.{first_no_numeral, numerals_behind, numerals_only, part_shorter}
use Rattle.cvd_sections.proofs.counters.are_numerals.Goals as goal

pub returns-then-not-is_numeral : goal.returns-then-not-is_numeral
returns-then-not-is_numeral c =
    sym (c.parts.invariant.same ∙ first_no_numeral c.parts.rest.now c.in-Some.at c.in-Some.ensures (sym c.is_numeral.ensures ∙ c.if-not-is_numeral.true))

pub overflow_add-rest : goal.overflow_add-rest
overflow_add-rest c = let within = c.in-Some.ensures.0.high in omega (arith, c.parts.invariant.shorter, c.type_inv.text)

pub parts-preserved : goal.parts-preserved
parts-preserved c =
    let rest = c.parts.rest.now in
    let less = part_shorter rest c.in-Some.at c.in-Some.ensures.0.high in
    record {
      same = c.parts.invariant.same ∙ numerals_behind rest c.in-Some.at c.in-Some.ensures (sym c.is_numeral.ensures ∙ c.if-not-is_numeral.false);
      shorter = omega (arith, c.parts.invariant.shorter);
    }

pub returns : goal.returns
returns c = c.is_numeral-2.ensures ∙ sym (c.parts.invariant.same ∙ numerals_only c.parts.rest.now c.in_default.ensures)
