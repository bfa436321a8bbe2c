use Rattle.std.proofs.Common.{◌≡◌, ◌+◌, ◌<◌, ◌++◌, ◌∷◌, [], Bool, List, ℕ, arith, ap, take, get_or, length, sym, subst, ◌∙◌}
use Rattle.std.proofs.lemmas.List.{length-take-le, take_more}
use Rattle.cov_types.specs.LineLists.{lines_text}
use Rattle.cov_types.specs.declared.line_range.LineRange.{LineRange}
use Rattle.cov_port.specs.LineReading.{with_run}
use Rattle.cov_port.proofs.LineListLemmas.{FirstAt, lines_more}
use Rattle.cov_port.proofs.line_list.line_text.Goals as goal

pub loop-range-preserved : goal.loop-range-preserved
loop-range-preserved c =
    let lines = c.args.lines.now in
    let items = c.as_slice-range-items.result.now in
    let same : items ≡ lines = c.as_slice-range-items.ensures in
    let i = c.loop-range.range-index in
    let r : LineRange = get_or items i (record { from = 0; to = 0 }) in
    let within : i < length items = omega (arith, c.loop-range-test.true) in
    let put : c.push_run.new.text ≡ with_run c.loop-range.text c.loop-range.first r = c.in_ok-push_run.ensures in
    let more : take (i + 1) items ≡ take i items ++ r ∷ [] = take_more items i (record { from = 0; to = 0 }) within in
    let at : FirstAt c.loop-range.first (length (take i items)) =
    subst (λ (n : ℕ). FirstAt c.loop-range.first n) (sym (length-take-le i items (omega arith))) c.loop-range.invariant.first in
    let before : c.loop-range.text ≡ lines_text (take i items) = c.loop-range.invariant.text
    ∙ ap (λ (ls : List LineRange). lines_text (take i ls)) (sym same) in
    record {
      text = put ∙ ap (λ (text : List ℕ). with_run text c.loop-range.first r) before ∙ sym (lines_more (take i items) r c.loop-range.first at)
          ∙ ap lines_text (sym more) ∙ ap (λ (ls : List LineRange). lines_text (take (i + 1) ls)) same;
      first = omega arith;
    }
