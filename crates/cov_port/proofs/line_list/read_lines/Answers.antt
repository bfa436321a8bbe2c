use Rattle.std.proofs.Common.{◌≡◌, ◌+◌, ◌<◌, ◌≤◌, ◌++◌, ◌∷◌, [], List, arith, rules, drop, take, length, ap, sym, ◌∙◌}
use Rattle.std.specs.Option.{option_map}
use Rattle.std.proofs.lemmas.List.{take_rest}
use Rattle.cov_types.specs.declared.line_range.LineRange.{LineRange}
use Rattle.cov_port.specs.LineReading.{runs_of}
use Rattle.cov_port.proofs.LineListLemmas.{run_last, run_more, run_wrong}
use Rattle.cov_port.proofs.line_list.read_lines.Goals as goal

pub returns-in_default : goal.returns-in_default
returns-in_default c =
    sym (sym c.runs.invariant ∙ run_wrong c.runs.lines c.runs.rest.now c.place_of-end.result c.place_of-end.ensures.place c.place_of-end.ensures.within
    (sym c.in_default.ensures))

pub returns-then-end-rest : goal.returns-then-end-rest
returns-then-end-rest c =
    let all : length c.runs.rest.now ≤ c.place_of-end.result = omega (arith, c.if-end-rest.true) in
    rw c.in_ok-push.ensures.ok
    (sym (sym c.runs.invariant ∙ run_last c.runs.lines c.in-Some.run' c.runs.rest.now c.place_of-end.result c.place_of-end.ensures.place all
    (sym c.in-Some.ensures)))

pub runs-preserved : goal.runs-preserved
runs-preserved c =
    let some : c.place_of-end.result < length c.runs.rest.now = omega (arith, c.place_of-end.ensures.within) in
    let more = run_more c.runs.lines c.in-Some.run' c.runs.rest.now c.place_of-end.result c.place_of-end.ensures.place some (sym c.in-Some.ensures) in
    simp (take_rest, c.in_ok-push.ensures.ok) (sym more ∙ c.runs.invariant)
