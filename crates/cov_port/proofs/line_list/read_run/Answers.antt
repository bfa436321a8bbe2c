use Rattle.std.proofs.Common.{◌≡◌, ◌+◌, ◌<◌, ◌≤◌, arith, rules, drop, take, length, sym, ◌∙◌}
use Rattle.std.proofs.lemmas.List.{take_rest}
use Rattle.cov_port.specs.LineReading.{line_number}
use Rattle.cov_port.proofs.LineListLemmas.{run_one, run_two}
use Rattle.cov_port.proofs.line_list.read_run.Goals as goal

pub returns-then-end-text : goal.returns-then-end-text
returns-then-end-text c =
    let all : length c.args.text.now ≤ c.place_of-end.result = omega (arith, c.if-end-text.true) in
    rw (c.run_between.ensures, c.read_number-number.ensures) (run_one c.args.text.now c.place_of-end.result c.place_of-end.ensures.place all)

pub returns : goal.returns
returns c =
    let some : c.place_of-end.result < length c.args.text.now = omega (arith, c.place_of-end.ensures.within) in
    let second : c.read_number-2.result ≡ line_number (drop (c.place_of-end.result + 1) c.args.text.now) = rw take_rest at c.read_number-2.ensures in
    rw (c.run_between-2.ensures, c.read_number.ensures, second) (run_two c.args.text.now c.place_of-end.result c.place_of-end.ensures.place some)
