use Rattle.std.proofs.Common.{◌≡◌, ◌-◌, ◌∙◌, ℕ, length, drop, ap, arith, length-drop}
use Rattle.std.proofs.lemmas.List.{take_all}
use Rattle.cov_report.proofs.NameLemmas.{base_from}
use Rattle.cov_report.proofs.base_name.base_name.Goals as goal

pub returns-then-name-from-eq47 : goal.returns-then-name-from-eq47
returns-then-name-from-eq47 c =
    let name = c.args.name.now in
    let from = c.bytes.from in
    take_all (length name - from) (drop from name) (omega (arith, length-drop from name))
    ∙ base_from name from c.bytes.invariant.within c.bytes.invariant.passed (λ _. c.if-name-from-eq47.true)

pub returns : goal.returns
returns c =
    let name = c.args.name.now in
    let none : c.bytes.from ≡ 0 = omega (arith, c.bytes-test.false) in
    ap (λ (n : ℕ). drop n name) {x = 0} {y = c.bytes.from} (omega (arith, none))
    ∙ base_from name c.bytes.from c.bytes.invariant.within c.bytes.invariant.passed (λ some. absurd (omega (arith, none)))
