use Rattle.std.proofs.Common.{ℕ, ◌^◌, refl, sym, ◌∙◌, ap, arith}
use Rattle.std.specs.Prelude.{◌&&◌}
use Rattle.std.proofs.lemmas.Result.{err_from_is_err_and}
use Rattle.cvd_text.specs.Lines.{added, is_within, stands}
use Rattle.cvd_cursor.specs.Numerals.{number_tokens}
use Rattle.cvd_cursor.specs.Reads.{marks}
use Rattle.cvd_step_laws.specs.StepMarks.{count_line, counted_marks}
use Rattle.cvd_step_laws.proofs.PartsApart.{apart_number}
use Rattle.cvd_targets.proofs.Lists.{below_some}
use Rattle.cvd_steps.specs.Bodies.{load_of, own_load}
use Rattle.cvd_steps.proofs.EndedLines.{refused_value, refused_end, takes_line}
use Rattle.cvd_steps.proofs.LineTests.{count_stands, count_breaks}
use Rattle.cvd_steps.proofs.line.count_line.Goals as goal

abbrev Counter : Type 0
Counter = (counter : ℕ) × Unit {0}

pub returns-in_err-counter : goal.returns-in_err-counter
returns-in_err-counter c = λ around at n e.
    let before = load_of c.args.sums in
    let p = err_from_is_err_and c.from_residual.result c.from_residual.ensures.1 in
    rw (p.1, p.2) (refused_value ℕ Counter (marks number_tokens) (λ v. stands before (count_line around at v)) (counted_marks around before at)
    (λ v. (v, tt)) (λ q. q.0) (λ q. refl) (λ v. refl) apart_number c.args.cursor.now _ _ c.in_err-counter.ensures)

pub returns-in_default : goal.returns-in_default
returns-in_default c = λ around at n e.
    let before = load_of c.args.sums in
    let a = c.in_ok-counter.ensures in
    refused_end ℕ Counter (marks number_tokens) (λ v. stands before (count_line around at v)) (counted_marks around before at)
    (λ v. (v, tt)) (λ q. q.0) (λ q. refl) (λ v. refl) apart_number a.0 _
    (count_breaks around before at a.0 (omega (arith, n)) (sym c.in_default.is ∙ a.1.1))
    c.args.cursor.now c.number32.new.cursor _ _ a.1.0 c.refuse.ensures

pub returns-in_err-sums : goal.returns-in_err-sums
returns-in_err-sums c = λ around at n e.
    let before = load_of c.args.sums in
    let a = c.in_ok-counter.ensures in
    let v = c.in-Some.counter in
    let b = below_some (2 ^ 32) a.0 v (sym c.in-Some.is ∙ a.1.1) in
    let flag = ap (λ t. t && is_within (added before (own_load 1 0 0))) c.both-holds.ensures
    ∙ count_stands around before at a.0 v c.args.process.counters c.args.allowed n b.1 e in
    let p = err_from_is_err_and c.from_residual-in_err-sums.result c.from_residual-in_err-sums.ensures.1 in
    rw (p.1, p.2) (refused_end ℕ Counter (marks number_tokens) (λ v. stands before (count_line around at v)) (counted_marks around before at)
    (λ v. (v, tt)) (λ q. q.0) (λ q. refl) (λ v. refl) apart_number a.0 _ flag c.args.cursor.now c.number32.new.cursor _ _ a.1.0 c.in_err-sums.ensures)

pub returns : goal.returns
returns c = λ around at n e.
    let before = load_of c.args.sums in
    let a = c.in_ok-counter.ensures in
    let v = c.in-Some.counter in
    let b = below_some (2 ^ 32) a.0 v (sym c.in-Some.is ∙ a.1.1) in
    let flag = ap (λ t. t && is_within (added before (own_load 1 0 0))) c.both-holds.ensures
    ∙ count_stands around before at a.0 v c.args.process.counters c.args.allowed n b.1 e in
    let r = c.in_ok-sums.ensures in (
      (a.0, tt),
      (
        takes_line ℕ Counter (marks number_tokens) (λ v. stands before (count_line around at v)) (counted_marks around before at)
            (λ v. (v, tt)) (λ q. q.0) (λ q. refl) (λ v. refl) apart_number a.0 _ flag c.args.cursor.now c.number32.new.cursor _ a.1.0 r.1.0,
        record { counter_is = b.1; sums_are = r.1.1 },
      ),
    )
