use Rattle.std.proofs.Common.{ℕ, List, []}
use Rattle.std.proofs.lemmas.Result.{err_from_is_err_and}
use Rattle.cvd_cursor.specs.Reads.{marks}
use Rattle.cvd_cursor.proofs.Composed.{takes_both, refused_first, refused_second}
use Rattle.cvd_sections.specs.Keys.{counters_tokens}
use Rattle.cvd_sections.proofs.CounterLists.{apart_counters}
use Rattle.cvd_sections.proofs.point.read_sides.Goals as goal

pub returns-in_err-plus : goal.returns-in_err-plus
returns-in_err-plus c =
    let p = err_from_is_err_and c.from_residual.result c.from_residual.ensures.1 in
    rw (p.1, p.2) (refused_first (List ℕ) (λ n. List ℕ) (marks counters_tokens) (λ n. marks counters_tokens) apart_counters (λ n. []) c.args.cursor.now _ _
    c.in_err-plus.ensures)

pub returns-in_err-minus : goal.returns-in_err-minus
returns-in_err-minus c =
    let a = c.in_ok-plus.ensures in
    let p = err_from_is_err_and c.from_residual-in_err-minus.result c.from_residual-in_err-minus.ensures.1 in
    rw (p.1, p.2) (refused_second (List ℕ) (λ n. List ℕ) (marks counters_tokens) (λ n. marks counters_tokens) a.0 (apart_counters a.0) c.args.cursor.now _ _
    _ a.1.0
    c.in_err-minus.ensures)

pub returns : goal.returns
returns c =
    let a = c.in_ok-plus.ensures in
    let b = c.in_ok-minus.ensures in (
      (a.0, b.0),
      (
        takes_both (List ℕ) (λ n. List ℕ) (marks counters_tokens) (λ n. marks counters_tokens) c.args.cursor.now _ _ a.0 b.0 a.1.0 b.1.0,
        (a.1.1, b.1.1),
      ),
    )
