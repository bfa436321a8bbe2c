use Rattle.std.proofs.Common.{ℕ, List, ◌++◌}
use Rattle.std.proofs.lemmas.Result.{err_from_is_err_and}
use Rattle.cvd_text.specs.Pieces.{Mark}
use Rattle.cvd_cursor.specs.Numerals.{number_tokens}
use Rattle.cvd_cursor.specs.Places.{Reading}
use Rattle.cvd_cursor.specs.Reads.{Refused, Takes, marks}
use Rattle.cvd_cursor.specs.declared.fault.ReadFault.{ReadFault}
use Rattle.cvd_cursor.proofs.Composed.{takes_both, refused_first, refused_second}
use Rattle.cvd_step_laws.specs.LineMarks.{with_vars}
use Rattle.cvd_nodes.proofs.Fields.{apart_number}
use Rattle.cvd_targets.specs.Positions.{At, at_marks}
use Rattle.cvd_targets.specs.TargetParts.{sized_marks, word_part_marks}
use Rattle.cvd_targets.proofs.Positions.{some_at, apart_at}
use Rattle.cvd_targets.proofs.target.word_part.Goals as goal

abbrev Sized : Type 0
Sized = (width : ℕ) × At

abbrev Behind : Type 0
Behind = (index : At) × Sized

abbrev behind_marks : Behind → List Mark
behind_marks p = at_marks p.0 ++ sized_marks p.1

behind_var : (old mid new : Reading) (fault : ReadFault) (v : ℕ) → Takes (marks number_tokens) old mid v → Refused behind_marks mid fault new
    → Refused word_part_marks old fault new
behind_var old mid new fault v =
    refused_second ℕ (λ n. Behind) (marks number_tokens) (λ n. behind_marks) v (apart_number v) old mid new fault

behind_index : (old mid new : Reading) (fault : ReadFault) (i : At) → Takes at_marks old mid i → Refused sized_marks mid fault new
    → Refused behind_marks old fault new
behind_index old mid new fault i = refused_second At (λ n. Sized) at_marks (λ n. sized_marks) i (apart_at i) old mid new fault

pub returns-in_err-var : goal.returns-in_err-var
returns-in_err-var c =
    let p = err_from_is_err_and c.from_residual.result c.from_residual.ensures.1 in
    rw (p.1, p.2) (refused_first ℕ (λ n. Behind) (marks number_tokens) (λ n. behind_marks) apart_number (λ n. (some_at, (1, some_at))) c.args.cursor.now _ _
    c.in_err-var.ensures)

pub returns-in_err-index : goal.returns-in_err-index
returns-in_err-index c =
    let a = c.in_ok-var.ensures in
    let p = err_from_is_err_and c.from_residual-in_err-index.result c.from_residual-in_err-index.ensures.1 in
    rw (p.1, p.2) (behind_var c.args.cursor.now _ _ _ a.0 a.1.0
    (refused_first At (λ n. Sized) at_marks (λ n. sized_marks) apart_at (λ n. (1, some_at)) c.number32.new.cursor _ _ c.in_err-index.ensures))

pub returns-in_err-width : goal.returns-in_err-width
returns-in_err-width c =
    let a = c.in_ok-var.ensures in
    let i = c.in_ok-index.ensures in
    let p = err_from_is_err_and c.from_residual-in_err-width.result c.from_residual-in_err-width.ensures.1 in
    rw (p.1, p.2) (behind_var c.args.cursor.now _ _ _ a.0 a.1.0 (behind_index c.number32.new.cursor _ _ _ i.0 i.1.0
    (refused_first ℕ (λ n. At) (marks number_tokens) (λ n. at_marks) apart_number (λ n. some_at) _ _ _ c.in_err-width.ensures)))

pub returns-in_err-at : goal.returns-in_err-at
returns-in_err-at c =
    let a = c.in_ok-var.ensures in
    let i = c.in_ok-index.ensures in
    let w = c.in_ok-width.ensures in
    let p = err_from_is_err_and c.from_residual-in_err-at.result c.from_residual-in_err-at.ensures.1 in
    rw (p.1, p.2) (behind_var c.args.cursor.now _ _ _ a.0 a.1.0 (behind_index c.number32.new.cursor _ _ _ i.0 i.1.0
    (refused_second ℕ (λ n. At) (marks number_tokens) (λ n. at_marks) w.0 (apart_number w.0) _ _ _ _ w.1.0 c.in_err-at.ensures)))

pub returns : goal.returns
returns c =
    let a = c.in_ok-var.ensures in
    let i = c.in_ok-index.ensures in
    let w = c.in_ok-width.ensures in
    let b = c.in_ok-at.ensures in (
      (a.0, (i.0, (w.0, b.0))),
      (
        takes_both ℕ (λ n. Behind) (marks number_tokens) (λ n. behind_marks) c.args.cursor.now _ _ a.0 (i.0, (w.0, b.0)) a.1.0
            (takes_both At (λ n. Sized) at_marks (λ n. sized_marks) _ _ _ i.0 (w.0, b.0) i.1.0
            (takes_both ℕ (λ n. At) (marks number_tokens) (λ n. at_marks) _ _ _ w.0 b.0 w.1.0 b.1.0)),
        c.word_part_of.ensures (with_vars c.args.vars.now) c.args.kind a.0 w.0 i.0 b.0 (c.find_named.ensures a.0 a.1.1) i.1.1 w.1.1 b.1.1,
      ),
    )
