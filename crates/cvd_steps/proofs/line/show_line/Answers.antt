use Rattle.std.proofs.Common.{map, refl, subst}
use Rattle.std.proofs.lemmas.Result.{err_from_is_err_and}
use Rattle.design_tree.specs.declared.step.Piece.{Piece}
use Rattle.circuit_run.specs.Lists.{total}
use Rattle.cvd_text.specs.Lines.{added, stands}
use Rattle.cvd_text.specs.Targets.{piece_nodes}
use Rattle.cvd_step_laws.specs.StepMarks.{Shown, shown_marks, show_line}
use Rattle.cvd_targets.specs.Lists.{Counted}
use Rattle.cvd_targets.specs.PieceParts.{PiecesIn, counted_pieces}
use Rattle.cvd_steps.specs.Bodies.{AreSums, around_of, load_of, own_load}
use Rattle.cvd_steps.proofs.EndedLines.{refused_value, refused_end, takes_line}
use Rattle.cvd_steps.proofs.FirstLines.{apart_counted_pieces}
use Rattle.cvd_steps.proofs.LineTests.{show_stands, show_breaks}
use Rattle.cvd_steps.proofs.line.show_line.Goals as goal

pub returns-in_err-held : goal.returns-in_err-held
returns-in_err-held c = λ at e.
    let around = around_of c.args.vars.now c.args.process in
    let before = load_of c.args.sums in
    let p = err_from_is_err_and c.from_residual.result c.from_residual.ensures.1 in
    rw (p.1, p.2) (refused_value (Counted Piece) Shown counted_pieces (λ q. stands before (show_line around at q.1.items)) (shown_marks around before at)
    (λ q. (q.0, (q.1, tt))) (λ q. (q.0, q.1.0)) (λ q. refl) (λ q. refl) apart_counted_pieces c.args.cursor.now _ _ c.in_err-held.ensures)

pub returns-in_default : goal.returns-in_default
returns-in_default c = λ at e.
    let around = around_of c.args.vars.now c.args.process in
    let before = load_of c.args.sums in
    let a = c.in_ok-held.ensures in
    let none = subst (PiecesIn around.design a.0.1.items) c.in_default.is a.1.1 in
    refused_end (Counted Piece) Shown counted_pieces (λ q. stands before (show_line around at q.1.items)) (shown_marks around before at)
    (λ q. (q.0, (q.1, tt))) (λ q. (q.0, q.1.0)) (λ q. refl) (λ q. refl) apart_counted_pieces a.0 _ (show_breaks around before at a.0.1.items none)
    c.args.cursor.now c.read_pieces.new.cursor _ _ a.1.0 c.refuse.ensures

pub returns-in_err-sums : goal.returns-in_err-sums
returns-in_err-sums c = λ at e.
    let around = around_of c.args.vars.now c.args.process in
    let before = load_of c.args.sums in
    let a = c.in_ok-held.ensures in
    let h = subst (PiecesIn around.design a.0.1.items) c.in-Some.is a.1.1 in
    let p = err_from_is_err_and c.from_residual-in_err-sums.result c.from_residual-in_err-sums.ensures.1 in
    rw (p.1, p.2) (refused_end (Counted Piece) Shown counted_pieces (λ q. stands before (show_line around at q.1.items)) (shown_marks around before at)
    (λ q. (q.0, (q.1, tt))) (λ q. (q.0, q.1.0)) (λ q. refl) (λ q. refl) apart_counted_pieces a.0 _
    (show_stands around before at a.0.1.items c.args.allowed c.in-Some.held.nodes c.in-Some.held.shown e h.stand h.nodes_are h.shown_is)
    c.args.cursor.now c.read_pieces.new.cursor _ _ a.1.0 c.in_err-sums.ensures)

pub returns : goal.returns
returns c = λ at e.
    let around = around_of c.args.vars.now c.args.process in
    let before = load_of c.args.sums in
    let a = c.in_ok-held.ensures in
    let h = subst (PiecesIn around.design a.0.1.items) c.in-Some.is a.1.1 in
    let x = c.in-Some.held in
    let r = c.in_ok-sums.ensures in (
      (a.0.0, (a.0.1, tt)),
      (
        takes_line (Counted Piece) Shown counted_pieces (λ q. stands before (show_line around at q.1.items)) (shown_marks around before at)
            (λ q. (q.0, (q.1, tt))) (λ q. (q.0, q.1.0)) (λ q. refl) (λ q. refl) apart_counted_pieces a.0 _
            (show_stands around before at a.0.1.items c.args.allowed x.nodes x.shown e h.stand h.nodes_are h.shown_is)
            c.args.cursor.now c.read_pieces.new.cursor _ a.1.0 r.1.0,
        record {
          pieces_are = h.items_are;
          sums_are = subst (λ n. AreSums (added before (own_load 1 (total (map piece_nodes a.0.1.items)) n)) c.in_ok-sums.sums) h.shown_is
              (subst (λ n. AreSums (added before (own_load 1 n x.shown)) c.in_ok-sums.sums) h.nodes_are r.1.1);
        },
      ),
    )
