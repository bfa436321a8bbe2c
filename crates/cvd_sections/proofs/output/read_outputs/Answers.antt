use Rattle.std.proofs.Common.{ℕ, ◌++◌, ◌∷◌, [], true, refl, sym, ◌∙◌, ap, subst, Some, None}
use Rattle.std.specs.Prelude.{codes}
use Rattle.std.proofs.lemmas.Result.{err_from_is_err_and}
use Rattle.spelling_laws.proofs.Fitting.{second_true}
use Rattle.cvd_sections.specs.Places.{IsLastOf}
use Rattle.cvd_sections.proofs.Lists.{row, shorter}
use Rattle.cvd_sections.proofs.Lines.{stood}
use Rattle.cvd_sections.proofs.Lasts.{last_of_more}
use Rattle.cvd_sections.proofs.RowSections.{Goes, row_some, starts, more, one_more, heading_refused, heading_broken, one_refused, ends}
use Rattle.cvd_sections.proofs.Outputs.{each, section, alike, apart_rows}
use Rattle.std.specs.Prelude.{nat_lt}
use Rattle.cvd_cursor.specs.Numerals.{number_tokens}
use Rattle.cvd_sections.proofs.Lasts.{less_passes}
use Rattle.cvd_sections.proofs.output.read_outputs.Goals as goal

pub returns-in_err-count : goal.returns-in_err-count
returns-in_err-count c =
    let p = err_from_is_err_and c.from_residual.result c.from_residual.ensures.1 in
    rw (p.1, p.2) (heading_refused ℕ (each c.args.vars.now) (codes "outputs") (λ n. true) (section c.args.vars.now) (alike c.args.vars.now) 0
    c.args.cursor.now _ _ c.in_err-count.ensures)

pub returns-in_err-end_line : goal.returns-in_err-end_line
returns-in_err-end_line c =
    let a = c.in_ok-count.ensures in
    let p = err_from_is_err_and c.from_residual-in_err-end_line.result c.from_residual-in_err-end_line.ensures.1 in
    rw (p.1, p.2) (heading_broken ℕ (each c.args.vars.now) (codes "outputs") (λ n. true) (section c.args.vars.now) (alike c.args.vars.now) 0
    c.args.cursor.now _ _ a.0 _ a.1.0
    c.in_err-end_line.ensures)

pub loop-count-init : goal.loop-count-init
loop-count-init c =
    let a = c.in_ok-count.ensures in
    record {
      goes = subst (λ l. Goes ℕ (each c.args.vars.now) (codes "outputs") (λ n. true) (section c.args.vars.now) c.args.cursor.now c.end_line.new.self
          c.in_ok-count.count l) (sym c.new-kept.ensures)
          (starts ℕ (each c.args.vars.now) (codes "outputs") (λ n. true) (section c.args.vars.now) c.args.cursor.now c.read_heading.new.cursor
          c.end_line.new.self a.0 c.in_ok-count.count a.1.1 a.1.0
          c.in_ok-end_line.ensures.1.0);
      last = subst (λ l. IsLastOf nat_lt (λ v. v) l None) (sym c.new-kept.ensures) (λ k. refl);
    }

pub returns-in_err-output : goal.returns-in_err-output
returns-in_err-output c =
    let l = c.loop-count in
    let g = l.invariant.goes in
    let less =
    more ℕ (each c.args.vars.now) (codes "outputs") (λ n. true) (section c.args.vars.now) c.len.result l.kept c.wants_more.result c.in_ok-count.count
    c.args.cursor.now l.cursor g
    c.len.ensures c.wants_more.ensures c.loop-count-test.true in
    let p = err_from_is_err_and c.from_residual-in_err-output.result c.from_residual-in_err-output.ensures.1 in
    rw (p.1, p.2) (one_refused ℕ (each c.args.vars.now) (codes "outputs") (λ n. true) (section c.args.vars.now) (alike c.args.vars.now) 0
    (apart_rows c.args.vars.now) c.args.cursor.now l.cursor _ c.in_ok-count.count
    l.kept _ g less (c.in_err-output.ensures l.kept l.invariant.last))

pub loop-count-preserved : goal.loop-count-preserved
loop-count-preserved c =
    let l = c.loop-count in
    let g = l.invariant.goes in
    let less =
    more ℕ (each c.args.vars.now) (codes "outputs") (λ n. true) (section c.args.vars.now) c.len.result l.kept c.wants_more.result c.in_ok-count.count
    c.args.cursor.now l.cursor g
    c.len.ensures c.wants_more.ensures c.loop-count-test.true in
    let r = c.in_ok-output.ensures l.kept l.invariant.last in
    let pushed = c.in_ok-push.ensures.ok ∙ ap (λ x. l.kept ++ x ∷ []) r.1.1 in
    let h = stood number_tokens (λ x. (each c.args.vars.now 0 l.kept x).holds) l.cursor c.read_output.new.cursor r.0 r.1.0 in
    record {
      goes = subst (λ k. Goes ℕ (each c.args.vars.now) (codes "outputs") (λ n. true) (section c.args.vars.now) c.args.cursor.now c.read_output.new.cursor
          c.in_ok-count.count k) (sym pushed)
          (one_more ℕ (each c.args.vars.now) (codes "outputs") (λ n. true) (section c.args.vars.now) c.args.cursor.now l.cursor c.read_output.new.cursor
          c.in_ok-count.count l.kept r.0 g less r.1.0);
      last = subst (λ k. IsLastOf nat_lt (λ v. v) k (Some c.in_ok-output.output)) (sym pushed)
          (subst (λ x. IsLastOf nat_lt (λ v. v) (l.kept ++ r.0 ∷ []) (Some x)) (sym r.1.1)
          (last_of_more nat_lt (λ v. v) less_passes l.kept r.0 (second_true _ _ h)));
    }

pub loop-count-smaller : goal.loop-count-smaller
loop-count-smaller c =
    let l = c.loop-count in
    let r = c.in_ok-output.ensures l.kept l.invariant.last in
    shorter (row (each c.args.vars.now) (0, l.kept)) r.0 (row_some (each c.args.vars.now) (0, l.kept) r.0) l.cursor c.read_output.new.cursor r.1.0

pub returns : goal.returns
returns c =
    let l = c.loop-count in (
      l.kept,
      (
        ends ℕ (each c.args.vars.now) (codes "outputs") (λ n. true) (section c.args.vars.now) (alike c.args.vars.now) 0 c.args.cursor.now l.cursor
            c.in_ok-count.count l.kept c.len.result
            c.wants_more.result l.invariant.goes c.len.ensures c.wants_more.ensures c.loop-count-test.false,
        refl,
      ),
    )
