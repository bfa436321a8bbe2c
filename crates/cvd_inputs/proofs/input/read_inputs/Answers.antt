use Rattle.std.proofs.Common.{◌+◌, ◌++◌, ◌∷◌, [], refl, sym, ◌∙◌, ap, subst, length, None, Some}
use Rattle.std.specs.Prelude.{◌==◌, ◌||◌, codes, nat_lt}
use Rattle.std.proofs.lemmas.Result.{err_from_is_err_and}
use Rattle.design_tree.specs.declared.design.Input.{Input}
use Rattle.cvd_cursor.specs.Reads.{Refused, Takes, line_marks}
use Rattle.cvd_sections.proofs.Lists.{row, shorter}
use Rattle.cvd_sections.proofs.RowSections.{Goes, row_some, starts, more, one_more, heading_refused, heading_broken, one_refused, ends}
use Rattle.cvd_inputs.specs.Names.{AreSeen}
use Rattle.cvd_inputs.proofs.Ending.{seen_none}
use Rattle.cvd_inputs.proofs.Section.{alike, apart_rows, each, may_be, section, some_input}
use Rattle.cvd_inputs.proofs.input.read_inputs.Goals as goal

pub returns-in_err-count : goal.returns-in_err-count
returns-in_err-count c =
    let p = err_from_is_err_and c.from_residual.result c.from_residual.ensures.1 in
    rw (p.1, p.2) (heading_refused Input (each c.args.vars.now) (codes "inputs") (may_be c.args.vars.now) (section c.args.vars.now) (alike c.args.vars.now)
    some_input c.args.cursor.now _ _ c.in_err-count.ensures)

pub returns-in_err-end_line : goal.returns-in_err-end_line
returns-in_err-end_line c =
    let a = c.in_ok-count.ensures in
    let ok = c.may_be.ensures a.0 a.1.1 ∙ ap (λ k. nat_lt 0 a.0 || k == 0) c.count_inputs-all.ensures in
    let p = err_from_is_err_and c.from_residual-in_err-end_line.result c.from_residual-in_err-end_line.ensures.1 in
    rw (p.1, p.2) (heading_broken Input (each c.args.vars.now) (codes "inputs") (may_be c.args.vars.now) (section c.args.vars.now) (alike c.args.vars.now)
    some_input c.args.cursor.now c.read_heading.new.cursor _ a.0 _ a.1.0
    (subst (λ b. Refused (line_marks b) c.read_heading.new.cursor c.in_err-end_line.field-0.0 c.end_line.new.self) ok c.in_err-end_line.ensures))

pub inputs-init : goal.inputs-init
inputs-init c =
    let a = c.in_ok-count.ensures in
    let h = c.in_ok-end_line.ensures.1.0 in
    let ok = c.may_be.ensures a.0 a.1.1 ∙ ap (λ k. nat_lt 0 a.0 || k == 0) c.count_inputs-all.ensures in
    record {
      goes = subst (λ l. Goes Input (each c.args.vars.now) (codes "inputs") (may_be c.args.vars.now) (section c.args.vars.now) c.args.cursor.now
          c.end_line.new.self c.in_ok-count.count l) (sym c.new-kept.ensures)
          (starts Input (each c.args.vars.now) (codes "inputs") (may_be c.args.vars.now) (section c.args.vars.now) c.args.cursor.now
          c.read_heading.new.cursor c.end_line.new.self a.0 c.in_ok-count.count a.1.1 a.1.0
          (subst (λ b. Takes (line_marks b) c.read_heading.new.cursor c.end_line.new.self tt) ok h));
      seen = subst (λ k. AreSeen c.args.vars.now k None c.new-names.result) (sym c.new-kept.ensures)
          (seen_none c.args.vars.now c.new-names.result c.new-names.ensures.empty);
      all = c.count_inputs-all.ensures;
    }

pub returns-in_err-next : goal.returns-in_err-next
returns-in_err-next c =
    let l = c.inputs in
    let g = l.invariant.goes in
    let less =
    more Input (each c.args.vars.now) (codes "inputs") (may_be c.args.vars.now) (section c.args.vars.now) c.len.result l.kept c.wants_more.result
    c.in_ok-count.count c.args.cursor.now l.cursor g c.len.ensures c.wants_more.ensures
    c.inputs-test.true in
    let may = c.may_stand-may_stand.ensures g.n g.count ∙ ap (λ k. nat_lt (k + 1) g.n || (k + 1) == c.count_inputs-all.result) c.len-in-inputs.ensures
    ∙ ap (λ k. nat_lt (length l.kept + 1) g.n || (length l.kept + 1) == k) c.count_inputs-all.ensures in
    let p = err_from_is_err_and c.from_residual-in_err-next.result c.from_residual-in_err-next.ensures.1 in
    rw (p.1, p.2) (one_refused Input (each c.args.vars.now) (codes "inputs") (may_be c.args.vars.now) (section c.args.vars.now) (alike c.args.vars.now)
    some_input (apart_rows c.args.vars.now) c.args.cursor.now l.cursor _ c.in_ok-count.count l.kept _ g less
    (c.in_err-next.ensures g.n l.kept l.invariant.seen may))

pub inputs-preserved : goal.inputs-preserved
inputs-preserved c =
    let l = c.inputs in
    let g = l.invariant.goes in
    let less =
    more Input (each c.args.vars.now) (codes "inputs") (may_be c.args.vars.now) (section c.args.vars.now) c.len.result l.kept c.wants_more.result
    c.in_ok-count.count c.args.cursor.now l.cursor g c.len.ensures c.wants_more.ensures
    c.inputs-test.true in
    let may = c.may_stand-may_stand.ensures g.n g.count ∙ ap (λ k. nat_lt (k + 1) g.n || (k + 1) == c.count_inputs-all.result) c.len-in-inputs.ensures
    ∙ ap (λ k. nat_lt (length l.kept + 1) g.n || (length l.kept + 1) == k) c.count_inputs-all.ensures in
    let r = c.in_ok-next.ensures g.n l.kept l.invariant.seen may in
    let pushed = c.in_ok-push.ensures.ok ∙ ap (λ x. l.kept ++ x ∷ []) r.1.1.0 in
    record {
      goes = subst (λ k. Goes Input (each c.args.vars.now) (codes "inputs") (may_be c.args.vars.now) (section c.args.vars.now) c.args.cursor.now
          c.read_input.new.cursor c.in_ok-count.count k) (sym pushed)
          (one_more Input (each c.args.vars.now) (codes "inputs") (may_be c.args.vars.now) (section c.args.vars.now) c.args.cursor.now l.cursor
          c.read_input.new.cursor c.in_ok-count.count l.kept r.0 g less r.1.0);
      seen = subst (λ k. AreSeen c.args.vars.now k (Some c.in_ok-next.next.var) c.read_input.new.names) (sym pushed)
          (subst (λ (x : Input). AreSeen c.args.vars.now (l.kept ++ r.0 ∷ []) (Some x.var) c.read_input.new.names) (sym r.1.1.0) r.1.1.1);
      all = c.count_inputs-all.ensures;
    }

pub inputs-smaller : goal.inputs-smaller
inputs-smaller c =
    let l = c.inputs in
    let g = l.invariant.goes in
    let may = c.may_stand-may_stand.ensures g.n g.count ∙ ap (λ k. nat_lt (k + 1) g.n || (k + 1) == c.count_inputs-all.result) c.len-in-inputs.ensures
    ∙ ap (λ k. nat_lt (length l.kept + 1) g.n || (length l.kept + 1) == k) c.count_inputs-all.ensures in
    let r = c.in_ok-next.ensures g.n l.kept l.invariant.seen may in
    shorter (row (each c.args.vars.now) (g.n, l.kept)) r.0 (row_some (each c.args.vars.now) (g.n, l.kept) r.0) l.cursor c.read_input.new.cursor r.1.0

pub returns : goal.returns
returns c =
    let l = c.inputs in (
      l.kept,
      (
        ends Input (each c.args.vars.now) (codes "inputs") (may_be c.args.vars.now) (section c.args.vars.now) (alike c.args.vars.now) some_input
            c.args.cursor.now l.cursor c.in_ok-count.count l.kept c.len.result c.wants_more.result l.invariant.goes
            c.len.ensures c.wants_more.ensures c.inputs-test.false,
        refl,
      ),
    )
