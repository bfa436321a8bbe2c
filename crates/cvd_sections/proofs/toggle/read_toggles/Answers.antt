use Rattle.std.proofs.Common.{◌++◌, ◌∷◌, [], true, refl, sym, ◌∙◌, ap, subst, Some, None}
use Rattle.std.specs.Prelude.{codes}
use Rattle.std.proofs.lemmas.Result.{err_from_is_err_and}
use Rattle.spelling_laws.proofs.Fitting.{second_true}
use Rattle.cvd_sections.specs.Places.{IsLastOf}
use Rattle.cvd_sections.proofs.Lists.{row, shorter}
use Rattle.cvd_sections.proofs.Lines.{stood}
use Rattle.cvd_sections.proofs.Lasts.{last_of_more}
use Rattle.cvd_sections.proofs.RowSections.{Goes, row_some, starts, more, one_more, heading_refused, heading_broken, one_refused, ends}
use Rattle.cvd_sections.proofs.Toggles.{each, section, alike, apart_rows}
use Rattle.std.specs.Option.{option_map}
use Rattle.cvd_text.specs.Sections.{is_below}
use Rattle.design_meaning.specs.Valid.{toggle_place}
use Rattle.design_tree.specs.declared.instrumented.ToggleEntry.{ToggleEntry}
use Rattle.cvd_sections.specs.Fields.{toggle_tokens}
use Rattle.cvd_sections.proofs.Lasts.{below_passes}
use Rattle.cvd_sections.proofs.Toggles.{some_toggle}
use Rattle.cvd_sections.proofs.toggle.read_toggles.Goals as goal

pub returns-in_err-count : goal.returns-in_err-count
returns-in_err-count c =
    let p = err_from_is_err_and c.from_residual.result c.from_residual.ensures.1 in
    rw (p.1, p.2) (heading_refused ToggleEntry (each c.args.vars.now c.args.counters) (codes "toggles") (λ n. true) (section c.args.vars.now c.args.counters)
    (alike c.args.vars.now c.args.counters) some_toggle c.args.cursor.now _ _ c.in_err-count.ensures)

pub returns-in_err-end_line : goal.returns-in_err-end_line
returns-in_err-end_line c =
    let a = c.in_ok-count.ensures in
    let p = err_from_is_err_and c.from_residual-in_err-end_line.result c.from_residual-in_err-end_line.ensures.1 in
    rw (p.1, p.2) (heading_broken ToggleEntry (each c.args.vars.now c.args.counters) (codes "toggles") (λ n. true) (section c.args.vars.now c.args.counters)
    (alike c.args.vars.now c.args.counters) some_toggle c.args.cursor.now _ _ a.0 _ a.1.0
    c.in_err-end_line.ensures)

pub loop-count-init : goal.loop-count-init
loop-count-init c =
    let a = c.in_ok-count.ensures in
    record {
      goes = subst (λ l. Goes ToggleEntry (each c.args.vars.now c.args.counters) (codes "toggles") (λ n. true) (section c.args.vars.now c.args.counters)
          c.args.cursor.now c.end_line.new.self c.in_ok-count.count l) (sym c.new-kept.ensures)
          (starts ToggleEntry (each c.args.vars.now c.args.counters) (codes "toggles") (λ n. true) (section c.args.vars.now c.args.counters)
          c.args.cursor.now c.read_heading.new.cursor c.end_line.new.self a.0 c.in_ok-count.count a.1.1 a.1.0
          c.in_ok-end_line.ensures.1.0);
      last = subst (λ l. IsLastOf is_below toggle_place l None) (sym c.new-kept.ensures) (λ k. refl);
    }

pub returns-in_err-entry : goal.returns-in_err-entry
returns-in_err-entry c =
    let l = c.loop-count in
    let g = l.invariant.goes in
    let less =
    more ToggleEntry (each c.args.vars.now c.args.counters) (codes "toggles") (λ n. true) (section c.args.vars.now c.args.counters) c.len.result l.kept
    c.wants_more.result c.in_ok-count.count c.args.cursor.now l.cursor g
    c.len.ensures c.wants_more.ensures c.loop-count-test.true in
    let p = err_from_is_err_and c.from_residual-in_err-entry.result c.from_residual-in_err-entry.ensures.1 in
    rw (p.1, p.2) (one_refused ToggleEntry (each c.args.vars.now c.args.counters) (codes "toggles") (λ n. true) (section c.args.vars.now c.args.counters)
    (alike c.args.vars.now c.args.counters) some_toggle (apart_rows c.args.vars.now c.args.counters) c.args.cursor.now l.cursor _ c.in_ok-count.count
    l.kept _ g less (c.in_err-entry.ensures l.kept l.invariant.last))

pub loop-count-preserved : goal.loop-count-preserved
loop-count-preserved c =
    let l = c.loop-count in
    let g = l.invariant.goes in
    let less =
    more ToggleEntry (each c.args.vars.now c.args.counters) (codes "toggles") (λ n. true) (section c.args.vars.now c.args.counters) c.len.result l.kept
    c.wants_more.result c.in_ok-count.count c.args.cursor.now l.cursor g
    c.len.ensures c.wants_more.ensures c.loop-count-test.true in
    let r = c.in_ok-entry.ensures l.kept l.invariant.last in
    let pushed = c.in_ok-push.ensures.ok ∙ ap (λ x. l.kept ++ x ∷ []) r.1.1 in
    let h = stood toggle_tokens (λ x. (each c.args.vars.now c.args.counters 0 l.kept x).holds) l.cursor c.read_toggle.new.cursor r.0 r.1.0 in
    record {
      goes = subst (λ k. Goes ToggleEntry (each c.args.vars.now c.args.counters) (codes "toggles") (λ n. true) (section c.args.vars.now c.args.counters)
          c.args.cursor.now c.read_toggle.new.cursor c.in_ok-count.count k) (sym pushed)
          (one_more ToggleEntry (each c.args.vars.now c.args.counters) (codes "toggles") (λ n. true) (section c.args.vars.now c.args.counters)
          c.args.cursor.now l.cursor c.read_toggle.new.cursor c.in_ok-count.count l.kept r.0 g less r.1.0);
      last = subst (λ k. IsLastOf is_below toggle_place k (option_map toggle_place (Some c.in_ok-entry.entry))) (sym pushed)
          (subst (λ x. IsLastOf is_below toggle_place (l.kept ++ r.0 ∷ []) (option_map toggle_place (Some x))) (sym r.1.1)
          (last_of_more is_below toggle_place below_passes l.kept r.0 (second_true _ _ h)));
    }

pub loop-count-smaller : goal.loop-count-smaller
loop-count-smaller c =
    let l = c.loop-count in
    let r = c.in_ok-entry.ensures l.kept l.invariant.last in
    shorter (row (each c.args.vars.now c.args.counters) (0, l.kept)) r.0 (row_some (each c.args.vars.now c.args.counters) (0, l.kept) r.0) l.cursor
    c.read_toggle.new.cursor r.1.0

pub returns : goal.returns
returns c =
    let l = c.loop-count in (
      l.kept,
      (
        ends ToggleEntry (each c.args.vars.now c.args.counters) (codes "toggles") (λ n. true) (section c.args.vars.now c.args.counters)
            (alike c.args.vars.now c.args.counters) some_toggle c.args.cursor.now l.cursor c.in_ok-count.count l.kept c.len.result
            c.wants_more.result l.invariant.goes c.len.ensures c.wants_more.ensures c.loop-count-test.false,
        refl,
      ),
    )
