use Rattle.std.proofs.Common.{◌≡◌, ◌++◌, ◌∷◌, [], true, refl, sym, ◌∙◌, ap, subst, length}
use Rattle.std.specs.Prelude.{codes, nat_lt}
use Rattle.std.proofs.lemmas.Result.{err_from_is_err_and}
use Rattle.design_tree.specs.declared.design.Process.{Process}
use Rattle.cvd_cursor.specs.Reads.{Refused, Takes, line_marks}
use Rattle.cvd_text.specs.Lines.{Load, is_within}
use Rattle.cvd_step_laws.specs.LineMarks.{with_vars}
use Rattle.cvd_section_laws.proofs.Sections.{apart_process}
use Rattle.cvd_sections.proofs.Counting.{Goes, more_left, none_left, starts, one_more, heading_refused, heading_broken, one_refused, ends}
use Rattle.cvd_sections.proofs.Lists.{shorter}
use Rattle.cvd_steps.specs.Bodies.{load_of}
use Rattle.cvd_read.proofs.Processes.{alike, behind_all, may_be, next, section, some_marks, some_process, spelled}
use Rattle.cvd_read.proofs.process.read_processes.Goals as goal

pub returns-in_err-count : goal.returns-in_err-count
returns-in_err-count c =
    let vars = c.args.vars.now in
    let n = c.args.counters in
    let load = load_of c.args.before in
    let p = err_from_is_err_and c.from_residual.result c.from_residual.ensures.1 in
    rw (p.1, p.2) (heading_refused Process Load (spelled vars n) (next vars n) (λ k. load) (codes "processes") may_be (section vars n load)
    (alike vars n load c.requires.sums) some_process c.args.cursor.now _ _ c.in_err-count.ensures)

pub returns-in_err-end_line : goal.returns-in_err-end_line
returns-in_err-end_line c =
    let vars = c.args.vars.now in
    let n = c.args.counters in
    let load = load_of c.args.before in
    let a = c.in_ok-count.ensures in
    let p = err_from_is_err_and c.from_residual-in_err-end_line.result c.from_residual-in_err-end_line.ensures.1 in
    rw (p.1, p.2) (heading_broken Process Load (spelled vars n) (next vars n) (λ k. load) (codes "processes") may_be (section vars n load)
    (alike vars n load c.requires.sums) some_process c.args.cursor.now c.read_heading.new.cursor _ a.0 _ a.1.0
    (subst (λ b. Refused (line_marks b) c.read_heading.new.cursor c.in_err-end_line.field-0.0 c.end_line.new.self) (c.may_be.ensures a.0 a.1.1)
    c.in_err-end_line.ensures))

pub processes-init : goal.processes-init
processes-init c =
    let vars = c.args.vars.now in
    let n = c.args.counters in
    let load = load_of c.args.before in
    let a = c.in_ok-count.ensures in
    record {
      goes = subst (λ ps. Goes Process Load (spelled vars n) (next vars n) (λ k. load) (codes "processes") may_be (section vars n load) c.args.cursor.now
          c.end_line.new.self c.in_ok-count.count (λ k. load) ps) (sym c.new-kept.ensures)
          (starts Process Load (spelled vars n) (next vars n) (λ k. load) (codes "processes") may_be (section vars n load) c.args.cursor.now
          c.read_heading.new.cursor c.end_line.new.self a.0 c.in_ok-count.count a.1.1 a.1.0
          (subst (λ b. Takes (line_marks b) c.read_heading.new.cursor c.end_line.new.self tt) (c.may_be.ensures a.0 a.1.1) c.in_ok-end_line.ensures.1.0));
      within = c.requires.sums;
    }

pub returns-in_err-next : goal.returns-in_err-next
returns-in_err-next c =
    let vars = c.args.vars.now in
    let n = c.args.counters in
    let load = load_of c.args.before in
    let l = c.processes in
    let g = l.invariant.goes in
    let less = more_left (length l.kept) g.n (sym c.processes-test.true ∙ c.wants_more.ensures g.n g.count ∙ ap (λ k. nat_lt k g.n) c.len.ensures) in
    let p = err_from_is_err_and c.from_residual-in_err-next.result c.from_residual-in_err-next.ensures.1 in
    rw (p.1, p.2) (one_refused Process Load (spelled vars n) (next vars n) (λ k. load) (codes "processes") may_be (section vars n load)
    (alike vars n load c.requires.sums) some_process (apart_process (with_vars vars) n) c.args.cursor.now l.cursor _ c.in_ok-count.count
    (λ k. load_of l.sums) l.kept _ g less c.in_err-next.ensures)

pub processes-preserved : goal.processes-preserved
processes-preserved c =
    let vars = c.args.vars.now in
    let n = c.args.counters in
    let load = load_of c.args.before in
    let l = c.processes in
    let g = l.invariant.goes in
    let less = more_left (length l.kept) g.n (sym c.processes-test.true ∙ c.wants_more.ensures g.n g.count ∙ ap (λ k. nat_lt k g.n) c.len.ensures) in
    let r = c.in_ok-next.ensures in
    let pushed = c.in_ok-push.ensures.ok ∙ ap (λ x. l.kept ++ x ∷ []) r.1.1.process_is in
    let sums = sym r.1.1.sums_are.load_is in
    record {
      goes = subst (λ ps. Goes Process Load (spelled vars n) (next vars n) (λ k. load) (codes "processes") may_be (section vars n load) c.args.cursor.now
          c.read_process.new.cursor c.in_ok-count.count (λ k. load_of c.in_ok-next.next.sums) ps) (sym pushed)
          (subst (λ s. Goes Process Load (spelled vars n) (next vars n) (λ k. load) (codes "processes") may_be (section vars n load) c.args.cursor.now
          c.read_process.new.cursor c.in_ok-count.count (λ k. s) (l.kept ++ r.0 ∷ [])) sums
          (one_more Process Load (spelled vars n) (next vars n) (λ k. load) (codes "processes") may_be (section vars n load) c.args.cursor.now l.cursor
          c.read_process.new.cursor c.in_ok-count.count (λ k. load_of l.sums) l.kept r.0 g less r.1.0));
      within = subst (λ s. is_within s ≡ true) sums r.1.1.sums_are.within;
    }

pub processes-smaller : goal.processes-smaller
processes-smaller c =
    let vars = c.args.vars.now in
    let n = c.args.counters in
    let l = c.processes in
    let r = c.in_ok-next.ensures in
    shorter (spelled vars n (load_of l.sums)) r.0 (some_marks vars n (load_of l.sums) r.0) l.cursor c.read_process.new.cursor r.1.0

pub returns : goal.returns
returns c =
    let vars = c.args.vars.now in
    let n = c.args.counters in
    let load = load_of c.args.before in
    let l = c.processes in
    let g = l.invariant.goes in (
      l.kept,
      (
        ends Process Load (spelled vars n) (next vars n) (λ k. load) (codes "processes") may_be (section vars n load) (alike vars n load c.requires.sums)
            some_process c.args.cursor.now l.cursor c.in_ok-count.count (λ k. load_of l.sums) l.kept g
            (none_left (length l.kept) g.n (sym c.processes-test.false ∙ c.wants_more.ensures g.n g.count ∙ ap (λ k. nat_lt k g.n) c.len.ensures)),
        record { same = refl; within = subst (λ s. is_within s ≡ true) (g.going.state ∙ sym (behind_all vars n load l.kept)) l.invariant.within },
      ),
    )

pub read_process-requires-clause-sums : goal.read_process-requires-clause-sums
read_process-requires-clause-sums c = c.processes.invariant.within
