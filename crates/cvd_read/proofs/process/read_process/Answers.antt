use Rattle.std.proofs.Common.{◌≡◌, true, sym, subst, ap, ◌∙◌}
use Rattle.std.proofs.lemmas.Result.{err_from_is_err_and}
use Rattle.cvd_cursor.specs.Reads.{Takes, marks}
use Rattle.cvd_section_laws.proofs.Sections.{process_tokens}
use Rattle.cvd_text.specs.Lines.{is_within}
use Rattle.cvd_steps.specs.Bodies.{load_of}
use Rattle.cvd_read.proofs.Processes.{behind_one, made, refused_kind, refused_line, refused_body, takes_one}
use Rattle.cvd_read.proofs.process.read_process.Goals as goal

pub returns-in_err-kind : goal.returns-in_err-kind
returns-in_err-kind c =
    let p = err_from_is_err_and c.from_residual.result c.from_residual.ensures.1 in
    rw (p.1, p.2) (refused_kind c.args.vars.now c.args.counters (load_of c.args.sums) c.requires.sums c.args.cursor.now _ _ c.in_err-kind.ensures)

pub returns-in_err-end_line : goal.returns-in_err-end_line
returns-in_err-end_line c =
    let k = c.in_ok-kind.ensures in
    let p = err_from_is_err_and c.from_residual-in_err-end_line.result c.from_residual-in_err-end_line.ensures.1 in
    rw (p.1, p.2) (refused_line c.args.vars.now c.args.counters (load_of c.args.sums) c.requires.sums c.args.cursor.now c.read_process_kind.new.cursor _ k.0 _
    k.1.0 c.in_err-end_line.ensures)

pub returns-in_err-body : goal.returns-in_err-body
returns-in_err-body c =
    let k = c.in_ok-kind.ensures in
    let here = subst (λ k. Takes (marks process_tokens) c.args.cursor.now c.read_process_kind.new.cursor k) (sym k.1.1) k.1.0 in
    let p = err_from_is_err_and c.from_residual-in_err-body.result c.from_residual-in_err-body.ensures.1 in
    rw (p.1, p.2) (refused_body c.args.vars.now c.args.counters (load_of c.args.sums) c.requires.sums c.args.cursor.now c.read_process_kind.new.cursor
    c.end_line.new.self _ c.in_ok-kind.kind _ here c.in_ok-end_line.ensures.1.0 c.in_err-body.ensures)

pub returns : goal.returns
returns c =
    let k = c.in_ok-kind.ensures in
    let kind = c.in_ok-kind.kind in
    let here = subst (λ k. Takes (marks process_tokens) c.args.cursor.now c.read_process_kind.new.cursor k) (sym k.1.1) k.1.0 in
    let b = c.in_ok-body.ensures in
    let load = load_of c.args.sums in
    let behind = behind_one c.args.vars.now c.args.counters load kind b.0 in (
      made c.args.vars.now c.args.counters kind b.0,
      (
        takes_one c.args.vars.now c.args.counters load c.requires.sums c.args.cursor.now c.read_process_kind.new.cursor c.end_line.new.self
            c.read_body.new.cursor kind b.0 here c.in_ok-end_line.ensures.1.0 b.1.0,
        record {
          process_is = ap (made c.args.vars.now c.args.counters kind) b.1.1.steps_are;
          sums_are = record { load_is = b.1.1.sums_are.load_is ∙ behind; within = subst (λ l. is_within l ≡ true) behind b.1.1.sums_are.within };
        },
      ),
    )
