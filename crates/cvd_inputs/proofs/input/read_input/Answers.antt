use Rattle.std.proofs.Common.{◌∙◌, ap, subst}
use Rattle.std.specs.Str.{bytes_eq}
use Rattle.std.specs.Prelude.{◌||◌}
use Rattle.std.proofs.lemmas.Result.{err_from_is_err_and}
use Rattle.cvd_cursor.specs.Reads.{Refused, Takes, line_marks}
use Rattle.cvd_sections.proofs.Lines.{refused_end, refused_tokens, stood, takes_line}
use Rattle.design_tree.specs.declared.design.Input.{Input}
use Rattle.cvd_inputs.specs.Names.{has_name, input_tokens, may_be_input}
use Rattle.cvd_inputs.proofs.Ending.{seen_stood}
use Rattle.cvd_inputs.proofs.Section.{apart_input, input_by, input_same, is_found, refused_name, refused_var, takes_input, var_found}
use Rattle.cvd_inputs.proofs.input.read_input.Goals as goal

pub returns-in_err-var : goal.returns-in_err-var
returns-in_err-var c = λ all before seen stand.
    let p = err_from_is_err_and c.from_residual.result c.from_residual.ensures.1 in
    rw (p.1, p.2) (refused_tokens input_tokens (may_be_input c.args.vars.now all before) apart_input c.args.cursor.now _ _
    (refused_var c.args.cursor.now _ _ c.in_err-var.ensures))

pub returns-in_err-name : goal.returns-in_err-name
returns-in_err-name c = λ all before seen stand.
    let a = c.in_ok-var.ensures in
    let p = err_from_is_err_and c.from_residual-in_err-name.result c.from_residual-in_err-name.ensures.1 in
    rw (p.1, p.2) (refused_tokens input_tokens (may_be_input c.args.vars.now all before) apart_input c.args.cursor.now _ _
    (refused_name c.args.cursor.now _ _ a.0 _ a.1.0 c.in_err-name.ensures))

pub returns-in_err-var-2 : goal.returns-in_err-var-2
returns-in_err-var-2 c = λ all before seen stand.
    let a = c.in_ok-var.ensures in
    let n = c.in_ok-name.ensures in
    let j = c.input_of-found.ensures all before (input_by (a.0, n.0)) seen stand a.1.1 n.1.1 in
    let p = err_from_is_err_and c.from_residual-in_err-var-2.result c.from_residual-in_err-var-2.ensures.1 in
    rw (p.1, p.2) (refused_end input_tokens (may_be_input c.args.vars.now all before) apart_input c.args.cursor.now c.read_name.new.cursor _
    (input_by (a.0, n.0)) _
    (takes_input c.args.cursor.now _ _ a.0 n.0 a.1.0 n.1.0)
    (subst (λ s. Refused (line_marks s) c.read_name.new.cursor c.in_err-var-2.field-0.0 c.close.new.cursor)
    (is_found c.args.vars.now all before (input_by (a.0, n.0)) c.input_of-found.result j) c.in_err-var-2.ensures))

pub returns : goal.returns
returns c = λ all before seen stand.
    let a = c.in_ok-var.ensures in
    let n = c.in_ok-name.ensures in
    let i : Input = input_by (a.0, n.0) in
    let j = c.input_of-found.ensures all before (input_by (a.0, n.0)) seen stand a.1.1 n.1.1 in
    let closed = c.in_ok-var-2.ensures in
    let takes =
    takes_line input_tokens (may_be_input c.args.vars.now all before) c.args.cursor.now c.read_name.new.cursor c.close.new.cursor i
    (takes_input c.args.cursor.now _ _ a.0 n.0 a.1.0 n.1.0)
    (subst (λ s. Takes (line_marks s) c.read_name.new.cursor c.close.new.cursor tt) (is_found c.args.vars.now all before i c.input_of-found.result j)
    closed.1.0) in
    let holds = stood input_tokens (may_be_input c.args.vars.now all before) c.args.cursor.now c.close.new.cursor i takes in
    let var = var_found c.args.vars.now all before i c.input_of-found.result c.in_ok-var-2.var closed.1.1 j in (
      i,
      (
        takes,
        (
          input_same c.in_ok-var-2.var c.in_ok-name-2.name i var (c.in_ok-name-2.ensures ∙ n.1.1),
          seen_stood c.args.vars.now before i c.args.last c.args.names.now seen all holds c.add_name.new.names
              (λ other. c.in_ok-add_name.ensures other ∙ ap (λ w. bytes_eq w other || has_name c.args.names.now other) n.1.1),
        ),
      ),
    )
