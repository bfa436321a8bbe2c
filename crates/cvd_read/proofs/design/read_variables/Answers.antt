use Rattle.std.proofs.Common.{◌≡◌, true, sym, ◌∙◌, ap, subst, arith, length}
use Rattle.std.specs.Prelude.{All}
use Rattle.std.proofs.lemmas.Result.{err_from_is_err_and}
use Rattle.cvd_text.specs.Lines.{is_within}
use Rattle.cvd_section_laws.proofs.Whole.{made_design}
use Rattle.cvd_sections.specs.Fields.{load_of as bits_load}
use Rattle.cvd_sections.proofs.VarSection.{section}
use Rattle.cvd_steps.specs.Bodies.{load_of}
use Rattle.design_meaning.specs.ValidVariables.{IsVariable}
use Rattle.cvd_read.proofs.Cut.{cut_kept}
use Rattle.cvd_read.proofs.VarLines.{behind_vars, bits_within, variables_stand, vars_halt, vars_then, halts_then}
use Rattle.cvd_read.proofs.design.read_variables.Goals as goal

pub read_outside-requires-clause-few : goal.read_outside-requires-clause-few
read_outside-requires-clause-few c =
    let a = c.in_ok-vars.ensures in
    let same = ap length (c.as_slice.ensures ∙ a.1.1.same) in
    omega (arith, a.1.1.few, a.1.1.within)

pub read_outside-requires-clause-variables : goal.read_outside-requires-clause-variables
read_outside-requires-clause-variables c =
    let a = c.in_ok-vars.ensures in
    subst (λ vs. All IsVariable vs) (sym (c.as_slice.ensures ∙ a.1.1.same)) (variables_stand c.args.cursor.now c.read_vars.new.cursor a.0 a.1.0)

pub read_outside-requires-clause-sums : goal.read_outside-requires-clause-sums
read_outside-requires-clause-sums c =
    let a = c.in_ok-vars.ensures in
    subst (λ l. is_within l ≡ true) (sym c.sums_of-sums.ensures) (bits_within c.in_ok-vars.vars.bits a.1.1.within)

pub read_outside-requires-clause-cut : goal.read_outside-requires-clause-cut
read_outside-requires-clause-cut c =
    let a = c.in_ok-vars.ensures in
    cut_kept section c.args.cursor.now c.read_vars.new.cursor a.0 a.1.0 c.requires

pub returns-in_err-vars : goal.returns-in_err-vars
returns-in_err-vars c =
    let p = err_from_is_err_and c.from_residual.result c.from_residual.ensures.1 in
    rw (p.1, p.2) (vars_halt c.args.counters c.args.cursor.now _ _ c.in_err-vars.ensures)

pub returns-in_err-outside : goal.returns-in_err-outside
returns-in_err-outside c =
    let a = c.in_ok-vars.ensures in
    let sum = c.sums_of-sums.ensures ∙ ap bits_load a.1.1.bits ∙ sym (behind_vars a.0) in
    let p = err_from_is_err_and c.from_residual-in_err-outside.result c.from_residual-in_err-outside.ensures.1 in
    rw (p.1, p.2) (halts_then c.args.counters c.args.cursor.now c.read_vars.new.cursor _ a.0 _ (load_of c.sums_of-sums.result)
    (c.as_slice.ensures ∙ a.1.1.same) sum a.1.0 _ c.in_err-outside.ensures)

pub returns : goal.returns
returns c =
    let a = c.in_ok-vars.ensures in
    let b = c.in_ok-outside.ensures in
    let sum = c.sums_of-sums.ensures ∙ ap bits_load a.1.1.bits ∙ sym (behind_vars a.0) in (
      (a.0, b.0),
      (
        vars_then c.args.counters c.args.cursor.now c.read_vars.new.cursor c.read_outside.new.cursor a.0 _ (load_of c.sums_of-sums.result)
            (c.as_slice.ensures ∙ a.1.1.same) sum a.1.0 b.0 b.1.0,
        c.design_of.ensures b.0 b.1.1 ∙ ap (λ vs. made_design (tt, (c.args.counters, (vs, b.0)))) a.1.1.same,
      ),
    )
