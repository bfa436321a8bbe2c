use Rattle.std.proofs.Common.{◌≡◌, ◌∙◌, List, None, Some, ap, sym}
use Rattle.std.specs.Prelude.{find, slice_get}
use Rattle.std.specs.Option.{option_map_or}
use Rattle.std.specs.Str.{bytes_eq}
use Rattle.cov_types.specs.declared.var.Var.{Var}
use Rattle.design_tree.specs.declared.design.Input.{Input}
use Rattle.stim_lines.proofs.NameLemmas.{width-here}
use Rattle.stim_lines.proofs.names.width_of.Goals as goal

pub returns-in-Some : goal.returns-in-Some
returns-in-Some c =
    let d = c.args.design.now in
    let input = c.in-Some.input.now in
    let found : Some input ≡ find (λ (i : Input). bytes_eq i.name c.args.name.now) d.inputs = c.in-Some.ensures
    ∙ ap (λ (is : List Input). find (λ (i : Input). bytes_eq i.name c.args.name.now) is) c.as_slice.ensures in
    c.var_width.ensures
    ∙ ap (λ (vs : List Var). option_map_or (λ (v : Var). v.width) (slice_get vs input.var) 0) c.as_slice-in-Some.ensures
    ∙ sym (width-here d.vars d.inputs c.args.name.now (Some input) found)

pub returns-in-None : goal.returns-in-None
returns-in-None c =
    let d = c.args.design.now in
    let found : None ≡ find (λ (i : Input). bytes_eq i.name c.args.name.now) d.inputs = c.in-None.ensures
    ∙ ap (λ (is : List Input). find (λ (i : Input). bytes_eq i.name c.args.name.now) is) c.as_slice.ensures in
    sym (width-here d.vars d.inputs c.args.name.now None found)
