use Rattle.std.proofs.Common.{◌≡◌, subst, sym, map, List, Option, ℕ}
use Rattle.std.specs.Prelude.{IfOk}
use Rattle.std.specs.List.{filter}
use Rattle.vlog_tree.specs.declared.module.Module.{Module}
use Rattle.scope_meaning.specs.BlockNames.{module_text}
use Rattle.scope_meaning.specs.Declared.{is_in}
use Rattle.scope_meaning.specs.Overrides.{parameters}
use Rattle.scope_meaning.specs.ScopeTrees.{modules, text_of, seen_constant}
use Rattle.scope_rows.proofs.Names.{its_parameters}
use Rattle.scope_rows.proofs.text.text_of.Goals as goal

pub returns : goal.returns
returns c = λ files are.
    let m = c.in-Some.of.now in
    let cs = map seen_constant c.args.constants.now in
    let there = sym (c.in-Some.ensures files are) in
    let theirs = its_parameters (modules files) c.args.number m c.as_slice.result.now c.in-Some-find.found are.table.single there c.as_slice.ensures
    (c.in-Some-find.ensures files are) in
    subst (λ (o : Option Module). IfOk c.module_text.result (λ text. text ≡ text_of o cs)) (sym there)
    (subst (λ (name : List ℕ). IfOk c.module_text.result (λ text. text ≡ module_text name (filter (λ d. is_in d.name (parameters m)) cs))) c.as_slice-2.ensures
    (c.module_text.ensures (parameters m) theirs))
