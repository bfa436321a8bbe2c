use Rattle.std.proofs.Common.{◌≡◌, [], Some, None, Err, ap, refl, sym, ◌∙◌, arith}
use Rattle.std.proofs.lemmas.Grind.{common_steps}
use Rattle.vlog_reading.specs.ReadModules.{modules, modules_from, only_modules}
use Rattle.vlog_parser.specs.declared.fault.SyntaxFault.TheVariants.{Syntax}
use Rattle.vlog_parser.proofs.source_text.parse.Goals as goal

-- No tokens are no modules.
no_tokens : only_modules [] ≡ Some []
unfolding only_modules modules modules_from
no_tokens = refl

pub all_modules-requires : goal.all_modules-requires
unfolding only_modules
all_modules-requires c none empty =
    let some : only_modules c.as_slice.result.now ≡ Some [] = ap only_modules empty ∙ no_tokens in
    cc

pub returns-in_err-modules-clause-outside : goal.returns-in_err-modules-clause-outside
unfolding only_modules
returns-in_err-modules-clause-outside c p h file tree =
    let told : c.all_modules.result ≡ Err (Syntax p) = grind (arith, common_steps) in
    let none : only_modules c.as_slice.result.now ≡ None = c.all_modules.ensures.outside p told in
    let some : only_modules c.args.tokens.now.tokens ≡ Some file.modules = c.files_are_exact.ensures.complete _ _ tree.0 in
    let same : c.as_slice.result.now ≡ c.args.tokens.now.tokens = c.as_slice.ensures in
    cc

pub returns-clause-tree : goal.returns-clause-tree
unfolding only_modules
returns-clause-tree c =
    let some : only_modules c.as_slice.result.now ≡ Some c.in_ok-modules.modules = c.in_ok-modules.ensures.tree in
    (c.files_are_exact.ensures.sound _ _ (ap only_modules (sym c.as_slice.ensures) ∙ some), c.in_ok-pragmas.ensures ∙ c.as_slice-2.ensures)
