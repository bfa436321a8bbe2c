use Rattle.std.proofs.Common.{◌≡◌, List, map}
use Rattle.vlog_tree.specs.declared.module.SourceFile.{SourceFile}
use Rattle.scope_meaning.specs.ScopeTrees.{modules}
use Rattle.elab_modules.specs.Modules.{AreModules}
use Rattle.scope_rows.specs.Rows.{texted}
use Rattle.scope_rows.proofs.text.with_texts.Given as goal

abbrev pub invariant-loop-scope : goal.invariant-loop-scope
invariant-loop-scope l = (files : List SourceFile) → AreModules files l.modules → l.scopes ≡ map (texted (modules files) l.constants) l.yielded
