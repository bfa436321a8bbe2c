use Rattle.std.proofs.Common.{◌≡◌, ◌≤◌, ◌*◌, List, take}
use Rattle.vlog_tree.specs.declared.module.SourceFile.{SourceFile}
use Rattle.command_check.specs.CheckAnswer.{AreDesigns, module_count}
use Rattle.command_check.proofs.design.count_modules.Given as goal

abbrev pub invariant-files : goal.invariant-files
invariant-files l = record {
  found : (files : List SourceFile) × AreDesigns 0 (take l.number l.texts) files × (l.count ≡ module_count files);
  small : l.count ≤ l.number * 18446744073709551615;
}
