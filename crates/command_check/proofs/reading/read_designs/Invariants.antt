use Rattle.std.proofs.Common.{◌≡◌, ◌+◌, length, map, take}
use Rattle.std.specs.Prelude.{sum}
use Rattle.command_check.proofs.DesignLemmas.{Holds}
use Rattle.command_ending.proofs.NamesLemmas.{seen}
use Rattle.command_check.proofs.reading.read_designs.Given as goal

abbrev pub invariant-names : goal.invariant-names
invariant-names g l = record {
  hold : Holds (g.F.Files.held l.initial.files) (seen (take l.name-index l.names)) l.texts;
  each : length l.texts ≡ l.name-index;
  left : l.left + sum (map length l.texts) ≡ 4194304;
  held : g.F.Files.held l.files ≡ g.F.Files.held l.initial.files;
  faults : g.F.Files.faults l.files ≡ g.F.Files.faults l.initial.files;
}
