use Rattle.std.proofs.Common.{◌≡◌, drop}
use Rattle.std.specs.Prelude.{IfSome}
use Rattle.command_ending.proofs.NamesLemmas.{seen}
use Rattle.command_cover.specs.CoverReading.{all_arrivals}
use Rattle.command_cover.specs.Merge.{keeps_all}
use Rattle.command_cover.specs.Steps.{continued}
use Rattle.command_cover.proofs.reading.add_files.Given as goal

abbrev pub invariant-names : goal.invariant-names
invariant-names g l = record {
  outcome : IfSome (g.F.Files.held l.initial.files) (λ held. continued l.merged (all_arrivals held keeps_all (seen (drop l.name-index l.names)))
      ≡ continued l.initial.merged (all_arrivals held keeps_all (seen l.names)));
  held : g.F.Files.held l.files ≡ g.F.Files.held l.initial.files;
  faults : g.F.Files.faults l.files ≡ g.F.Files.faults l.initial.files;
}
