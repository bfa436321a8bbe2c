use Rattle.std.proofs.Common.{◌≡◌, drop}
use Rattle.std.specs.Prelude.{IfSome, option_copied}
use Rattle.command_ending.proofs.NamesLemmas.{seen}
use Rattle.command_cover.specs.CoverReading.{all_arrivals}
use Rattle.cover_gather.specs.Steps.{continued}
use Rattle.cover_answer.specs.Gathering.{keeps}
use Rattle.cover_gather.proofs.reading.add_files.Given as goal

abbrev pub invariant-names : goal.invariant-names
invariant-names g l = record {
  outcome : IfSome (g.F.Files.held l.initial.files) (λ held. continued l.ranks l.tally (all_arrivals held (keeps (option_copied l.filter))
      (seen (drop l.name-index l.names)))
      ≡ continued l.ranks l.initial.tally (all_arrivals held (keeps (option_copied l.filter)) (seen l.names)));
  held : g.F.Files.held l.files ≡ g.F.Files.held l.initial.files;
  faults : g.F.Files.faults l.files ≡ g.F.Files.faults l.initial.files;
}
