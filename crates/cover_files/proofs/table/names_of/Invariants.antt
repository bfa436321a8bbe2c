use Rattle.std.proofs.Common.{◌≡◌, take}
use Rattle.command_ending.proofs.NamesLemmas.{seen}
use Rattle.cover_files.proofs.table.names_of.Given as goal

abbrev pub invariant-names : goal.invariant-names
invariant-names l = l.rows ≡ seen (take l.name-index l.names)
