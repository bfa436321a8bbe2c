use Rattle.std.proofs.Common.{refl}
use Rattle.std.specs.Prelude.{option_copied}
use Rattle.command_ending.proofs.NamesLemmas.{seen}
use Rattle.command_ending.specs.Stops.{wants_memory}
use Rattle.cover_gather.proofs.GatherLemmas.{all_gathered, gather_stops}
use Rattle.cover_gather.proofs.whole.gather.Goals as goal

pub returns-in-Err-clause-err : goal.returns-in-Err-clause-err
returns-in-Err-clause-err g c = wants_memory refl

pub returns-in-Ok-add_files-clause-ok : goal.returns-in-Ok-add_files-clause-ok
returns-in-Ok-add_files-clause-ok g c =
    rw (c.into_gathered.ensures.merged, c.into_gathered.ensures.covers)
    (all_gathered c.adding_gives_the_sums.ensures (option_copied c.args.filter) c.args.ranks (g.F.Files.held c.args.files.now) (seen c.args.names.now)
    c.add_files.new.tally (rw c.in-Ok.ensures at c.in-Ok-add_files.ensures.ok))

pub returns-in-Err-add_files-clause-err : goal.returns-in-Err-add_files-clause-err
returns-in-Err-add_files-clause-err g c =
    gather_stops c.adding_gives_the_sums.ensures (option_copied c.args.filter) c.args.ranks (g.F.Files.held c.args.files.now) (seen c.args.names.now) _ _
    c.in-Err-add_files.ending (rw c.in-Ok.ensures at c.in-Err-add_files.ensures.err)
