-- How much of a file is taken that is refused at a line: of a data file by a `cover`, of a stimulus by a `sim`.
use Rattle.std.specs.Prelude.{ℕ, List, Option, None, Some}
use Rattle.cov_port.specs.Files.{Names}
use Rattle.command_ending.specs.declared.status.Status.{Status}
use Rattle.cover_files.specs.Sparing.{CoverSpares}
use Rattle.sim_frame.specs.Sparing.{SimSpares}
use Rattle.cov_program.specs.Words.{Task, checking, covering, simulating}

-- Of a data file that a `cover` refuses at a line, and of a stimulus that a `sim` refuses at one, no more was taken than the lines before
-- that line have, and 65,536 bytes. A check reads no file by lines.
abbrev pub TaskSpares : Option Task → Status → Option (List ℕ) → Names → Type 0
TaskSpares None ended rest held = Unit {0}
TaskSpares (Some (checking names)) ended rest held = Unit {0}
TaskSpares (Some (simulating asked)) ended rest held = SimSpares asked ended rest held
TaskSpares (Some (covering asked)) ended rest held = CoverSpares asked ended rest held
