-- What contracts see of a borrowed command.
use Rattle.std.specs.Prelude.{Option, option_map, option_copied}
use Rattle.cov_words.specs.Command.{Building, Simulating, Covering, Command, check, build, sim, cover, selftest}
use Rattle.cov_words.specs.declared.command.Build.{Build}
use Rattle.cov_words.specs.declared.command.Command.{Command as Borrowed}
use Rattle.cov_words.specs.declared.command.Command.TheVariants as borrowed
use Rattle.cov_words.specs.declared.command.Cover.{Cover}
use Rattle.cov_words.specs.declared.command.Sim.{Sim}

abbrev pub seen_build : Build → Building
seen_build b = record {
  top = b.top.now;
  out = b.out.now;
  clock = option_copied b.clock;
  all = b.all;
  line = b.line;
  toggle = b.toggle;
  user = b.user;
  underscore = b.underscore;
  max_width = b.max_width;
  files = b.files;
}

abbrev pub seen_sim : Sim → Simulating
seen_sim s = record {
  count_bits = s.count_bits;
  data_name = option_copied s.data_name;
  design = s.design.now;
  stimulus = s.stimulus.now;
}

abbrev pub seen_cover : Cover → Covering
seen_cover c = record {
  write = option_copied c.write;
  write_info = option_copied c.write_info;
  rank = c.rank;
  annotate = option_copied c.annotate;
  annotate_all = c.annotate_all;
  annotate_points = c.annotate_points;
  annotate_min = c.annotate_min;
  filter_type = option_copied c.filter_type;
  files = c.files;
}

-- a borrowed command as lists of bytes
abbrev pub seen : Borrowed → Command
seen (borrowed.Check files) = check files
seen (borrowed.Build b) = build (seen_build b)
seen (borrowed.Sim s) = sim (seen_sim s)
seen (borrowed.Cover c) = cover (seen_cover c)
seen (borrowed.SelfTest n) = selftest n

abbrev pub seen_command : Option Borrowed → Option Command
seen_command command = option_map seen command
