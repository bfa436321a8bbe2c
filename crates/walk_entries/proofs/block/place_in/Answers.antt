use Rattle.std.proofs.Common.{ap, is_some, refl}
use Rattle.walk_entries.proofs.block.place_in.Goals as goal

pub returns : goal.returns
returns c = λ here by at name genvar items is numbered its_path. record {
  number = numbered;
  path = its_path;
  its_module = is.its_module;
  home = is.home;
  given = c.none.ensures;
  earlier = λ q. ap is_some (c.new.ensures q);
  item = refl;
  construct = refl;
}
