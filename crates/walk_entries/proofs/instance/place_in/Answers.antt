use Rattle.std.proofs.Common.{ap, is_some, refl}
use Rattle.walk_entries.proofs.instance.place_in.Goals as goal

pub returns : goal.returns
returns c = λ above values m are. record {
  number = refl;
  path = refl;
  its_module = refl;
  home = refl;
  given = are;
  earlier = λ q. ap is_some (c.new.ensures q);
  item = refl;
  construct = refl;
}
