use Rattle.std.proofs.Common.{refl}
use Rattle.flat_kept.proofs.Places.{environments}
use Rattle.flat_kept.proofs.names.PlaceNames.new.Goals as goal

pub returns : goal.returns
returns c = λ here place seen.
    environments c.args.scopes.now.scopes.items c.args.at (record { scopes = c.args.scopes; at = c.args.at }) refl refl here place seen
