use Rattle.point_key_laws.proofs.PointKeys.{key_is_key, key_tells_all}
use Rattle.point_key_laws.proofs.keys.Goals as goal

pub returns : goal.returns
returns c = record { is_key = key_is_key; tells = key_tells_all }
