use Rattle.std.proofs.Common.{◌≡◌, Bool, true, false, cond, Option, Some, refl, ◌∙◌, ap}
use Rattle.std.specs.Prelude.{◌||◌, is_some}
use Rattle.std.specs.Str.{bytes_eq}
use Rattle.std.proofs.lemmas.Map.Text.{btree_map_updates_str}
use Rattle.cvd_inputs.proofs.name.add_name.Goals as goal

chosen : (b : Bool) (o : Option (Unit {0})) → is_some (cond b (Some tt) o) ≡ (b || is_some o)
chosen true o = refl
chosen false o = refl

pub returns : goal.returns
returns c = λ other.
    ap is_some (btree_map_updates_str c.args.name.now c.args.names.now c.insert.new.self (Some tt) c.in_ok-insert.ensures.updates other)
    ∙ chosen (bytes_eq c.args.name.now other) _
