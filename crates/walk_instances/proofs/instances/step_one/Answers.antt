use Rattle.std.proofs.lemmas.Bool.{lt-ltb, le-ltb}
use Rattle.walk_entries.proofs.Opening.{no_room_for_instance}
use Rattle.walk_instances.proofs.instances.step_one.Goals as goal

pub returns-then-walk-lt-MOST_SCOPES : goal.returns-then-walk-lt-MOST_SCOPES
returns-then-walk-lt-MOST_SCOPES c = λ files top done here table m.
    c.in_ok-enter_one.ensures files top done here table m (lt-ltb c.args.walk.now.next 65536 c.if-walk-lt-MOST_SCOPES.true)

pub returns : goal.returns
returns c = λ files top done here table m. no_room_for_instance m.midway (le-ltb c.args.walk.now.next 65536 c.if-walk-lt-MOST_SCOPES.false)
