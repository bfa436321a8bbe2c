use Rattle.std.proofs.Common.{w32}
use Rattle.std.proofs.lemmas.Bool.{lt-ltb, le-ltb}
use Rattle.std.proofs.lemmas.Int.{to_z-of_z}
use Rattle.walk_entries.proofs.Entering.{no_room_for_pass}
use Rattle.walk_loops.proofs.Passes.{at_value}
use Rattle.walk_loops.proofs.turns.into_pass.Goals as goal

pub returns-then-walk-lt-MOST_SCOPES : goal.returns-then-walk-lt-MOST_SCOPES
returns-then-walk-lt-MOST_SCOPES c = λ design top done here place a l under m is_loop calm holds.
    at_value design top done here place a l under c.args.walk.now (to_z-of_z w32 c.args.value c.ranges.value)
    (λ n unrefused true_then. c.in_ok-enter_pass.ensures design top done here place a l under n is_loop unrefused true_then
    (lt-ltb c.args.walk.now.next 65536 c.if-walk-lt-MOST_SCOPES.true))
    m calm holds

pub returns : goal.returns
returns c = λ design top done here place a l under m is_loop calm holds.
    no_room_for_pass m calm holds (le-ltb c.args.walk.now.next 65536 c.if-walk-lt-MOST_SCOPES.false)
