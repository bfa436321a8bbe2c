use Rattle.std.proofs.lemmas.Bool.{lt-ltb, le-ltb}
use Rattle.walk_choices.proofs.Arms.{no_room}
use Rattle.walk_choices.proofs.choice.into_arm.Goals as goal

pub returns-then-walk-lt-MOST_SCOPES : goal.returns-then-walk-lt-MOST_SCOPES
returns-then-walk-lt-MOST_SCOPES c = λ design top done here at a rest under arms last b number before taken l chosen.
    c.in_ok-enter_arm.ensures design top done here at a rest under arms last b number before taken l chosen
    (lt-ltb c.args.walk.now.next 65536 c.if-walk-lt-MOST_SCOPES.true)

pub returns : goal.returns
returns c = λ design top done here at a rest under arms last b number before taken l chosen.
    no_room c.args.chosen.body.now c.args.chosen.first b taken l chosen (le-ltb c.args.walk.now.next 65536 c.if-walk-lt-MOST_SCOPES.false)
