use Rattle.std.proofs.Common.{subst}
use Rattle.scope_meaning.specs.Heads.{choice_from}
use Rattle.elab_faults.specs.Judged.{Judges}
use Rattle.elab_heads.specs.Choices.{Chooses, IsChoice}
use Rattle.elab_places.proofs.Rules.{stored}
use Rattle.elab_places.proofs.loops.chosen_at.Goals as goal

pub returns-in-Ok : goal.returns-in-Ok
returns-in-Ok c = λ known refused h.
    let arms = c.args.arms.now in
    let j = subst (Judges (Chooses known arms) refused) c.in-Ok.is h in
    stored (IsChoice (choice_from known c.args.first arms c.args.last.now)) refused c.of_chosen.result j.0 (c.of_chosen.ensures known j.1)

pub returns-in-Err : goal.returns-in-Err
returns-in-Err c = λ known refused h. subst (Judges (Chooses known c.args.arms.now) refused) c.in-Err.is h
