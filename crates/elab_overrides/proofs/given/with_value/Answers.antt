use Rattle.elab_overrides.proofs.GivenValues.{stores}
use Rattle.elab_overrides.proofs.given.with_value.Goals as goal

pub returns-in-Ok-value : goal.returns-in-Ok-value
returns-in-Ok-value c = λ before w r h k.
    stores before c.args.name.now w r c.args.so_far c.args.value c.in-Ok.given c.in-Ok-value.value c.stored.result c.in-Ok.is c.in-Ok-value.is h k
    c.stored.ensures
