use Rattle.std.proofs.Common.{◌∙◌, ap}
use Rattle.flat_scopes.specs.Meanings.{meaning_by}
use Rattle.flat_scopes.proofs.Places.{means_at}
use Rattle.flat_scopes.proofs.scopes.SeenScopes.meaning.Goals as goal

pub returns-clause-value : goal.returns-clause-value
returns-clause-value c = c.meaning_at.ensures ∙ ap (λ scopes. meaning_by scopes c.args.at c.args.name.now) c.as_slice.ensures.value

pub returns-clause-frames : goal.returns-clause-frames
returns-clause-frames c = λ fs h.
    means_at c.args.self.now.scopes.items c.args.at c.args.name.now c.meaning_at.result
    (c.meaning_at.ensures ∙ ap (λ scopes. meaning_by scopes c.args.at c.args.name.now) c.as_slice.ensures.value) h
