use Rattle.std.proofs.Common.{subst, Err}
use Rattle.scope_meaning.specs.Constants.{read}
use Rattle.elab_constants.specs.Reads.{Reads}
use Rattle.flat_passes.proofs.Constants.{not_there}
use Rattle.flat_passes.proofs.reads.no_term.Goals as goal

pub returns-in-NotConstant : goal.returns-in-NotConstant
returns-in-NotConstant c = λ env e h. not_there env e _ (subst (λ f. Reads (read env e) (Err f)) c.in-NotConstant.is h)

pub returns-in-BadSelect : goal.returns-in-BadSelect
returns-in-BadSelect c = λ env e h. not_there env e _ (subst (λ f. Reads (read env e) (Err f)) c.in-BadSelect.is h)

pub returns-in-WidthPast128 : goal.returns-in-WidthPast128
returns-in-WidthPast128 c = λ env e h. not_there env e _ (subst (λ f. Reads (read env e) (Err f)) c.in-WidthPast128.is h)
