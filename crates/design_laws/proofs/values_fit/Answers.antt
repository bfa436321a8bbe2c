use Rattle.design_meaning.proofs.ValuesFit as law
use Rattle.design_laws.proofs.values_fit.Goals as goal

pub returns : goal.returns
returns c = law.values_fit
