use Rattle.bit_values.proofs.PartLaws.{replace_fits}
use Rattle.bit_values.proofs.SizeLaws.{modulo_fits, extend_fits, concat_fit}
use Rattle.bit_values.proofs.laws.results_fit.Goals as goal

pub returns-clause-modulo : goal.returns-clause-modulo
returns-clause-modulo c = modulo_fits

pub returns-clause-extend : goal.returns-clause-extend
returns-clause-extend c = extend_fits

pub returns-clause-concat : goal.returns-clause-concat
returns-clause-concat c = concat_fit

pub returns-clause-replace : goal.returns-clause-replace
returns-clause-replace c = replace_fits
