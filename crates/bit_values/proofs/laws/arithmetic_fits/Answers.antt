use Rattle.bit_values.proofs.ResultLaws.{add_fits, sub_fits, mul_fits, neg_fits, udiv_fits, urem_fits, sdiv_fits, srem_fits}
use Rattle.bit_values.proofs.laws.arithmetic_fits.Goals as goal

pub returns-clause-add : goal.returns-clause-add
returns-clause-add c = add_fits

pub returns-clause-sub : goal.returns-clause-sub
returns-clause-sub c = sub_fits

pub returns-clause-mul : goal.returns-clause-mul
returns-clause-mul c = mul_fits

pub returns-clause-neg : goal.returns-clause-neg
returns-clause-neg c = neg_fits

pub returns-clause-udiv : goal.returns-clause-udiv
returns-clause-udiv c = udiv_fits

pub returns-clause-urem : goal.returns-clause-urem
returns-clause-urem c = urem_fits

pub returns-clause-sdiv : goal.returns-clause-sdiv
returns-clause-sdiv c = sdiv_fits

pub returns-clause-srem : goal.returns-clause-srem
returns-clause-srem c = srem_fits
