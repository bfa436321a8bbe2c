use Rattle.bit_values.proofs.ResultLaws.{and_fits, or_fits, xor_fits, not_fits, shl_fits, shr_fits, sar_fits, select_fits, truncate_fits}
use Rattle.bit_values.proofs.laws.bitwise_fits.Goals as goal

pub returns-clause-and : goal.returns-clause-and
returns-clause-and c = and_fits

pub returns-clause-or : goal.returns-clause-or
returns-clause-or c = or_fits

pub returns-clause-xor : goal.returns-clause-xor
returns-clause-xor c = xor_fits

pub returns-clause-not : goal.returns-clause-not
returns-clause-not c = not_fits

pub returns-clause-shl : goal.returns-clause-shl
returns-clause-shl c = shl_fits

pub returns-clause-shr : goal.returns-clause-shr
returns-clause-shr c = shr_fits

pub returns-clause-sar : goal.returns-clause-sar
returns-clause-sar c = sar_fits

pub returns-clause-select : goal.returns-clause-select
returns-clause-select c = select_fits

pub returns-clause-truncate : goal.returns-clause-truncate
returns-clause-truncate c = truncate_fits
