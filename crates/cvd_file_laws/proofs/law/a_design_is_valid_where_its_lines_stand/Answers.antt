use Rattle.cvd_file_laws.proofs.Texts.{where_valid}
use Rattle.cvd_file_laws.proofs.law.a_design_is_valid_where_its_lines_stand.Goals as goal

pub returns : goal.returns
returns c = where_valid
