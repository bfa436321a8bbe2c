-- Words that tell kinds.
use Rattle.std.specs.Prelude.{List, [], ◌∷◌, codes}
use Rattle.cov_types.specs.declared.kind.ProcessKind.{ProcessKind}
use Rattle.cov_types.specs.declared.kind.ProcessKind.TheVariants as process
use Rattle.cov_types.specs.declared.kind.VarKind.{VarKind}
use Rattle.cov_types.specs.declared.kind.VarKind.TheVariants as kind
use Rattle.cvd_nodes.specs.Heads.{Entry, entry}

abbrev pub kind_table : List (Entry VarKind)
kind_table = entry (codes "i") kind.Input ∷ entry (codes "r") kind.Reg ∷ entry (codes "w") kind.Wire ∷ []

abbrev pub process_table : List (Entry ProcessKind)
process_table =
    entry (codes "assign") process.Assign ∷ entry (codes "comb") process.Comb ∷ entry (codes "clocked") process.Clocked
    ∷ entry (codes "initial") process.Initial ∷ entry (codes "cover") process.Cover ∷ []
