-- Kinds are told by their words.
use Rattle.std.proofs.Common.{◌≡◌, Some, refl, [], ◌∷◌}
use Rattle.cov_types.specs.declared.kind.ProcessKind.{ProcessKind}
use Rattle.cov_types.specs.declared.kind.ProcessKind.TheVariants as process
use Rattle.cov_types.specs.declared.kind.VarKind.{VarKind}
use Rattle.cov_types.specs.declared.kind.VarKind.TheVariants as kind
use Rattle.spelling_laws.specs.Spelled.{Apart}
use Rattle.cvd_text.specs.Tokens.{word}
use Rattle.cvd_text.specs.Pieces.{fits}
use Rattle.cvd_text.specs.Sections.{kind_word, process_word}
use Rattle.cvd_cursor.specs.Reads.{marks}
use Rattle.cvd_nodes.specs.Heads.{look_up}
use Rattle.cvd_sections.specs.KindTables.{kind_table, process_table}
use Rattle.cvd_sections.proofs.Words.{apart_words}

pub kind_again : (k : VarKind) → look_up kind_table (kind_word k) ≡ Some k
kind_again kind.Input = refl
kind_again kind.Reg = refl
kind_again kind.Wire = refl

pub process_again : (k : ProcessKind) → look_up process_table (process_word k) ≡ Some k
process_again process.Assign = refl
process_again process.Comb = refl
process_again process.Clocked = refl
process_again process.Initial = refl
process_again process.Cover = refl

pub apart_kind : Apart fits (marks (λ k. word (kind_word k) ∷ []))
apart_kind = apart_words kind_word kind_table kind_again

pub apart_process : Apart fits (marks (λ k. word (process_word k) ∷ []))
apart_process = apart_words process_word process_table process_again
