-- Counts of tokens as the code keeps them, from one token to the next. Private to the proofs.
use Rattle.std.specs.Prelude.{◌≡◌, ℕ, ◌+◌, nat_lt, List, if◌then◌else◌}
use Rattle.vlog_lexer.specs.Limits.{braces, branches, nesting, operators}
use Rattle.vlog_lexer.specs.declared.limits.Counts.{Counts}
use Rattle.vlog_lexer.specs.declared.limits.Role.{Role}
use Rattle.vlog_lexer.specs.declared.limits.Role.TheVariants as r
use Rattle.vlog_tokens.specs.declared.token.TokenKind.{TokenKind}

-- the counts are those of these tokens, the latest first
pub record AreCounts (before : List TokenKind) (counts : Counts) : Type 0 where
  pub nesting_is : counts.nesting ≡ nesting before
  pub braces_is : counts.braces ≡ braces before
  pub operators_is : counts.operators ≡ operators before
  pub branches_is : counts.branches ≡ branches before

-- the operators with one token more, behind so many open braces
abbrev pub operated : Role → ℕ → ℕ → ℕ
operated r.Operates open_braces before = before + 1
operated r.Separates open_braces before = if nat_lt 0 open_braces then before + 1 else before
operated r.Ends open_braces before = 0
operated _ open_braces before = before

-- the branches with one token more
abbrev pub branched : Role → ℕ → ℕ
branched r.Branches before = before + 1
branched r.Process before = 0
branched _ before = before
