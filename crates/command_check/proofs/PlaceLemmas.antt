-- What the refusals of a design are, whatever it holds.
use Rattle.std.proofs.Common.{◌≡◌, ℕ, suc, ◌+◌, ◌≤◌, Bool, true, false, cond, List, [], ◌∷◌, ◌++◌, zero, length, refl, sym, ap, subst, Option, None, Some, Ok}
use Rattle.std.proofs.Common.{Err, arith, codes}
use Rattle.std.specs.Prelude.{slice_get, Contains}
use Rattle.std.proofs.lemmas.List.Elements.{Contains-append_right}
use Rattle.cov_types.specs.declared.limit.LimitName.{LimitName}
use Rattle.cov_types.specs.declared.limit.LimitName.TheVariants.{Identifier, Nesting, Operators, Branches}
use Rattle.vlog_tokens.specs.declared.token.Token.{Token}
use Rattle.vlog_tokens.specs.declared.token.TokenKind.{TokenKind}
use Rattle.vlog_lexer.specs.Limits.{limit_passed}
use Rattle.vlog_lexer.specs.Origins.{IsFromOne, AreFromOne, FaultFromOne, TokensFromOne}
use Rattle.vlog_lexer.specs.Reading.{IsReadingOf, latest, tokens_of}
use Rattle.vlog_lexer.specs.declared.fault.LexFault.{LexFault}
use Rattle.vlog_lexer.specs.declared.fault.LexFault.TheVariants as lex
use Rattle.command_ending.specs.Answer.{Answer}
use Rattle.command_check.specs.CheckAnswer.{RefusesDesign, tokens, grammar, RefusesOne, token_refusal}
use Rattle.command_check.specs.CheckPromise.{IsTokenLimit, identifier, nesting, operators, branches, DesignRefuses, at_place, past_limit, CheckRefuses, in_file}
use Rattle.command_check.specs.CheckPromise as code

limit_of : (a b c d : Bool) (name : LimitName) → cond a (Some Identifier) (cond b (Some Nesting) (cond c (Some Operators) (cond d (Some Branches) None)))
    ≡ Some name → IsTokenLimit name
limit_of true b c d name is = let same : Identifier ≡ name = cc in subst IsTokenLimit same identifier
limit_of false true c d name is = let same : Nesting ≡ name = cc in subst IsTokenLimit same nesting
limit_of false false true d name is = let same : Operators ≡ name = cc in subst IsTokenLimit same operators
limit_of false false false true name is = let same : Branches ≡ name = cc in subst IsTokenLimit same branches
limit_of false false false false name is = absurd (cc)

token_limit : (kinds : List TokenKind) (name : LimitName) → limit_passed kinds ≡ Some name → IsTokenLimit name
unfolding limit_passed
token_limit [] name is = absurd (cc)
token_limit (kind ∷ before) name is = limit_of _ _ _ _ name is

-- a fault of tokens refuses its file
fault_refuses : FaultFromOne → (number : ℕ) (name text : List ℕ) (fault : LexFault) → IsReadingOf number text (Err fault)
    → DesignRefuses name (token_refusal name fault).status (token_refusal name fault).line
fault_refuses from number name text (lex.BadByte place) is = at_place place (codes "BadByte") (from number text (lex.BadByte place) is) code.bad_byte
fault_refuses from number name text (lex.BadNumber place) is = at_place place (codes "BadNumber") (from number text (lex.BadNumber place) is) code.bad_number
fault_refuses from number name text (lex.NumberTooWide place) is = at_place place (codes "NumberTooWide") (from number text (lex.NumberTooWide place) is)
    code.number_too_wide
fault_refuses from number name text (lex.OpenComment place) is = at_place place (codes "OpenComment") (from number text (lex.OpenComment place) is)
    code.open_comment
fault_refuses from number name text (lex.OpenString place) is = at_place place (codes "OpenString") (from number text (lex.OpenString place) is)
    code.open_string
fault_refuses from number name text (lex.Directive place) is = at_place place (codes "Directive") (from number text (lex.Directive place) is) code.directive
fault_refuses from number name text (lex.ReservedName place) is = at_place place (codes "ReservedName") (from number text (lex.ReservedName place) is)
    code.reserved_name
fault_refuses from number name text (lex.Limit limit) is = past_limit limit (token_limit (latest (tokens_of number text 0 (is.pieces
    ++ is.piece ∷ []))) limit is.passed)
fault_refuses from number name text lex.NoMemory is = absurd is

get_from : (ts : List Token) (n : ℕ) (t : Token) → AreFromOne ts → slice_get ts n ≡ Some t → IsFromOne t.place
get_from [] n t all is = absurd (cc)
get_from (x ∷ ts) zero t all is = let same : x ≡ t = cc in subst (λ (y : Token). IsFromOne y.place) same all.0
get_from (x ∷ ts) (suc n) t all is = get_from ts n t all.1 is

-- a design that is refused is so at a place or for a limit
pub design_refuses : FaultFromOne → TokensFromOne → (number : ℕ) (name text : List ℕ) (a : Answer) → RefusesDesign number name text a
    → DesignRefuses name a.status a.line
design_refuses from_fault from_tokens number name text a (tokens fault is) = fault_refuses from_fault number name text fault is
design_refuses from_fault from_tokens number name text a (grammar found place is outside there) =
    at_place place (codes "Syntax") (subst IsFromOne (sym there.3)
    (get_from found.tokens there.0 there.1 (from_tokens number text found is) there.2)) code.syntax

named : (names before after : List (List ℕ)) (name : List ℕ) → names ≡ before ++ name ∷ after → Contains names name
named names before after name split = subst (λ (ns : List (List ℕ)). Contains ns name) (sym split)
    (Contains-append_right before (name ∷ after) name (0, omega arith, refl))

-- files of which one is refused
pub one_refuses : FaultFromOne → TokensFromOne → (names texts : List (List ℕ)) (a : Answer) → length names ≤ 4096 → RefusesOne names texts a
    → CheckRefuses names a.status a.line
one_refuses from_fault from_tokens names texts a few is =
    in_file is.name a.status a.line few (named names is.names_before is.names_after is.name is.names_split)
    (design_refuses from_fault from_tokens (length is.names_before) is.name is.text a is.refusal)
