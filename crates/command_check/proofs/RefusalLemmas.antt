-- Designs that are refused.
use Rattle.std.proofs.Common.{◌≡◌, ◌⊎◌, ℕ, List, refl, sym, ◌∙◌, ap, subst, true, false, Ok, Err, inl, inr, codes}
use Rattle.cov_types.specs.declared.place.Place.{Place}
use Rattle.vlog_tokens.specs.declared.token_list.TokenList.{TokenList}
use Rattle.vlog_lexer.specs.Reading.{Answers, IsReadingOf}
use Rattle.vlog_lexer.specs.declared.fault.LexFault.{LexFault}
use Rattle.vlog_lexer.specs.declared.fault.LexFault.TheVariants as lex
use Rattle.vlog_tree.specs.declared.module.SourceFile.{SourceFile}
use Rattle.vlog_grammar.specs.Modules.{SpellsFile}
use Rattle.vlog_grammar.specs.Tokens.{IsPlaceOf}
use Rattle.command_ending.specs.Answer.{Answer, bad_design}
use Rattle.command_ending.specs.Stops.{is_refusal, IsRefusal, without_memory, refused}
use Rattle.command_ending.specs.declared.ending.Ending.{Ending}
use Rattle.command_ending.proofs.StopLemmas.{refusal_weaker}
use Rattle.command_check.specs.CheckAnswer.{RefusesDesign, tokens, grammar, token_refusal}

-- a refusal with the answer of a fault is one with that of the same fault
pub refusal_fault : (name : List ℕ) (fault found : LexFault) (e : Ending) → fault ≡ found
    → IsRefusal (λ answer. answer ≡ token_refusal name found) e → IsRefusal (λ answer. answer ≡ token_refusal name fault) e
refusal_fault name fault found e same is = refusal_weaker _ _ e (λ a h. h ∙ ap (token_refusal name) (sym same)) is

-- the reading of a text whose fault isn't want of memory
reading_of : (number : ℕ) (text : List ℕ) (fault : LexFault) → Answers number text (Err fault) → (fault ≡ lex.NoMemory) ⊎ IsReadingOf number text (Err fault)
reading_of number text (lex.BadByte place) is = inr is
reading_of number text (lex.BadNumber place) is = inr is
reading_of number text (lex.NumberTooWide place) is = inr is
reading_of number text (lex.OpenComment place) is = inr is
reading_of number text (lex.OpenString place) is = inr is
reading_of number text (lex.Directive place) is = inr is
reading_of number text (lex.ReservedName place) is = inr is
reading_of number text (lex.Limit limit) is = inr is
reading_of number text lex.NoMemory is = inl refl

-- want of memory in reading tokens is want of memory
wanting : (P : Answer → Type 0) (name : List ℕ) (e : Ending) → IsRefusal (λ answer. answer ≡ token_refusal name lex.NoMemory) e → IsRefusal P e
wanting P name e without_memory = without_memory
wanting P name e (refused status line refusal is) = let no : is_refusal status ≡ false = ap (λ (a : Answer). is_refusal a.status) is in absurd (cc)

-- a refusal for a fault of tokens is one of the design
pub refusal_tokens : (number : ℕ) (name text : List ℕ) (fault : LexFault) (e : Ending) → Answers number text (Err fault)
    → IsRefusal (λ answer. answer ≡ token_refusal name fault) e → IsRefusal (RefusesDesign number name text) e
refusal_tokens number name text fault e read is = elim (reading_of number text fault read) [
  | inl none ↦ wanting (RefusesDesign number name text) name e (subst (λ (f : LexFault). IsRefusal (λ answer. answer ≡ token_refusal name f) e) none is)
  | inr reading ↦ refusal_weaker _ _ e (λ a same. subst (RefusesDesign number name text) (sym same) (tokens fault reading)) is
]

-- a refusal of tokens that have no tree is one of the design
pub refusal_grammar : (number : ℕ) (name text : List ℕ) (found : TokenList) (place : Place) (e : Ending) → IsReadingOf number text (Ok found)
    → ((file : SourceFile) → SpellsFile found file → ⊥) → IsPlaceOf found.tokens place
    → IsRefusal (λ answer. answer ≡ bad_design name place (codes "Syntax")) e → IsRefusal (RefusesDesign number name text) e
refusal_grammar number name text found place e reading outside there is =
    refusal_weaker _ _ e (λ a same. subst (RefusesDesign number name text) (sym same) (grammar found place reading outside there)) is
