-- Faults of a text.
use Rattle.cov_types.specs.declared.place.Place.{Place}
use Rattle.vlog_lexer.specs.declared.fault.LexFault.{LexFault}
use Rattle.vlog_lexer.specs.declared.fault.LexFault.TheVariants as fault
use Rattle.vlog_lexer.specs.declared.piece.Flaw.{Flaw}
use Rattle.vlog_lexer.specs.declared.piece.Flaw.TheVariants as flaw

-- the fault that a flaw is at a place
abbrev pub fault_at : Flaw → Place → LexFault
fault_at flaw.BadByte place = fault.BadByte place
fault_at flaw.BadNumber place = fault.BadNumber place
fault_at flaw.NumberTooWide place = fault.NumberTooWide place
fault_at flaw.OpenComment place = fault.OpenComment place
fault_at flaw.OpenString place = fault.OpenString place
fault_at flaw.Directive place = fault.Directive place
fault_at flaw.ReservedName place = fault.ReservedName place
