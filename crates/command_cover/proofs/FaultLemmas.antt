-- Faults of a data file: a line from 1 on, or the limit on bytes.
use Rattle.std.proofs.Common.{◌≡◌, ℕ, List, refl, sym, ap, subst, ◌∙◌, codes}
use Rattle.cov_types.specs.declared.limit.LimitName.{LimitName}
use Rattle.cov_types.specs.declared.limit.LimitName.TheVariants.{DataBytes}
use Rattle.cov_dat.specs.Streaming.{IsFileFault}
use Rattle.cov_dat.specs.declared.fault.DataFault.{DataFault}
use Rattle.cov_dat.specs.declared.fault.DataFault.TheVariants as fault
use Rattle.command_ending.specs.Stops.{IsRefusal}
use Rattle.command_ending.specs.declared.ending.Ending.{Ending}
use Rattle.command_ending.proofs.StopLemmas.{refusal_weaker}
use Rattle.command_cover.specs.CoverReading.{refusal_of}
use Rattle.command_cover.specs.MergePromise.{FileRefuses, bad_line, past_limit, bad_header, bad_record, bad_count, line_too_long, data_bytes}

-- a fault of a file refuses it
pub fault_refuses : (name : List ℕ) (f : DataFault) → (f ≡ fault.Failed → ⊥) → IsFileFault f
    → FileRefuses name (refusal_of name f).status (refusal_of name f).line
fault_refuses name (fault.BadHeader n) other is = bad_line n (codes "BadHeader") is bad_header
fault_refuses name (fault.BadRecord n) other is = bad_line n (codes "BadRecord") is bad_record
fault_refuses name (fault.BadCount n) other is = bad_line n (codes "BadCount") is bad_count
fault_refuses name (fault.LineTooLong n) other is = bad_line n (codes "LineTooLong") is line_too_long
fault_refuses name fault.Failed other is = absurd (other refl)
fault_refuses name (fault.Limit limit) other is = subst
    (λ (l : LimitName). FileRefuses name (refusal_of name (fault.Limit l)).status (refusal_of name (fault.Limit l)).line) (sym is)
    (past_limit DataBytes data_bytes)

-- a refusal with the answer of a fault is one with that of the same fault
pub refusal_fault : (name : List ℕ) (f found : DataFault) (e : Ending) → f ≡ found
    → IsRefusal (λ answer. answer ≡ refusal_of name found) e → IsRefusal (λ answer. answer ≡ refusal_of name f) e
refusal_fault name f found e same is = refusal_weaker _ _ e (λ a h. h ∙ ap (refusal_of name) (sym same)) is
