-- What was found of a text.
use Rattle.std.proofs.Common.{◌≡◌, ℕ, ◌<◌, ◌≤◌, List, ◌++◌, length, refl, sym, ◌∙◌, ap, subst, arith}
use Rattle.design_tree.specs.declared.design.Design.{Design}
use Rattle.design_tree.specs.declared.instrumented.Instrumented.{Instrumented}
use Rattle.design_meaning.specs.FlowFaults.{Fault, IsFaultOf, two_drivers, mixed_driver, not_private, latch, read_before_write, comb_loop}
use Rattle.cvd_text.specs.Fault.{IsFlaw, trailing, goes_on, breaks_flow, line_start}
use Rattle.cvd_text.specs.Lines.{no_load}
use Rattle.cvd_text.specs.Pieces.{design_marks, pieces_of}
use Rattle.cvd_text.specs.Spelling.{AllStand, Cvd, design_lines, spelling}
use Rattle.spelling_laws.proofs.Fitting.{length-joined}
use Rattle.cvd_cursor.specs.Places.{Reading, IsLineStart}
use Rattle.cvd_cursor.specs.Reads.{Takes}
use Rattle.cvd_read.proofs.VarLines.{fit_stand}
use Rattle.cvd_valid_laws.proofs.Whole.{valid_where_stands}
use Rattle.cvd_flaw_laws.proofs.Whole.{whole, whole_place, whole_text, whole_more}
use Rattle.flow_check.specs.declared.fault.FlowFault.{FlowFault}
use Rattle.flow_check.specs.declared.fault.FlowFault.TheVariants as flow
use Rattle.flow_check.specs.Faults.{IsFlowFault}
use Rattle.cvd_file.specs.declared.fault.CvdFault.{CvdFault}
use Rattle.cvd_file.specs.declared.fault.CvdFault.TheVariants.{NoMemory, NotCvd, Version, BadToken, BadNumber, BadShape, Truncated, Trailing, Invalid, Limit}
use Rattle.cvd_file.specs.Faults.{BreaksFlow, IsBroken, IsDecodeFault, IsInvalid}

-- ---- a design's lines were read

module _ (x : Instrumented) (text : List ℕ) (old new : Reading) (h : Takes design_marks old new x) (same : old.text ≡ text) (all : old.rest ≡ pieces_of text)
    (place : ℕ) (at : IsLineStart new place) where
  stand : AllStand x
  stand = fit_stand no_load (design_lines x) h.read.given h.read.fit

  split : pieces_of text ≡ h.read.given ++ new.rest
  split = sym all ∙ h.read.split

  -- behind them the text goes on where the place is
  pub end_is : place ≡ length (spelling x)
  end_is =
      at h.read.given (ap pieces_of (h.same ∙ same) ∙ split) ∙ ap (λ t. line_start t h.read.given) (h.same ∙ same)
      ∙ whole_place x (valid_where_stands x stand) text h.read.given new.rest h.read.fit split

  pub ends_there : length text ≤ place → Cvd x text
  ends_there most =
      let valid = valid_where_stands x stand in
      let t = whole x valid text h.read.given new.rest h.read.fit split in
      let l = ap length t.split ∙ length-joined (spelling x) t.tail in
      let e = end_is in
      record { valid = valid; spelled = whole_text x valid text h.read.given new.rest h.read.fit split (omega arith) }

  pub trails : place < length text → IsFlaw Fault IsFaultOf text (trailing place)
  trails less =
      let more = whole_more x (valid_where_stands x stand) text h.read.given new.rest h.read.fit split (subst (λ n. n < length text) end_is less) in
      subst (λ n. IsFlaw Fault IsFaultOf text (trailing n)) (sym end_is) (goes_on x more.0 more.1.0 stand more.1.1)

-- ---- its flow

pub broken : (d : Design) (f : FlowFault) → (f ≡ flow.NoMemory → ⊥) → IsFlowFault d f → IsBroken d f
broken d (flow.TwoDrivers p v) other h = h
broken d (flow.MixedDriver p v) other h = h
broken d (flow.NotPrivate p v) other h = h
broken d (flow.Latch p v) other h = h
broken d (flow.ReadBeforeWrite p v) other h = h
broken d (flow.CombLoop cycle) other h = h
broken d flow.NoMemory other h = absurd (other refl)

is_invalid : (x : Instrumented) (text : List ℕ) (f : FlowFault) → Cvd x text → IsBroken x.design f → IsInvalid text f
is_invalid x text (flow.TwoDrivers p v) c h = breaks_flow x (two_drivers p v) c h
is_invalid x text (flow.MixedDriver p v) c h = breaks_flow x (mixed_driver p v) c h
is_invalid x text (flow.NotPrivate p v) c h = breaks_flow x (not_private p v) c h
is_invalid x text (flow.Latch p v) c h = breaks_flow x (latch p v) c h
is_invalid x text (flow.ReadBeforeWrite p v) c h = breaks_flow x (read_before_write p v) c h
is_invalid x text (flow.CombLoop cycle) c h = breaks_flow x (comb_loop cycle) c h
is_invalid x text flow.NoMemory c h = h

-- the flow fault of a text's design is the text's
pub decode_fault : (x : Instrumented) (text : List ℕ) (f : CvdFault) → Cvd x text → BreaksFlow x.design f → IsDecodeFault text f
decode_fault x text NoMemory c h = tt
decode_fault x text (NotCvd n) c h = absurd h
decode_fault x text (Version n) c h = absurd h
decode_fault x text (BadToken n) c h = absurd h
decode_fault x text (BadNumber n) c h = absurd h
decode_fault x text (BadShape n) c h = absurd h
decode_fault x text (Truncated n) c h = absurd h
decode_fault x text (Trailing n) c h = absurd h
decode_fault x text (Invalid fault) c h = is_invalid x text fault c h
decode_fault x text (Limit name) c h = absurd h
