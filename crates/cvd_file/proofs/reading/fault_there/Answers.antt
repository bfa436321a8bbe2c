use Rattle.std.proofs.Common.{sym, subst}
use Rattle.design_meaning.specs.FlowFaults.{Fault, IsFaultOf}
use Rattle.cvd_text.specs.Fault.{IsFlaw, truncated}
use Rattle.cvd_text.specs.Pieces.{design_marks}
use Rattle.cvd_cursor.specs.declared.fault.ReadFault.TheVariants.{BadNumber, BadToken, BadShape, Truncated}
use Rattle.cvd_line_ends.specs.Ends.{Halts}
use Rattle.cvd_flaw_laws.proofs.FirstWrong.{halted}
use Rattle.cvd_file.proofs.reading.fault_there.Goals as goal

pub returns-in-BadNumber : goal.returns-in-BadNumber
returns-in-BadNumber c = λ text old new first same all size h at.
    halted Fault IsFaultOf text first old new c.args.place same all at BadNumber (subst (λ f. Halts design_marks old f new) c.in-BadNumber.is h)

pub returns-in-BadToken : goal.returns-in-BadToken
returns-in-BadToken c = λ text old new first same all size h at.
    halted Fault IsFaultOf text first old new c.args.place same all at BadToken (subst (λ f. Halts design_marks old f new) c.in-BadToken.is h)

pub returns-in-BadShape : goal.returns-in-BadShape
returns-in-BadShape c = λ text old new first same all size h at.
    halted Fault IsFaultOf text first old new c.args.place same all at BadShape (subst (λ f. Halts design_marks old f new) c.in-BadShape.is h)

pub returns-in-Truncated : goal.returns-in-Truncated
returns-in-Truncated c = λ text old new first same all size h at.
    subst (λ n. IsFlaw Fault IsFaultOf text (truncated n)) size
    (halted Fault IsFaultOf text first old new c.args.place same all at Truncated (subst (λ f. Halts design_marks old f new) c.in-Truncated.is h))
