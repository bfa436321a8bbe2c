use Rattle.std.proofs.Common.{◌≡◌, Some, ap, codes, subst, sym}
use Rattle.command_ending.specs.Answer.{bad_data}
use Rattle.command_ending.specs.Stops.{IsRefusal, without_memory}
use Rattle.cover_reports.specs.Sources.{short_answer}
use Rattle.cover_reports.proofs.AnnotatedLemmas.{short_told}
use Rattle.cover_reports.proofs.annotated.short_refusal.Goals.{in-ShortSource, in-BadKeyLine}
use Rattle.cover_reports.proofs.annotated.short_refusal.Goals as goal

pub returns : goal.returns
returns c = elim c.match-fault.branch [
  | in-ShortSource w ↦ subst (IsRefusal (λ a. short_answer c.args.name.now c.args.fault ≡ Some a)) (sym w.result-is)
      (short_told w.bad_data.result c.args.name.now c.args.fault (bad_data c.args.name.now w.in-ShortSource.lines (codes "ShortSource"))
      (ap (short_answer c.args.name.now) w.in-ShortSource.is) (rw w.into.ensures at w.bad_data.ensures))
  | in-BadKeyLine w ↦ subst (IsRefusal (λ a. short_answer c.args.name.now c.args.fault ≡ Some a)) (sym w.result-is) without_memory
]
