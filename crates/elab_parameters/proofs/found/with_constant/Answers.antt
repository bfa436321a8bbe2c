use Rattle.std.proofs.Common.{refl, ap, ℕ, List}
use Rattle.elab_ranges.specs.Parameters.{named}
use Rattle.elab_parameters.proofs.Founds.{row-more}
use Rattle.elab_parameters.proofs.found.with_constant.Goals as goal

pub returns : goal.returns
returns c = (
  refl,
  row-more c.args.found.constants c.push.new.self _ c.args.name.now c.args.value c.in_ok-push.ensures.ok
      (ap (λ (n : List ℕ). named n c.args.value) c.in_ok-name.ensures),
  c.in_ok-make_known.ensures (named c.args.name.now c.args.value) refl (record { width = refl; signed = refl; bits = refl }),
)
