use Rattle.std.proofs.Common.{subst, sym}
use Rattle.std.specs.Option.{option_copied}
use Rattle.flat_lines.specs.Lines.{Gains, HasLineOf}
use Rattle.flat_lines.proofs.Direct.{no_body_gains}
use Rattle.flat_lines.proofs.lines.put_body.Goals as goal

pub returns-in_ok-put_lines-in-Some : goal.returns-in_ok-put_lines-in-Some
returns-in_ok-put_lines-in-Some c =
    subst (λ o. Gains c.args.lines.now.items c.put_lines.new.lines.items (HasLineOf (option_copied o))) (sym c.in-Some.is) c.in_ok-put_lines-in-Some.ensures

pub returns-in-None : goal.returns-in-None
returns-in-None c =
    subst (λ o. Gains c.args.lines.now.items c.args.lines.now.items (HasLineOf (option_copied o))) (sym c.in-None.is) (no_body_gains c.args.lines.now.items)
