use Rattle.std.proofs.Common.{ap, ◌∙◌, ℕ, List, [], ◌∷◌, ◌++◌}
use Rattle.std.specs.Option.{option_copied}
use Rattle.flat_lines.proofs.Direct.{lines_of_arm}
use Rattle.flat_lines.proofs.lines.arm_lines.Goals as goal

pub returns : goal.returns
returns c = λ a at body.
    lines_of_arm a (option_copied c.args.body) c.args.first c.push.new.self.items c.put_body.new.lines.items c.in_ok-all.all at body
    (c.in_ok-push.ensures.items ∙ ap (λ (ns : List ℕ). ns ++ c.args.first ∷ []) c.new-lines.ensures.items) c.in_ok-put_body.ensures c.in_ok-all.ensures
