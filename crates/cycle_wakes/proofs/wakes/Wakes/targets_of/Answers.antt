use Rattle.std.proofs.Common.{◌≡◌, ◌∙◌, sym, ap, subst, ◌<◌, [], length}
use Rattle.std.proofs.lemmas.List.{get_or_default}
use Rattle.cycle_wakes.specs.Wakes.{Wakes, targets_of}
use Rattle.cycle_wakes.proofs.wakes.Wakes.targets_of.Goals as goal

pub returns : goal.returns
returns c = c.as_slice.ensures ∙ c.index.ensures
    ∙ get_or_default c.self.inside.targets.items c.args.p c.index.result.now []
    (subst (λ (w : Wakes). c.args.p < length w.targets) (sym c.self.view_is) c.requires)
    ∙ ap (λ (w : Wakes). targets_of w c.args.p) c.self.view_is
