use Rattle.std.proofs.Common.{◌≡◌, ◌∙◌, sym, ap, subst, ◌<◌, [], length}
use Rattle.std.proofs.lemmas.List.{get_or_default}
use Rattle.cycle_wakes.specs.Wakes.{Wakes, readers_of}
use Rattle.cycle_wakes.proofs.wakes.Wakes.readers_of.Goals as goal

pub returns : goal.returns
returns c = c.as_slice.ensures ∙ c.index.ensures
    ∙ get_or_default c.self.inside.readers.items c.args.var c.index.result.now []
    (subst (λ (w : Wakes). c.args.var < length w.readers) (sym c.self.view_is) c.requires)
    ∙ ap (λ (w : Wakes). readers_of w c.args.var) c.self.view_is
