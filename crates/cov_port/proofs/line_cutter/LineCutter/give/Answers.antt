use Rattle.std.proofs.Common.{◌≡◌, ◌<◌, length, ap, sym, subst}
use Rattle.std.specs.Prelude.{slice_range}
use Rattle.cov_port.specs.Cutting.{Cutter}
use Rattle.cov_port.proofs.CutLemmas.{given_range}
use Rattle.cov_port.proofs.line_cutter.LineCutter.give.Goals as goal

pub returns : goal.returns
returns c =
    let now : slice_range c.self.inside.buffer.items c.self.inside.start c.self.inside.end
    ≡ c.args.self.now.ahead = ap (λ (cutter : Cutter). cutter.ahead) c.self.view_is in
    let cut = given_range c.self.inside.buffer.items c.self.inside.start c.self.inside.end c.args.at (rw now c.requires) in
    rw (← c.self.view_is) (cc)
