use Rattle.std.proofs.Common.{◌∙◌, sym}
use Rattle.flat_sites.proofs.site.Site.names.Goals as goal

pub returns-clause-environment : goal.returns-clause-environment
returns-clause-environment c = λ env s.
    c.new.ensures.environment s.here s.place s.stands.frames s.stands.scope s.stands.numbers ∙ sym s.same
