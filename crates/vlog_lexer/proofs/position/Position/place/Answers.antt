use Rattle.vlog_lexer.proofs.PlaceLemmas.{place_is}
use Rattle.vlog_lexer.proofs.position.Position.place.Goals as goal

pub returns : goal.returns
returns c = λ before at. place_is c.args.file c.args.self.line c.args.self.column before at
