use Rattle.std.proofs.Common.{sym, ◌∙◌}
use Rattle.cov_port.proofs.KeyLemmas.{key_from_completes, completes_from_key}
use Rattle.cov_port.proofs.key.is_key.Goals as goal

pub returns-clause-key : goal.returns-clause-key
returns-clause-key c = (λ is. key_from_completes c.args.key.now (sym c.scan.ensures ∙ is), λ key. c.scan.ensures ∙ completes_from_key c.args.key.now key)
