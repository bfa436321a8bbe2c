use Rattle.command_ending.specs.Stops.{without_memory}
use Rattle.cover_gather.proofs.StepLemmas.{limit_refusal}
use Rattle.cover_gather.proofs.adding.limit_of.Goals as goal

pub returns-in-Limit : goal.returns-in-Limit
returns-in-Limit c = limit_refusal c.args.fault c.in-Limit.limit c.over_limit.result c.in-Limit.is c.over_limit.ensures

pub returns-in-NoMemory : goal.returns-in-NoMemory
returns-in-NoMemory c = without_memory
