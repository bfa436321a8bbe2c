use Rattle.sim_frame.specs.Heads.{refused, unread, wanting}
use Rattle.sim_frame.proofs.stimulus_head.head_ending.Goals as goal

pub returns-in-NoMemory : goal.returns-in-NoMemory
returns-in-NoMemory c = rw c.in-NoMemory.is wanting

pub returns-in-Failed : goal.returns-in-Failed
returns-in-Failed c = rw (c.in-Failed.is, c.read_failed.ensures) unread

pub returns-in_default : goal.returns-in_default
returns-in_default c = rw c.refused.ensures (refused c.args.flaw (c.requires c.in_default.not-Failed c.in_default.not-NoMemory))
