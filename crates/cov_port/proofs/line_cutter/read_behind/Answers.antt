use Rattle.std.proofs.Common.{arith, ◌-◌, length}
use Rattle.cov_port.proofs.CutLemmas.{read_fills}
use Rattle.cov_port.proofs.line_cutter.read_behind.Goals as goal

pub returns-clause-bytes : goal.returns-clause-bytes
returns-clause-bytes g c =
    read_fills c.read.result c.args.end (length c.args.buffer.now - c.args.end) c.args.buffer.now c.read.new.buf
    (g.F.Files.rest c.args.files.now) (g.F.Files.rest c.read.new.self) (omega arith) (omega (arith, c.read.auto.buf)) c.read.ensures.bound c.read.ensures.bytes
