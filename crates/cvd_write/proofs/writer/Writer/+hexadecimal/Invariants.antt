use Rattle.cvd_write.proofs.writer.Writer.+hexadecimal.Given as goal

abbrev pub decreases-hexadecimal : goal.decreases-hexadecimal
decreases-hexadecimal l = l.value
