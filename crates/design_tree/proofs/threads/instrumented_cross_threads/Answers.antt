use denote.Exit.{no}
use denote.Param.Send.{arg_send, arg_sync, param_send, param_sync}
use Rattle.design_tree.proofs.Crossing.{instrumented_send, instrumented_sync}
use Rattle.design_tree.proofs.threads.instrumented_cross_threads.Goals as goal
use Rattle.design_tree.proofs.threads.instrumented_cross_threads.Lts as lts
use Rattle.design_tree.specs.contracts.instrumented.Instrumented.{the_row}

pub crosses_threads-requires-send-T : goal.crosses_threads-requires-send-T
crosses_threads-requires-send-T c κs = param_send 0 (lts.arg-0-0 κs) (arg_send _ no the_row instrumented_send)

pub crosses_threads-requires-sync-T : goal.crosses_threads-requires-sync-T
crosses_threads-requires-sync-T c κs = param_sync 0 (lts.arg-0-0 κs) (arg_sync _ no the_row instrumented_sync)
