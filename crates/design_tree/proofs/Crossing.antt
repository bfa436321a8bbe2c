-- Designs cross threads, as a fact of their own: a type that holds one needs no search through their steps.
use denote.Hole.{as_row}
use denote.Param.Send.{IsSend, IsSync, sendable}
use denote.Param.SendFields.{declared_send, declared_sync}
use Rattle.std.proofs.Crossing.{crosses}
use Rattle.cov_types.proofs.byte_text.ByteText.TheSendSync as text
use Rattle.cov_types.proofs.kind.ProcessKind.TheSendSync as kind
use Rattle.cov_types.proofs.rows.Rows.TheSendSync as rows
use Rattle.cov_types.proofs.var.Var.TheSendSync as var
use Rattle.sqlite_items.proofs.boxed.Boxed.TheSendSync as boxed
use Rattle.sqlite_items.proofs.items.Items.TheSendSync as items
use Rattle.design_tree.proofs.design.Input.TheSendSync as input
use Rattle.design_tree.proofs.instrumented.PointRow.TheSendSync as point
use Rattle.design_tree.proofs.instrumented.ToggleEntry.TheSendSync as toggle
use Rattle.design_tree.proofs.operator.TypedBinary.TheSendSync as binary
use Rattle.design_tree.proofs.operator.TypedUnary.TheSendSync as unary
use Rattle.design_tree.proofs.step.Step.TheLaws.TheKnot as step
use Rattle.design_tree.proofs.typed.Typed.TheLaws.TheKnot as typed
use Rattle.design_tree.specs.contracts.design.Process as process
use Rattle.design_tree.specs.contracts.design.Design.{the_row, the_field}
use Rattle.design_tree.specs.contracts.instrumented.Instrumented as instrumented

process_send : IsSend process.the_row
process_send =
    search (
      step.crosses,
      typed.crosses,
      kind.the_field_send,
      items.the_send,
      boxed.the_send,
      binary.the_field_send,
      unary.the_field_send,
      text.the_send,
      rows.the_send,
      crosses,
      sendable,
    ) depth 30 fits 20000

process_sync : IsSync process.the_row
process_sync =
    search (
      step.crosses,
      typed.crosses,
      kind.the_field_sync,
      items.the_sync,
      boxed.the_sync,
      binary.the_field_sync,
      unary.the_field_sync,
      text.the_sync,
      rows.the_sync,
      crosses,
      sendable,
    ) depth 30 fits 20000

pub design_send : IsSend the_row
design_send = search (process_send, rows.the_send, var.the_send, input.the_send, crosses, sendable) depth 20

pub design_sync : IsSync the_row
design_sync = search (process_sync, rows.the_sync, var.the_sync, input.the_sync, crosses, sendable) depth 20

pub design_field_send : IsSend (as_row the_field)
design_field_send = search (design_send, crosses, sendable) depth 20

pub design_field_sync : IsSync (as_row the_field)
design_field_sync = search (design_sync, crosses, sendable) depth 20

pub instrumented_send : IsSend instrumented.the_row
instrumented_send =
    declared_send instrumented.the_type (
      design_field_send,
      (
        search sendable,
        (
          search (rows.the_send, toggle.the_send, crosses, sendable),
          (search (rows.the_send, point.the_send, crosses, sendable), tt),
        ),
      ),
    )

pub instrumented_sync : IsSync instrumented.the_row
instrumented_sync =
    declared_sync instrumented.the_type (
      design_field_sync,
      (
        search sendable,
        (
          search (rows.the_sync, toggle.the_sync, crosses, sendable),
          (search (rows.the_sync, point.the_sync, crosses, sendable), tt),
        ),
      ),
    )
