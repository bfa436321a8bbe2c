use Rattle.std.proofs.Common.{refl, sym, ◌∙◌}
use Rattle.command_ending.proofs.NamesLemmas.{few, many, seen}
use Rattle.command_ending.proofs.StopLemmas.{stops_leave}
use Rattle.command_check.specs.CheckPromise.{check_promise}
use Rattle.command_check.proofs.CheckLemmas.{many_stop, refusal_stop, saying_leaves, unread_stop}
use Rattle.command_check.proofs.check.check_files.Goals as goal

pub returns-then-are_too_many : goal.returns-then-are_too_many
returns-then-are_too_many g c =
    let names = seen c.args.names.now in
    record {
      leaves = stops_leave (check_promise names) (g.F.Files.held c.args.files.now) (g.F.Files.held c.args.files.now) _ _ (g.O.Sink.written c.args.out.now)
          (g.O.Sink.faults c.args.out.now)
          c.over_limit.result refl refl
          (many_stop names (g.F.Files.held c.args.files.now) (g.F.Files.faults c.args.files.now) c.over_limit.result
          (many c.args.names.now (sym c.are_too_many.ensures ∙ c.if-are_too_many.true)) c.over_limit.ensures);
    }

pub returns-in-Err : goal.returns-in-Err
returns-in-Err g c =
    let names = seen c.args.names.now in
    let within = few c.args.names.now (sym c.are_too_many.ensures ∙ c.if-are_too_many.false) in
    record {
      leaves = stops_leave (check_promise names) (g.F.Files.held c.args.files.now) (g.F.Files.held c.read_designs.new.files) _ _
          (g.O.Sink.written c.args.out.now) (g.O.Sink.faults c.args.out.now)
          c.in-Err.ending refl c.in-Err.ensures.held (unread_stop names (g.F.Files.held c.args.files.now) _ _ c.in-Err.ending within c.in-Err.ensures.err);
    }

pub returns-in-Ok-modules_line : goal.returns-in-Ok-modules_line
returns-in-Ok-modules_line g c =
    let names = seen c.args.names.now in
    let within = few c.args.names.now (sym c.are_too_many.ensures ∙ c.if-are_too_many.false) in
    let counted = rw c.as_slice.ensures at c.in-Ok-count_modules.ensures.ok in
    let finished =
    rw (
      c.as_slice-in-Ok-modules_line.ensures,
      c.in-Ok-modules_line.ensures,
      c.no_stores.ensures,
      counted.2,
      c.in-Ok.ensures.held,
      c.in-Ok.ensures.ok_quiet,
    ) at c.finish.ensures in
    record { leaves = saying_leaves names c.in-Ok.texts counted.0 _ _ c.finish.result within c.in-Ok.ensures.ok counted.1 finished }

pub returns : goal.returns
returns g c =
    let names = seen c.args.names.now in
    let within = few c.args.names.now (sym c.are_too_many.ensures ∙ c.if-are_too_many.false) in
    record {
      leaves = stops_leave (check_promise names) (g.F.Files.held c.args.files.now) (g.F.Files.held c.read_designs.new.files) _ _
          (g.O.Sink.written c.args.out.now) (g.O.Sink.faults c.args.out.now)
          c.in-Err-count_modules.ending refl c.in-Ok.ensures.held
          (refusal_stop c.places_from_one.ensures.fault c.places_from_one.ensures.tokens names c.in-Ok.texts (g.F.Files.held c.args.files.now) _ _
          c.in-Err-count_modules.ending within c.in-Ok.ensures.ok_quiet c.in-Ok.ensures.ok
          (rw c.as_slice.ensures at c.in-Err-count_modules.ensures.err));
    }
