use Rattle.std.proofs.Common.{refl, sym, ◌∙◌}
use Rattle.cov_types.specs.declared.limit.LimitName.TheVariants.{Files}
use Rattle.command_ending.proofs.NamesLemmas.{few, many, seen}
use Rattle.command_ending.proofs.StopLemmas.{stops_leave}
use Rattle.command_cover.specs.Merge.{merge_to}
use Rattle.command_cover.specs.MergePromise.{merge_promise}
use Rattle.command_cover.proofs.SparingLemmas.{finish_is_no_line, one_limit_is_no_line, spares_none}
use Rattle.command_cover.proofs.MergeLemmas.{files_stop, many_stop, read_answers, stored_leaves}
use Rattle.command_cover.proofs.merge.merge_files.Goals as goal

pub returns-then-are_too_many : goal.returns-then-are_too_many
returns-then-are_too_many g c =
    let merge = merge_to c.args.name.now (seen c.args.names.now) in
    record {
      leaves = stops_leave (merge_promise merge) (g.F.Files.held c.args.files.now) (g.F.Files.held c.args.files.now) _ _ (g.O.Sink.written c.args.out.now)
          (g.O.Sink.faults c.args.out.now)
          c.over_limit.result refl refl
          (many_stop merge (g.F.Files.held c.args.files.now) (g.F.Files.faults c.args.files.now) c.over_limit.result
          (many c.args.names.now (sym c.are_too_many.ensures ∙ c.if-are_too_many.true)) c.over_limit.ensures);
      sparing = spares_none _ _ _ _ _ (one_limit_is_no_line Files c.over_limit.result c.over_limit.ensures);
    }

pub returns-in-Ok : goal.returns-in-Ok
returns-in-Ok g c =
    let merge = merge_to c.args.name.now (seen c.args.names.now) in
    let within = few c.args.names.now (sym c.are_too_many.ensures ∙ c.if-are_too_many.false) in
    let read = c.in-Ok.ensures.ok in
    let finished = rw (read.1, c.in-Ok.ensures.held, c.in-Ok.ensures.ok_quiet) at c.finish.ensures in
    record {
      leaves = stored_leaves merge read.0 _ _ c.finish.result
          (read_answers c.adding_gives_the_sums.ensures merge (g.F.Files.held c.args.files.now) read.0 within read.2) finished;
      sparing = spares_none _ _ _ _ _ (finish_is_no_line _ _ _ _ c.finish.result c.finish.ensures);
    }

pub returns-in-Err : goal.returns-in-Err
returns-in-Err g c =
    let merge = merge_to c.args.name.now (seen c.args.names.now) in
    let within = few c.args.names.now (sym c.are_too_many.ensures ∙ c.if-are_too_many.false) in
    record {
      leaves = stops_leave (merge_promise merge) (g.F.Files.held c.args.files.now) (g.F.Files.held c.merged_file.new.files) _ _
          (g.O.Sink.written c.args.out.now) (g.O.Sink.faults c.args.out.now)
          c.in-Err.ending refl c.in-Err.ensures.held
          (files_stop c.adding_gives_the_sums.ensures merge (g.F.Files.held c.args.files.now) _ _ c.in-Err.ending within c.in-Err.ensures.err);
      sparing = c.in-Err.ensures.sparing;
    }
