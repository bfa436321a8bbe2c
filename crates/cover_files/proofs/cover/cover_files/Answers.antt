use Rattle.std.proofs.Common.{refl, sym, ◌∙◌}
use Rattle.cov_words.specs.SeenCommand.{seen_cover}
use Rattle.command_ending.proofs.FinishLemmas.{finish_leaves}
use Rattle.command_ending.proofs.NamesLemmas.{many}
use Rattle.command_ending.proofs.StopLemmas.{stops_leave}
use Rattle.cover_answer.specs.CoverPromise.{cover_promise}
use Rattle.cover_files.proofs.CoverLemmas.{many_stop}
use Rattle.cover_files.proofs.cover.cover_files.Goals as goal

pub returns-then-are_too_many-clause-leaves : goal.returns-then-are_too_many-clause-leaves
returns-then-are_too_many-clause-leaves g c =
    stops_leave (cover_promise (seen_cover c.args.asked.now)) (g.F.Files.held c.args.files.now) (g.F.Files.held c.args.files.now) _ _
    (g.O.Sink.written c.args.out.now) (g.O.Sink.faults c.args.out.now) c.over_limit.result refl refl
    (many_stop (seen_cover c.args.asked.now) (g.F.Files.held c.args.files.now) (g.F.Files.faults c.args.files.now) c.over_limit.result
    (rw c.requires at (many c.args.names.now (sym c.are_too_many.ensures ∙ c.if-are_too_many.true))) c.over_limit.ensures)

pub returns-in-Ok-clause-leaves : goal.returns-in-Ok-clause-leaves
returns-in-Ok-clause-leaves g c =
    finish_leaves (cover_promise (seen_cover c.args.asked.now)) _ _ _ _ c.finish.result c.in-Ok.ensures.ok c.in-Ok.ensures.stores
    (rw (c.as_slice.ensures, c.in-Ok.ensures.held, c.in-Ok.ensures.ok_quiet) at c.finish.ensures)

pub returns-in-Err-clause-leaves : goal.returns-in-Err-clause-leaves
returns-in-Err-clause-leaves g c =
    stops_leave (cover_promise (seen_cover c.args.asked.now)) (g.F.Files.held c.args.files.now) (g.F.Files.held c.made_texts.new.files) _ _
    (g.O.Sink.written c.args.out.now) (g.O.Sink.faults c.args.out.now) c.in-Err.ending refl c.in-Err.ensures.held c.in-Err.ensures.err
