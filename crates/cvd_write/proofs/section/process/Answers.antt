use Rattle.std.proofs.Common.{[], ◌++◌, ◌∙◌, ap, map}
use Rattle.cvd_text.specs.Sections.{process_word}
use Rattle.cvd_write.specs.Writing.{row, block_text, step_text}
use Rattle.cvd_write.proofs.Puts.{put_behind, put_same}
use Rattle.cvd_write.proofs.section.process.Goals as goal

pub returns : goal.returns
returns c =
    let one = c.args.one.now in
    let kind = c.process_word.result.now in
    let body = c.as_slice.result.now in
    put_same _ (row kind [] ++ block_text (map step_text body)) _ _ _
    (ap (λ k. row k [] ++ block_text (map step_text body)) c.process_word.ensures
    ∙ ap (λ steps. row (process_word one.kind) [] ++ block_text (map step_text steps)) c.as_slice.ensures)
    (put_behind _ (row kind []) (block_text (map step_text body)) c.line.new.out _ _ c.in_ok-line.ensures c.block.ensures)
