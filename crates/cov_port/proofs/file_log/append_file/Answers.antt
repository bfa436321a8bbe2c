use Rattle.std.proofs.Common.{arith, ◌≡◌, ◌+◌, ◌++◌, List, ℕ, length, length-append, ◌∙◌, ap}
use Rattle.cov_port.proofs.SpanLemmas.{added_file, within_push}
use Rattle.cov_port.specs.Spans.{files_in}
use Rattle.cov_port.specs.declared.span.Span.{Span}
use Rattle.cov_port.proofs.file_log.append_file.Goals as goal

pub returns-clause-within : goal.returns-clause-within
returns-clause-within c =
    let log = c.args.log.now.items in
    let name = c.args.name.now in
    let one : c.append_within.new.log.items ≡ log ++ name = c.append_within.ensures.items in
    let two : c.append_within-2.new.log.items ≡ (log ++ name) ++ c.args.text.now =
    c.append_within-2.ensures.items ∙ ap (λ (bytes : List ℕ). bytes ++ c.args.text.now) one in
    let start = ap length c.as_slice-start.ensures.value in
    let middle = ap length (c.as_slice-middle.ensures.value ∙ one) ∙ length-append log name in
    let end = ap length c.as_slice.ensures.value in
    let whole = ap length two ∙ length-append (log ++ name) c.args.text.now in
    let front = length-append log name in
    rw c.in-Ok.ensures.items (within_push (length log) _ c.args.spans.now.items _ (omega (arith, whole, front)) c.requires.within
    (record { first = omega (arith, start, middle); second = omega (arith, middle, end, whole, front); last = omega (arith, end) }))

pub returns-clause-files : goal.returns-clause-files
returns-clause-files c =
    let log = c.args.log.now.items in
    let name = c.args.name.now in
    let text = c.args.text.now in
    let one : c.append_within.new.log.items ≡ log ++ name = c.append_within.ensures.items in
    let two : c.append_within-2.new.log.items ≡ (log ++ name) ++ text =
    c.append_within-2.ensures.items ∙ ap (λ (bytes : List ℕ). bytes ++ text) one in
    let start = ap length c.as_slice-start.ensures.value in
    let middle = ap length (c.as_slice-middle.ensures.value ∙ one) ∙ length-append log name in
    let end = ap length (c.as_slice.ensures.value ∙ two) ∙ length-append (log ++ name) text in
    let front = length-append log name in
    let last : length c.as_slice.result.now ≡ length log + (length name + length text) = omega (arith, end, front) in
    ap (λ (spans : List Span). files_in c.append_within-2.new.log.items spans) c.in-Ok.ensures.items
    ∙ added_file log _ name text c.args.spans.now.items _ two start middle last c.requires.within
