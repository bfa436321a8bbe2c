use Rattle.std.proofs.Common.{arith, ◌≡◌, ◌≤◌, ◌+◌, ◌++◌, ℕ, List, length, drop, sym, ◌∙◌, ap, Some}
use Rattle.std.proofs.lemmas.List.{take_at}
use Rattle.std.specs.Prelude.{slice_range}
use Rattle.cov_port.proofs.SpanLemmas.{range_rest, range_split, range_len, no_range}
use Rattle.cov_port.proofs.mem_files.MemFilesFiles.read.Goals as goal

pub returns-clause-bytes : goal.returns-clause-bytes
returns-clause-bytes c =
    let m = c.self.inside in
    let n = c.min-count.result in
    let log = m.log.items in
    let inv = c.self.invariant in
    let small = c.min-count.ensures in
    let smaller = c.min.ensures in
    let within : m.at + n ≤ m.end = omega arith in
    let long : m.at + n ≤ length log = omega arith in
    let front : c.copy_from_slice.new.self ≡ slice_range log m.at (m.at + n) =
    c.copy_from_slice.ensures.after ∙ ap (λ (xs : List ℕ). slice_range xs m.at (m.at + n)) c.deref.ensures.value in
    let taken = take_at c.copy_from_slice.new.self (drop n c.args.buf.now) n (ap length front ∙ range_len log m.at n long) in
    rw (← c.self.view_is) (record {
      bytes = range_split log m.at m.end n within ∙ ap (λ (xs : List ℕ). xs ++ drop n (slice_range log m.at m.end)) (sym (taken ∙ front));
      left = ap Some (sym (range_rest log m.at m.end n within));
      ends = λ none some. no_range log m.at m.end (omega arith);
    })

pub returns-clause-ok : goal.returns-clause-ok
returns-clause-ok c =
    let m = c.self.inside in
    let n = c.min-count.result in
    let small = c.min-count.ensures in
    let smaller = c.min.ensures in
    let inv = c.self.invariant in
    let rest = range_rest m.log.items m.at m.end n (omega arith) in
    let counted = c.count_call.ensures.counted in
    rw (← c.self.view_is) (cc)
