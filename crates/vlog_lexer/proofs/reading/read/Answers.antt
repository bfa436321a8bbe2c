use Rattle.std.proofs.Common.{◌≤◌, ◌+◌, ◌-◌, ℕ, List, Err, take, drop, arith, ap, length, subst, sym, ◌∙◌}
use Rattle.vlog_lexer.proofs.ReadingLemmas.{adding_answers, front_here, given_refusal, nothing_read_yet, piece_bytes, read_next, refused_answers, rest_length}
use Rattle.vlog_lexer.proofs.ReadingLemmas.{take_short}
use Rattle.vlog_lexer.specs.LimitsKept.{AreCounts}
use Rattle.vlog_lexer.specs.PlaceKept.{IsPosition}
use Rattle.vlog_lexer.specs.Places.{place_after}
use Rattle.vlog_lexer.specs.Reading.{Answers, latest}
use Rattle.vlog_lexer.specs.declared.fault.LexFault.{LexFault}
use Rattle.vlog_tokens.specs.declared.token.Token.{Token}
use Rattle.vlog_lexer.proofs.reading.read.Goals as goal

pub loop-at-init : goal.loop-at-init
loop-at-init c = record {
  within = omega arith;
  line = omega arith;
  column = omega arith;
  position = c.start-position.ensures.value;
  nesting = omega arith;
  braces = omega arith;
  operators = omega arith;
  branches = omega arith;
  counts = subst (λ (ts : List Token). AreCounts (latest ts) c.none-counts.result) (sym c.new.ensures) c.none-counts.ensures.value;
  read = nothing_read_yet c.args.file c.args.text.now c.new.result c.new-2.result c.new.ensures c.new-2.ensures;
}

pub returns-in-Refused : goal.returns-in-Refused
returns-in-Refused c =
    let text = c.args.text.now in let at = c.loop-at.at in let refusal = c.in-Refused.refusal in
    let front = front_here text at _ (given_refusal _ c.in-Err.stop refusal c.in-Refused.is c.in-Err.ensures.value) in
    let here = c.place.ensures _ (c.after-here.ensures.value _ c.loop-at.invariant.position)
    ∙ ap (place_after c.args.file) (piece_bytes text at refusal.offset) in
    subst (λ (f : LexFault). Answers c.args.file text (Err f)) (sym c.fault_at.ensures)
    (refused_answers c.args.file text c.loop-at.found.tokens c.loop-at.found.pragmas at refusal c.place.result c.loop-at-test.true c.loop-at.invariant.read
    front here)

pub returns-in-Err-add : goal.returns-in-Err-add
returns-in-Err-add c =
    let text = c.args.text.now in let at = c.loop-at.at in
    adding_answers c.args.file text c.loop-at.found.tokens c.loop-at.found.pragmas at c.in-Ok.field-0.len c.in-Ok.field-0.what c.in-Err-add.fault
    c.loop-at.invariant.read
    (front_here text at _ c.in-Ok.ensures.value) c.in-Err-add.ensures.refused

pub loop-at-preserved : goal.loop-at-preserved
loop-at-preserved c =
    let text = c.args.text.now in let at = c.loop-at.at in let len = c.in-Ok.field-0.len in
    let left = rest_length text at in
    let inside : len ≤ length text - at = rw left at c.in-Ok.ensures.within.1 in
    let some = c.in-Ok.ensures.within.0 in
    let told = c.in-Ok-add.ensures in
    let short = take_short len (take (length text - at) (drop at text)) in
    let lines : c.after-position.result.line ≤ c.loop-at.position.line + length (take len (take (length text - at) (drop at text))) =
    c.after-position.ensures.line in
    let columns : c.after-position.result.column ≤ c.loop-at.position.column + length (take len (take (length text - at) (drop at text))) =
    c.after-position.ensures.column in
    record {
      within = omega arith;
      line = omega arith;
      column = omega arith;
      position = subst (λ (xs : List ℕ). IsPosition xs c.after-position.result) (piece_bytes text at len)
          (c.after-position.ensures.value _ c.loop-at.invariant.position);
      nesting = omega (arith, told.nesting);
      braces = omega (arith, told.braces);
      operators = omega (arith, told.operators);
      branches = omega (arith, told.branches);
      counts = told.counts;
      read = read_next c.args.file text c.loop-at.found.tokens c.add.new.found.tokens c.loop-at.found.pragmas c.add.new.found.pragmas at c.in-Ok.field-0.what
          len c.place-in-Ok.result
          c.loop-at.invariant.read (front_here text at _ c.in-Ok.ensures.value) told.within (c.place-in-Ok.ensures _ c.loop-at.invariant.position)
          told.tokens told.pragmas;
    }
