use Rattle.std.proofs.Common.{Ok, sym, ◌∙◌, ap}
use Rattle.std.proofs.lemmas.List.{take_rest}
use Rattle.vlog_lexer.specs.declared.piece.Piece.{Piece}
use Rattle.vlog_lexer.specs.Pieces.{block_comment_piece, directive_piece, line_comment_piece, string_piece}
use Rattle.vlog_lexer.proofs.FrontLemmas as front
use Rattle.vlog_lexer.proofs.FrontLemmas.{IsMark, IsOther, given, given-at}
use Rattle.vlog_lexer.proofs.front.front_of.Goals as goal

pub returns-then-is_white-clause-value : goal.returns-then-is_white-clause-value
returns-then-is_white-clause-value c = front.at-white c.args.text.now c.requires.whole (sym c.is_white.ensures ∙ c.if-is_white.true)
    ∙ ap (λ (x : Piece). Ok x) (sym c.blank.ensures)

pub returns-then-begins_name-clause-value : goal.returns-then-begins_name-clause-value
returns-then-begins_name-clause-value c = given c.args.text.now _ _ (front.at-name c.args.text.now c.requires.whole (sym c.is_white.ensures
    ∙ c.if-is_white.false) (sym c.begins_name.ensures ∙ c.if-begins_name.true)) c.name_piece.ensures.value

pub returns-then-begins_number-clause-value : goal.returns-then-begins_number-clause-value
returns-then-begins_number-clause-value c =
    given c.args.text.now _ _ (front.at-number c.args.text.now c.requires.whole (sym c.is_white.ensures ∙ c.if-is_white.false) (sym c.begins_name.ensures
    ∙ c.if-begins_name.false) (sym c.begins_number.ensures ∙ c.if-begins_number.true)) c.number_piece.ensures.value

pub returns-then-first-eq34-clause-value : goal.returns-then-first-eq34-clause-value
returns-then-first-eq34-clause-value c =
    let other : IsOther c.args.text.now = record {
      whole = c.requires.whole;
      white = sym c.is_white.ensures
          ∙ c.if-is_white.false;
      name = sym c.begins_name.ensures ∙ c.if-begins_name.false;
      number = sym c.begins_number.ensures ∙ c.if-begins_number.false;
    } in
    given-at 1 c.args.text.now string_piece _ (front.at-quote c.args.text.now other c.if-first-eq34.true) c.string_piece.ensures.value

pub returns-then-first-eq36-clause-value : goal.returns-then-first-eq36-clause-value
returns-then-first-eq36-clause-value c =
    let other : IsOther c.args.text.now = record {
      whole = c.requires.whole;
      white = sym c.is_white.ensures
          ∙ c.if-is_white.false;
      name = sym c.begins_name.ensures ∙ c.if-begins_name.false;
      number = sym c.begins_number.ensures ∙ c.if-begins_number.false;
    } in
    given c.args.text.now _ _ (front.at-dollar c.args.text.now other c.if-first-eq34.false c.if-first-eq36.true) c.system_piece.ensures.value

pub returns-then-first-eq96-clause-value : goal.returns-then-first-eq96-clause-value
returns-then-first-eq96-clause-value c =
    let other : IsOther c.args.text.now = record {
      whole = c.requires.whole;
      white = sym c.is_white.ensures
          ∙ c.if-is_white.false;
      name = sym c.begins_name.ensures ∙ c.if-begins_name.false;
      number = sym c.begins_number.ensures ∙ c.if-begins_number.false;
    } in
    given-at 1 c.args.text.now directive_piece _ (front.at-back c.args.text.now other c.if-first-eq34.false c.if-first-eq36.false c.if-first-eq96.true)
    c.directive_piece.ensures.value

pub returns-then-starts_with-clause-value : goal.returns-then-starts_with-clause-value
returns-then-starts_with-clause-value c =
    let other : IsOther c.args.text.now = record {
      whole = c.requires.whole;
      white = sym c.is_white.ensures
          ∙ c.if-is_white.false;
      name = sym c.begins_name.ensures ∙ c.if-begins_name.false;
      number = sym c.begins_number.ensures ∙ c.if-begins_number.false;
    } in
    let mark : IsMark c.args.text.now = record { other = other; quote = c.if-first-eq34.false; dollar = c.if-first-eq36.false; back = c.if-first-eq96.false } in
    front.at-line c.args.text.now mark (sym c.starts_with.ensures.value ∙ c.if-starts_with.true) ∙ sym (ap line_comment_piece (take_rest c.args.text.now 2))
    ∙ c.line_comment_piece.ensures.value

pub returns-then-starts_with-2-clause-value : goal.returns-then-starts_with-2-clause-value
returns-then-starts_with-2-clause-value c =
    let other : IsOther c.args.text.now = record {
      whole = c.requires.whole;
      white = sym c.is_white.ensures
          ∙ c.if-is_white.false;
      name = sym c.begins_name.ensures ∙ c.if-begins_name.false;
      number = sym c.begins_number.ensures ∙ c.if-begins_number.false;
    } in
    let mark : IsMark c.args.text.now = record { other = other; quote = c.if-first-eq34.false; dollar = c.if-first-eq36.false; back = c.if-first-eq96.false } in
    given-at 2 c.args.text.now block_comment_piece _ (front.at-block c.args.text.now mark (sym c.starts_with.ensures.value
    ∙ c.if-starts_with.false) (sym c.starts_with-else-starts_with.ensures.value ∙ c.if-starts_with-2.true)) c.block_comment_piece.ensures.value

pub returns-else-starts_with-2-clause-value : goal.returns-else-starts_with-2-clause-value
returns-else-starts_with-2-clause-value c =
    let other : IsOther c.args.text.now = record {
      whole = c.requires.whole;
      white = sym c.is_white.ensures
          ∙ c.if-is_white.false;
      name = sym c.begins_name.ensures ∙ c.if-begins_name.false;
      number = sym c.begins_number.ensures ∙ c.if-begins_number.false;
    } in
    let mark : IsMark c.args.text.now = record { other = other; quote = c.if-first-eq34.false; dollar = c.if-first-eq36.false; back = c.if-first-eq96.false } in
    given c.args.text.now _ _ (front.at-symbol c.args.text.now mark (sym c.starts_with.ensures.value
    ∙ c.if-starts_with.false) (sym c.starts_with-else-starts_with.ensures.value ∙ c.if-starts_with-2.false)) c.symbol_piece.ensures.value
