use Rattle.std.proofs.Common.{◌≡◌, List, ap, sym, ◌∙◌, ◌∷◌, [], ◌++◌, codes}
use Rattle.design_meaning.proofs.TypedFolds as folds
use Rattle.design_tree.specs.declared.typed.Index.{Index, fold_out-Index}
use Rattle.cvd_text.specs.Expressions.{Position, tokens_of, position_of, position_tokens, node_tokens, index_tokens, sign_word, unary_word, binary_word}
use Rattle.cvd_text.specs.Tokens.{Token, word, number}
use Rattle.cvd_write.proofs.Puts.{put_tokens, put_as}
use Rattle.cvd_write.proofs.expression.+expression.Goals as goal

abbrev A : Type 0
A = List Token

-- a position by what is taken off, how its value is read, and the value
position_is : (at : Index) → position_of at ≡ index_tokens (record { low = at.low; signed = at.signed; value = tokens_of at.value })
position_is at = fold_out-Index A Position node_tokens index_tokens at

pub operated-returns : goal.operated-returns
operated-returns t c = put_tokens _ (word c.args.name.now ∷ []) (tokens_of c.args.of.now) c.word.new.self _ _ c.in_ok-word.ensures c.expression.ensures

pub numbered-returns : goal.numbered-returns
numbered-returns t c =
    put_tokens _ (word c.args.name.now ∷ number c.args.value ∷ []) (tokens_of c.args.of.now) c.headed.new.out _ _ c.in_ok-headed.ensures c.expression.ensures

pub position-returns : goal.position-returns
position-returns t c =
    let at = c.args.at.now in
    let front = number at.low ∷ word (sign_word at.signed) ∷ [] in
    put_as _ _ _ _ _ (ap (λ (p : Position). p.front ++ p.value) (position_is at) ∙ ap (λ e. front ++ tokens_of e) (sym c.get.ensures))
    (put_tokens _ front (tokens_of c.get.result.now) c.lowest.new.out _ _ c.in_ok-lowest.ensures c.expression.ensures)

pub expression-returns-in-Number : goal.expression-returns-in-Number
expression-returns-in-Number t c =
    put_as _ _ _ _ _ (ap tokens_of c.in-Number.is ∙ folds.fold-Number A Position node_tokens index_tokens c.in-Number.width c.in-Number.value)
    c.constant.ensures

pub expression-returns-in-Var : goal.expression-returns-in-Var
expression-returns-in-Var t c =
    put_as _ _ _ _ _ (ap tokens_of c.in-Var.is ∙ folds.fold-Var A Position node_tokens index_tokens c.in-Var.var) c.headed.ensures

pub expression-returns-in_ok-headed-in-Word : goal.expression-returns-in_ok-headed-in-Word
expression-returns-in_ok-headed-in-Word t c =
    let v = c.in-Word.var in
    put_as _ _ _ _ _ (ap tokens_of c.in-Word.is ∙ folds.fold-Word A Position node_tokens index_tokens v c.in-Word.at)
    (put_tokens _ (word (codes "m") ∷ number v ∷ []) (position_tokens c.in-Word.at) c.headed-in-Word.new.out _ _ c.in_ok-headed-in-Word.ensures
    c.position.ensures)

pub expression-returns-in_ok-expression-in-Part : goal.expression-returns-in_ok-expression-in-Part
expression-returns-in_ok-expression-in-Part t c =
    let p = c.in-Part in
    let first = word (codes "p") ∷ number p.width ∷ [] in
    let front = number p.at.low ∷ word (sign_word p.at.signed) ∷ [] in
    let of = c.get.result.now in
    let value = c.get-in-Part.result.now in
    put_as _ _ _ _ _
    (ap tokens_of p.is ∙ folds.fold-Part A Position node_tokens index_tokens p.width p.of p.at
    ∙ ap (λ (i : Position). first ++ (i.front ++ (tokens_of p.of ++ i.value))) (position_is p.at)
    ∙ ap (λ e. first ++ (front ++ (tokens_of e ++ tokens_of p.at.value))) (sym c.get.ensures)
    ∙ ap (λ e. first ++ (front ++ (tokens_of of ++ tokens_of e))) (sym c.get-in-Part.ensures))
    (put_tokens _ first (front ++ (tokens_of of ++ tokens_of value)) c.headed-in-Part.new.out _ _ c.in_ok-headed-in-Part.ensures
    (put_tokens _ front (tokens_of of ++ tokens_of value) c.lowest.new.out _ _ c.in_ok-lowest-in-Part.ensures
    (put_tokens _ (tokens_of of) (tokens_of value) c.expression.new.out _ _ c.in_ok-expression-in-Part.ensures c.expression-in-Part.ensures)))

pub expression-returns-in-ZeroExtend : goal.expression-returns-in-ZeroExtend
expression-returns-in-ZeroExtend t c =
    let p = c.in-ZeroExtend in
    put_as _ _ _ _ _
    (ap tokens_of p.is ∙ folds.fold-ZeroExtend A Position node_tokens index_tokens p.width p.of
    ∙ ap (λ e. word (codes "z") ∷ number p.width ∷ tokens_of e) (sym c.get-in-ZeroExtend.ensures)) c.numbered.ensures

pub expression-returns-in-SignExtend : goal.expression-returns-in-SignExtend
expression-returns-in-SignExtend t c =
    let p = c.in-SignExtend in
    put_as _ _ _ _ _
    (ap tokens_of p.is ∙ folds.fold-SignExtend A Position node_tokens index_tokens p.width p.of
    ∙ ap (λ e. word (codes "x") ∷ number p.width ∷ tokens_of e) (sym c.get-in-SignExtend.ensures)) c.numbered-in-SignExtend.ensures

pub expression-returns-in-Truncate : goal.expression-returns-in-Truncate
expression-returns-in-Truncate t c =
    let p = c.in-Truncate in
    put_as _ _ _ _ _
    (ap tokens_of p.is ∙ folds.fold-Truncate A Position node_tokens index_tokens p.width p.of
    ∙ ap (λ e. word (codes "t") ∷ number p.width ∷ tokens_of e) (sym c.get-in-Truncate.ensures)) c.numbered-in-Truncate.ensures

pub expression-returns-in-Repeat : goal.expression-returns-in-Repeat
expression-returns-in-Repeat t c =
    let p = c.in-Repeat in
    put_as _ _ _ _ _
    (ap tokens_of p.is ∙ folds.fold-Repeat A Position node_tokens index_tokens p.count p.of
    ∙ ap (λ e. word (codes "rep") ∷ number p.count ∷ tokens_of e) (sym c.get-in-Repeat.ensures)) c.numbered-in-Repeat.ensures

pub expression-returns-in-Unary : goal.expression-returns-in-Unary
expression-returns-in-Unary t c =
    let p = c.in-Unary in
    put_as _ _ _ _ _
    (ap tokens_of p.is ∙ folds.fold-Unary A Position node_tokens index_tokens p.op p.of
    ∙ ap (λ e. word (unary_word p.op) ∷ tokens_of e) (sym c.get-in-Unary.ensures)
    ∙ ap (λ l. word l ∷ tokens_of c.get-in-Unary.result.now) (sym c.unary_word.ensures)) c.operated.ensures

pub expression-returns-in_ok-operated-in-Binary : goal.expression-returns-in_ok-operated-in-Binary
expression-returns-in_ok-operated-in-Binary t c =
    let p = c.in-Binary in
    let left = c.get-in-Binary.result.now in
    let right = c.get-in-Binary-2.result.now in
    put_as _ _ _ _ _
    (ap tokens_of p.is ∙ folds.fold-Binary A Position node_tokens index_tokens p.op p.left p.right
    ∙ ap (λ e. word (binary_word p.op) ∷ tokens_of e ++ tokens_of p.right) (sym c.get-in-Binary.ensures)
    ∙ ap (λ e. word (binary_word p.op) ∷ tokens_of left ++ tokens_of e) (sym c.get-in-Binary-2.ensures)
    ∙ ap (λ l. word l ∷ tokens_of left ++ tokens_of right) (sym c.binary_word.ensures))
    (put_tokens _ (word c.binary_word.result.now ∷ tokens_of left) (tokens_of right) c.operated-in-Binary.new.out _ _ c.in_ok-operated-in-Binary.ensures
    c.expression-in-Binary.ensures)

pub expression-returns-in_ok-operated-in-Join : goal.expression-returns-in_ok-operated-in-Join
expression-returns-in_ok-operated-in-Join t c =
    let p = c.in-Join in
    let high = c.get-in-Join.result.now in
    let low = c.get-in-Join-2.result.now in
    put_as _ _ _ _ _
    (ap tokens_of p.is ∙ folds.fold-Join A Position node_tokens index_tokens p.high p.low
    ∙ ap (λ e. word (codes "cat") ∷ tokens_of e ++ tokens_of p.low) (sym c.get-in-Join.ensures)
    ∙ ap (λ e. word (codes "cat") ∷ tokens_of high ++ tokens_of e) (sym c.get-in-Join-2.ensures))
    (put_tokens _ (word (codes "cat") ∷ tokens_of high) (tokens_of low) c.operated-in-Join.new.out _ _ c.in_ok-operated-in-Join.ensures
    c.expression-in-Join.ensures)

pub expression-returns-in_ok-expression-in-Choose : goal.expression-returns-in_ok-expression-in-Choose
expression-returns-in_ok-expression-in-Choose t c =
    let p = c.in-Choose in
    let test = c.get-in-Choose.result.now in
    let left = c.get-in-Choose-2.result.now in
    let right = c.get-in-Choose-3.result.now in
    put_as _ _ _ _ _
    (ap tokens_of p.is ∙ folds.fold-Choose A Position node_tokens index_tokens p.test p.yes p.no
    ∙ ap (λ e. word (codes "sel") ∷ tokens_of e ++ (tokens_of p.yes ++ tokens_of p.no)) (sym c.get-in-Choose.ensures)
    ∙ ap (λ e. word (codes "sel") ∷ tokens_of test ++ (tokens_of e ++ tokens_of p.no)) (sym c.get-in-Choose-2.ensures)
    ∙ ap (λ e. word (codes "sel") ∷ tokens_of test ++ (tokens_of left ++ tokens_of e)) (sym c.get-in-Choose-3.ensures))
    (put_tokens _ (word (codes "sel") ∷ tokens_of test) (tokens_of left ++ tokens_of right) c.operated-in-Choose.new.out _ _ c.in_ok-operated-in-Choose.ensures
    (put_tokens _ (tokens_of left) (tokens_of right) c.expression-in-Choose.new.out _ _ c.in_ok-expression-in-Choose.ensures c.expression-in-Choose-2.ensures))
