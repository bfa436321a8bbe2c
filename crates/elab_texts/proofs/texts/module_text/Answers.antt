use Rattle.std.proofs.Common.{◌≡◌, refl, ap, ◌∙◌, subst, List, ℕ, ◌++◌, cond, [], take}
use Rattle.std.specs.Prelude.{IfOk, codes}
use Rattle.std.proofs.lemmas.List.{take_all}
use Rattle.elab_types.specs.declared.scope.Constant.{Constant as ConstantRow}
use Rattle.scope_meaning.specs.Declared.{is_in}
use Rattle.scope_meaning.specs.BlockNames.{module_text}
use Rattle.elab_texts.proofs.Parameters.{kept, step-text, step-first, closes}
use Rattle.elab_texts.proofs.texts.module_text.Goals as goal

pub loop-constant-init : goal.loop-constant-init
loop-constant-init c = record { text = λ names are. c.in_ok-text.ensures; first = λ names are. refl }

pub loop-constant-preserved : goal.loop-constant-preserved
loop-constant-preserved c =
    let rows = c.args.constants.now in
    let i = c.loop-constant.constant-index in
    let r = c.constant-item.result in
    record {
      text = λ names are.
          step-text names c.args.name.now rows i r c.loop-constant.text c.with_parameter.new.text c.contains-is_wanted.result c.loop-constant.is_first
          c.loop-constant-test.true c.constant-item.is
          (c.contains-is_wanted.ensures names are ∙ ap (λ (n : List ℕ). is_in n names) c.as_slice.ensures)
          (c.loop-constant.invariant.text names are) (c.loop-constant.invariant.first names are) c.in_ok-is_first.ensures.text;
      first = λ names are.
          step-first names rows i r c.contains-is_wanted.result c.loop-constant.is_first c.in_ok-is_first.is_first
          c.loop-constant-test.true c.constant-item.is
          (c.contains-is_wanted.ensures names are ∙ ap (λ (n : List ℕ). is_in n names) c.as_slice.ensures)
          (c.loop-constant.invariant.first names are) c.in_ok-is_first.ensures.first;
    }

pub returns : goal.returns
returns c = λ names are.
    let rows = c.args.constants.now in
    let i = c.loop-constant.constant-index in
    let f = c.loop-constant.is_first in
    subst (λ (l : List ℕ). IfOk c.closed.result (λ (t : List ℕ). t ≡ l))
    (ap (λ (t : List ℕ). t ++ cond f [] (codes ")")) (c.loop-constant.invariant.text names are)
    ∙ closes c.args.name.now (kept names (take i rows)) f (c.loop-constant.invariant.first names are)
    ∙ ap (λ (rs : List ConstantRow). module_text c.args.name.now (kept names rs)) (take_all i rows c.loop-constant-test.false)) c.closed.ensures
