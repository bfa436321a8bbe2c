use Rattle.std.proofs.Common.{sym, ◌∙◌, refl}
use Rattle.cvd_text.specs.Tokens.{word}
use Rattle.cvd_cursor.proofs.Single.{missing, differs, takes_word}
use Rattle.cvd_nodes.specs.Heads.{head_text}
use Rattle.cvd_nodes.specs.declared.head.Head.TheVariants as head
use Rattle.cvd_nodes.proofs.Heads.{head_found, head_none}
use Rattle.cvd_nodes.proofs.head.read_head.Goals as goal

pub returns-in_default : goal.returns-in_default
returns-in_default c = missing (λ h. word (head_text h)) head.Var c.args.cursor.now c.wrong.result (sym c.in_default.ensures) c.wrong.ensures

pub returns-in_default-head_of : goal.returns-in_default-head_of
returns-in_default-head_of c =
    differs (λ h. word (head_text h)) head.Var c.args.cursor.now c.in-Some.word.now _ (sym c.in-Some.ensures)
    (head_none c.in-Some.word.now (sym c.head_of.ensures ∙ c.in_default-head_of.is)) refl

pub returns : goal.returns
returns c =
    let h = c.in-Some-head_of.head in (
      h,
      (
        takes_word (λ k. word (head_text k)) h c.args.cursor.now _ c.in-Some.word.now (sym c.in-Some.ensures) c.skip.ensures.text c.skip.ensures.rest
            (head_found c.in-Some.word.now h (sym c.head_of.ensures ∙ c.in-Some-head_of.is)),
        refl,
      ),
    )
