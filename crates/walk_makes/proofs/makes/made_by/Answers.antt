use Rattle.std.proofs.Common.{ap, ◌∙◌, refl, sym}
use Rattle.std.specs.Borrow.{Bor}
use Rattle.walk_state.specs.declared.left.MadeBy.{MadeBy}
use Rattle.walk_makes.proofs.makes.made_by.Goals as goal

pub returns : goal.returns
returns c = λ files name m are found.
    let e = c.in_ok-by.ensures in record {
      its_item = ap (λ (b : MadeBy). b.item) e;
      its_number = ap (λ (b : MadeBy). b.number) e ∙ c.in_ok-number.ensures;
      its_module = ap (λ (b : MadeBy). b.of.now) e ∙ c.in_ok-of.ensures files name m are found;
      its_params = ap (λ (b : MadeBy). b.params) e;
    }
