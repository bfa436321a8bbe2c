use Rattle.std.proofs.Common.{◌∷◌, []}
use Rattle.std.proofs.lemmas.List.{nil_from_length}
use Rattle.walk_headers.proofs.HeaderItems.{of_header, at_items}
use Rattle.walk_headers.proofs.parameters.step_header.Goals as goal

pub returns-in-Some : goal.returns-in-Some
returns-in-Some c = λ design top done here at tasks s.
    let h = of_header c.args.walk.now s in
    let p = c.in-Some.parts in
    c.step_parameter.ensures design top done here at h.under (at_items (p.0.now ∷ p.1.now) h c.in-Some.ensures.cases.0)

pub returns-in_ok-to_ports-in-None : goal.returns-in_ok-to_ports-in-None
returns-in_ok-to_ports-in-None c = λ design top done here at tasks s.
    let h = of_header c.args.walk.now s in
    c.in_ok-to_ports-in-None.ensures design top done here at h.under (at_items [] h (nil_from_length c.args.items.now c.in-None.ensures.cases))
