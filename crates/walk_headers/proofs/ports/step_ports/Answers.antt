use Rattle.std.proofs.Common.{◌∷◌, []}
use Rattle.std.proofs.lemmas.List.{nil_from_length}
use Rattle.walk_headers.proofs.PortRows.{of_ports, at_ports}
use Rattle.walk_headers.proofs.ports.step_ports.Goals as goal

pub returns-in-Some : goal.returns-in-Some
returns-in-Some c = λ design top done here at tasks s.
    let h = of_ports c.args.walk.now s in
    let p = c.in-Some.parts in
    c.step_port.ensures design top done here at h.under (at_ports (p.0.now ∷ p.1.now) h c.in-Some.ensures.cases.0)

pub returns-in_ok-to_body-in-None : goal.returns-in_ok-to_body-in-None
returns-in_ok-to_body-in-None c = λ design top done here at tasks s.
    let h = of_ports c.args.walk.now s in
    c.in_ok-to_body-in-None.ensures design top done here at h.under (at_ports [] h (nil_from_length c.args.ports.now c.in-None.ensures.cases))
