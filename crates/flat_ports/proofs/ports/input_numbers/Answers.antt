use Rattle.std.proofs.Common.{◌≡◌, ◌∙◌, ap, List}
use Rattle.std.specs.List.{filter_map}
use Rattle.std.proofs.lemmas.List.{take_all}
use Rattle.flat_source_meaning.specs.SourceCircuit.{input_number}
use Rattle.flat_ports.proofs.Numbers.{more}
use Rattle.flat_ports.proofs.ports.input_numbers.Goals as goal

pub loop-port-preserved : goal.loop-port-preserved
loop-port-preserved c = λ vars t.
    more (input_number vars) c.args.ports.now c.loop-port.port-index c.port-item.result c.loop-port.all c.in_ok-all.all c.number_of_input.result
    c.loop-port-test.true c.port-item.is (c.loop-port.invariant vars t) (c.number_of_input.ensures vars t) c.in_ok-all.ensures

pub returns : goal.returns
returns c = λ vars t.
    c.loop-port.invariant vars t ∙ ap (filter_map (input_number vars)) (take_all c.loop-port.port-index c.args.ports.now c.loop-port-test.false)
