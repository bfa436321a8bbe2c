-- A generate loop of four passes.
--   module r (input [3:0] a, input ci, output co); wire [4:0] c; assign c[0] = ci; genvar i;
--   generate for (i = 0; i < 4; i = i + 1) begin : g assign c[i+1] = a[i] & c[i]; end endgenerate assign co = c[4]; endmodule
use Rattle.std.proofs.Common.{◌≡◌, ℕ, ◌+◌, true, false, List, [], ◌∷◌, ◌++◌, map, Option, Some, None, refl, ap, ◌∙◌, codes, pos, ℤ}
use Rattle.std.specs.List.{filter_map}
use Rattle.std.specs.Fmt.{digits}
use Rattle.bit_values.specs.Values as v
use Rattle.cov_types.specs.declared.place.Place.{Place}
use Rattle.vlog_tree.specs.declared.expression.Expr.{Expr}
use Rattle.vlog_tree.specs.declared.expression.Expr.TheVariants as e
use Rattle.vlog_tree.specs.declared.expression.RangeExpr.{RangeExpr}
use Rattle.vlog_tree.specs.declared.expression.Select.TheVariants as sel
use Rattle.vlog_tree.specs.declared.operator.BinaryOp.{BinaryOp}
use Rattle.vlog_tree.specs.declared.operator.BinaryOp.TheVariants as binary
use Rattle.vlog_tree.specs.declared.item.NamePlace.{NamePlace}
use Rattle.vlog_tree.specs.declared.item.WireName.{WireName}
use Rattle.vlog_tree.specs.declared.item.Item.{Item}
use Rattle.vlog_tree.specs.declared.item.ItemKind.{ItemKind, out-ItemKind}
use Rattle.vlog_tree.specs.declared.item.ItemKind.TheVariants as i
use Rattle.vlog_tree.specs.declared.item.ItemKind.TheOpen as o
use Rattle.vlog_tree.specs.declared.module.Module.{Module}
use Rattle.vlog_tree.specs.declared.module.Port.{Port}
use Rattle.vlog_tree.specs.declared.module.PortKind.{PortKind}
use Rattle.vlog_tree.specs.declared.module.PortKind.TheVariants as port
use Rattle.vlog_tree.specs.Trees.{item, layer, item_place}
use Rattle.vlog_tree.specs.declared.expression.Expr.TheOpen as lo
use Rattle.source_meaning.specs.Meaning.{holds}
use Rattle.scope_meaning.specs.Constants.{Constant, constants, Read, node, meaning_in, option_of}
use Rattle.scope_meaning.specs.Declared.{Declared, declare, input, output_wire, wire, genvar, scope_name, declares, module_declares, is_plain}
use Rattle.scope_meaning.specs.Scope.{Here, At, Frame, meaning_of, constants_at, genvar_constant, with_genvar}
use Rattle.scope_meaning.specs.Ranges.{assigned}
use Rattle.scope_meaning.specs.BlockNames.{pass_name}
use Rattle.scope_meaning.specs.Heads.{names_here, names_in_pass, module_named, module_from, test_of, genvar_value, GenLoop}
use Rattle.scope_meaning.specs.Visits.{Visits, Entry, past, with_next, module_scope, ports_seen}
use Rattle.scope_meaning.specs.Walk.{entered_module, no_more, goes_on, no_items, IsWalked, plain, region, loop, ArePasses, pass, last_test, IsBlock, block}
use Rattle.scope_meaning.specs.ScopeTrees.{IsWalkOf, entry_of, constants_in}
use Rattle.scope_meaning.proofs.Equations.{read-Number, of_name, with_number}
use Rattle.scope_meaning.proofs.ItemEquations.{layer-item, by_layer, declares-item, says-Wire, says-Genvar, says-Assign, says-Generate, says-Loop}

abbrev at : ℕ → ℕ → Place
at line column = record { file = 0; line = line; column = column }

abbrev name_at : List ℕ → ℕ → ℕ → NamePlace
name_at n line column = record { place = at line column; name = n }

abbrev number : ℕ → Expr
number n = e.Number 32 true n 0

abbrev name : List ℕ → Expr
name n = e.Name n

abbrev bit : List ℕ → Expr → Expr
bit n x = e.Select (name n) (sel.At x)

abbrev assign : Place → Expr → Expr → Item
assign p target value = item p (i.Assign (record { target = target; value = value } ∷ []))

abbrev a_port : PortKind → Option RangeExpr → List ℕ → ℕ → ℕ → Port
a_port kind range n first column = record { place = at 1 first; kind = kind; signed = false; range = range; name_place = at 1 column; name = n }

abbrev ports : List Port
ports =
    a_port port.Input (Some (record { high = number 3; low = number 0 })) (codes "a") 11 23
    ∷ a_port port.Input None (codes "ci") 26 32
    ∷ a_port port.OutputWire None (codes "co") 36 43
    ∷ []

abbrev plus_1 : Expr
plus_1 = e.Binary binary.Add (name (codes "i")) (number 1)

abbrev below_4 : Expr
below_4 = e.Binary binary.Less (name (codes "i")) (number 4)

abbrev body : List Item
body = assign (at 2 51) (bit (codes "c") plus_1) (e.Binary binary.And (bit (codes "a") (name (codes "i"))) (bit (codes "c") (name (codes "i")))) ∷ []

abbrev head : GenLoop
head = record {
  name = codes "i";
  from = number 0;
  test = below_4;
  step_name = codes "i";
  step = plus_1;
  block = name_at (codes "g") 2 49;
  places = record { begin = at 2 43; end = at 2 81 };
  body = body;
}

abbrev the_loop : Item
the_loop = item (at 2 10) (i.Loop head.name head.from head.test head.step_name head.step head.block head.places head.body)

abbrev wires : List WireName
wires = record { name = name_at (codes "c") 1 58; value = None } ∷ []

abbrev c_range : Option RangeExpr
c_range = Some (record { high = number 4; low = number 0 })

abbrev items : List Item
items =
    item (at 1 47) (i.Wire false c_range wires)
    ∷ assign (at 1 61) (bit (codes "c") (number 0)) (name (codes "ci"))
    ∷ item (at 1 78) (i.Genvar (name_at (codes "i") 1 85 ∷ []))
    ∷ item (at 2 1) (i.Generate (the_loop ∷ []))
    ∷ assign (at 2 97) (name (codes "co")) (bit (codes "c") (number 4))
    ∷ []

abbrev r : Module
r = record { place = at 1 1; last = at 2 115; name = codes "r"; params = []; ports = ports; items = items }

-- ---- its names

abbrev its_names : List Declared
its_names =
    declare input (codes "a") ∷ declare input (codes "ci") ∷ declare output_wire (codes "co") ∷ declare wire (codes "c")
    ∷ declare genvar (codes "i") ∷ declare scope_name (codes "g") ∷ []

abbrev of_assign : (p : Place) (target value : Expr) → declares (assign p target value) ≡ []
of_assign p target value = declares-item p (i.Assign (record { target = target; value = value } ∷ []))
    ∙ says-Assign (record { target = target; value = value } ∷ [])

of_loop : declares the_loop ≡ declare scope_name (codes "g") ∷ []
of_loop =
    declares-item (at 2 10) (i.Loop head.name head.from head.test head.step_name head.step head.block head.places head.body)
    ∙ says-Loop head.name head.from head.test head.step_name head.step head.block head.places head.body

of_region : declares (item (at 2 1) (i.Generate (the_loop ∷ []))) ≡ declare scope_name (codes "g") ∷ []
of_region =
    declares-item (at 2 1) (i.Generate (the_loop ∷ [])) ∙ says-Generate (the_loop ∷ [])
    ∙ ap (λ (ds : List Declared). ds ++ []) of_loop

of_wires : declares (item (at 1 47) (i.Wire false c_range wires)) ≡ declare wire (codes "c") ∷ []
of_wires = declares-item (at 1 47) (i.Wire false c_range wires) ∙ says-Wire false c_range wires

of_genvar : declares (item (at 1 78) (i.Genvar (name_at (codes "i") 1 85 ∷ []))) ≡ declare genvar (codes "i") ∷ []
of_genvar = declares-item (at 1 78) (i.Genvar (name_at (codes "i") 1 85 ∷ [])) ∙ says-Genvar (name_at (codes "i") 1 85 ∷ [])

abbrev five : List Declared → List Declared → List Declared → List Declared → List Declared → List Declared
five a b c d f = declare input (codes "a") ∷ declare input (codes "ci") ∷ declare output_wire (codes "co") ∷ (a ++ (b ++ (c ++ (d ++ (f ++ [])))))

declared : module_declares r ≡ its_names
declared =
    ap (λ x. five x (declares (assign (at 1 61) (bit (codes "c") (number 0)) (name (codes "ci"))))
    (declares (item (at 1 78) (i.Genvar (name_at (codes "i") 1 85 ∷ []))))
    (declares (item (at 2 1) (i.Generate (the_loop ∷ [])))) (declares (assign (at 2 97) (name (codes "co")) (bit (codes "c") (number 4))))) of_wires
    ∙ ap (λ x. five (declare wire (codes "c") ∷ []) x (declares (item (at 1 78) (i.Genvar (name_at (codes "i") 1 85 ∷ []))))
    (declares (item (at 2 1) (i.Generate (the_loop ∷ [])))) (declares (assign (at 2 97) (name (codes "co")) (bit (codes "c") (number 4)))))
    (of_assign (at 1 61) (bit (codes "c") (number 0)) (name (codes "ci")))
    ∙ ap (λ x. five (declare wire (codes "c") ∷ []) [] x
    (declares (item (at 2 1) (i.Generate (the_loop ∷ [])))) (declares (assign (at 2 97) (name (codes "co")) (bit (codes "c") (number 4))))) of_genvar
    ∙ ap (λ x. five (declare wire (codes "c") ∷ []) [] (declare genvar (codes "i") ∷ []) x
    (declares (assign (at 2 97) (name (codes "co")) (bit (codes "c") (number 4))))) of_region
    ∙ ap (λ x. five (declare wire (codes "c") ∷ []) [] (declare genvar (codes "i") ∷ []) (declare scope_name (codes "g") ∷ []) x)
    (of_assign (at 2 97) (name (codes "co")) (bit (codes "c") (number 4)))

-- ---- the head of the loop

abbrev scope : Here
scope = module_scope 0 (codes "r") [] [] 0 r

abbrev frame : List Declared → List Constant → Frame
frame ds known = record { number = 0; declared = ds; genvar = None; known = known }

-- In a pass the genvar has its value.
abbrev in_pass_of : List Declared → List Constant → ℤ → Option Constant
in_pass_of ds known n = constants_at (with_genvar (codes "i") n (frame ds known ∷ [])) (codes "i")

has_value : (a : At) (n : ℤ) → names_in_pass scope a (codes "i") n (codes "i") ≡ Some (genvar_constant (codes "i") n)
unfolding meaning_of
has_value a n = ap (λ ds. in_pass_of ds a.known n) declared

abbrev said : BinaryOp → ℤ → ℕ → Read
said op n k = node (constants (λ (x : List ℕ). None))
    (lo.Binary op (of_name (Some (genvar_constant (codes "i") n))) (node (constants (λ (x : List ℕ). None)) (lo.Number 32 true k 0)))

tests : (a : At) (n : ℤ) → test_of (names_in_pass scope a (codes "i") n) below_4 ≡ option_of (λ m. holds m []) (meaning_in (said binary.Less n 4))
tests a n = ap (λ (x : Read). option_of (λ m. holds m []) (meaning_in x))
    (with_number (names_in_pass scope a (codes "i") n) binary.Less (codes "i") (Some (genvar_constant (codes "i") n)) 32 true 4 (has_value a n))

steps : (a : At) (n : ℤ) → genvar_value (names_in_pass scope a (codes "i") n) plus_1
    ≡ option_of (λ m. v.signed 32 (assigned 32 m)) (meaning_in (said binary.Add n 1))
steps a n = ap (λ (x : Read). option_of (λ m. v.signed 32 (assigned 32 m)) (meaning_in x))
    (with_number (names_in_pass scope a (codes "i") n) binary.Add (codes "i") (Some (genvar_constant (codes "i") n)) 32 true 1 (has_value a n))

test_3 : (a : At) → test_of (names_in_pass scope a (codes "i") (pos 3)) below_4 ≡ Some true
test_3 a = tests a (pos 3)

test_4 : (a : At) → test_of (names_in_pass scope a (codes "i") (pos 4)) below_4 ≡ Some false
test_4 a = tests a (pos 4)

step_3 : (a : At) → genvar_value (names_in_pass scope a (codes "i") (pos 3)) plus_1 ≡ Some (pos 4)
step_3 a = steps a (pos 3)

-- ---- the walk

abbrev design : List Module
design = r ∷ []

plain_item : (p : Place) (what : ItemKind) → is_plain (out-ItemKind what) ≡ true → is_plain (layer (item p what)) ≡ true
plain_item p what e = ap is_plain (layer-item p what) ∙ e

plain_assign : (p : Place) (target value : Expr) → is_plain (layer (assign p target value)) ≡ true
plain_assign p target value = plain_item p (i.Assign (record { target = target; value = value } ∷ []))
    (ap is_plain (i.outs-Assign (record { target = target; value = value } ∷ [])))

one_block : (a : At) (n : ℤ)
    → (vs : Visits) × IsBlock design scope a (pass_name (codes "g") n) (Some (genvar_constant (codes "i") n)) (a.item + 1) body vs (a.next + 1) true
one_block a n = (
  _,
  block (goes_on
      (plain (plain_assign (at 2 51) (bit (codes "c") plus_1) (e.Binary binary.And (bit (codes "a") (name (codes "i"))) (bit (codes "c") (name (codes "i"))))))
      no_items),
)

abbrev after : At → At
after a = with_next a (a.next + 1)

loop_layer : layer the_loop ≡ o.Loop head.name head.from head.test head.step_name head.step head.block head.places head.body
loop_layer =
    layer-item (at 2 10) (i.Loop head.name head.from head.test head.step_name head.step head.block head.places head.body)
    ∙ i.outs-Loop head.name head.from head.test head.step_name head.step head.block head.places head.body

region_layer : layer (item (at 2 1) (i.Generate (the_loop ∷ []))) ≡ o.Generate (the_loop ∷ [])
region_layer = layer-item (at 2 1) (i.Generate (the_loop ∷ [])) ∙ i.outs-Generate (the_loop ∷ [])

abbrev Passes : At → ℤ → ℕ → Type 0
Passes a n next = (vs : Visits) × ArePasses design scope (item_place the_loop) head a n vs next true

from_4 : (a : At) → Passes a (pos 4) a.next
from_4 a = (_, last_test (test_4 a))

from_3 : (a : At) → Passes a (pos 3) (a.next + 1)
from_3 a = (_, pass (test_3 a) (one_block a (pos 3)).1 (step_3 a) (from_4 (after a)).1)

from_2 : (a : At) → Passes a (pos 2) (a.next + 1 + 1)
from_2 a = (_, pass (tests a (pos 2)) (one_block a (pos 2)).1 (steps a (pos 2)) (from_3 (after a)).1)

from_1 : (a : At) → Passes a (pos 1) (a.next + 1 + 1 + 1)
from_1 a = (_, pass (tests a (pos 1)) (one_block a (pos 1)).1 (steps a (pos 1)) (from_2 (after a)).1)

from_0 : (a : At) → Passes a (pos 0) (a.next + 1 + 1 + 1 + 1)
from_0 a = (_, pass (tests a (pos 0)) (one_block a (pos 0)).1 (steps a (pos 0)) (from_1 (after a)).1)

first_value : (a : At) → genvar_value (names_here scope a) (number 0) ≡ Some (pos 0)
first_value a = ap (λ (x : Read). option_of (λ m. v.signed 32 (assigned 32 m)) (meaning_in x)) (read-Number (constants (names_here scope a)) 32 true 0 0)

whole_loop : (a : At) → (vs : Visits)
    × IsWalked design scope a the_loop (layer the_loop) vs (with_next (past a the_loop []) (a.next + 1 + 1 + 1 + 1)) true
whole_loop a = (_, by_layer loop_layer (loop (first_value a) (from_0 a).1))

found_r : module_named design (codes "r") ≡ Some (0, r)
unfolding module_from
found_r = refl

walk : (vs : Visits) × IsWalkOf design (codes "r") vs true
walk = (
  _,
  record {
    number = 0;
    top_module = r;
    next = 5;
    found = found_r;
    walked = entered_module no_more
        (goes_on (plain (plain_item (at 1 47) (i.Wire false c_range wires) (ap is_plain (i.outs-Wire false c_range wires))))
        (goes_on (plain (plain_assign (at 1 61) (bit (codes "c") (number 0)) (name (codes "ci"))))
        (goes_on (plain (plain_item (at 1 78) (i.Genvar (name_at (codes "i") 1 85 ∷ [])) (ap is_plain (i.outs-Genvar (name_at (codes "i") 1 85 ∷ [])))))
        (goes_on (by_layer region_layer (region (goes_on (whole_loop _).1 no_items)))
        (goes_on (plain (plain_assign (at 2 97) (name (codes "co")) (bit (codes "c") (number 4)))) no_items)))));
  },
)

-- Five scopes: the module and the four passes, each with the genvar's value.
abbrev short : Entry → ℕ × Option ℕ × List ℕ
short x = (x.number, x.parent, x.path)

scopes_in_order : map short (filter_map entry_of walk.0) ≡
    (0, None, codes "r") ∷ (1, Some 0, codes "r.g[0]") ∷ (2, Some 0, codes "r.g[1]") ∷ (3, Some 0, codes "r.g[2]") ∷ (4, Some 0, codes "r.g[3]") ∷ []
unfolding walk whole_loop from_0 from_1 from_2 from_3 from_4 one_block ports_seen digits
scopes_in_order = refl

genvars : (constants_in 1 walk.0 ≡ genvar_constant (codes "i") (pos 0) ∷ []) × (constants_in 4 walk.0 ≡ genvar_constant (codes "i") (pos 3) ∷ [])
unfolding walk whole_loop from_0 from_1 from_2 from_3 from_4 one_block ports_seen
genvars = (refl, refl)
