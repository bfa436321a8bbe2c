-- A module that instantiates itself is refused there, and nothing before it is refused.
--   module m (input clk); m u (clk); endmodule
use Rattle.std.proofs.Common.{◌≡◌, ℕ, ◌||◌, false, List, [], ◌∷◌, ◌++◌, map, Some, None, refl, cond, ap, sym, ◌∙◌, codes}
use Rattle.cov_types.specs.declared.place.Place.{Place}
use Rattle.elab_types.specs.declared.elab_fault.ElabFault.TheVariants as fault
use Rattle.vlog_tree.specs.declared.expression.Expr.TheVariants as e
use Rattle.vlog_tree.specs.declared.item.Conns.TheVariants as conns
use Rattle.vlog_tree.specs.declared.item.Instance.{Instance}
use Rattle.vlog_tree.specs.declared.item.Item.{Item, out-roll-Item, fold-roll-Item}
use Rattle.vlog_tree.specs.declared.item.ItemKind.{ItemKind, fold-ItemKind, fold-roll-ItemKind}
use Rattle.vlog_tree.specs.declared.item.ItemKind.TheVariants as i
use Rattle.vlog_tree.specs.declared.item.ItemKind.TheOpen as o
use Rattle.vlog_tree.specs.declared.module.Module.{Module}
use Rattle.vlog_tree.specs.declared.module.Port.{Port}
use Rattle.vlog_tree.specs.declared.module.PortKind.TheVariants as port
use Rattle.vlog_tree.specs.Trees.{item, layer, item_place}
use Rattle.scope_meaning.specs.Declared.{Declared, declare, scope_name, declares, kind_declares, block_names, is_region}
use Rattle.scope_meaning.specs.Scope.{Here, At}
use Rattle.scope_meaning.specs.Overrides.{parameters_of, kind_parameters, are_bad}
use Rattle.scope_meaning.specs.Heads.{module_named, module_from}
use Rattle.scope_meaning.specs.Visits.{enters, sees, an_item, a_port, module_scope, past_header, start, ports_seen}
use Rattle.scope_meaning.specs.Standing.{Standing, standing_item}
use Rattle.scope_meaning.specs.ScopeRules.{refusal, refusal_at, first_of, bad_override, recursive}
use Rattle.scope_meaning.specs.Walk.{entered_module, no_more, ends_inside, comes_to}
use Rattle.scope_meaning.specs.ScopeTrees.{Files, IsFirstRefusal, IsFirstFault, second_name}
use Rattle.scope_meaning.proofs.ItemEquations.{layer-item, declares-item, kind_says}

abbrev at : ℕ → Place
at column = record { file = 0; line = 1; column = column }

abbrev clk : Port
clk = record { place = at 11; kind = port.Input; signed = false; range = None; name_place = at 17; name = codes "clk" }

abbrev made : List Instance
made = record { name = record { place = at 25; name = codes "u" }; ports = conns.Ordered (e.Name (codes "clk") ∷ []) } ∷ []

abbrev what : ItemKind
what = i.Instances (codes "m") (conns.Ordered []) made

abbrev itself : Item
itself = item (at 23) what

abbrev m : Module
m = record { place = at 1; last = at 34; name = codes "m"; params = []; ports = clk ∷ []; items = itself ∷ [] }

abbrev design : List Module
design = m ∷ []

abbrev files : Files
files = record { modules = design; pragmas = [] } ∷ []

abbrev scope : Here
scope = module_scope 0 (codes "m") [] [] 0 m

abbrev place : At
place = past_header (start 0 0) (clk ∷ [])

its_name : declares itself ≡ declare scope_name (codes "u") ∷ []
its_name =
    declares-item (at 23) what ∙ ap kind_says (sym (i.rolls-Instances (codes "m") (conns.Ordered []) made))
    ∙ fold-roll-ItemKind (List Declared) (List (List ℕ)) (List (List ℕ)) (List Declared) kind_declares (λ arm. arm.body) (λ body. block_names body.name)
    (λ a. a.what)
    (o.Instances (codes "m") (conns.Ordered []) made)

its_layer : layer itself ≡ o.Instances (codes "m") (conns.Ordered []) made
its_layer = layer-item (at 23) what ∙ i.outs-Instances (codes "m") (conns.Ordered []) made

its_place : item_place itself ≡ at 23
its_place = ap (λ x. x.place) (out-roll-Item (record { place = at 23; what = what }))

-- It has no parameters, so nothing is given to one.
no_parameters : parameters_of itself ≡ []
no_parameters =
    fold-roll-Item (List (List ℕ)) (List (List ℕ)) (List (List ℕ)) (List (List ℕ)) kind_parameters (λ arm. []) (λ body. []) (λ a. a.what)
    (record { place = at 23; what = what })
    ∙ ap (fold-ItemKind (List (List ℕ)) (List (List ℕ)) (List (List ℕ)) (List (List ℕ)) kind_parameters (λ arm. []) (λ body. []) (λ a. a.what))
    (sym (i.rolls-Instances (codes "m") (conns.Ordered []) made))
    ∙ fold-roll-ItemKind (List (List ℕ)) (List (List ℕ)) (List (List ℕ)) (List (List ℕ)) kind_parameters (λ arm. []) (λ body. []) (λ a. a.what)
    (o.Instances (codes "m") (conns.Ordered []) made)

abbrev standing_there : Standing
standing_there = standing_item scope place (at 23) (codes "u" ∷ []) (o.Instances (codes "m") (conns.Ordered []) made)

last_rules : refusal_at design standing_there ≡ Some (fault.Recursive (at 23))
unfolding module_from
last_rules = ap (λ (ns : List (List ℕ)). first_of standing_there (cond (are_bad (ns
    ++ []) (conns.Ordered []) || false) (Some bad_override) (Some recursive))) no_parameters

refused : refusal design (sees (an_item scope place itself)) ≡ Some (fault.Recursive (at 23))
unfolding module_from
refused =
    ap (λ p. refusal_at design (standing_item scope place p (map (λ d. d.name) (declares itself)) (layer itself))) its_place
    ∙ ap (λ ds. refusal_at design (standing_item scope place (at 23) (map (λ (d : Declared). d.name) ds) (layer itself))) its_name
    ∙ ap (λ l. refusal_at design (standing_item scope place (at 23) (codes "u" ∷ []) l)) its_layer
    ∙ last_rules

found : module_named design (codes "m") ≡ Some (0, m)
unfolding module_from
found = refl

first : IsFirstRefusal design (codes "m") (fault.Recursive (at 23))
unfolding ports_seen
first = record {
  before = enters (record { number = 0; parent = None; path = codes "m"; module_number = 0; home = 0 }) ∷ sees (a_port scope (start 0 0) clk) ∷ [];
  at = sees (an_item scope place itself);
  after = [];
  whole = false;
  walk = record { number = 0; top_module = m; next = 1; found = found; walked = entered_module no_more (ends_inside (comes_to (ap is_region its_layer))) };
  calm = refl;
  refused = refused;
}

-- `m.v:1:23: Recursive`
answer : IsFirstFault files (codes "m") (fault.Recursive (at 23))
unfolding second_name module_from
answer = first
