-- A module with a parameter, instantiated three times: by default, and with a value by name.
--   module s #(parameter W = 1) (input clk); always @(posedge clk) ; endmodule
--   module top (input clk); s u1 (.clk(clk)); s u2 (clk); s #(.W(2)) u3 (.clk(clk)); endmodule
use Rattle.std.proofs.Common.{◌≡◌, ℕ, ◌+◌, true, false, List, [], ◌∷◌, ◌++◌, Option, Some, None, refl, ap, sym, ◌∙◌, codes, subst}
use Rattle.std.specs.List.{filter_map, filter}
use Rattle.std.specs.Fmt.{digits}
use Rattle.cov_types.specs.declared.place.Place.{Place}
use Rattle.vlog_tree.specs.declared.expression.Expr.{Expr}
use Rattle.vlog_tree.specs.declared.expression.Expr.TheVariants as e
use Rattle.vlog_tree.specs.declared.statement.StmtKind.TheVariants as st
use Rattle.vlog_tree.specs.declared.item.ParamForm.TheVariants as form
use Rattle.vlog_tree.specs.declared.item.ParamName.{ParamName}
use Rattle.vlog_tree.specs.declared.item.NamePlace.{NamePlace}
use Rattle.vlog_tree.specs.declared.item.Conns.{Conns}
use Rattle.vlog_tree.specs.declared.item.Conns.TheVariants as conns
use Rattle.vlog_tree.specs.declared.item.Instance.{Instance}
use Rattle.vlog_tree.specs.declared.item.Item.{Item}
use Rattle.vlog_tree.specs.declared.item.ItemKind.TheVariants.{outs-Always}
use Rattle.vlog_tree.specs.declared.item.ItemKind.TheVariants as i
use Rattle.vlog_tree.specs.declared.item.ItemKind.TheOpen as o
use Rattle.vlog_tree.specs.declared.module.Module.{Module}
use Rattle.vlog_tree.specs.declared.module.Port.{Port}
use Rattle.vlog_tree.specs.declared.module.PortKind.TheVariants as port
use Rattle.vlog_tree.specs.Trees.{item, stmt, layer, item_place}
use Rattle.scope_meaning.specs.Constants.{Constant, Names, constants, Read, meaning_in, option_of, and_then}
use Rattle.scope_meaning.specs.Declared.{is_plain, is_in}
use Rattle.scope_meaning.specs.Scope.{Here, At, Given}
use Rattle.scope_meaning.specs.Overrides.{givens, given_of, parameters, pairs, in_order, are_bad}
use Rattle.scope_meaning.specs.Heads.{names_here, module_named, module_from, declared_constants, constants_of, constants_from}
use Rattle.scope_meaning.specs.BlockNames.{inside, module_text}
use Rattle.scope_meaning.specs.Visits.{Visits, Entry, past, with_next, made_at, past_header, module_scope, start, ports_seen}
use Rattle.scope_meaning.specs.Walk.{IsModule, entered_module, header, no_more, goes_on, no_items, IsWalked, plain, instances, AreMade, made, none_left}
use Rattle.scope_meaning.specs.ScopeTrees.{IsWalkOf, entry_of, constants_in, text_of}
use Rattle.scope_meaning.specs.Ranges.{parameter_constant}
use Rattle.scope_meaning.specs.Constants.{and_then}
use Rattle.source_meaning.specs.Meaning.{by_itself}
use Rattle.circuit_run.specs.States.{State}
use Rattle.scope_meaning.proofs.Equations.{read-Number}
use Rattle.scope_meaning.proofs.ItemEquations.{parameters-Parameter, layer-item, by_layer}

abbrev at : ℕ → ℕ → Place
at line column = record { file = 0; line = line; column = column }

abbrev name_at : List ℕ → ℕ → ℕ → NamePlace
name_at n line column = record { place = at line column; name = n }

abbrev number : ℕ → Expr
number n = e.Number 32 true n 0

abbrev w_is_1 : List ParamName
w_is_1 = record { name = name_at (codes "W") 1 23; value = number 1 } ∷ []

abbrev clk : Port
clk = record { place = at 1 33; kind = port.Input; signed = false; range = None; name_place = at 1 39; name = codes "clk" }

abbrev always : Item
always = item (at 1 45) (i.Always (Some (codes "clk")) (stmt (at 1 68) st.Empty))

abbrev s : Module
s = record {
  place = at 1 1;
  last = at 1 70;
  name = codes "s";
  params = item (at 1 13) (i.Parameter false form.Plain w_is_1) ∷ [];
  ports = clk ∷ [];
  items =
      always ∷ [];
}

abbrev by_name : Conns
by_name = conns.Named (record { name = codes "clk"; value = Some (e.Name (codes "clk")) } ∷ [])

abbrev in_place : Conns
in_place = conns.Ordered (e.Name (codes "clk") ∷ [])

abbrev w_by_name : Conns
w_by_name = conns.Named (record { name = codes "W"; value = Some (number 2) } ∷ [])

abbrev w_in_place : Conns
w_in_place = conns.Ordered (number 2 ∷ [])

abbrev no_values : Conns
no_values = conns.Ordered []

abbrev one_of : Place → Conns → List ℕ → Conns → Item
one_of p params n ports = item p (i.Instances (codes "s") params (record { name = record { place = p; name = n }; ports = ports } ∷ []))

abbrev top : Module
top = record {
  place = at 2 1;
  last = at 2 90;
  name = codes "top";
  params = [];
  ports = clk ∷ [];
  items = one_of (at 2 25) no_values (codes "u1") by_name ∷ one_of (at 2 42) no_values (codes "u2") in_place ∷ one_of (at 2 55) w_by_name (codes "u3")
      by_name ∷ [];
}

abbrev design : List Module
design = s ∷ top ∷ []

-- ---- values for parameters

its_parameters : parameters s ≡ codes "W" ∷ []
its_parameters = ap (λ (ns : List (List ℕ)). ns ++ []) (parameters-Parameter (at 1 13) form.Plain w_is_1)

-- by name and by order they pair the same
pairs_by_name : pairs (codes "W" ∷ []) w_by_name ≡ (codes "W", number 2) ∷ []
pairs_by_name = refl

pairs_in_order : pairs (codes "W" ∷ []) w_in_place ≡ (codes "W", number 2) ∷ []
pairs_in_order = refl

too_many : are_bad (codes "W" ∷ []) (conns.Ordered (number 2 ∷ number 3 ∷ [])) ≡ true
too_many = refl

names_none : are_bad (codes "W" ∷ []) (conns.Named (record { name = codes "V"; value = None } ∷ [])) ≡ true
names_none = refl

abbrev two : Given
two = record { name = codes "W"; value = record (by_itself 32 true true (λ (s : State). 2)) { free = 0 } }

abbrev given_two : Read → List Given
given_two r = filter_map (λ (n : List ℕ). option_of (λ v. record { name = n; value = v }) (meaning_in r)) (codes "W" ∷ [])

given_none : (names : Names) → givens names s no_values ≡ []
given_none names = rw its_parameters refl

given_by_name : (names : Names) → givens names s w_by_name ≡ two ∷ []
given_by_name names = ap given_two (read-Number (constants names) 32 true 2 0)

given_in_order : (names : Names) → givens names s w_in_place ≡ two ∷ []
given_in_order names =
    ap (λ (ns : List (List ℕ)). filter_map (given_of names) (in_order ns (number 2 ∷ []))) its_parameters
    ∙ ap given_two (read-Number (constants names) 32 true 2 0)

-- ---- the walk

abbrev w_const : ℕ → Constant
w_const n = record { name = codes "W"; width = 32; signed = true; bits = n }

abbrev s_scope : ℕ → List ℕ → List (List ℕ) → List Given → Here
s_scope n path above given = module_scope n path above given 0 s

by_default : (n : ℕ) (path : List ℕ) (above : List (List ℕ))
    → constants_of (s_scope n path above []) (start n 0) false form.Plain w_is_1 ≡ Some (w_const 1 ∷ [])
unfolding constants_from
by_default n path above =
    let names : Names = names_here (s_scope n path above []) (start n 0) in
    ap (λ (r : Read). and_then (and_then (meaning_in r) (λ v. parameter_constant names (codes "W") v form.Plain)) (λ c. Some (c ∷ [])))
    (read-Number (constants names) 32 true 1 0)

when_given : (n : ℕ) (path : List ℕ) (above : List (List ℕ))
    → constants_of (s_scope n path above (two ∷ [])) (start n 0) false form.Plain w_is_1 ≡ Some (w_const 2 ∷ [])
unfolding constants_from
when_given n path above = refl

plain_always : is_plain (layer always) ≡ true
plain_always =
    ap is_plain (layer-item (at 1 45) (i.Always (Some (codes "clk")) (stmt (at 1 68) st.Empty)) ∙ i.outs-Always (Some (codes "clk")) (stmt (at 1 68) st.Empty))

header_item : layer (item (at 1 13) (i.Parameter false form.Plain w_is_1)) ≡ o.Parameter false form.Plain w_is_1
header_item = layer-item (at 1 13) (i.Parameter false form.Plain w_is_1) ∙ i.outs-Parameter false form.Plain w_is_1

s_made : (n : ℕ) (parent : Option ℕ) (path : List ℕ) (above : List (List ℕ)) (given : List Given) (cs : List Constant)
    → constants_of (s_scope n path above given) (start n 0) false form.Plain w_is_1 ≡ Some cs
    → (vs : Visits) × IsModule design n parent path above given 0 s vs (n + 1) true
s_made n parent path above given cs e = (
  _,
  entered_module (header (ap (declared_constants (s_scope n path above given) (start n 0)) header_item
      ∙ e) no_more) (goes_on (plain plain_always) no_items),
)

-- an item that makes one instance of `s`, given these values and so having these constants
abbrev behind : At → Item → At
behind a x = with_next (past a x []) (a.next + 1)

instance_item : (p : Place) (params : Conns) (n : List ℕ) (ports : Conns)
    → layer (one_of p params n ports) ≡ o.Instances (codes "s") params (record { name = record { place = p; name = n }; ports = ports } ∷ [])
instance_item p params n ports =
    layer-item p (i.Instances (codes "s") params (record { name = record { place = p; name = n }; ports = ports } ∷ []))
    ∙ i.outs-Instances (codes "s") params (record { name = record { place = p; name = n }; ports = ports } ∷ [])

found_s : module_named design (codes "s") ≡ Some (0, s)
unfolding module_from
found_s = refl

item_walked : (here : Here) (a : At) (p : Place) (params : Conns) (n : List ℕ) (ports : Conns) (g : List Given) (cs : List Constant)
    → givens (names_here here a) s params ≡ g
    → constants_of (s_scope a.next (inside here.path n) here.above g) (start a.next 0) false form.Plain w_is_1 ≡ Some cs
    → (vs : Visits) × IsWalked design here a (one_of p params n ports) (layer (one_of p params n ports)) vs (behind a (one_of p params n ports)) true
item_walked here a p params n ports g cs is_given e =
    let m = s_made a.next (Some here.number) (inside here.path n) here.above g cs e in
    let one : Instance = record { name = record { place = p; name = n }; ports = ports } in
    let q : Place = item_place (one_of p params n ports) in (
      _,
      by_layer (instance_item p params n ports) (instances found_s
          (subst (λ (x : List Given). AreMade design here a q 0 s x a.next (one ∷ []) (made_at here a q a.next s one ++ m.0
          ++ []) (a.next + 1) true) (sym is_given)
          (made m.1 none_left))),
    )

abbrev top_scope : Here
top_scope = module_scope 0 (codes "top") [] [] 1 top

abbrev first_place : At
first_place = past_header (start 0 0) (clk ∷ [])

abbrev u1 : Item
u1 = one_of (at 2 25) no_values (codes "u1") by_name

abbrev u2 : Item
u2 = one_of (at 2 42) no_values (codes "u2") in_place

walked1 : (vs : Visits) × IsWalked design top_scope first_place u1 (layer u1) vs (behind first_place u1) true
walked1 = item_walked top_scope first_place (at 2 25) no_values (codes "u1") by_name [] (w_const 1 ∷ []) (given_none (names_here top_scope first_place))
    (by_default 1 _ top_scope.above)

walked2 : (vs : Visits) × IsWalked design top_scope (behind first_place u1) u2 (layer u2) vs (behind (behind first_place u1) u2) true
walked2 = item_walked top_scope (behind first_place u1) (at 2 42) no_values (codes "u2") in_place [] (w_const 1 ∷ [])
    (given_none (names_here top_scope (behind first_place u1))) (by_default 2 _ top_scope.above)

abbrev u3 : Item
u3 = one_of (at 2 55) w_by_name (codes "u3") by_name

abbrev third_place : At
third_place = behind (behind first_place u1) u2

walked3 : (vs : Visits) × IsWalked design top_scope third_place u3 (layer u3) vs (behind third_place u3) true
walked3 = item_walked top_scope third_place (at 2 55) w_by_name (codes "u3") by_name (two ∷ []) (w_const 2 ∷ [])
    (given_by_name (names_here top_scope third_place)) (when_given 3 _ top_scope.above)

found_top : module_named design (codes "top") ≡ Some (1, top)
unfolding module_from
found_top = refl

walk : (vs : Visits) × IsWalkOf design (codes "top") vs true
walk = (
  _,
  record {
    number = 1;
    top_module = top;
    next = 4;
    found = found_top;
    walked = entered_module no_more (goes_on walked1.1 (goes_on walked2.1 (goes_on walked3.1 no_items)));
  },
)

-- The scopes in walk order, with their numbers, parents, paths and modules.
abbrev line : ℕ → Option ℕ → List ℕ → ℕ → Entry
line n parent path m = record { number = n; parent = parent; path = path; module_number = m; home = n }

scopes_in_order : filter_map entry_of walk.0 ≡
    line 0 None (codes "top") 1
    ∷ line 1 (Some 0) (codes "top.u1") 0
    ∷ line 2 (Some 0) (codes "top.u2") 0
    ∷ line 3 (Some 0) (codes "top.u3") 0
    ∷ []
unfolding walk walked1 walked2 walked3 item_walked s_made ports_seen
scopes_in_order = refl

-- Two of them have the default, the third the value that it is given.
values : (constants_in 1 walk.0 ≡ w_const 1 ∷ []) × (constants_in 2 walk.0 ≡ w_const 1 ∷ []) × (constants_in 3 walk.0 ≡ w_const 2 ∷ [])
unfolding walk walked1 walked2 walked3 item_walked s_made ports_seen
values = (refl, refl, refl)

text_of_third : text_of (Some s) (w_const 2 ∷ []) ≡ codes "s#(W=32'sh2)"
unfolding digits
text_of_third = ap (λ (ns : List (List ℕ)). module_text (codes "s") (filter (λ c. is_in c.name ns) (w_const 2 ∷ []))) its_parameters
