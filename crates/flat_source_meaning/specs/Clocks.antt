-- Clock signals (IEEE 1364-2005, 12.3 ports; one clock: this project's own): the top's input of the clock's name, and each
-- input port that is connected to a clock signal by its name alone.
use Rattle.std.specs.Prelude.{◌≡◌, ℕ, List, [], ◌∷◌, map, Some, Contains}
use Rattle.vlog_tree.specs.declared.module.Port.{Port}
use Rattle.vlog_tree.specs.declared.module.PortKind.TheVariants as port
use Rattle.vlog_tree.specs.declared.expression.Expr.TheVariants as e
use Rattle.scope_meaning.specs.Scope.{Here, At, a_variable, meaning_of, frames}
use Rattle.scope_meaning.specs.Declared.{Declared}
use Rattle.scope_meaning.specs.Overrides.{pairs}
use Rattle.scope_meaning.specs.Visits.{Visits, Making, sees, connects, a_port}

-- the ports' names in order
abbrev pub port_names : List Port → List (List ℕ)
port_names = map (λ p. p.name)

-- The least set by two rules: a scope and the name of a port of it.
pub data IsClock (vs : Visits) (clock : List ℕ) : ℕ → List ℕ → Type 0 where
  top_input : {here : Here} {at : At} {p : Port}
      → Contains vs (sees (a_port here at p)) → here.number ≡ 0 → p.kind ≡ port.Input → p.name ≡ clock → IsClock vs clock 0 clock
  handed_down : {m : Making} {p : Port} {name : List ℕ} {s : ℕ} {d : Declared}
      → Contains vs (connects m) → Contains m.of.ports p → p.kind ≡ port.Input
      → Contains (pairs (port_names m.of.ports) m.ports) (p.name, e.Name name)
      → meaning_of (frames m.here m.at) name ≡ Some (a_variable s d) → IsClock vs clock s d.name
      → IsClock vs clock m.makes p.name

-- Those of a list of which this is so, in their order. (A relation, since it asks that others are not clock signals.)
pub data Keeps {A : Type 0} (P : A → Type 0) : List A → List A → Type 0 where
  none : Keeps P [] []
  keep : {x : A} {xs ys : List A} → P x → Keeps P xs ys → Keeps P (x ∷ xs) (x ∷ ys)
  leave : {x : A} {xs ys : List A} → (P x → ⊥) → Keeps P xs ys → Keeps P (x ∷ xs) ys
