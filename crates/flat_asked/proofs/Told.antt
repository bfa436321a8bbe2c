-- What the code says of names is what the rules say.
use Rattle.std.proofs.Common.{◌≡◌, ◌∙◌, sym, ap, refl, subst, ℕ, Bool, true, false, not, ◌&&◌, List, [], ◌∷◌, Option, Some, None}
use Rattle.std.specs.Prelude.{◌↔◌}
use Rattle.scope_meaning.specs.Declared.{Declared, DeclaredAs, is_in}
use Rattle.scope_meaning.specs.Declared as form
use Rattle.scope_meaning.specs.Scope.{Frame, Meant, a_constant, a_genvar, a_variable, no_value, meaning_of}
use Rattle.scope_meaning.specs.Visits.{Visits}
use Rattle.scope_table.specs.declared.table.ScopeTable.{ScopeTable}
use Rattle.flat_source_meaning.specs.Clocks.{IsClock}
use Rattle.flat_source_meaning.specs.Variables.{is_loop_variable}
use Rattle.flat_source_meaning.specs.FlatRules.{has_value, a_process_writes, an_assignment_writes}
use Rattle.flat_declared.specs.declared.declared.DeclaredKind.{DeclaredKind}
use Rattle.flat_declared.specs.Kinds.{kind_seen}
use Rattle.flat_scopes.specs.declared.place.PlaceInScope.{PlaceInScope}
use Rattle.flat_scopes.specs.declared.scope.NameMeaning.{NameMeaning}
use Rattle.flat_scopes.specs.declared.scope.NameMeaning.TheVariants as means
use Rattle.flat_scopes.specs.declared.scope.SeenScope.{SeenScope}
use Rattle.flat_scopes.specs.Frames.{AreFramesAt, Means}
use Rattle.flat_scopes.specs.Meanings.{meaning_by}
use Rattle.flat_scopes.proofs.Places.{means_at}
use Rattle.flat_names.proofs.Standing.{NamedAs, meant_named}
use Rattle.flat_reach.specs.Reach.{has}
use Rattle.flat_clocks.specs.Handings.{AreClocks}
use Rattle.flat_loop_variables.specs.Turned.{AreLoopVariables}
use Rattle.flat_asked.specs.declared.asking.Asked.{Asked}
use Rattle.flat_asked.specs.declared.asking.Asked.TheVariants as ask
use Rattle.flat_asked.specs.Answers.{has_value_by, in_table, process_writes, assignment_writes, may_write_by}
use Rattle.flat_asked.specs.Asked.{answer, IsMeantClock, IsMeantLoop, writes, AsksOf}

-- ---- values

same_value : (m : Option Meant) (c : Option NameMeaning) → Means m c → has_value_by c ≡ has_value m
same_value None None h = refl
same_value None (Some (means.Constant v)) h = absurd h
same_value None (Some means.Genvar) h = absurd h
same_value None (Some (means.Variable k j)) h = absurd h
same_value None (Some means.NoValue) h = absurd h
same_value (Some (a_constant c)) None h = absurd h
same_value (Some (a_constant c)) (Some (means.Constant v)) h = refl
same_value (Some (a_constant c)) (Some means.Genvar) h = absurd h
same_value (Some (a_constant c)) (Some (means.Variable k j)) h = absurd h
same_value (Some (a_constant c)) (Some means.NoValue) h = absurd h
same_value (Some a_genvar) None h = absurd h
same_value (Some a_genvar) (Some (means.Constant v)) h = absurd h
same_value (Some a_genvar) (Some means.Genvar) h = refl
same_value (Some a_genvar) (Some (means.Variable k j)) h = absurd h
same_value (Some a_genvar) (Some means.NoValue) h = absurd h
same_value (Some (a_variable i d)) None h = absurd h
same_value (Some (a_variable i d)) (Some (means.Constant v)) h = absurd h
same_value (Some (a_variable i d)) (Some means.Genvar) h = absurd h
same_value (Some (a_variable i d)) (Some (means.Variable k j)) h = refl
same_value (Some (a_variable i d)) (Some means.NoValue) h = absurd h
same_value (Some no_value) None h = absurd h
same_value (Some no_value) (Some (means.Constant v)) h = absurd h
same_value (Some no_value) (Some means.Genvar) h = absurd h
same_value (Some no_value) (Some (means.Variable k j)) h = absurd h
same_value (Some no_value) (Some means.NoValue) h = refl

-- ---- what may be written

same_process : (k : DeclaredAs) → process_writes (kind_seen k) ≡ a_process_writes k
same_process form.input = refl
same_process form.output_wire = refl
same_process form.output_reg = refl
same_process form.wire = refl
same_process form.reg = refl
same_process form.integer = refl
same_process form.constant = refl
same_process form.genvar = refl
same_process form.scope_name = refl

same_assignment : (k : DeclaredAs) → assignment_writes (kind_seen k) ≡ an_assignment_writes k
same_assignment form.input = refl
same_assignment form.output_wire = refl
same_assignment form.output_reg = refl
same_assignment form.wire = refl
same_assignment form.reg = refl
same_assignment form.integer = refl
same_assignment form.constant = refl
same_assignment form.genvar = refl
same_assignment form.scope_name = refl

same_writes : (f : DeclaredKind → Bool) (g : DeclaredAs → Bool) → ((k : DeclaredAs) → f (kind_seen k) ≡ g k) → (m : Option Meant) (c : Option NameMeaning)
    → Means m c → may_write_by f c ≡ writes g m
same_writes f g all None None h = refl
same_writes f g all None (Some (means.Constant v)) h = absurd h
same_writes f g all None (Some means.Genvar) h = absurd h
same_writes f g all None (Some (means.Variable k j)) h = absurd h
same_writes f g all None (Some means.NoValue) h = absurd h
same_writes f g all (Some (a_constant c)) None h = absurd h
same_writes f g all (Some (a_constant c)) (Some (means.Constant v)) h = refl
same_writes f g all (Some (a_constant c)) (Some means.Genvar) h = absurd h
same_writes f g all (Some (a_constant c)) (Some (means.Variable k j)) h = absurd h
same_writes f g all (Some (a_constant c)) (Some means.NoValue) h = absurd h
same_writes f g all (Some a_genvar) None h = absurd h
same_writes f g all (Some a_genvar) (Some (means.Constant v)) h = absurd h
same_writes f g all (Some a_genvar) (Some means.Genvar) h = refl
same_writes f g all (Some a_genvar) (Some (means.Variable k j)) h = absurd h
same_writes f g all (Some a_genvar) (Some means.NoValue) h = absurd h
same_writes f g all (Some (a_variable i d)) None h = absurd h
same_writes f g all (Some (a_variable i d)) (Some (means.Constant v)) h = absurd h
same_writes f g all (Some (a_variable i d)) (Some means.Genvar) h = absurd h
same_writes f g all (Some (a_variable i d)) (Some (means.Variable k j)) h = ap f h.1 ∙ all d.kind
same_writes f g all (Some (a_variable i d)) (Some means.NoValue) h = absurd h
same_writes f g all (Some no_value) None h = absurd h
same_writes f g all (Some no_value) (Some (means.Constant v)) h = absurd h
same_writes f g all (Some no_value) (Some means.Genvar) h = absurd h
same_writes f g all (Some no_value) (Some (means.Variable k j)) h = absurd h
same_writes f g all (Some no_value) (Some means.NoValue) h = refl

-- ---- variables in a table

-- a variable that is meant
record Variable (m : Option Meant) (table : ScopeTable Unit) : Type 0 where
  s : ℕ
  d : Declared
  is : m ≡ Some (a_variable s d)
  there : has table s d.name ≡ true

found : (table : ScopeTable Unit) (name : List ℕ) (m : Option Meant) (c : Option NameMeaning) → NamedAs name m → Means m c → in_table table name c ≡ true
    → Variable m table
found table name None None n h got = cc
found table name None (Some (means.Constant v)) n h got = cc
found table name None (Some means.Genvar) n h got = cc
found table name None (Some (means.Variable k j)) n h got = absurd h
found table name None (Some means.NoValue) n h got = cc
found table name (Some (a_constant c)) None n h got = cc
found table name (Some (a_constant c)) (Some (means.Constant v)) n h got = cc
found table name (Some (a_constant c)) (Some means.Genvar) n h got = cc
found table name (Some (a_constant c)) (Some (means.Variable k j)) n h got = absurd h
found table name (Some (a_constant c)) (Some means.NoValue) n h got = cc
found table name (Some a_genvar) None n h got = cc
found table name (Some a_genvar) (Some (means.Constant v)) n h got = cc
found table name (Some a_genvar) (Some means.Genvar) n h got = cc
found table name (Some a_genvar) (Some (means.Variable k j)) n h got = absurd h
found table name (Some a_genvar) (Some means.NoValue) n h got = cc
found table name (Some (a_variable i d)) None n h got = cc
found table name (Some (a_variable i d)) (Some (means.Constant v)) n h got = cc
found table name (Some (a_variable i d)) (Some means.Genvar) n h got = cc
found table name (Some (a_variable i d)) (Some (means.Variable k j)) n h got = record { s = i; d = d; is = refl; there = ap (has table i) n ∙ ap (λ (y : ℕ). has table y name) (sym h.0) ∙ got }
found table name (Some (a_variable i d)) (Some means.NoValue) n h got = cc
found table name (Some no_value) None n h got = cc
found table name (Some no_value) (Some (means.Constant v)) n h got = cc
found table name (Some no_value) (Some means.Genvar) n h got = cc
found table name (Some no_value) (Some (means.Variable k j)) n h got = absurd h
found table name (Some no_value) (Some means.NoValue) n h got = cc

given : (table : ScopeTable Unit) (name : List ℕ) (s : ℕ) (d : Declared) (c : Option NameMeaning) → d.name ≡ name → Means (Some (a_variable s d)) c
    → has table s d.name ≡ true → in_table table name c ≡ true
given table name s d None n h got = absurd h
given table name s d (Some (means.Constant v)) n h got = absurd h
given table name s d (Some means.Genvar) n h got = absurd h
given table name s d (Some (means.Variable k j)) n h got = ap (λ (y : ℕ). has table y name) h.0 ∙ ap (has table s) (sym n) ∙ got
given table name s d (Some means.NoValue) n h got = absurd h

both_true : (a b : Bool) → (a && not b) ≡ true → (a ≡ true) × (b ≡ false)
both_true true true h = cc
both_true true false h = (refl, refl)
both_true false b h = cc

module _ (scopes : List SeenScope) (at : PlaceInScope) (clocks loops : ScopeTable Unit) (vs : Visits) (clock : List ℕ) (fs : List Frame)
    (seen : AreFramesAt scopes at fs) (are_clocks : AreClocks vs clock clocks) (are_loops : AreLoopVariables vs loops) where
  means_it : (name : List ℕ) → Means (meaning_of fs name) (meaning_by scopes at name)
  means_it name = means_at scopes at name _ refl seen

  clock_told : (name : List ℕ) → (in_table clocks name (meaning_by scopes at name) ≡ true) ↔ IsMeantClock vs clock (meaning_of fs name)
  clock_told name = (
    (λ h.
        let v = found clocks name (meaning_of fs name) (meaning_by scopes at name) (meant_named fs name) (means_it name) h in
        (v.s, v.d, v.is, (are_clocks v.s v.d.name).0 v.there)),
    (λ k.
        given clocks name k.0 k.1 (meaning_by scopes at name) (subst (NamedAs name) k.2 (meant_named fs name))
        (subst (λ (m : Option Meant). Means m (meaning_by scopes at name)) k.2 (means_it name)) ((are_clocks k.0 k.1.name).1 k.3)),
  )

  loop_told : (name : List ℕ) → (in_table loops name (meaning_by scopes at name) ≡ true) ↔ IsMeantLoop vs (meaning_of fs name)
  loop_told name = (
    (λ h.
        let v = found loops name (meaning_of fs name) (meaning_by scopes at name) (meant_named fs name) (means_it name) h in
        (v.s, v.d, v.is, sym (are_loops v.s v.d.name) ∙ v.there)),
    (λ k.
        given loops name k.0 k.1 (meaning_by scopes at name) (subst (NamedAs name) k.2 (meant_named fs name))
        (subst (λ (m : Option Meant). Means m (meaning_by scopes at name)) k.2 (means_it name)) (are_loops k.0 k.1.name ∙ k.3)),
  )

  outside_told : (turned : List (List ℕ)) (name : List ℕ)
      → ((in_table loops name (meaning_by scopes at name) && not (is_in name turned)) ≡ true)
      ↔ (IsMeantLoop vs (meaning_of fs name) × (is_in name turned ≡ false))
  outside_told turned name = (
    (λ h. let b = both_true (in_table loops name (meaning_by scopes at name)) (is_in name turned) h in ((loop_told name).0 b.0, b.1)),
    (λ k. ap (λ a. a && not (is_in name turned)) ((loop_told name).1 k.0) ∙ ap not k.1),
  )

  pub told : (turned : List (List ℕ)) (asked : Asked)
      → AsksOf vs clock fs turned asked (λ name. answer clocks loops (is_in name turned) name (meaning_by scopes at name) asked)
  told turned ask.NoValue = λ name. ap not (same_value (meaning_of fs name) (meaning_by scopes at name) (means_it name))
  told turned ask.ClockSignal = clock_told
  told turned ask.LoopVariable = loop_told
  told turned ask.OutsideItsLoops = outside_told turned
  told turned ask.NotOfProcesses = λ name.
      ap not (same_writes process_writes a_process_writes same_process (meaning_of fs name) (meaning_by scopes at name) (means_it name))
  told turned ask.NotOfAssignments = λ name.
      ap not (same_writes assignment_writes an_assignment_writes same_assignment (meaning_of fs name) (meaning_by scopes at name) (means_it name))
