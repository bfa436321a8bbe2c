-- What is gathered of the processes of a valid design.
use Rattle.std.proofs.Common.{
  ◌≡◌,
  ◌∙◌,
  sym,
  ap,
  ap₂,
  subst,
  refl,
  ℕ,
  ◌+◌,
  ◌<◌,
  ◌≤◌,
  arith,
  inl,
  inr,
  Bool,
  true,
  false,
  ◌||◌,
  List,
  [],
  ◌∷◌,
  ◌++◌,
  length,
  get_or,
  IsTrue,
}
use Rattle.std.specs.Prelude.{All}
use Rattle.std.specs.List.{list_any, list_all}
use Rattle.std.proofs.lemmas.List.{get_or_read, get_or_push, get_or_append_left, length-append}
use Rattle.std.proofs.lemmas.List.Elements.{All-get_or, All-head, All-tail}
use Rattle.std.proofs.lemmas.Bool.{cases_lt}
use Rattle.cov_types.specs.declared.var.Var.{Var}
use Rattle.design_tree.specs.declared.step.Step.{Step}
use Rattle.design_tree.specs.declared.design.Process.{Process}
use Rattle.design_tree.specs.declared.design.Design.{Design}
use Rattle.design_tree.specs.declared.instrumented.Instrumented.{Instrumented}
use Rattle.circuit_run.specs.States.{State, Bit, IsBitOf}
use Rattle.design_meaning.specs.States.{IsStateOf}
use Rattle.design_meaning.specs.Processes.{process_of, no_process}
use Rattle.design_meaning.specs.Paths.{Event, reads, sets, defers, Path, paths}
use Rattle.design_meaning.specs.Reach.{event_reads, event_drives, event_sets, event_defers}
use Rattle.design_meaning.specs.ValidVariables.{IsVariable}
use Rattle.design_meaning.specs.ValidProcesses.{IsProcess}
use Rattle.design_meaning.specs.Valid.{IsValid, IsValidDesign}
use Rattle.design_meaning.specs.WellFormed.{is_step}
use Rattle.design_meaning.proofs.ListLaws.{any_same, and_from}
use Rattle.flow_marks.specs.declared.span.Span.{Span}
use Rattle.flow_spans.specs.Reads.{IsSpanOf, has_bit, Adds}
use Rattle.flow_uses.specs.declared.lists.Lists.{Lists}
use Rattle.flow_uses.specs.declared.uses.Uses.{Uses}
use Rattle.flow_uses.specs.Walks.{some_in, some_in_all, sets_bit, defers_bit}
use Rattle.flow_uses.specs.Uses.{AreUsesOf, has_var, no_uses}
use Rattle.flow_uses.specs.Gathers.{AreStepsIn, Gathers, AddsNamed, IsGathered}
use Rattle.flow_uses.proofs.Walks.{some_of_steps, any_both}

-- ---- one process

pub gathered : (vars : List Var) (o q : Lists) (u : Uses) (steps : List Step) → o.reads.items ≡ [] → o.sets.items ≡ [] → o.defers.items ≡ []
    → u.reads ≡ q.reads.items → u.sets ≡ q.sets.items → u.defers ≡ q.defers.items
    → Gathers vars o q (λ t. list_any (some_in t) steps) → IsGathered vars steps u
gathered vars o q u steps a b c i j k g =
    let r : u.reads ≡ g.reads.more = i ∙ g.reads.behind ∙ ap (λ xs. xs ++ g.reads.more) a in
    let s : u.sets ≡ g.sets.more = j ∙ g.sets.behind ∙ ap (λ xs. xs ++ g.sets.more) b in
    let d : u.defers ≡ g.defers.more = k ∙ g.defers.behind ∙ ap (λ xs. xs ++ g.defers.more) c in
    record {
      reads_in = subst (λ xs. All (IsSpanOf vars) xs) (sym r) g.reads.spans;
      sets_in = subst (λ xs. All (IsSpanOf vars) xs) (sym s) g.sets.spans;
      defers_in = subst (λ xs. All (IsSpanOf vars) xs) (sym d) g.defers.spans;
      reads = λ x h. ap (λ xs. has_bit xs x) r ∙ g.reads.bits x h ∙ sym (some_of_steps (event_reads x) steps);
      sets_bits = λ x h. ap (λ xs. has_bit xs x) s ∙ g.sets.bits x h ∙ sym (some_of_steps (sets_bit x) steps);
      defers_bits = λ x h. ap (λ xs. has_bit xs x) d ∙ g.defers.bits x h ∙ sym (some_of_steps (defers_bit x) steps);
      sets = λ v. ap (λ xs. has_var xs v) s ∙ g.sets.variables v ∙ sym (some_of_steps (event_sets v) steps);
      defers = λ v. ap (λ xs. has_var xs v) d ∙ g.defers.variables v ∙ sym (some_of_steps (event_defers v) steps);
    }

either_way : (b : Bit) (e : Event) → (sets_bit b e || defers_bit b e) ≡ event_drives b e
either_way b (reads spans) = refl
either_way b (sets target) = or_nothing (sets_bit b (sets target))
  where
    or_nothing : (x : Bool) → (x || false) ≡ x
    or_nothing true = refl
    or_nothing false = refl
either_way b (defers target) = refl

drives_both : (b : Bit) (steps : List Step) → (some_in_all (sets_bit b) steps || some_in_all (defers_bit b) steps) ≡ some_in_all (event_drives b) steps
drives_both b steps =
    sym (any_both (list_any (sets_bit b)) (list_any (defers_bit b)) (paths steps))
    ∙ any_same (λ path. list_any (sets_bit b) path || list_any (defers_bit b) path) (list_any (event_drives b)) (λ path. on path) (paths steps)
  where
    on : (path : Path) → (list_any (sets_bit b) path || list_any (defers_bit b) path) ≡ list_any (event_drives b) path
    on path = sym (any_both (sets_bit b) (defers_bit b) path) ∙ any_same (λ e. sets_bit b e || defers_bit b e) (event_drives b) (either_way b) path

pub uses_are : (d : Design) (p : ℕ) (u : Uses) → IsGathered d.vars (process_of d p).body u → AreUsesOf d p u
uses_are d p u g = record {
  reads_in = g.reads_in;
  sets_in = g.sets_in;
  defers_in = g.defers_in;
  reads = g.reads;
  drives = λ b h. ap₂ ◌||◌ (g.sets_bits b h) (g.defers_bits b h) ∙ drives_both b (process_of d p).body;
  sets = g.sets;
  defers = g.defers;
}

-- ---- all processes

listed : (f : Step → Bool) (xs : List Step) → All (λ x. IsTrue (f x)) xs → list_all f xs ≡ true
listed f [] h = refl
listed f (x ∷ xs) h = and_from (f x) (list_all f xs) (All-head (λ x. IsTrue (f x)) x xs h) (listed f xs (All-tail (λ x. IsTrue (f x)) x xs h))

body_of : (x : Instrumented) → IsValid x → (s : State) → IsStateOf x.design s → (i : ℕ) (p : Process) → i < length x.design.processes
    → p ≡ get_or x.design.processes i p → AreStepsIn s p.body
body_of x v s h i p lt k =
    let is : IsProcess x.design x.counters (get_or x.design.processes i p) = All-get_or (IsProcess x.design x.counters) x.design.processes i p lt v.processes in
    record {
      counters = x.counters;
      formed = record {
        design = x.design;
        of = h;
        holds = subst (λ (q : Process). list_all (is_step x.design x.counters) q.body ≡ true) (sym k) (listed (is_step x.design x.counters) (get_or
            x.design.processes i p).body is.formed);
      };
    }

pub body_in : (d : Design) → IsValidDesign d → (s : State) → IsStateOf d s → (i : ℕ) (p : Process) → i < length d.processes → p ≡ get_or d.processes i p →
    AreStepsIn s p.body
body_in d v = subst (λ d. (s : State) → IsStateOf d s → (i : ℕ) (p : Process) → i < length d.processes → p ≡ get_or d.processes i p → AreStepsIn s p.body)
    v.2 (body_of v.0 v.1)

pub variables_of : (d : Design) → IsValidDesign d → All IsVariable d.vars
variables_of d v = subst (λ (d : Design). All IsVariable d.vars) v.2 v.1.variables

pub record AreDone (d : Design) (us : List Uses) (n : ℕ) : Type 0 where
  pub many : length us ≡ n
  pub uses : (p : ℕ) → p < n → AreUsesOf d p (get_or us p no_uses)

pub none_done : (d : Design) → AreDone d [] 0
none_done d = record { many = refl; uses = λ p lt. absurd (omega (arith, lt)) }

pub one_done : (d : Design) (us : List Uses) (u : Uses) (i : ℕ) (p : Process) → i < length d.processes → p ≡ get_or d.processes i p
    → IsGathered d.vars p.body u → AreDone d us i → AreDone d (us ++ u ∷ []) (i + 1)
one_done d us u i p lt k g h = record {
  many = length-append us (u ∷ []) ∙ ap (λ n. n + 1) h.many;
  uses = λ q l. elim (cases_lt q i) [
    | inl less ↦ subst (AreUsesOf d q) (sym (get_or_append_left us (u ∷ []) no_uses q (omega (arith, h.many, less)))) (h.uses q less)
    | inr more ↦ last q (omega (arith, l, more))
  ];
}
  where
    last : (q : ℕ) → i ≡ q → AreUsesOf d q (get_or (us ++ u ∷ []) q no_uses)
    last q e = subst (λ q. AreUsesOf d q (get_or (us ++ u ∷ []) q no_uses)) e
        (subst (AreUsesOf d i) (sym (get_or_push us u no_uses i h.many))
        (uses_are d i u (subst (λ (r : Process). IsGathered d.vars r.body u) (get_or_read d.processes i p lt k no_process) g)))
