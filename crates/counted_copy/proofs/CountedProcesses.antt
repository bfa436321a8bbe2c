-- Processes without counts have bodies without counts, and copies of processes with counts, of each kind and one after the other.
use Rattle.std.proofs.Common.{◌≡◌, ℕ, ◌+◌, ◌<◌, ◌≤◌, zero, suc, Bool, true, false, List, [], ◌∷◌, ◌++◌, map, length, take, get_or, refl, sym, ◌∙◌, ap, ap₂}
use Rattle.std.proofs.Common.{subst, arith}
use Rattle.std.specs.List.{list_all}
use Rattle.cov_types.specs.declared.kind.ProcessKind.{ProcessKind}
use Rattle.cov_types.specs.declared.kind.ProcessKind.TheVariants as kind
use Rattle.design_tree.specs.declared.typed.Typed.{Typed}
use Rattle.design_tree.specs.declared.step.StepArm.{StepArm}
use Rattle.design_tree.specs.declared.step.Step.{Step}
use Rattle.design_tree.specs.declared.step.Step.TheVariants as s
use Rattle.design_tree.specs.declared.design.Process.{Process}
use Rattle.design_meaning.specs.Steps.{step_arm}
use Rattle.design_meaning.proofs.StepFolds as steps
use Rattle.design_meaning.proofs.ListLaws.{all_map, and_from}
use Rattle.circuit_run.specs.Lists.{total}
use Rattle.counted_circuit.specs.Circuits.{arms_in}
use Rattle.counted_circuit.specs.Inserted.{counts, IsPlain, set, later, show, finish, stop, AreCounted, no_steps, plain, an_if, a_case, ArmsAreCounted, no_arms}
use Rattle.counted_circuit.specs.Inserted.{an_arm, IsCountedProcess, assignment, cover, comb, clocked, initial, AreCountedProcesses, no_processes, more}
use Rattle.counted_circuit.specs.Tells.{tells, arms_of}
use Rattle.counted_circuit.proofs.TellsNumbers.{tells_plain, number_after}
use Rattle.counted_copy.specs.Blocks.{step_is_uncounted, arm_is_uncounted, is_uncounted, is_uncounted_arm, IsCountedBlock}
use Rattle.counted_copy.specs.Processes.{IsUncounted, IsTest, AreTestsWith}
use Rattle.counted_copy.proofs.CountedSteps.{next_front}
use Rattle.counted_copy.proofs.Uncounted.{sum_at}
use Rattle.std.proofs.lemmas.List.{take_all}

-- ---- what has counts put in has none itself

plain_uncounted : {a : Step} → IsPlain a → is_uncounted a ≡ true
plain_uncounted (set targets value) = steps.fold-Set Bool Bool step_is_uncounted arm_is_uncounted targets value
plain_uncounted (later targets value) = steps.fold-Later Bool Bool step_is_uncounted arm_is_uncounted targets value
plain_uncounted (show pieces) = steps.fold-Show Bool Bool step_is_uncounted arm_is_uncounted pieces
plain_uncounted finish = steps.fold-Finish Bool Bool step_is_uncounted arm_is_uncounted
plain_uncounted stop = steps.fold-Stop Bool Bool step_is_uncounted arm_is_uncounted

inside : (ss : List Step) → list_all is_uncounted ss ≡ true → list_all (λ b. b) (map is_uncounted ss) ≡ true
inside ss h = all_map (λ b. b) is_uncounted ss ∙ h

mutual
  steps_uncounted : {carried : ℕ → List ℕ} {n m : ℕ} {ss ts : List Step} → AreCounted carried n ss ts m → list_all is_uncounted ss ≡ true
  steps_uncounted no_steps = refl
  steps_uncounted (plain {n} {m} {a} {ss} {ts} p c) = and_from (is_uncounted a) (list_all is_uncounted ss) (plain_uncounted p) (steps_uncounted c)
  steps_uncounted (an_if {n} {m} {k} {j} {left} {left'} {right} {right'} {ss} {ts} test l r c) =
      and_from (is_uncounted (s.If test left right)) (list_all is_uncounted ss)
      (steps.fold-If Bool Bool step_is_uncounted arm_is_uncounted test left right
      ∙ and_from (list_all (λ b. b) (map is_uncounted left)) (list_all (λ b. b) (map is_uncounted right))
      (inside left (steps_uncounted l)) (inside right (steps_uncounted r)))
      (steps_uncounted c)
  steps_uncounted (a_case {n} {m} {k} {j} {arms} {arms'} {rest} {rest'} {ss} {ts} on a r c) =
      and_from (is_uncounted (s.Case on arms rest)) (list_all is_uncounted ss)
      (steps.fold-Case Bool Bool step_is_uncounted arm_is_uncounted on arms rest
      ∙ and_from (list_all (λ b. b) (map is_uncounted_arm arms)) (list_all (λ b. b) (map is_uncounted rest))
      (all_map (λ b. b) is_uncounted_arm arms ∙ arms_without a) (inside rest (steps_uncounted r)))
      (steps_uncounted c)

  arms_without : {carried : ℕ → List ℕ} {n m : ℕ} {arms arms' : List StepArm} → ArmsAreCounted carried n arms arms' m
      → list_all is_uncounted_arm arms ≡ true
  arms_without no_arms = refl
  arms_without (an_arm {n} {m} {k} {body} {body'} {arms} {arms'} items b c) =
      and_from (is_uncounted_arm (step_arm items body)) (list_all is_uncounted_arm arms)
      (steps.fold-arm Bool Bool step_is_uncounted arm_is_uncounted items body ∙ inside body (steps_uncounted b))
      (arms_without c)

test_uncounted : (test : Typed) → list_all is_uncounted (s.If test [] [] ∷ []) ≡ true
test_uncounted test = and_from (is_uncounted (s.If test [] [])) true (steps.fold-If Bool Bool step_is_uncounted arm_is_uncounted test [] []) refl

process_uncounted : {carried : ℕ → List ℕ} {n m : ℕ} {p q : Process} → IsCountedProcess carried n p q m → list_all is_uncounted p.body ≡ true
process_uncounted (assignment {n} {a} p) = and_from (is_uncounted a) true (plain_uncounted p) refl
process_uncounted (cover test) = test_uncounted test
process_uncounted (comb c) = steps_uncounted c
process_uncounted (clocked c) = steps_uncounted c
process_uncounted (initial c) = steps_uncounted c

pub body_without : (p : Process) → IsUncounted p → list_all is_uncounted p.body ≡ true
body_without p u = process_uncounted u.itself

-- ---- assignments

pub record IsAlone (p : Process) : Type 0 where
  pub step : Step
  pub none : (tells step).arms ≡ 0
  pub body : p.body ≡ step ∷ []

alone : {carried : ℕ → List ℕ} {n m : ℕ} {p q : Process} → IsCountedProcess carried n p q m → p.kind ≡ kind.Assign → IsAlone p
alone (assignment {n} {a} p) is = record { step = a; none = ap (λ x. x.arms) (tells_plain p); body = refl }
alone (cover test) is = absurd cc
alone (comb c) is = absurd cc
alone (clocked c) is = absurd cc
alone (initial c) is = absurd cc

pub stands_alone : (p : Process) → IsUncounted p → p.kind ≡ kind.Assign → IsAlone p
stands_alone p u is = alone u.itself is

-- a step of an assignment has no arms
pub only_one : {X : Type 0} (xs : List X) (y : X) (i : ℕ) (x : X) → xs ≡ y ∷ [] → i < length xs → x ≡ get_or xs i x → x ≡ y
only_one xs y zero x e lt is = is ∙ ap (λ zs. get_or zs 0 x) e
only_one xs y (suc i) x e lt is = let h = ap length e in absurd (omega arith)

pub no_arms_at : (p : Process) (xs : List Step) (i : ℕ) (x : Step) → xs ≡ p.body → IsUncounted p → p.kind ≡ kind.Assign → i < length xs
    → x ≡ get_or xs i x → (tells x).arms ≡ 0
no_arms_at p xs i x e u k lt is =
    let h = stands_alone p u k in ap (λ y. (tells y).arms) (only_one xs h.step i x (e ∙ h.body) lt is) ∙ h.none

-- ---- covers

pub record IsTested (p : Process) : Type 0 where
  pub test : Typed
  pub body : p.body ≡ s.If test [] [] ∷ []

tested : {carried : ℕ → List ℕ} {n m : ℕ} {p q : Process} → IsCountedProcess carried n p q m → p.kind ≡ kind.Cover → IsTested p
tested (assignment p) is = absurd cc
tested (cover test) is = record { test = test; body = refl }
tested (comb c) is = absurd cc
tested (clocked c) is = absurd cc
tested (initial c) is = absurd cc

pub is_tested : (p : Process) → IsUncounted p → p.kind ≡ kind.Cover → IsTested p
is_tested p u is = tested u.itself is

pub test_at : (p : Process) (i : ℕ) (x : Step) → IsUncounted p → p.kind ≡ kind.Cover → i < length p.body → x ≡ get_or p.body i x → IsTest x
test_at p i x u k lt is = let h = is_tested p u k in record { test = h.test; is = only_one p.body (s.If h.test [] []) i x h.body lt is }

-- ---- a process of each kind

pub assignment_counted : (carried : ℕ → List ℕ) (n : ℕ) (p : Process) (body : List Step) → p.kind ≡ kind.Assign → IsUncounted p → body ≡ p.body
    → IsCountedProcess carried n p (record { kind = p.kind; body = body }) (n + 1)
assignment_counted carried n p body is u e =
    subst (λ (b : List Step). IsCountedProcess carried n p (record { kind = p.kind; body = b }) (n + 1)) (sym e) (again u.itself is)
  where
    again : {c : ℕ → List ℕ} {i j : ℕ} {r q : Process} → IsCountedProcess c i r q j → r.kind ≡ kind.Assign → IsCountedProcess carried n r r (n + 1)
    again (assignment p) k = assignment p
    again (cover test) k = absurd cc
    again (comb c) k = absurd cc
    again (clocked c) k = absurd cc
    again (initial c) k = absurd cc

pub cover_counted : (carried : ℕ → List ℕ) (n : ℕ) (p : Process) (body : List Step) → p.kind ≡ kind.Cover → AreTestsWith (counts (carried n)) p.body body
    → IsCountedProcess carried n p (record { kind = p.kind; body = body }) (n + 1)
cover_counted carried n p body is t =
    subst (λ (k : ProcessKind). IsCountedProcess carried n (record { kind = k; body = p.body }) (record { kind = k; body = body }) (n + 1)) (sym is)
    (subst (λ (b : List Step). IsCountedProcess carried n (record { kind = kind.Cover; body = p.body }) (record { kind = kind.Cover; body = b }) (n + 1))
    (sym t.after)
    (subst (λ (b : List Step). IsCountedProcess carried n (record { kind = kind.Cover; body = b })
    (record { kind = kind.Cover; body = s.If t.test (counts (carried n)) [] ∷ [] }) (n + 1)) (sym t.before) (cover t.test)))

-- a process whose body is an arm
pub body_counted : (carried : ℕ → List ℕ) (n m : ℕ) (p : Process) (xs ts : List Step) → (p.kind ≡ kind.Assign → ⊥) → (p.kind ≡ kind.Cover → ⊥) → xs ≡ p.body
    → IsCountedBlock carried n xs ts m → IsCountedProcess carried n p (record { kind = p.kind; body = ts }) m
body_counted carried n m p xs ts a c e block = of_kind p.kind refl
  where
    as_it_is : IsCountedProcess carried n (record { kind = p.kind; body = xs }) (record { kind = p.kind; body = counts (carried n) ++ block.steps }) m
        → IsCountedProcess carried n p (record { kind = p.kind; body = ts }) m
    as_it_is h = subst (λ (ys : List Step). IsCountedProcess carried n (record { kind = p.kind; body = ys }) (record { kind = p.kind; body = ts }) m) e
        (subst (λ (ys : List Step). IsCountedProcess carried n (record { kind = p.kind; body = xs }) (record { kind = p.kind; body = ys }) m)
        (sym block.block) h)

    at : (k : ProcessKind) → p.kind ≡ k
        → IsCountedProcess carried n (record { kind = k; body = xs }) (record { kind = k; body = counts (carried n) ++ block.steps }) m
        → IsCountedProcess carried n p (record { kind = p.kind; body = ts }) m
    at k is h = as_it_is (subst (λ (x : ProcessKind). IsCountedProcess carried n (record { kind = x; body = xs }) (record {
      kind = x;
      body = counts (carried n) ++ block.steps;
    }) m) (sym is) h)

    of_kind : (k : ProcessKind) → p.kind ≡ k → IsCountedProcess carried n p (record { kind = p.kind; body = ts }) m
    of_kind kind.Assign is = absurd (a is)
    of_kind kind.Cover is = absurd (c is)
    of_kind kind.Comb is = at kind.Comb is (comb block.counted)
    of_kind kind.Clocked is = at kind.Clocked is (clocked block.counted)
    of_kind kind.Initial is = at kind.Initial is (initial block.counted)

-- how many arms such a process has
pub body_room : (p : Process) (n len : ℕ) → (p.kind ≡ kind.Assign → ⊥) → (p.kind ≡ kind.Cover → ⊥) → n + arms_in p.kind p.body ≤ len
    → n + 1 + arms_of (map tells p.body) ≤ len
body_room p n len a c room = of_kind p.kind refl room
  where
    of_kind : (k : ProcessKind) → p.kind ≡ k → n + arms_in k p.body ≤ len → n + 1 + arms_of (map tells p.body) ≤ len
    of_kind kind.Assign is h = absurd (a is)
    of_kind kind.Cover is h = absurd (c is)
    of_kind kind.Comb is h = omega arith
    of_kind kind.Clocked is h = omega arith
    of_kind kind.Initial is h = omega arith

head_of : {x y : Process} {xs ys : List Process} → x ∷ xs ≡ y ∷ ys → x ≡ y
head_of e = cc

tail_of : {x y : Process} {xs ys : List Process} → x ∷ xs ≡ y ∷ ys → xs ≡ ys
tail_of e = cc

-- ---- one after the other

processes_joined : {carried : ℕ → List ℕ} {n m k : ℕ} {ps qs us vs : List Process} → AreCountedProcesses carried n ps qs m
    → AreCountedProcesses carried m us vs k → AreCountedProcesses carried n (ps ++ us) (qs ++ vs) k
processes_joined no_processes d = d
processes_joined (more p c) d = more p (processes_joined c d)

pub processes_next : (carried : ℕ → List ℕ) (n m k i : ℕ) (xs ts : List Process) (a b : Process) → i < length xs → a ≡ get_or xs i a
    → AreCountedProcesses carried n (take i xs) ts m → IsCountedProcess carried m a b k
    → AreCountedProcesses carried n (take (i + 1) xs) (ts ++ b ∷ []) k
processes_next carried n m k i xs ts a b lt is c one =
    subst (λ (ps : List Process). AreCountedProcesses carried n ps (ts ++ b ∷ []) k) (next_front xs i a lt is) (processes_joined c (more one no_processes))

-- how many arms a process has
abbrev pub arms_of_process : Process → ℕ
arms_of_process p = arms_in p.kind p.body

process_after : {carried : ℕ → List ℕ} {n m : ℕ} {p q : Process} → IsCountedProcess carried n p q m → m ≡ n + arms_of_process p
process_after (assignment p) = refl
process_after (cover test) = refl
process_after (comb c) = let h = number_after c in omega arith
process_after (clocked c) = let h = number_after c in omega arith
process_after (initial c) = let h = number_after c in omega arith

-- the number behind processes
pub processes_after : {carried : ℕ → List ℕ} {n m : ℕ} {ps qs : List Process} → AreCountedProcesses carried n ps qs m → m ≡ n + total (map arms_of_process ps)
processes_after no_processes = omega arith
processes_after (more p c) = let h = process_after p in let k = processes_after c in omega arith

pub uncounted_at : {n m : ℕ} {ps qs : List Process} → AreCountedProcesses (λ k. []) n ps qs m → ps ≡ qs → (i : ℕ) (x : Process) → i < length ps
    → x ≡ get_or ps i x → IsUncounted x
uncounted_at no_processes same i x lt is = absurd (omega arith)
uncounted_at (more {n} {m} {k} {p} {q} {ps} {qs} one c) same zero x lt is =
    subst IsUncounted (sym is) (record { first = n; after = m; itself = subst (λ (y : Process). IsCountedProcess (λ k. []) n p y m) (sym (head_of same)) one })
uncounted_at (more {n} {m} {k} {p} {q} {ps} {qs} one c) same (suc i) x lt is = uncounted_at c (tail_of same) i x (omega arith) is

-- none as yet
pub none_yet : (carried : ℕ → List ℕ) (ts : List Process) → ts ≡ [] → AreCountedProcesses carried 0 [] ts 0
none_yet carried ts none = subst (λ (x : List Process). AreCountedProcesses carried 0 [] x 0) (sym none) no_processes

-- there is room for the arms of the one at a place
pub room_at : (carried : ℕ → List ℕ) (ps ts : List Process) (m len i : ℕ) (x : Process) → i < length ps → x ≡ get_or ps i x
    → AreCountedProcesses carried 0 (take i ps) ts m → AreCountedProcesses (λ k. []) 0 ps ps len → m + arms_of_process x ≤ len
room_at carried ps ts m len i x lt is c all =
    let h = processes_after c in let k = processes_after all in let e = sum_at arms_of_process ps i x lt is in omega arith

-- all of them
pub all_processes : (carried : ℕ → List ℕ) (ps ts : List Process) (m len i : ℕ) → length ps ≤ i → AreCountedProcesses carried 0 (take i ps) ts m
    → AreCountedProcesses (λ k. []) 0 ps ps len → AreCountedProcesses carried 0 ps ts len
all_processes carried ps ts m len i end c all =
    let d = subst (λ (xs : List Process). AreCountedProcesses carried 0 xs ts m) (take_all i ps end) c in
    let h = processes_after d in
    let k = processes_after all in
    let e : m ≡ len = omega arith in
    subst (λ n. AreCountedProcesses carried 0 ps ts n) e d
