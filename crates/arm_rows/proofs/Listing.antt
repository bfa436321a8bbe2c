-- Rows of steps, arms and processes one after the other.
use Rattle.std.proofs.Common.{◌≡◌, ℕ, ◌+◌, ◌<◌, List, [], ◌∷◌, ◌++◌, map, length, take, get_or, refl, sym, ◌∙◌, ap, ap₂, subst, append_assoc, arith}
use Rattle.std.specs.Prelude.{flat_map}
use Rattle.std.proofs.lemmas.List.{append-nil, take_more}
use Rattle.std.proofs.lemmas.List.Concat.{flat_map-append}
use Rattle.design_tree.specs.declared.step.StepArm.{StepArm}
use Rattle.design_tree.specs.declared.step.Step.{Step}
use Rattle.design_tree.specs.declared.design.Process.{Process}
use Rattle.circuit_run.specs.Lists.{total}
use Rattle.counted_circuit.specs.Sorts.{Sort, sorts}
use Rattle.counted_circuit.specs.Tells.{Fork, Telling, TellingArm, tells, arm_telling, arms_of, arms_of_arms, forks_in_turn, forks_of_arm, forks_of_arms}
use Rattle.counted_circuit.specs.Balance.{process_forks, forks_from}
use Rattle.arm_rows.specs.declared.row.ArmRow.{ArmRow}
use Rattle.arm_rows.specs.Rows.{Adds, sorts_of_arm, arms_of_process, sorts_of_process}
use Rattle.arm_rows.proofs.Adding.{adds_both, longer}

-- the same numbers, sorts and forks by other words
pub adds_as : (k k' : ℕ) (s s' : List Sort) (f f' : List Fork) (old new : List ArmRow) → k' ≡ k → s' ≡ s → f' ≡ f → Adds k s f old new → Adds k' s' f' old new
adds_as k k' s s' f f' old new ek es ef a =
    subst (λ i. Adds i s' f' old new) (sym ek)
    (subst (λ (x : List Sort). Adds k x f' old new) (sym es) (subst (λ (x : List Fork). Adds k s x old new) (sym ef) a))

-- the list up to a place and what stands there
front_next : {X : Type 0} (xs : List X) (i : ℕ) (x : X) → i < length xs → x ≡ get_or xs i x → take (i + 1) xs ≡ take i xs ++ x ∷ []
front_next xs i x lt is = take_more xs i x lt ∙ ap (λ y. take i xs ++ y ∷ []) (sym is)

total_snoc : {X : Type 0} (f : X → ℕ) (xs : List X) (x : X) → total (map f (xs ++ x ∷ [])) ≡ total (map f xs) + f x
total_snoc f [] x = omega arith
total_snoc f (y ∷ ys) x = let h = total_snoc f ys x in omega arith

flat_snoc : {X Y : Type 0} (f : X → List Y) (xs : List X) (x : X) → flat_map f (xs ++ x ∷ []) ≡ flat_map f xs ++ f x
flat_snoc f xs x = flat_map-append f xs (x ∷ []) ∙ ap (λ ys. flat_map f xs ++ ys) (append-nil (f x))

-- ---- steps

arms_snoc : (xs : List Step) (x : Step) → arms_of (map tells (xs ++ x ∷ [])) ≡ arms_of (map tells xs) + (tells x).arms
arms_snoc [] x = omega arith
arms_snoc (y ∷ ys) x = let h = arms_snoc ys x in omega arith

forks_snoc : (xs : List Step) (x : Step) (around n : ℕ)
    → forks_in_turn (map tells (xs ++ x ∷ [])) around n ≡ forks_in_turn (map tells xs) around n ++ (tells x).forks around (n + arms_of (map tells xs))
forks_snoc [] x around n = append-nil ((tells x).forks around n) ∙ ap (λ i. (tells x).forks around i) (let e : n ≡ n + 0 = omega arith in e)
forks_snoc (y ∷ ys) x around n =
    ap (λ (fs : List Fork). (tells y).forks around n ++ fs) (forks_snoc ys x around (n + (tells y).arms))
    ∙ (sym (append_assoc ((tells y).forks around n) (forks_in_turn (map tells ys) around (n + (tells y).arms)) ((tells x).forks around (n
    + (tells y).arms + arms_of (map tells ys))))
    ∙ ap (λ i. ((tells y).forks around n ++ forks_in_turn (map tells ys) around (n + (tells y).arms)) ++ (tells x).forks around i)
    (let e : n + (tells y).arms + arms_of (map tells ys) ≡ n + ((tells y).arms + arms_of (map tells ys)) = omega arith in e))

pub steps_next : (around i : ℕ) (xs : List Step) (x : Step) (old mid new : List ArmRow) → i < length xs → x ≡ get_or xs i x
    → Adds (arms_of (map tells (take i xs))) (flat_map sorts (take i xs)) (forks_in_turn (map tells (take i xs)) around (length old)) old mid
    → Adds (tells x).arms (sorts x) ((tells x).forks around (length mid)) mid new
    → Adds (arms_of (map tells (take (i + 1) xs))) (flat_map sorts (take (i + 1) xs)) (forks_in_turn (map tells (take (i + 1) xs)) around (length old)) old new
steps_next around i xs x old mid new lt is a b =
    let e = front_next xs i x lt is in
    let ys = take i xs in
    let k = arms_of (map tells ys) in
    let s = flat_map sorts ys in
    let f = forks_in_turn (map tells ys) around (length old) in
    adds_as (k + (tells x).arms) (arms_of (map tells (take (i + 1) xs))) (s ++ sorts x) (flat_map sorts (take (i + 1) xs))
    (f ++ (tells x).forks around (length mid)) (forks_in_turn (map tells (take (i + 1) xs)) around (length old)) old new
    (ap (λ (zs : List Step). arms_of (map tells zs)) e ∙ arms_snoc ys x)
    (ap (flat_map sorts) e ∙ flat_snoc sorts ys x)
    (ap (λ (zs : List Step). forks_in_turn (map tells zs) around (length old)) e
    ∙ (forks_snoc ys x around (length old) ∙ ap (λ n. f ++ (tells x).forks around n) (sym (longer k s f old mid a))))
    (adds_both k (tells x).arms s (sorts x) f ((tells x).forks around (length mid)) old mid new a b)

-- ---- arms of a `case`

listed_snoc : (xs : List StepArm) (x : StepArm)
    → arms_of_arms (map arm_telling (xs ++ x ∷ [])) ≡ arms_of_arms (map arm_telling xs) + (1 + arms_of (arm_telling x).body)
listed_snoc [] x = omega arith
listed_snoc (y ∷ ys) x = let h = listed_snoc ys x in omega arith

listed_forks_snoc : (xs : List StepArm) (x : StepArm) (n : ℕ)
    → forks_of_arms (map arm_telling (xs ++ x ∷ [])) [] n
    ≡ forks_of_arms (map arm_telling xs) [] n ++ forks_of_arm (arm_telling x).body (n + arms_of_arms (map arm_telling xs))
listed_forks_snoc [] x n =
    append-nil (forks_of_arm (arm_telling x).body n) ∙ ap (forks_of_arm (arm_telling x).body) (let e : n ≡ n + 0 = omega arith in e)
listed_forks_snoc (y ∷ ys) x n =
    let m = n + 1 + arms_of (arm_telling y).body in
    let here = forks_of_arm (arm_telling y).body n in
    let there = forks_of_arms (map arm_telling ys) [] m in
    ap (λ (fs : List Fork). here ++ fs) (listed_forks_snoc ys x m)
    ∙ (sym (append_assoc here there (forks_of_arm (arm_telling x).body (m + arms_of_arms (map arm_telling ys))))
    ∙ ap (λ i. (here ++ there) ++ forks_of_arm (arm_telling x).body i)
    (let e : n + 1 + arms_of (arm_telling y).body + arms_of_arms (map arm_telling ys) ≡ n + (1 + arms_of (arm_telling y).body
    + arms_of_arms (map arm_telling ys)) = omega arith in e))

pub arms_next : (i : ℕ) (xs : List StepArm) (x : StepArm) (old mid new : List ArmRow) → i < length xs → x ≡ get_or xs i x
    → Adds (arms_of_arms (map arm_telling (take i xs))) (flat_map sorts_of_arm (take i xs))
    (forks_of_arms (map arm_telling (take i xs)) [] (length old)) old mid
    → Adds (1 + arms_of (arm_telling x).body) (sorts_of_arm x) (forks_of_arm (arm_telling x).body (length mid)) mid new
    → Adds (arms_of_arms (map arm_telling (take (i + 1) xs))) (flat_map sorts_of_arm (take (i + 1) xs))
    (forks_of_arms (map arm_telling (take (i + 1) xs)) [] (length old)) old new
arms_next i xs x old mid new lt is a b =
    let e = front_next xs i x lt is in
    let ys = take i xs in
    let k = arms_of_arms (map arm_telling ys) in
    let s = flat_map sorts_of_arm ys in
    let f = forks_of_arms (map arm_telling ys) [] (length old) in
    adds_as (k + (1 + arms_of (arm_telling x).body)) (arms_of_arms (map arm_telling (take (i + 1) xs))) (s ++ sorts_of_arm x)
    (flat_map sorts_of_arm (take (i + 1) xs))
    (f ++ forks_of_arm (arm_telling x).body (length mid)) (forks_of_arms (map arm_telling (take (i + 1) xs)) [] (length old)) old new
    (ap (λ (zs : List StepArm). arms_of_arms (map arm_telling zs)) e ∙ listed_snoc ys x)
    (ap (flat_map sorts_of_arm) e ∙ flat_snoc sorts_of_arm ys x)
    (ap (λ (zs : List StepArm). forks_of_arms (map arm_telling zs) [] (length old)) e
    ∙ (listed_forks_snoc ys x (length old) ∙ ap (λ n. f ++ forks_of_arm (arm_telling x).body n) (sym (longer k s f old mid a))))
    (adds_both k (1 + arms_of (arm_telling x).body) s (sorts_of_arm x) f (forks_of_arm (arm_telling x).body (length mid)) old mid new a b)

-- ---- processes

process_forks_snoc : (ps : List Process) (p : Process) (n : ℕ)
    → forks_from n (ps ++ p ∷ []) ≡ forks_from n ps ++ process_forks p.kind p.body (n + total (map arms_of_process ps))
process_forks_snoc [] p n =
    append-nil (process_forks p.kind p.body n) ∙ ap (process_forks p.kind p.body) (let e : n ≡ n + 0 = omega arith in e)
process_forks_snoc (q ∷ qs) p n =
    let m = n + arms_of_process q in
    let here = process_forks q.kind q.body n in
    ap (λ (fs : List Fork). here ++ fs) (process_forks_snoc qs p m)
    ∙ (sym (append_assoc here (forks_from m qs) (process_forks p.kind p.body (m + total (map arms_of_process qs))))
    ∙ ap (λ i. (here ++ forks_from m qs) ++ process_forks p.kind p.body i)
    (let e : n + arms_of_process q + total (map arms_of_process qs) ≡ n + (arms_of_process q + total (map arms_of_process qs)) = omega arith in e))

pub processes_next : (i : ℕ) (xs : List Process) (x : Process) (old mid new : List ArmRow) → i < length xs → x ≡ get_or xs i x
    → Adds (total (map arms_of_process (take i xs))) (flat_map sorts_of_process (take i xs)) (forks_from (length old) (take i xs)) old mid
    → Adds (arms_of_process x) (sorts_of_process x) (process_forks x.kind x.body (length mid)) mid new
    → Adds (total (map arms_of_process (take (i + 1) xs))) (flat_map sorts_of_process (take (i + 1) xs)) (forks_from (length old) (take (i + 1) xs)) old new
processes_next i xs x old mid new lt is a b =
    let e = front_next xs i x lt is in
    let ys = take i xs in
    let k = total (map arms_of_process ys) in
    let s = flat_map sorts_of_process ys in
    let f = forks_from (length old) ys in
    let g = process_forks x.kind x.body (length mid) in
    adds_as (k + arms_of_process x) (total (map arms_of_process (take (i + 1) xs))) (s ++ sorts_of_process x) (flat_map sorts_of_process (take (i + 1) xs))
    (f ++ g) (forks_from (length old) (take (i + 1) xs)) old new
    (ap (λ (zs : List Process). total (map arms_of_process zs)) e ∙ total_snoc arms_of_process ys x)
    (ap (flat_map sorts_of_process) e ∙ flat_snoc sorts_of_process ys x)
    (ap (forks_from (length old)) e
    ∙ (process_forks_snoc ys x (length old) ∙ ap (λ n. f ++ process_forks x.kind x.body n) (sym (longer k s f old mid a))))
    (adds_both k (arms_of_process x) s (sorts_of_process x) f g old mid new a b)
