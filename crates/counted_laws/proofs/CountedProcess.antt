-- A valid process with counts is valid.
use Rattle.std.proofs.Common.{◌≡◌, ℕ, ◌<◌, ◌≤◌, Bool, true, false, ◌&&◌, ◌||◌, List, [], ◌∷◌, ◌++◌, length, map, refl, sym, ◌∙◌, ap, ap₂, subst, arith}
use Rattle.std.specs.Prelude.{All, IsTrue}
use Rattle.std.specs.List.{AllByRecursion}
use Rattle.std.proofs.lemmas.Bool.{false≢true, true≢false}
use Rattle.std.proofs.lemmas.List.Elements.{All-from_recursion, recursion_from_All, All-nil}
use Rattle.design_tree.specs.declared.step.Target.{Target}
use Rattle.design_tree.specs.declared.step.Step.{Step, fold-Step}
use Rattle.design_tree.specs.declared.step.Step.TheVariants as s
use Rattle.design_tree.specs.declared.design.Process.{Process}
use Rattle.design_tree.specs.declared.design.Design.{Design}
use Rattle.cov_types.specs.declared.kind.ProcessKind.{ProcessKind}
use Rattle.circuit_run.specs.Kinds.{is_assign, is_cover}
use Rattle.design_meaning.specs.States.{var_of}
use Rattle.design_meaning.specs.Targets.{var_named}
use Rattle.design_meaning.specs.WellFormed.{all_of, any_of, is_step, tells}
use Rattle.design_meaning.specs.Mentions.{targets_of}
use Rattle.design_meaning.specs.Sizes.{block_depth}
use Rattle.design_meaning.specs.ValidProcesses.{IsOneSet, IsCount, IsOneTest, kind_written, may_tell, IsProcess}
use Rattle.counted_circuit.specs.Inserted.{counts, IsCountedProcess, assignment, cover, comb, clocked, initial, AreCountedProcesses, no_processes, more}
use Rattle.counted_circuit.proofs.Same.{same_kind}
use Rattle.counted_laws.proofs.Sees.{process_seen}
use Rattle.counted_laws.proofs.Measures.{with_processes, IsBelow, formed, told, deep}
use Rattle.counted_laws.proofs.Mentioned.{same_targets, every}

-- ---- tests of all steps

passes : (f : Step → Bool) (ss : List Step) → AllByRecursion (λ a. IsTrue (f a)) ss → all_of (map f ss) ≡ true
passes f [] a = refl
passes f (x ∷ ss) a = ap₂ (λ (b c : Bool). b && c) a.0 (passes f ss a.1)

both : (a b : Bool) → (a && b) ≡ true → (a ≡ true) × (b ≡ true)
both true b is = (refl, is)
both false b is = absurd (false≢true is)

passed : (f : Step → Bool) (ss : List Step) → all_of (map f ss) ≡ true → AllByRecursion (λ a. IsTrue (f a)) ss
passed f [] is = tt
passed f (x ∷ ss) is = let parts = both (f x) (all_of (map f ss)) is in (parts.0, passed f ss parts.1)

none : (f : Step → Bool) (ss : List Step) → AllByRecursion (λ a. f a ≡ false) ss → any_of (map f ss) ≡ false
none f [] a = refl
none f (x ∷ ss) a = ap₂ (λ (b c : Bool). b || c) a.0 (none f ss a.1)

neither : (a b : Bool) → (a || b) ≡ false → (a ≡ false) × (b ≡ false)
neither true b is = absurd (true≢false is)
neither false b is = (refl, is)

no_one : (f : Step → Bool) (ss : List Step) → any_of (map f ss) ≡ false → AllByRecursion (λ a. f a ≡ false) ss
no_one f [] is = tt
no_one f (x ∷ ss) is = let parts = neither (f x) (any_of (map f ss)) is in (parts.0, no_one f ss parts.1)

all_counts : (cs : List ℕ) → AllByRecursion IsCount (counts cs)
all_counts [] = tt
all_counts (c ∷ cs) = ((c, refl), all_counts cs)

-- ---- a process

module _ (d : Design) (all : List Process) (counters low : ℕ) (carried : ℕ → List ℕ) (fit : (arm : ℕ) → AllByRecursion (IsBelow counters) (carried arm)) where
  abbrev counted_design : Design
  counted_design = with_processes d all

  shape : {n k : ℕ} {p q : Process} → IsCountedProcess carried n p q k → IsProcess d low p
      → (IsTrue (is_assign q.kind) → IsOneSet q.body) × (IsTrue (is_cover q.kind) → IsOneTest q.body)
  shape (assignment a) h = (h.assigns, h.covers)
  shape (cover {n} test) h = (
    λ assigns. absurd (false≢true assigns),
    λ covers. (test, counts (carried n), [], refl, All-from_recursion IsCount (counts (carried n)) (all_counts (carried n)), All-nil IsCount),
  )
  shape (comb c) h = (λ assigns. absurd (false≢true assigns), λ assigns. absurd (false≢true assigns))
  shape (clocked c) h = (λ assigns. absurd (false≢true assigns), λ assigns. absurd (false≢true assigns))
  shape (initial c) h = (λ assigns. absurd (false≢true assigns), λ assigns. absurd (false≢true assigns))

  formed_steps : {n k : ℕ} {p q : Process} → IsCountedProcess carried n p q k → IsProcess d low p
      → All (λ one. IsTrue (is_step counted_design counters one)) q.body
  formed_steps {n} {k} {p} {q} c h =
      let old = passes (is_step d low) p.body (recursion_from_All (λ one. IsTrue (is_step d low one)) p.body h.formed) in
      let new : all_of (map (is_step counted_design counters) q.body) ≡ true = process_seen (formed d all counters low) carried fit c ∙ old in
      All-from_recursion (λ one. IsTrue (is_step counted_design counters one)) q.body (passed (is_step counted_design counters) q.body new)

  silent : {n k : ℕ} {p q : Process} → IsCountedProcess carried n p q k → IsProcess d low p → may_tell q.kind ≡ false → All (λ one. tells one ≡ false) q.body
  silent {n} {k} {p} {q} c h still =
      let old = none tells p.body
      (recursion_from_All (λ one. tells one ≡ false) p.body (h.tells_only (sym (ap may_tell (same_kind carried c)) ∙ still))) in
      let new : any_of (map tells q.body) ≡ false = process_seen told carried (every carried) c ∙ old in
      All-from_recursion (λ one. tells one ≡ false) q.body (no_one tells q.body new)

  process_is : {n k : ℕ} {p q : Process} → IsCountedProcess carried n p q k → IsProcess d low p → IsProcess counted_design counters q
  process_is {n} {k} {p} {q} c h = record {
    formed = formed_steps c h;
    assigns = (shape c h).0;
    covers = (shape c h).1;
    writes = subst (λ (kind : ProcessKind). All (λ target. (var_of d (var_named target)).kind ≡ kind_written kind) (targets_of q)) (sym (same_kind carried c))
        (subst (λ (targets : List Target). All (λ target. (var_of d (var_named target)).kind ≡ kind_written p.kind) targets) (sym (same_targets c)) h.writes);
    tells_only = silent c h;
  }

  pub processes_are : {n k : ℕ} {ps qs : List Process} → AreCountedProcesses carried n ps qs k → AllByRecursion (IsProcess d low) ps
      → AllByRecursion (IsProcess counted_design counters) qs
  processes_are no_processes h = tt
  processes_are (more c cs) h = (process_is c h.0, processes_are cs h.1)

-- ---- how many processes, and how deep

module _ {carried : ℕ → List ℕ} where
  pub as_many : {n k : ℕ} {ps qs : List Process} → AreCountedProcesses carried n ps qs k → length qs ≡ length ps
  as_many no_processes = refl
  as_many (more c cs) = let e = as_many cs in omega arith

  pub blocks_are : {n k : ℕ} {ps qs : List Process} → AreCountedProcesses carried n ps qs k → AllByRecursion (λ p. block_depth p.body ≤ 700) ps
      → AllByRecursion (λ p. block_depth p.body ≤ 700) qs
  blocks_are no_processes h = tt
  blocks_are (more {n} {m} {k} {p} {q} {ps} {qs} c cs) h =
      ((let e = process_seen deep carried (every carried) c in omega (arith, e, h.0)), blocks_are cs h.1)
