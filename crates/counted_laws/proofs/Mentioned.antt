-- What designs mention but counters is the same with counts and without.
use Rattle.std.proofs.Common.{◌≡◌, ℕ, ◌+◌, Bool, true, false, List, [], ◌∷◌, ◌++◌, map, refl, sym, ◌∙◌, ap, ap₂}
use Rattle.std.specs.Prelude.{filter, flat_map}
use Rattle.std.specs.List.{AllByRecursion}
use Rattle.std.proofs.lemmas.List.Elements.{filter-append}
use Rattle.design_tree.specs.declared.step.StepItem.{StepItem}
use Rattle.design_tree.specs.declared.step.Step.{Step, fold-Step}
use Rattle.design_tree.specs.declared.design.Process.{Process}
use Rattle.circuit_run.specs.Lists.{total}
use Rattle.design_meaning.specs.Mentions.{Mention, expression, destination, shown, counted, concat_all, item_mentions, step_mentions, arm_mentions, mentions_of}
use Rattle.design_meaning.specs.Mentions.{mention_targets, targets_of}
use Rattle.counted_circuit.specs.Inserted.{IsCountedProcess, AreCountedProcesses, no_processes, more}
use Rattle.counted_circuit.proofs.HowMany.{zero_plus}
use Rattle.counted_laws.proofs.Sees.{Sees, process_seen}

-- what is no counter
abbrev pub is_other : Mention → Bool
is_other (expression e) = true
is_other (destination target) = true
is_other (shown piece) = true
is_other (counted c) = false

-- all that is mentioned but counters
abbrev pub others : List Mention → List Mention
others ms = filter is_other ms

abbrev pub others_of : List (List Mention) → List Mention
others_of lists = others (concat_all lists)

mentioned : Sees step_mentions step_mentions arm_mentions arm_mentions others others others_of others_of (λ c. Unit {0})
mentioned = record {
  join = λ a b. a ++ b;
  join_arms = λ a b. a ++ b;
  of_if = λ test l r. expression test ∷ (l ++ r);
  of_case = λ on arms rest. expression on ∷ (arms ++ rest);
  of_arm = λ items body. others (flat_map item_mentions items) ++ body;
  more = λ a xs. filter-append is_other a (concat_all xs);
  more_arms = λ b xs. filter-append is_other b (concat_all xs);
  if_new = λ test l r. ap (λ (xs : List Mention). expression test ∷ xs) (filter-append is_other (concat_all l) (concat_all r));
  if_old = λ test l r. ap (λ (xs : List Mention). expression test ∷ xs) (filter-append is_other (concat_all l) (concat_all r));
  case_new = λ on arms rest. ap (λ (xs : List Mention). expression on ∷ xs) (filter-append is_other (concat_all arms) (concat_all rest));
  case_old = λ on arms rest. ap (λ (xs : List Mention). expression on ∷ xs) (filter-append is_other (concat_all arms) (concat_all rest));
  arm_new = λ items body. filter-append is_other (flat_map item_mentions items) (concat_all body);
  arm_old = λ items body. filter-append is_other (flat_map item_mentions items) (concat_all body);
  of_set = λ targets value. refl;
  of_later = λ targets value. refl;
  of_show = λ pieces. refl;
  of_finish = refl;
  of_stop = refl;
  of_count = λ c z fits. refl;
}

-- ---- what is told by all but counters

pub total_others : (f : Mention → ℕ) → ((c : ℕ) → f (counted c) ≡ 0) → (ms : List Mention) → total (map f ms) ≡ total (map f (others ms))
total_others f zero [] = refl
total_others f zero (expression e ∷ ms) = ap (λ (n : ℕ). f (expression e) + n) (total_others f zero ms)
total_others f zero (destination t ∷ ms) = ap (λ (n : ℕ). f (destination t) + n) (total_others f zero ms)
total_others f zero (shown p ∷ ms) = ap (λ (n : ℕ). f (shown p) + n) (total_others f zero ms)
total_others f zero (counted c ∷ ms) = ap₂ (λ (a b : ℕ). a + b) (zero c) (total_others f zero ms) ∙ zero_plus (total (map f (others ms)))

pub all_from_others : (P : Mention → Type 0) → ((c : ℕ) → P (counted c)) → (ms : List Mention) → AllByRecursion P (others ms) → AllByRecursion P ms
all_from_others P each [] a = tt
all_from_others P each (expression e ∷ ms) a = (a.0, all_from_others P each ms a.1)
all_from_others P each (destination t ∷ ms) a = (a.0, all_from_others P each ms a.1)
all_from_others P each (shown p ∷ ms) a = (a.0, all_from_others P each ms a.1)
all_from_others P each (counted c ∷ ms) a = (each c, all_from_others P each ms a)

pub others_have : (P : Mention → Type 0) → (ms : List Mention) → AllByRecursion P ms → AllByRecursion P (others ms)
others_have P [] a = tt
others_have P (expression e ∷ ms) a = (a.0, others_have P ms a.1)
others_have P (destination t ∷ ms) a = (a.0, others_have P ms a.1)
others_have P (shown p ∷ ms) a = (a.0, others_have P ms a.1)
others_have P (counted c ∷ ms) a = others_have P ms a.1

targets_others : (ms : List Mention) → flat_map mention_targets ms ≡ flat_map mention_targets (others ms)
targets_others [] = refl
targets_others (expression e ∷ ms) = targets_others ms
targets_others (destination t ∷ ms) = ap (λ xs. t ∷ xs) (targets_others ms)
targets_others (shown p ∷ ms) = targets_others ms
targets_others (counted c ∷ ms) = targets_others ms

-- ---- processes

abbrev step_mentions_of : Step → List Mention
step_mentions_of = fold-Step (List Mention) (List Mention) step_mentions arm_mentions

concat_is : (ss : List Step) → concat_all (map step_mentions_of ss) ≡ flat_map step_mentions_of ss
concat_is [] = refl
concat_is (a ∷ ss) = ap (λ (xs : List Mention). step_mentions_of a ++ xs) (concat_is ss)

pub every : (carried : ℕ → List ℕ) (arm : ℕ) → AllByRecursion (λ c. Unit {0}) (carried arm)
every carried arm = all (carried arm) where
  all : (cs : List ℕ) → AllByRecursion (λ c. Unit {0}) cs
  all [] = tt
  all (c ∷ cs) = (tt, all cs)

module _ {carried : ℕ → List ℕ} where
  pub process_mentions : {n k : ℕ} {p q : Process} → IsCountedProcess carried n p q k → others (mentions_of q) ≡ others (mentions_of p)
  process_mentions {n} {k} {p} {q} c =
      ap others (sym (concat_is q.body)) ∙ (process_seen mentioned carried (every carried) c ∙ ap others (concat_is p.body))

  pub same_targets : {n k : ℕ} {p q : Process} → IsCountedProcess carried n p q k → targets_of q ≡ targets_of p
  same_targets {n} {k} {p} {q} c =
      targets_others (mentions_of q) ∙ (ap (λ (ms : List Mention). flat_map mention_targets ms) (process_mentions c) ∙ sym (targets_others (mentions_of p)))

  pub all_mentions : {n k : ℕ} {ps qs : List Process} → AreCountedProcesses carried n ps qs k
      → others (flat_map mentions_of qs) ≡ others (flat_map mentions_of ps)
  all_mentions no_processes = refl
  all_mentions (more {n} {m} {k} {p} {q} {ps} {qs} c cs) =
      filter-append is_other (mentions_of q) (flat_map mentions_of qs)
      ∙ (ap₂ (λ (xs ys : List Mention). xs ++ ys) (process_mentions c) (all_mentions cs)
      ∙ sym (filter-append is_other (mentions_of p) (flat_map mentions_of ps)))
