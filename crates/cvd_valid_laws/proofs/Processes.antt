-- The lines of a process hold exactly where the process is valid.
use Rattle.std.proofs.Common.{◌≡◌, ℕ, ◌≤◌, Bool, true, false, List, [], ◌∷◌, map, refl, sym, ◌∙◌, ap, subst, arith}
use Rattle.std.specs.Prelude.{◌&&◌, nat_le, flat_map, IsTrue}
use Rattle.std.specs.List.{AllByRecursion}
use Rattle.std.proofs.lemmas.Bool.{true≢false}
use Rattle.std.proofs.lemmas.List.Folds.{flat_map-map}
use Rattle.cov_types.specs.declared.kind.ProcessKind.{ProcessKind}
use Rattle.cov_types.specs.declared.kind.ProcessKind.TheVariants as kind
use Rattle.cov_types.specs.declared.kind.VarKind.{VarKind}
use Rattle.cov_types.specs.declared.kind.VarKind.TheVariants as var_kind
use Rattle.design_tree.specs.declared.design.Design.{Design}
use Rattle.design_tree.specs.declared.design.Process.{Process}
use Rattle.design_tree.specs.declared.step.Step.{Step}
use Rattle.design_tree.specs.declared.step.Target.{Target}
use Rattle.design_meaning.proofs.Listed.{by_recursion, by_index}
use Rattle.circuit_run.specs.Kinds.{is_assign, is_cover}
use Rattle.design_meaning.specs.Mentions.{Mention, expression, destination, shown, counted, concat_all, mentions_of, mention_depth, mention_targets, targets_of}
use Rattle.design_meaning.specs.Sizes.{depth, target_depth, block_depth}
use Rattle.design_meaning.specs.States.{var_of}
use Rattle.design_meaning.specs.Targets.{var_named}
use Rattle.design_meaning.specs.ValidProcesses.{IsProcess, IsOneSet, IsOneTest, kind_written}
use Rattle.design_meaning.specs.WellFormed.{is_step, all_of, any_of, tells}
use Rattle.cvd_text.specs.Steps.{Around, body_lines}
use Rattle.cvd_text.specs.Sections.{process_lines}
use Rattle.cvd_text.specs.Targets.{same_kind}
use Rattle.spelling_laws.proofs.Fitting.{first_true, second_true, both_true}
use Rattle.cvd_valid_laws.proofs.Conditions.{mentions_in, ok, FineBlock, first_false, second_false, neither}
use Rattle.cvd_valid_laws.proofs.Shapes.{one_set, one_test, assign_stands, cover_stands}
use Rattle.cvd_valid_laws.proofs.Standing.{holds_all, le_of, of_le}
use Rattle.cvd_valid_laws.proofs.StepHolds.{blocks_told}
use Rattle.cvd_valid_laws.proofs.StepStands.{blocks_stand}

-- ---- kinds

pub kind_is : (a b : VarKind) → same_kind a b ≡ true → a ≡ b
kind_is var_kind.Input var_kind.Input e = refl
kind_is var_kind.Input var_kind.Reg e = absurd (true≢false (sym e))
kind_is var_kind.Input var_kind.Wire e = absurd (true≢false (sym e))
kind_is var_kind.Reg var_kind.Input e = absurd (true≢false (sym e))
kind_is var_kind.Reg var_kind.Reg e = refl
kind_is var_kind.Reg var_kind.Wire e = absurd (true≢false (sym e))
kind_is var_kind.Wire var_kind.Input e = absurd (true≢false (sym e))
kind_is var_kind.Wire var_kind.Reg e = absurd (true≢false (sym e))
kind_is var_kind.Wire var_kind.Wire e = refl

same_as : (a : VarKind) → same_kind a a ≡ true
same_as var_kind.Input = refl
same_as var_kind.Reg = refl
same_as var_kind.Wire = refl

pub is_kind : (a b : VarKind) → a ≡ b → same_kind a b ≡ true
is_kind a b e = subst (λ x. same_kind a x ≡ true) e (same_as a)

-- ---- lists of tests

module _ {X : Type 0} (test : X → Bool) where
  pub each_of : (xs : List X) → all_of (map test xs) ≡ true → AllByRecursion (λ x. IsTrue (test x)) xs
  each_of [] e = tt
  each_of (x ∷ xs) e = (first_true (test x) (all_of (map test xs)) e, each_of xs (second_true (test x) (all_of (map test xs)) e))

  pub all_each : (xs : List X) → AllByRecursion (λ x. IsTrue (test x)) xs → all_of (map test xs) ≡ true
  all_each [] h = refl
  all_each (x ∷ xs) h = both_true (test x) (all_of (map test xs)) h.0 (all_each xs h.1)

  pub none_of : (xs : List X) → any_of (map test xs) ≡ false → AllByRecursion (λ x. test x ≡ false) xs
  none_of [] e = tt
  none_of (x ∷ xs) e = (first_false (test x) (any_of (map test xs)) e, none_of xs (second_false (test x) (any_of (map test xs)) e))

  pub none_each : (xs : List X) → AllByRecursion (λ x. test x ≡ false) xs → any_of (map test xs) ≡ false
  none_each [] h = refl
  none_each (x ∷ xs) h = neither (test x) (any_of (map test xs)) h.0 (none_each xs h.1)

module _ (d : Design) (counters : ℕ) (k : ProcessKind) where
  abbrev Written : Target → Type 0
  Written target = (var_of d (var_named target)).kind ≡ kind_written k

  written_of : (ms : List Mention) → ok d counters k ms ≡ true → AllByRecursion Written (flat_map mention_targets ms)
  written_of [] e = tt
  written_of (expression x ∷ ms) e = written_of ms (second_true (nat_le (depth x) 2000) (ok d counters k ms) e)
  written_of (destination t ∷ ms) e =
      let same = same_kind (var_of d (var_named t)).kind (kind_written k) in (
        kind_is _ _ (first_true same (nat_le (target_depth t) 2000) (first_true (same && nat_le (target_depth t) 2000) (ok d counters k ms) e)),
        written_of ms (second_true (same && nat_le (target_depth t) 2000) (ok d counters k ms) e),
      )
  written_of (shown p ∷ ms) e = written_of ms e
  written_of (counted c ∷ ms) e = written_of ms e

  pub depths_of : (ms : List Mention) → ok d counters k ms ≡ true → AllByRecursion (λ m. mention_depth m ≤ 2000) ms
  depths_of [] e = tt
  depths_of (expression x ∷ ms) e = (
    le_of (depth x) 2000 (first_true (nat_le (depth x) 2000) (ok d counters k ms) e),
    depths_of ms
        (second_true (nat_le (depth x) 2000) (ok d counters k ms) e),
  )
  depths_of (destination t ∷ ms) e =
      let same = same_kind (var_of d (var_named t)).kind (kind_written k) in (
        le_of (target_depth t) 2000 (second_true same (nat_le (target_depth t) 2000)
            (first_true (same && nat_le (target_depth t) 2000) (ok d counters k ms) e)),
        depths_of ms (second_true (same && nat_le (target_depth t) 2000) (ok d counters k ms) e),
      )
  depths_of (shown p ∷ ms) e = (omega arith, depths_of ms e)
  depths_of (counted c ∷ ms) e = (omega arith, depths_of ms e)

  ok_of : (ms : List Mention) → AllByRecursion Written (flat_map mention_targets ms) → AllByRecursion (λ m. mention_depth m ≤ 2000) ms
      → ok d counters k ms ≡ true
  ok_of [] w h = refl
  ok_of (expression x ∷ ms) w h = both_true (nat_le (depth x) 2000) (ok d counters k ms) (of_le (depth x) 2000 h.0) (ok_of ms w h.1)
  ok_of (destination t ∷ ms) w h =
      let same = same_kind (var_of d (var_named t)).kind (kind_written k) in
      both_true (same && nat_le (target_depth t) 2000) (ok d counters k ms)
      (both_true same (nat_le (target_depth t) 2000) (is_kind _ _ w.0) (of_le (target_depth t) 2000 h.0)) (ok_of ms w.1 h.1)
  ok_of (shown p ∷ ms) w h = ok_of ms w h.1
  ok_of (counted c ∷ ms) w h = ok_of ms w h.1

-- ---- processes

module _ (d : Design) (counters : ℕ) where
  abbrev around : ProcessKind → Around
  around k = record { design = d; counters = counters; kind = k }

  -- a valid process whose blocks and expressions aren't too deep
  pub record FineProcess (p : Process) : Type 0 where
    pub valid : IsProcess d counters p
    pub blocks : block_depth p.body ≤ 700
    pub expressions : AllByRecursion (λ m. mention_depth m ≤ 2000) (mentions_of p)

  all_mentions : (p : Process) → concat_all (map mentions_in p.body) ≡ mentions_of p
  all_mentions p = flat_map-map (λ (ms : List Mention). ms) mentions_in p.body

  assigned : (k : ProcessKind) (body : List Step) → holds_all (body_lines (around k) body) ≡ true → IsTrue (is_assign k) → IsOneSet body
  assigned kind.Assign body e a = one_set d counters body e
  assigned kind.Comb body e a = absurd (true≢false (sym a))
  assigned kind.Clocked body e a = absurd (true≢false (sym a))
  assigned kind.Initial body e a = absurd (true≢false (sym a))
  assigned kind.Cover body e a = absurd (true≢false (sym a))

  covered : (k : ProcessKind) (body : List Step) → holds_all (body_lines (around k) body) ≡ true → IsTrue (is_cover k) → IsOneTest body
  covered kind.Cover body e a = one_test d counters body e
  covered kind.Assign body e a = absurd (true≢false (sym a))
  covered kind.Comb body e a = absurd (true≢false (sym a))
  covered kind.Clocked body e a = absurd (true≢false (sym a))
  covered kind.Initial body e a = absurd (true≢false (sym a))

  pub process_told : (p : Process) → holds_all (process_lines d counters p) ≡ true → FineProcess p
  process_told p e =
      let k = p.kind in
      let e2 = second_true true (holds_all (body_lines (around k) p.body)) e in
      let b = (blocks_told d counters k 1 p.body e2).1 in
      let ms : ok d counters k (mentions_of p) ≡ true = sym (ap (ok d counters k) (all_mentions p)) ∙ b.mentions in
      record {
        valid = record {
          formed = by_index (λ one. IsTrue (is_step d counters one)) p.body (each_of (is_step d counters) p.body b.formed);
          assigns = assigned k p.body e2;
          covers = covered k p.body e2;
          writes = by_index (Written d counters k) (targets_of p) (written_of d counters k (mentions_of p) ms);
          tells_only = λ q. by_index (λ one. tells one ≡ false) p.body (none_of tells p.body (b.quiet q));
        };
        blocks = omega (arith, b.blocks);
        expressions = depths_of d counters k (mentions_of p) ms;
      }

  fine_block : (p : Process) → FineProcess p → FineBlock d counters p.kind 1 p.body
  fine_block p f = record {
    formed = all_each (is_step d counters) p.body (by_recursion (λ one. IsTrue (is_step d counters one)) p.body f.valid.formed);
    quiet = λ q. none_each tells p.body (by_recursion (λ one. tells one ≡ false) p.body (f.valid.tells_only q));
    mentions = ap (ok d counters p.kind) (all_mentions p)
        ∙ ok_of d counters p.kind (mentions_of p) (by_recursion (Written d counters p.kind) (targets_of p) f.valid.writes) f.expressions;
    blocks = omega (arith, f.blocks);
  }

  body_stands : (k : ProcessKind) (body : List Step) → (IsTrue (is_assign k) → IsOneSet body) → (IsTrue (is_cover k) → IsOneTest body)
      → FineBlock d counters k 1 body → holds_all (body_lines (around k) body) ≡ true
  body_stands kind.Assign body a c b = assign_stands d counters body (a refl) b
  body_stands kind.Cover body a c b = cover_stands d counters body (c refl) b
  body_stands kind.Comb body a c b =
      blocks_stand d counters kind.Comb refl (λ at. refl) (λ at. refl) (λ at. refl) (λ at. refl) (λ at q. absurd (true≢false (sym q))) 1 body b
  body_stands kind.Clocked body a c b = blocks_stand d counters kind.Clocked refl (λ at. refl) (λ at. refl) (λ at. refl) (λ at. refl) (λ at q. refl) 1 body b
  body_stands kind.Initial body a c b = blocks_stand d counters kind.Initial refl (λ at. refl) (λ at. refl) (λ at. refl) (λ at. refl) (λ at q. refl) 1 body b

  pub process_stands : (p : Process) → FineProcess p → holds_all (process_lines d counters p) ≡ true
  process_stands p f =
      both_true true (holds_all (body_lines (around p.kind) p.body)) refl
      (body_stands p.kind p.body f.valid.assigns f.valid.covers (fine_block p f))
