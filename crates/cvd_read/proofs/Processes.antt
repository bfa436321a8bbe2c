-- Processes, each behind what those before it add up to.
use Rattle.std.proofs.Common.{◌≡◌, ℕ, ◌<◌, Bool, true, List, [], ◌∷◌, ◌++◌, length, map, sym, ◌∙◌, ap, subst, arith}
use Rattle.std.specs.Prelude.{codes, nat_le, flat_map}
use Rattle.cov_types.specs.Limits.{most}
use Rattle.cov_types.specs.declared.limit.LimitName.TheVariants as limit
use Rattle.cov_types.specs.declared.kind.ProcessKind.{ProcessKind}
use Rattle.cov_types.specs.declared.kind.ProcessKind.TheVariants as process
use Rattle.cov_types.specs.declared.var.Var.{Var}
use Rattle.design_tree.specs.declared.design.Process.{Process}
use Rattle.design_tree.specs.declared.step.Step.{Step}
use Rattle.spelling_laws.specs.Spelled.{Apart}
use Rattle.spelling_laws.specs.Lists.{state_behind}
use Rattle.cvd_text.specs.Lines.{Load, is_within, stands}
use Rattle.cvd_text.specs.Steps.{body_lines}
use Rattle.cvd_text.specs.Pieces.{Mark, token, line_end, fits, marks_of}
use Rattle.cvd_text.specs.Sections.{process_lines, processes_lines}
use Rattle.cvd_cursor.specs.Places.{Reading}
use Rattle.cvd_cursor.specs.Reads.{Takes, Refused, marks, line_marks}
use Rattle.cvd_cursor.specs.declared.fault.ReadFault.{ReadFault}
use Rattle.cvd_cursor.proofs.Composed.{takes_both, takes_as, refused_first, refused_second, refused_by}
use Rattle.cvd_laws.proofs.Marks.{apart_marks}
use Rattle.cvd_step_laws.specs.LineMarks.{each_lines, each_load, load_behind, with_vars}
use Rattle.cvd_step_laws.proofs.LineMarks.{added_nothing, marks_plain, each_joined, load_joined}
use Rattle.cvd_step_laws.proofs.BlockReads.{plain_stands}
use Rattle.cvd_step_laws.proofs.PartsApart.{apart_end}
use Rattle.cvd_section_laws.proofs.Rows.{heading_tokens}
use Rattle.cvd_section_laws.proofs.Sections.{with_processes, process_tokens, process_line, process_alike, apart_process_kind}
use Rattle.cvd_sections.proofs.Counting as counting
use Rattle.cvd_steps.specs.Bodies.{around_of, body_marks}

abbrev pub some_process : Process
some_process = record { kind = process.Assign; body = [] }

-- whether there may be so many processes
abbrev pub may_be : ℕ → Bool
may_be n = nat_le n (most limit.Processes)

module _ (vars : List Var) (counters : ℕ) where
  abbrev pub spelled : Load → Process → List Mark
  spelled = each_lines (process_lines (with_vars vars) counters)

  abbrev pub next : Load → Process → Load
  next = each_load (process_lines (with_vars vars) counters)

  abbrev pub section : Load → List Process → List Mark
  section load ps = marks_of load (processes_lines (with_processes vars ps) counters)

  pub alike : (load : Load) → is_within load ≡ true → (ps : List Process)
      → section load ps ≡ counting.plain Process Load spelled next (λ n. load) (codes "processes") may_be (section load) ps
  alike load within ps =
      let tokens = heading_tokens (codes "processes") (length ps) in
      let lines = flat_map (process_lines (with_vars vars) counters) ps in
      marks_plain load tokens (may_be (length ps)) lines
      ∙ ap (λ s. map token tokens ++ line_end s ∷ marks_of load lines) (plain_stands load tokens (may_be (length ps)) within)
      ∙ ap (λ z. map token tokens ++ line_end (may_be (length ps)) ∷ z) (each_joined (process_lines (with_vars vars) counters) load ps)

  pub behind_all : (load : Load) (ps : List Process) → load_behind load (processes_lines (with_processes vars ps) counters) ≡ state_behind spelled next load ps
  behind_all load ps =
      ap (λ b. load_behind b (flat_map (process_lines (with_vars vars) counters) ps)) (added_nothing load)
      ∙ load_joined (process_lines (with_vars vars) counters) load ps

  pub some_marks : (load : Load) (p : Process) → 0 < length (spelled load p)
  some_marks load p = omega arith

  -- ---- one process

  abbrev Parts : Type 0
  Parts = (k : ProcessKind) × ((ended : Unit {0}) × List Step)

  abbrev pub made : ProcessKind → List Step → Process
  made k steps = record { kind = k; body = steps }

  abbrev to : Parts → Process
  to p = made p.0 p.1.1

  abbrev from : Process → Parts
  from p = (p.kind, (tt, p.body))

  pub behind_one : (load : Load) (k : ProcessKind) (steps : List Step)
      → load_behind load (body_lines (around_of vars (record { kind = k; counters = counters })) steps) ≡ next load (made k steps)
  behind_one load k steps =
      ap (λ b. load_behind b (body_lines (around_of vars (record { kind = k; counters = counters })) steps)) (sym (added_nothing load))

  module _ (load : Load) (within : is_within load ≡ true) where
    abbrev flag : ProcessKind → Bool
    flag k = stands load (process_line (with_vars vars) counters k)

    flag_is : (k : ProcessKind) → true ≡ flag k
    flag_is k = sym (plain_stands load (process_tokens k) true within)

    abbrev pub body : ProcessKind → List Step → List Mark
    body k steps = body_marks (around_of vars (record { kind = k; counters = counters })) load steps

    abbrev rest : ProcessKind → (ended : Unit {0}) × List Step → List Mark
    rest k q = line_marks (flag k) q.0 ++ body k q.1

    abbrev parts : Parts → List Mark
    parts p = marks process_tokens p.0 ++ rest p.0 p.1

    parts_alike : (p : Process) → spelled load p ≡ parts (from p)
    parts_alike p = process_alike (with_vars vars) counters load p

    parts_alike_to : (p : Parts) → spelled load (to p) ≡ parts p
    parts_alike_to p = parts_alike (to p)

    apart_kind : Apart fits (marks process_tokens)
    apart_kind k = apart_marks process_tokens k (apart_process_kind k)

    pub takes_one : (old mid low new : Reading) (k : ProcessKind) (steps : List Step) → Takes (marks process_tokens) old mid k
        → Takes (line_marks true) mid low tt → Takes (body k) low new steps → Takes (spelled load) old new (made k steps)
    takes_one old mid low new k steps h e b =
        takes_as Parts Process to from parts (spelled load) parts_alike parts_alike_to old new (k, (tt, steps))
        (takes_both ProcessKind (λ x. (ended : Unit {0}) × List Step) (marks process_tokens) rest old mid new k (tt, steps) h
        (takes_both (Unit {0}) (λ u. List Step) (line_marks (flag k)) (λ u. body k) mid low new tt steps
        (subst (λ s. Takes (line_marks s) mid low tt) (flag_is k) e) b))

    refused_parts : (old new : Reading) (fault : ReadFault) → Refused parts old fault new → Refused (spelled load) old fault new
    refused_parts = refused_by Parts Process to from parts (spelled load) parts_alike parts_alike_to

    pub refused_kind : (old new : Reading) (fault : ReadFault) → Refused (marks process_tokens) old fault new → Refused (spelled load) old fault new
    refused_kind old new fault r =
        refused_parts old new fault
        (refused_first ProcessKind (λ x. (ended : Unit {0}) × List Step) (marks process_tokens) rest apart_kind (λ k. (tt, [])) old new fault r)

    refused_rest : (old mid new : Reading) (k : ProcessKind) (fault : ReadFault) → Takes (marks process_tokens) old mid k → Refused (rest k) mid fault new
        → Refused (spelled load) old fault new
    refused_rest old mid new k fault h r =
        refused_parts old new fault
        (refused_second ProcessKind (λ x. (ended : Unit {0}) × List Step) (marks process_tokens) rest k (apart_kind k) old mid new fault h r)

    pub refused_line : (old mid new : Reading) (k : ProcessKind) (fault : ReadFault) → Takes (marks process_tokens) old mid k
        → Refused (line_marks true) mid fault new → Refused (spelled load) old fault new
    refused_line old mid new k fault h r =
        refused_rest old mid new k fault h
        (refused_first (Unit {0}) (λ u. List Step) (line_marks (flag k)) (λ u. body k) (apart_end (flag k)) (λ u. []) mid new fault
        (subst (λ s. Refused (line_marks s) mid fault new) (flag_is k) r))

    pub refused_body : (old mid low new : Reading) (k : ProcessKind) (fault : ReadFault) → Takes (marks process_tokens) old mid k
        → Takes (line_marks true) mid low tt → Refused (body k) low fault new → Refused (spelled load) old fault new
    refused_body old mid low new k fault h e r =
        refused_rest old mid new k fault h
        (refused_second (Unit {0}) (λ u. List Step) (line_marks (flag k)) (λ u. body k) tt (apart_end (flag k) tt) mid low new fault
        (subst (λ s. Takes (line_marks s) mid low tt) (flag_is k) e) r)
