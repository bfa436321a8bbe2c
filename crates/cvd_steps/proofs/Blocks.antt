-- Blocks and tests, from the parts that are read one behind the other.
use Rattle.std.proofs.Common.{◌≡◌, ℕ, ◌+◌, List, [], ◌++◌, codes, sym, ◌∙◌, ap, subst}
use Rattle.design_tree.specs.declared.step.Step.{Step}
use Rattle.design_tree.specs.declared.typed.Typed.{Typed}
use Rattle.spelling_laws.specs.Spelled.{Apart}
use Rattle.spelling_laws.proofs.Fitting.{assoc}
use Rattle.cvd_text.specs.Expressions.{tokens_of}
use Rattle.cvd_text.specs.Lines.{Load, added, stands}
use Rattle.cvd_text.specs.Pieces.{Mark, fits}
use Rattle.cvd_text.specs.Steps.{Around, Spot}
use Rattle.cvd_cursor.specs.Places.{Reading}
use Rattle.cvd_cursor.specs.Reads.{Takes, Refused, marks, line_marks}
use Rattle.cvd_cursor.specs.declared.fault.ReadFault.{ReadFault}
use Rattle.cvd_cursor.proofs.Composed.{takes_both, refused_first, refused_second, takes_as, refused_by}
use Rattle.cvd_step_laws.specs.LineMarks.{load_behind}
use Rattle.cvd_step_laws.specs.StepMarks.{this_word, block_lines_at, block_marks, if_line, begin_line, steps_marks, within, tested_marks, Tested}
use Rattle.cvd_step_laws.proofs.PartsApart.{apart_end, apart_word, value_then}
use Rattle.cvd_step_laws.proofs.StepParts.{block_alike}
use Rattle.cvd_step_laws.proofs.StepsApart.{apart_block}
use Rattle.cvd_nodes.proofs.Fields.{then_apart}
use Rattle.cvd_steps.specs.Lines.{test_marks, begin_marks}

-- ---- blocks

module _ (around : Around) (before : Load) (deep : ℕ) where
  abbrev Begun : Type 0
  Begun = (word : Unit {0}) × Unit {0}

  abbrev Whole : Type 0
  Whole = (begun : Begun) × List Step

  abbrev inner : List Step → List Mark
  inner = steps_marks around deep (within before 0)

  abbrev whole_marks : Whole → List Mark
  whole_marks p = begin_marks before deep p.0 ++ inner p.1

  abbrev block : List Step → List Mark
  block steps = block_marks around before deep steps

  apart_begin : Apart fits (begin_marks before deep)
  apart_begin = then_apart (Unit {0}) (Unit {0}) (marks (this_word (codes "begin"))) (line_marks (stands before (begin_line deep))) (apart_word (codes "begin"))
      (apart_end (stands before (begin_line deep)))

  alike : (steps : List Step) → block steps ≡ whole_marks ((tt, tt), steps)
  alike steps = block_alike around deep before steps

  pub block_takes : (old mid new : Reading) (p : Begun) (steps : List Step) → Takes (begin_marks before deep) old mid p → Takes inner mid new steps
      → Takes block old new steps
  block_takes old mid new p steps h t =
      takes_as Whole (List Step) (λ q. q.1) (λ s. ((tt, tt), s)) whole_marks block alike (λ q. alike q.1) old new (p, steps)
      (takes_both Begun (λ q. List Step) (begin_marks before deep) (λ q. inner) old mid new p steps h t)

  pub block_no_begin : (old new : Reading) (fault : ReadFault) → Refused (begin_marks before deep) old fault new → Refused block old fault new
  block_no_begin old new fault r =
      refused_by Whole (List Step) (λ q. q.1) (λ s. ((tt, tt), s)) whole_marks block alike (λ q. alike q.1) old new fault
      (refused_first Begun (λ q. List Step) (begin_marks before deep) (λ q. inner) apart_begin (λ q. []) old new fault r)

  pub block_no_steps : (old mid new : Reading) (fault : ReadFault) (p : Begun) → Takes (begin_marks before deep) old mid p → Refused inner mid fault new
      → Refused block old fault new
  block_no_steps old mid new fault p h r =
      refused_by Whole (List Step) (λ q. q.1) (λ s. ((tt, tt), s)) whole_marks block alike (λ q. alike q.1) old new fault
      (refused_second Begun (λ q. List Step) (begin_marks before deep) (λ q. inner) p (apart_begin p) old mid new fault h r)

-- ---- tests

module _ (around : Around) (before : Load) (at : Spot) where
  abbrev First : Type 0
  First = (test : Typed) × Unit {0}

  abbrev Sides : Type 0
  Sides = (left : List Step) × List Step

  abbrev behind : First → Load
  behind p = added before (if_line around at p.0).load

  abbrev side : Load → List Step → List Mark
  side load steps = block_marks around load (at.deep + 1) steps

  abbrev sides_marks : First → Sides → List Mark
  sides_marks p q = side (behind p) q.0 ++ side (load_behind (behind p) (block_lines_at around (at.deep + 1) q.0)) q.1

  abbrev Sided : Type 0
  Sided = (first : First) × Sides

  abbrev sided_marks : Sided → List Mark
  sided_marks p = test_marks around before at p.0 ++ sides_marks p.0 p.1

  abbrev to_tested : Sided → Tested
  to_tested p = (p.0.0, (p.0.1, (p.1.0, p.1.1)))

  abbrev from_tested : Tested → Sided
  from_tested p = ((p.0, p.1.0), (p.1.1.0, p.1.1.1))

  tested_alike_to : (p : Sided) → tested_marks around before at (to_tested p) ≡ sided_marks p
  tested_alike_to p = sym (assoc (marks tokens_of p.0.0) (line_marks (stands before (if_line around at p.0.0)) p.0.1) (sides_marks p.0 p.1))

  tested_alike : (p : Tested) → tested_marks around before at p ≡ sided_marks (from_tested p)
  tested_alike p = tested_alike_to (from_tested p)

  apart_first : Apart fits (test_marks around before at)
  apart_first p =
      value_then (λ t. Unit {0}) (λ t. line_marks (stands before (if_line around at t))) p.0 p.1 (apart_end (stands before (if_line around at p.0)) p.1)

  pub tested_no_test : (old new : Reading) (fault : ReadFault) → Refused (test_marks around before at) old fault new
      → Refused (tested_marks around before at) old fault new
  tested_no_test old new fault r =
      refused_by Sided Tested to_tested from_tested sided_marks (tested_marks around before at) tested_alike tested_alike_to old new fault
      (refused_first First (λ p. Sides) (test_marks around before at) sides_marks apart_first (λ p. ([], [])) old new fault r)

  module _ (first : First) (load : Load) (same : load ≡ behind first) (old mid : Reading) (h : Takes (test_marks around before at) old mid first) where
    pub tested_no_left : (new : Reading) (fault : ReadFault) → Refused (side load) mid fault new → Refused (tested_marks around before at) old fault new
    tested_no_left new fault r =
        refused_by Sided Tested to_tested from_tested sided_marks (tested_marks around before at) tested_alike tested_alike_to old new fault
        (refused_second First (λ p. Sides) (test_marks around before at) sides_marks first (apart_first first) old mid new fault h
        (refused_first (List Step) (λ l. List Step) (side (behind first)) (λ l. side (load_behind (behind first) (block_lines_at around (at.deep + 1) l)))
        (apart_block around (behind first) (at.deep + 1)) (λ l. []) mid new fault (subst (λ b. Refused (side b) mid fault new) same r)))

    module _ (left : List Step) (next : Load) (after : next ≡ load_behind load (block_lines_at around (at.deep + 1) left)) (last : Reading)
        (t : Takes (side load) mid last left) where
      here : Takes (side (behind first)) mid last left
      here = subst (λ b. Takes (side b) mid last left) same t

      is : next ≡ load_behind (behind first) (block_lines_at around (at.deep + 1) left)
      is = after ∙ ap (λ b. load_behind b (block_lines_at around (at.deep + 1) left)) same

      pub tested_no_right : (new : Reading) (fault : ReadFault) → Refused (side next) last fault new → Refused (tested_marks around before at) old fault new
      tested_no_right new fault r =
          refused_by Sided Tested to_tested from_tested sided_marks (tested_marks around before at) tested_alike tested_alike_to old new fault
          (refused_second First (λ p. Sides) (test_marks around before at) sides_marks first (apart_first first) old mid new fault h
          (refused_second (List Step) (λ l. List Step) (side (behind first)) (λ l. side (load_behind (behind first) (block_lines_at around (at.deep + 1) l)))
          left (apart_block around (behind first) (at.deep + 1) left) mid last new fault here (subst (λ b. Refused (side b) last fault new) is r)))

      pub tested_takes : (new : Reading) (right : List Step) → Takes (side next) last new right
          → Takes (tested_marks around before at) old new (first.0, (first.1, (left, right)))
      tested_takes new right s =
          takes_as Sided Tested to_tested from_tested sided_marks (tested_marks around before at) tested_alike tested_alike_to old new (first, (left, right))
          (takes_both First (λ p. Sides) (test_marks around before at) sides_marks old mid new first (left, right) h
          (takes_both (List Step) (λ l. List Step) (side (behind first)) (λ l. side (load_behind (behind first) (block_lines_at around (at.deep + 1) l)))
          mid last new left right here (subst (λ b. Takes (side b) last new right) is s)))
