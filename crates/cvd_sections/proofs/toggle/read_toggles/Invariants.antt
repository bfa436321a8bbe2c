use Rattle.std.proofs.Common.{true, length}
use Rattle.std.specs.Prelude.{codes}
use Rattle.cvd_sections.specs.Places.{IsLastOf}
use Rattle.cvd_sections.proofs.RowSections.{Goes}
use Rattle.cvd_sections.proofs.Toggles.{each, section}
use Rattle.std.specs.Option.{option_map}
use Rattle.cvd_text.specs.Sections.{is_below}
use Rattle.design_meaning.specs.Valid.{toggle_place}
use Rattle.design_tree.specs.declared.instrumented.ToggleEntry.{ToggleEntry}
use Rattle.cvd_sections.proofs.toggle.read_toggles.Given as goal

abbrev pub invariant-loop-count : goal.invariant-loop-count
invariant-loop-count l = record {
  goes : Goes ToggleEntry (each l.vars l.counters) (codes "toggles") (λ n. true) (section l.vars l.counters) l.fn.cursor l.cursor l.count l.kept;
  last : IsLastOf is_below toggle_place l.kept (option_map toggle_place l.last);
}

abbrev pub decreases-loop-count : goal.decreases-loop-count
decreases-loop-count l = length l.cursor.rest
