use Rattle.std.proofs.Common.{◌≡◌, ◌≤◌, Some, length, drop}
use Rattle.std.specs.Prelude.{IfSome}
use Rattle.std.specs.Option.{option_map, option_map_or}
use Rattle.cov_port.specs.Memory.{held_in}
use Rattle.cov_port.specs.Spans.{files_in, text_in}
use Rattle.cov_port.proofs.file_log.find_file.Given as goal

abbrev pub invariant-loop-span : goal.invariant-loop-span
invariant-loop-span l = record {
  text : option_map_or (λ text. Some text) (held_in (files_in l.log (drop l.span-index l.spans)) l.name) (option_map (λ span. text_in l.log span) l.found)
      ≡ held_in (files_in l.log l.spans) l.name;
  within : IfSome l.found (λ span. (span.text ≤ span.end) × (span.end ≤ length l.log));
}
