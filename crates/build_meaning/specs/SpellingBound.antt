-- When a design file is surely short enough (this project's own).
use Rattle.std.specs.Prelude.{ℕ, ◌+◌, ◌*◌, ◌<◌}
use Rattle.cov_types.specs.Limits.{most}
use Rattle.cov_types.specs.declared.limit.LimitName.TheVariants.{CvdBytes}

-- what the bound counts: of the typed design its variables, processes, statements, targets and nodes, inputs, arms and
-- greatest text; of the table its toggle rows and the bytes of all keys
pub record Extent : Type 0 where
  pub variables : ℕ
  pub toggles : ℕ
  pub processes : ℕ
  pub statements : ℕ
  pub targets : ℕ
  pub nodes : ℕ
  pub inputs : ℕ
  pub arms : ℕ
  pub edge_text : ℕ
  pub key_bytes : ℕ

-- no spelling has more bytes
abbrev pub most_bytes : Extent → ℕ
most_bytes e =
    128 * (e.variables + e.toggles + e.processes + e.statements + e.targets + e.nodes)
    + 320 * e.inputs + 8192 * e.arms + 2 * e.edge_text + e.key_bytes

-- the limit on the bytes of a design file is answered only where a spelling has more, and never where this bound has not
pub record MayPass (e : Extent) (spelling : ℕ) : Type 0 where
  pub longer : most CvdBytes < spelling
  pub extent : most CvdBytes < most_bytes e
