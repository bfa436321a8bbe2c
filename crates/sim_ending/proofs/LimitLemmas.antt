-- The limit that a stimulus may pass.
use Rattle.std.proofs.Common.{◌≡◌, true, refl}
use Rattle.cov_types.specs.declared.limit.LimitName.{LimitName}
use Rattle.cov_types.specs.declared.limit.LimitName.TheVariants.{StimulusBytes}
use Rattle.stim_lines.specs.Reading.{is_stimulus_limit}

pub only_bytes : (name : LimitName) → is_stimulus_limit name ≡ true → name ≡ StimulusBytes
only_bytes StimulusBytes is = refl
only_bytes _ is = absurd (cc)
