-- The lines of a design's text, each with whether its own conditions hold and what it adds to what is limited.
use Rattle.std.specs.Prelude.{ℕ, ◌+◌, ◌&&◌, Bool, true, nat_le, List, [], ◌∷◌, ◌++◌, codes, map, flat_map}
use Rattle.cov_types.specs.Limits.{most}
use Rattle.cov_types.specs.declared.limit.LimitName.TheVariants as limit
use Rattle.cov_types.specs.LineLists.{separated}
use Rattle.cvd_text.specs.Tokens.{Token, token_text}

-- what lines add: bits of storage, steps, nodes of expressions, and bytes that are displayed at most
pub record Load : Type 0 where
  pub bits : ℕ
  pub steps : ℕ
  pub nodes : ℕ
  pub shown : ℕ

abbrev pub no_load : Load
no_load = record { bits = 0; steps = 0; nodes = 0; shown = 0 }

abbrev pub added : Load → Load → Load
added a b = record { bits = a.bits + b.bits; steps = a.steps + b.steps; nodes = a.nodes + b.nodes; shown = a.shown + b.shown }

-- the greatest number of steps of a design
abbrev pub most_steps : ℕ
most_steps = 4194304

abbrev pub is_within : Load → Bool
is_within sum =
    nat_le sum.bits (most limit.StateBits) && nat_le sum.steps most_steps
    && nat_le sum.nodes (most limit.Nodes) && nat_le sum.shown (most limit.EdgeText)

pub record Line : Type 0 where
  pub tokens : List Token
  -- whether its own conditions hold, and those of what ends with it
  pub holds : Bool
  pub load : Load

-- a line that adds nothing
abbrev pub line : List Token → Bool → Line
line tokens holds = record { tokens = tokens; holds = holds; load = no_load }

-- a line is its tokens with blanks between, and a line feed
abbrev pub line_text : Line → List ℕ
line_text l = separated (codes " ") (map token_text l.tokens) ++ 10 ∷ []

abbrev pub lines_text : List Line → List ℕ
lines_text ls = flat_map line_text ls

-- whether a line stands behind lines that add up to this: its conditions hold, and what is added up is within the limits
abbrev pub stands : Load → Line → Bool
stands before l = l.holds && is_within (added before l.load)

-- whether all lines stand, behind lines that add up to this
abbrev pub all_stand : Load → List Line → Bool
all_stand before [] = true
all_stand before (l ∷ ls) = stands before l && all_stand (added before l.load) ls
