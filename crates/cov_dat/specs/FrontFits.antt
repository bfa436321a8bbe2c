-- Private: a pattern matched up to its first star.
use Rattle.std.specs.Prelude.{◌≡◌, ℕ, ◌+◌, ◌<◌, ◌==◌, Bool, true, false, not, List, ◌∷◌, ◌++◌, length}
use Rattle.std.specs.List.{list_all}
use Rattle.cov_dat.specs.Patterns.{spells}
use Rattle.cov_dat.specs.declared.front.Front.{Front}
use Rattle.cov_dat.specs.declared.front.Front.TheVariants as front

-- signs without a star
abbrev pub has_no_star : List ℕ → Bool
has_no_star signs = list_all (λ c. not (c == 42)) signs

-- a front of the pattern without a star spells as many bytes of the text, and these are left of both
pub record FrontFits (pattern text pattern_left text_left : List ℕ) : Type 0 where
  pub signs : List ℕ
  pub bytes : List ℕ
  pub pattern_split : pattern ≡ signs ++ pattern_left
  pub text_split : text ≡ bytes ++ text_left
  pub as_many : length signs ≡ length bytes
  pub no_star : has_no_star signs ≡ true
  pub same : spells pattern text ≡ spells pattern_left text_left

-- what the front of a pattern comes to
abbrev pub FrontTells : Front → List ℕ → List ℕ → Type 0
FrontTells (front.Star left text_left) pattern text = FrontFits pattern text (42 ∷ left.now) text_left.now
FrontTells front.Whole pattern text = spells pattern text ≡ true
FrontTells front.Misfit pattern text = spells pattern text ≡ false

-- whether the pattern, behind a star where there was one, spells the text
abbrev pub spells_from : Bool → List ℕ → List ℕ → Bool
spells_from true pattern text = spells (42 ∷ pattern) text
spells_from false pattern text = spells pattern text

-- less is left of both together behind a star
abbrev pub IsShorter : Front → List ℕ → List ℕ → Type 0
IsShorter (front.Star left text_left) pattern text = length left.now + length text_left.now < length pattern + length text
IsShorter front.Whole pattern text = Unit {0}
IsShorter front.Misfit pattern text = Unit {0}
