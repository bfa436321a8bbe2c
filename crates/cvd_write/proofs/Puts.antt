-- Texts that are put one behind the other.
use Rattle.std.specs.Prelude.{◌≡◌, ℕ, List, [], ◌∷◌, ◌++◌, Result, Ok, Err, OnOk}
use Rattle.std.proofs.Common.{ap, subst, sym, ◌∙◌, append_assoc}
use Rattle.cvd_write.specs.declared.fault.WriteFault.{WriteFault}
use Rattle.std.specs.Prelude.{map, flat_map}
use Rattle.std.proofs.lemmas.Grind.{flat_map-append}
use Rattle.std.proofs.lemmas.List.Folds.{flat_map-map}
use Rattle.cvd_text.specs.Tokens.{Token, token_text}
use Rattle.design_tree.specs.declared.step.Step.{Step}
use Rattle.design_tree.specs.declared.step.StepArm.{StepArm}
use Rattle.cvd_write.specs.Writing.{Refuses, Writes, spaced, row, step_text, arm_text}

-- the second text was put behind the first
pub put_behind : {E : Type 0} (old first second mid new : List ℕ) (result : Result (Unit {0}) E) → mid ≡ old ++ first → OnOk result (new ≡ mid ++ second)
    → OnOk result (new ≡ old ++ (first ++ second))
put_behind old first second mid new (Ok done) e h = h ∙ ap (λ l. l ++ second) e ∙ append_assoc old first second
put_behind old first second mid new (Err fault) e h = h

-- the same text in other words
pub put_same : {E : Type 0} (old text other new : List ℕ) (result : Result (Unit {0}) E) → text ≡ other → OnOk result (new ≡ old ++ text)
    → OnOk result (new ≡ old ++ other)
put_same old text other new result e h = subst (λ l. OnOk result (new ≡ old ++ l)) e h

-- further tokens behind the first ones
pub put_tokens : {E : Type 0} (old : List ℕ) (first second : List Token) (mid new : List ℕ) (result : Result (Unit {0}) E) → mid ≡ old ++ spaced first
    → OnOk result (new ≡ mid ++ spaced second) → OnOk result (new ≡ old ++ spaced (first ++ second))
put_tokens old first second mid new result e h =
    put_same old (spaced first ++ spaced second) (spaced (first ++ second)) new result (sym (flat_map-append (λ t. 32 ∷ token_text t) first second))
    (put_behind old (spaced first) (spaced second) mid new result e h)

-- the same tokens in other words
pub put_as : {E : Type 0} (old : List ℕ) (tokens others : List Token) (new : List ℕ) (result : Result (Unit {0}) E) → others ≡ tokens
    → OnOk result (new ≡ old ++ spaced tokens) → OnOk result (new ≡ old ++ spaced others)
put_as old tokens others new result e h = subst (λ l. OnOk result (new ≡ old ++ spaced l)) (sym e) h

-- a line: its first word, further tokens, and a line feed
pub put_row : {E : Type 0} (old name : List ℕ) (tokens : List Token) (mid more new : List ℕ) (result : Result (Unit {0}) E) → mid ≡ old ++ name
    → more ≡ mid ++ spaced tokens → OnOk result (new ≡ more ++ 10 ∷ []) → OnOk result (new ≡ old ++ row name tokens)
put_row old name tokens mid more new result e f h =
    put_behind old name (spaced tokens ++ 10 ∷ []) mid new result e (put_behind mid (spaced tokens) (10 ∷ []) more new result f h)

-- tokens behind tokens, both of which were put
pub then_tokens : (old : List ℕ) (first second : List Token) (mid new : List ℕ) → mid ≡ old ++ spaced first → new ≡ mid ++ spaced second
    → new ≡ old ++ spaced (first ++ second)
then_tokens old first second mid new e h = put_tokens {E = Unit {0}} old first second mid new (Ok tt) e h

-- the second behind the first
pub follows : (old first second : List ℕ) (result : Result (Unit {0}) WriteFault) (new : List ℕ) → Writes (old ++ first) second result new
    → Writes old (first ++ second) result new
follows old first second (Ok done) new h = h ∙ append_assoc old first second
follows old first second (Err fault) new h = subst (λ l. Refuses fault l) (append_assoc old first second) h

-- the same from where the first has come to
pub behind : (old first second mid : List ℕ) (result : Result (Unit {0}) WriteFault) (new : List ℕ) → mid ≡ old ++ first → Writes mid second result new
    → Writes old (first ++ second) result new
behind old first second mid result new e h = follows old first second result new (subst (λ l. Writes l second result new) e h)

-- texts of things, one behind the other
pub joined_texts : (steps : List Step) → flat_map (λ (text : List ℕ). text) (map step_text steps) ≡ flat_map step_text steps
joined_texts steps = flat_map-map (λ (text : List ℕ). text) step_text steps

pub joined_arms : (arms : List StepArm) → flat_map (λ (text : List ℕ). text) (map arm_text arms) ≡ flat_map arm_text arms
joined_arms arms = flat_map-map (λ (text : List ℕ). text) arm_text arms
