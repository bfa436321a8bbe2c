-- What names stand for in the passes of loops.
use Rattle.std.proofs.Common.{◌≡◌, ◌∙◌, sym, ap, refl, ℕ, Bool, true, false, ◌||◌, cond, List, [], ◌∷◌, ◌++◌, fold, is_some, Option, Some, None}
use Rattle.std.specs.Str.{bytes_eq}
use Rattle.source_meaning.specs.Environment.{Named, constant, Environment, in_pass}
use Rattle.flat_names.specs.declared.loops.LoopValue.{LoopValue}
use Rattle.scope_meaning.specs.Declared.{is_in}
use Rattle.flat_names.specs.Loops.{or_value, loop_value, loop_names, in_passes}
use Rattle.flat_names.specs.Inside.{in_loop}

-- from a value found so far on
passes_from : (loops : List LoopValue) (env : Environment) (name : List ℕ) (found : Option ℕ) (base : Named) → env.look name ≡ in_loop found base
    → (in_passes loops env).look name ≡ in_loop (fold (or_value name) found loops) base
passes_from [] env name found base h = h
passes_from (l ∷ loops) env name found base h =
    passes_from loops (in_pass env l.name.now l.value) name (or_value name found l) base (by (bytes_eq name l.name.now))
  where
    by : (b : Bool) → cond b (constant 32 true l.value) (env.look name) ≡ in_loop (cond b (Some l.value) found) base
    by true = refl
    by false = h

pub passes_look : (loops : List LoopValue) (env : Environment) (name : List ℕ) (base : Named) → env.look name ≡ base
    → (in_passes loops env).look name ≡ in_loop (loop_value loops name) base
passes_look loops env name base h = passes_from loops env name None base h

pub passes_scope : (loops : List LoopValue) (env : Environment) → (in_passes loops env).scope ≡ env.scope
passes_scope [] env = refl
passes_scope (l ∷ loops) env = passes_scope loops (in_pass env l.name.now l.value)

-- one loop more inside the others
pub passes_more : (loops : List LoopValue) (l : LoopValue) (env : Environment)
    → in_passes (loops ++ l ∷ []) env ≡ in_pass (in_passes loops env) l.name.now l.value
passes_more [] l env = refl
passes_more (k ∷ loops) l env = passes_more loops l (in_pass env k.name.now k.value)

-- ---- whether a loop turns over a name

turned : (b : Bool) (found : Option ℕ) (v : ℕ) (x : Bool) → (is_some (cond b (Some v) found) || x) ≡ (is_some found || (b || x))
turned true (Some w) v x = refl
turned true None v x = refl
turned false (Some w) v x = refl
turned false None v x = refl

or_false : (b : Bool) → b ≡ (b || false)
or_false true = refl
or_false false = refl

pub some_is : (name : List ℕ) (loops : List LoopValue) (found : Option ℕ)
    → is_some (fold (or_value name) found loops) ≡ (is_some found || is_in name (loop_names loops))
some_is name [] found = or_false (is_some found)
some_is name (l ∷ loops) found =
    some_is name loops (or_value name found l) ∙ turned (bytes_eq name l.name.now) found l.value (is_in name (loop_names loops))
