-- One loop more around a place.
use Rattle.std.proofs.Common.{◌≡◌, ◌∙◌, sym, ap, refl, subst, ℕ, List, [], ◌∷◌, ◌++◌}
use Rattle.source_meaning.specs.Environment.{Environment, in_pass}
use Rattle.flat_source_meaning.specs.Environments.{environment}
use Rattle.flat_names.specs.declared.loops.LoopValue.{LoopValue}
use Rattle.flat_names.specs.Loops.{in_passes}
use Rattle.flat_source_meaning.specs.ProcessLoops.{ProcessLoop, passes}
use Rattle.flat_passes.specs.declared.values.Passes.{Passes}
use Rattle.flat_passes.specs.declared.values.Passes.TheVariants as are
use Rattle.flat_passes.specs.Turns.{IsPasses}
use Rattle.flat_sites.specs.declared.site.Site.{Site}
use Rattle.flat_sites.specs.Seen.{IsSeen}

inside_all : (loops : List LoopValue) (l : LoopValue) (env : Environment)
    → in_passes (loops ++ l ∷ []) env ≡ in_pass (in_passes loops env) l.name.now l.value
inside_all [] l env = refl
inside_all (k ∷ loops) l env = inside_all loops l (in_pass env k.name.now k.value)

pub one_more : (site : Site) (loops all : List LoopValue) (l : LoopValue) (env : Environment) → IsSeen site loops env → all ≡ loops ++ l ∷ []
    → IsSeen site all (in_pass env l.name.now l.value)
one_more site loops all l env s e = record {
  here = s.here;
  place = s.place;
  stands = s.stands;
  same =
      ap (λ (x : Environment). in_pass x l.name.now l.value) s.same
      ∙ sym (ap (λ (ls : List LoopValue). in_passes ls (environment site.vars.now s.here s.place)) e
      ∙ inside_all loops l (environment site.vars.now s.here s.place));
}

-- the values of a loop's variable, where names stand for the same
pub made_are : (env other : Environment) (l : ProcessLoop) (p : Passes) (ns : List ℕ) → p ≡ are.Made ns → other ≡ env → IsPasses other l p
    → ns ≡ passes env l
unfolding IsPasses
made_are env other l p ns e same h =
    let kept = subst (λ (x : Environment). IsPasses x l (are.Made ns)) same (subst (λ (q : Passes). IsPasses other l q) e h) in
    kept.2
