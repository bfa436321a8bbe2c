use Rattle.std.proofs.Common.{◌≡◌, ℕ, List, take}
use Rattle.elab_overrides.specs.Overrides.{AreParameters}
use Rattle.elab_texts.proofs.Parameters.{is_none, open_text, kept}
use Rattle.elab_texts.proofs.texts.module_text.Given as goal

abbrev pub invariant-loop-constant : goal.invariant-loop-constant
invariant-loop-constant l = record {
  text : (names : List (List ℕ)) → AreParameters names l.parameters → l.text ≡ open_text l.name (kept names (take l.constant-index l.constants));
  first : (names : List (List ℕ)) → AreParameters names l.parameters → l.is_first ≡ is_none (kept names (take l.constant-index l.constants));
}
