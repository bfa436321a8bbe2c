-- What names stand for in a pass of a generate loop: the genvar for its value, variables of the module for their numbers.
--   module r (input [3:0] a, ..); wire [4:0] c; genvar i; for (i = 0; i < 4; i = i + 1) begin : g .. end endmodule
use Rattle.std.proofs.Common.{◌≡◌, refl, ℕ, false, true, List, [], ◌∷◌, None, Some, codes, pos}
use Rattle.cov_types.specs.declared.kind.VarKind.TheVariants as kind
use Rattle.elab_types.specs.declared.flat_source.FlatVar.{FlatVar}
use Rattle.source_meaning.specs.Environment.{variable, constant, unknown}
use Rattle.scope_meaning.specs.Declared.{declare, input, wire, genvar, scope_name}
use Rattle.scope_meaning.specs.Scope.{Here, At, genvar_constant, meaning_of}
use Rattle.flat_source_meaning.specs.Environments.{environment, position_from}

abbrev var : List ℕ → ℕ → FlatVar
var n width = record {
  scope = 0;
  name = n;
  place = record { file = 0; line = 1; column = 1 };
  kind = kind.Wire;
  width = width;
  low = 0;
  vector = true;
  signed = false;
  integer = false;
  words = 1;
  word_low = 0;
  memory = false;
  start = 0;
}

-- the block of the pass in which the genvar is 2
abbrev pass : Here
pass = record {
  number = 3;
  path = codes "r.g[2]";
  module_number = 0;
  home = 0;
  above = codes "r" ∷ [];
  given = [];
  declared = [];
  genvar = Some (genvar_constant (codes "i") (pos 2));
  outer = record {
    number = 0;
    declared = declare input (codes "a") ∷ declare wire (codes "c") ∷ declare genvar (codes "i") ∷ declare scope_name (codes "g") ∷ [];
    genvar = None;
    known = [];
  } ∷ [];
}

abbrev first : At
first = record { next = 4; item = 5; construct = 0; known = []; earlier = [] }

abbrev vars : List FlatVar
vars = var (codes "a") 4 ∷ var (codes "c") 5 ∷ []

genvar_is : (environment vars pass first).look (codes "i") ≡ constant 32 true 2
unfolding meaning_of
genvar_is = refl

c_is : (environment vars pass first).look (codes "c")
    ≡ variable (record { number = 1; width = 5; signed = false; vector = true; low = 0; memory = false; word_low = 0 })
unfolding meaning_of position_from
c_is = refl

block_is_none : (environment vars pass first).look (codes "g") ≡ unknown
unfolding meaning_of
block_is_none = refl
