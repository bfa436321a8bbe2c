-- The grammar of modules and source files (IEEE 1364-2005, modules; docs/formats.md, "Grammar").
use Rattle.std.specs.Prelude.{◌≡◌, ℕ, Bool, false, List, [], ◌∷◌, Option, Some, None}
use Rattle.cov_types.specs.declared.place.Place.{Place}
use Rattle.vlog_tokens.specs.declared.token.Token.{Token}
use Rattle.vlog_tokens.specs.declared.token_list.TokenList.{TokenList}
use Rattle.vlog_tokens.specs.declared.token.TokenKind.TheVariants as k
use Rattle.vlog_tree.specs.declared.expression.RangeExpr.{RangeExpr}
use Rattle.vlog_tree.specs.declared.item.ParamForm.{ParamForm}
use Rattle.vlog_tree.specs.declared.item.ParamName.{ParamName}
use Rattle.vlog_tree.specs.declared.item.Item.{Item}
use Rattle.vlog_tree.specs.declared.item.ItemKind.TheVariants as i
use Rattle.vlog_tree.specs.declared.module.PortKind.{PortKind}
use Rattle.vlog_tree.specs.declared.module.PortKind.TheVariants as port
use Rattle.vlog_tree.specs.declared.module.Port.{Port}
use Rattle.vlog_tree.specs.declared.module.Module.{Module}
use Rattle.vlog_tree.specs.declared.module.SourceFile.{SourceFile}
use Rattle.vlog_tree.specs.Trees.{item}
use Rattle.vlog_grammar.specs.Tokens.{Tokens, at, NotNext}
use Rattle.vlog_grammar.specs.Parts.{IsOptional, IsWordThere}
use Rattle.vlog_grammar.specs.Expressions.{IsRange}
use Rattle.vlog_grammar.specs.Items.{IsForm, IsParamName, AreItems}

-- setting = "parameter" form name "=" expr | name "=" expr, after one of this form if there is one; and its form
pub data IsSetting : Option ParamForm → Tokens → Item → ParamForm → Tokens → Type 0 where
  declared : {before : Option ParamForm} {us vs ws : Tokens} {p : Place} {form : ParamForm} {name : ParamName}
      → IsForm us form vs → IsParamName vs name ws
      → IsSetting before (at p k.Parameter ∷ us) (item p (i.Parameter false form (name ∷ []))) form ws
  -- A name alone has the form of the one before.
  lone : {us vs : Tokens} {t : Token} {form : ParamForm} {name : ParamName} → IsParamName (t ∷ us) name vs
      → IsSetting (Some form) (t ∷ us) (item t.place (i.Parameter false form (name ∷ []))) form vs

-- setting, ..
pub data AreSettings : Option ParamForm → Tokens → List Item → Tokens → Type 0 where
  last_setting : {before : Option ParamForm} {ts us : Tokens} {a : Item} {form : ParamForm}
      → IsSetting before ts a form us → AreSettings before ts (a ∷ []) us
  more_settings : {before : Option ParamForm} {ts us vs : Tokens} {p : Place} {a : Item} {form : ParamForm} {all : List Item}
      → IsSetting before ts a form (at p k.Comma ∷ us) → AreSettings (Some form) us all vs → AreSettings before ts (a ∷ all) vs

-- header?, with header = "#" "(" setting, .. ")", the first with "parameter"
pub data IsHeader : Tokens → List Item → Tokens → Type 0 where
  no_header : {us : Tokens} → NotNext k.Hash us → IsHeader us [] us
  header : {us vs : Tokens} {p q r : Place} {all : List Item} → AreSettings None us all (at r k.CloseParen ∷ vs)
      → IsHeader (at p k.Hash ∷ at q k.OpenParen ∷ us) all vs

-- direction = "input" "wire"? | "output" "wire"? | "output" "reg"
pub data IsDirection : Tokens → PortKind → Tokens → Type 0 where
  input : {us vs : Tokens} {p : Place} {written : Bool} → IsWordThere k.Wire us written vs → IsDirection (at p k.Input ∷ us) port.Input vs
  output_reg : {us : Tokens} {p q : Place} → IsDirection (at p k.Output ∷ at q k.Reg ∷ us) port.OutputReg us
  output_wire : {us vs : Tokens} {p : Place} {written : Bool} → NotNext k.Reg us → IsWordThere k.Wire us written vs
      → IsDirection (at p k.Output ∷ us) port.OutputWire vs

-- port = direction "signed"? range? name | name, after this one if there is one
pub data IsPort : Option Port → Tokens → Port → Tokens → Type 0 where
  declared_port : {before : Option Port} {us vs ws xs : Tokens} {t : Token} {q : Place} {kind : PortKind} {signed : Bool}
      {range : Option RangeExpr} {name : List ℕ}
      → IsDirection (t ∷ us) kind vs → IsWordThere k.Signed vs signed ws → IsOptional k.OpenBracket IsRange ws range (at q (k.Name name) ∷ xs)
      → IsPort before (t ∷ us)
      (record { place = t.place; kind = kind; signed = signed; range = range; name_place = q; name = name }) xs
  -- A name alone has the kind, sign and range of the one before.
  lone_port : {before : Port} {us : Tokens} {p : Place} {name : List ℕ}
      → IsPort (Some before) (at p (k.Name name) ∷ us)
      (record { place = p; kind = before.kind; signed = before.signed; range = before.range; name_place = p; name = name }) us

-- port, ..
pub data ArePorts : Option Port → Tokens → List Port → Tokens → Type 0 where
  last_port : {before : Option Port} {ts us : Tokens} {a : Port} → IsPort before ts a us → ArePorts before ts (a ∷ []) us
  more_ports : {before : Option Port} {ts us vs : Tokens} {p : Place} {a : Port} {all : List Port}
      → IsPort before ts a (at p k.Comma ∷ us) → ArePorts (Some a) us all vs → ArePorts before ts (a ∷ all) vs

-- ports?, with ports = "(" ")" | "(" port, .. ")", the first no name alone
pub data IsPortList : Tokens → List Port → Tokens → Type 0 where
  no_list : {us : Tokens} → NotNext k.OpenParen us → IsPortList us [] us
  empty_list : {us : Tokens} {p q : Place} → IsPortList (at p k.OpenParen ∷ at q k.CloseParen ∷ us) [] us
  ports : {us vs : Tokens} {p q : Place} {all : List Port} → ArePorts None us all (at q k.CloseParen ∷ vs)
      → IsPortList (at p k.OpenParen ∷ us) all vs

-- module = "module" name header? ports? ";" item* "endmodule"
pub data IsModule : Tokens → Module → Tokens → Type 0 where
  a_module : {us vs ws xs : Tokens} {p q r o : Place} {name : List ℕ} {params items : List Item} {ports : List Port}
      → IsHeader us params vs → IsPortList vs ports (at r k.Semicolon ∷ ws) → AreItems false ws items (at o k.EndModule ∷ xs)
      → IsModule (at p k.Module ∷ at q (k.Name name) ∷ us)
      (record { place = p; last = o; name = name; params = params; ports = ports; items = items }) xs

-- file = module*
pub data AreModules : Tokens → List Module → Type 0 where
  no_modules : AreModules [] []
  more_modules : {ts us : Tokens} {a : Module} {all : List Module} → IsModule ts a us → AreModules us all → AreModules ts (a ∷ all)

-- The tokens spell the file, which has their coverage comments.
abbrev pub SpellsFile : TokenList → SourceFile → Type 0
SpellsFile tokens file = AreModules tokens.tokens file.modules × (file.pragmas ≡ tokens.pragmas)
