-- The grammar of module items (IEEE 1364-2005, module items and generate constructs; docs/formats.md, "Grammar").
use Rattle.std.specs.Prelude.{ℕ, Bool, true, false, List, [], ◌∷◌, Option, Some, None}
use Rattle.cov_types.specs.declared.place.Place.{Place}
use Rattle.vlog_tokens.specs.declared.token.TokenKind.TheVariants as k
use Rattle.vlog_tree.specs.declared.expression.Expr.{Expr}
use Rattle.vlog_tree.specs.declared.expression.RangeExpr.{RangeExpr}
use Rattle.vlog_tree.specs.declared.statement.Stmt.{Stmt}
use Rattle.vlog_tree.specs.declared.item.NamePlace.{NamePlace}
use Rattle.vlog_tree.specs.declared.item.WireName.{WireName}
use Rattle.vlog_tree.specs.declared.item.RegName.{RegName}
use Rattle.vlog_tree.specs.declared.item.ParamForm.{ParamForm}
use Rattle.vlog_tree.specs.declared.item.ParamForm.TheVariants as form
use Rattle.vlog_tree.specs.declared.item.ParamName.{ParamName}
use Rattle.vlog_tree.specs.declared.item.AssignPart.{AssignPart}
use Rattle.vlog_tree.specs.declared.item.NamedConn.{NamedConn}
use Rattle.vlog_tree.specs.declared.item.Conns.{Conns}
use Rattle.vlog_tree.specs.declared.item.Conns.TheVariants as conns
use Rattle.vlog_tree.specs.declared.item.Instance.{Instance}
use Rattle.vlog_tree.specs.declared.item.BlockPlaces.{BlockPlaces}
use Rattle.vlog_tree.specs.declared.item.Item.{Item}
use Rattle.vlog_tree.specs.declared.item.ItemKind.{ItemKind}
use Rattle.vlog_tree.specs.declared.item.ItemKind.TheVariants as i
use Rattle.vlog_tree.specs.declared.item.GenArm.{GenArm}
use Rattle.vlog_tree.specs.declared.item.GenBody.{GenBody}
use Rattle.vlog_tree.specs.Trees.{item, gen_arm, gen_body}
use Rattle.vlog_grammar.specs.Tokens.{Tokens, at, NotNext}
use Rattle.vlog_grammar.specs.Parts.{AreSeparated, IsOptional, IsWordThere}
use Rattle.vlog_grammar.specs.Expressions.{IsExpr, AreExprs, IsTarget, IsRange}
use Rattle.vlog_grammar.specs.Statements.{IsStmt, IsForHead}

-- name
pub data IsName : Tokens → NamePlace → Tokens → Type 0 where
  a_name : {us : Tokens} {p : Place} {name : List ℕ} → IsName (at p (k.Name name) ∷ us) (record { place = p; name = name }) us

-- "=" expr
pub data IsValue : Tokens → Expr → Tokens → Type 0 where
  a_value : {us vs : Tokens} {p : Place} {a : Expr} → IsExpr us a vs → IsValue (at p k.EqualSign ∷ us) a vs

-- ":" name
pub data IsBlockLabel : Tokens → NamePlace → Tokens → Type 0 where
  a_label : {us vs : Tokens} {p : Place} {name : NamePlace} → IsName us name vs → IsBlockLabel (at p k.Colon ∷ us) name vs

-- wire = name | name "=" expr
pub data IsWireName : Tokens → WireName → Tokens → Type 0 where
  wire_name : {ts us vs : Tokens} {name : NamePlace} {value : Option Expr}
      → IsName ts name us → IsOptional k.EqualSign IsValue us value vs
      → IsWireName ts (record { name = name; value = value }) vs

-- reg = name | name range | name "=" expr
pub data IsRegName : Tokens → RegName → Tokens → Type 0 where
  reg_alone : {ts us : Tokens} {name : NamePlace} → IsName ts name us → NotNext k.OpenBracket us → NotNext k.EqualSign us
      → IsRegName ts (record { name = name; words = None; start = None }) us
  reg_words : {ts us vs : Tokens} {name : NamePlace} {words : RangeExpr} → IsName ts name us → IsRange us words vs
      → IsRegName ts (record { name = name; words = Some words; start = None }) vs
  reg_start : {ts us vs : Tokens} {name : NamePlace} {start : Expr} → IsName ts name us → IsValue us start vs
      → IsRegName ts (record { name = name; words = None; start = Some start }) vs

-- form = nothing | "integer" | "signed"? range, before a name
pub data IsForm : Tokens → ParamForm → Tokens → Type 0 where
  plain_form : {us : Tokens} {p : Place} {name : List ℕ} → IsForm (at p (k.Name name) ∷ us) form.Plain (at p (k.Name name) ∷ us)
  integer_form : {us : Tokens} {p : Place} → IsForm (at p k.Integer ∷ us) form.Integer us
  ranged_form : {ts us vs : Tokens} {signed : Bool} {range : RangeExpr} → IsWordThere k.Signed ts signed us → IsRange us range vs
      → IsForm ts (form.Ranged signed range) vs

-- value = name "=" expr
pub data IsParamName : Tokens → ParamName → Tokens → Type 0 where
  param_name : {ts us vs : Tokens} {name : NamePlace} {value : Expr} → IsName ts name us → IsValue us value vs
      → IsParamName ts (record { name = name; value = value }) vs

-- drive = target "=" expr
pub data IsAssignPart : Tokens → AssignPart → Tokens → Type 0 where
  assign_part : {ts us vs : Tokens} {target value : Expr} → IsTarget ts target us → IsValue us value vs
      → IsAssignPart ts (record { target = target; value = value }) vs

-- "@" "*" | "@" "(" "*" ")" | "@" "(" "posedge" name ")"
pub data IsClock : Tokens → Option (List ℕ) → Tokens → Type 0 where
  star : {us : Tokens} {p q : Place} → IsClock (at p k.At ∷ at q k.Star ∷ us) None us
  star_inside : {us : Tokens} {p q r o : Place} → IsClock (at p k.At ∷ at q k.OpenParen ∷ at r k.Star ∷ at o k.CloseParen ∷ us) None us
  rising : {us : Tokens} {p q r o x : Place} {name : List ℕ}
      → IsClock (at p k.At ∷ at q k.OpenParen ∷ at r k.PosEdge ∷ at o (k.Name name) ∷ at x k.CloseParen ∷ us) (Some name) us

-- by_name = "." name "(" ")" | "." name "(" expr ")"
pub data IsNamedConn : Tokens → NamedConn → Tokens → Type 0 where
  left_open : {us : Tokens} {p q r o : Place} {name : List ℕ}
      → IsNamedConn (at p k.Dot ∷ at q (k.Name name) ∷ at r k.OpenParen ∷ at o k.CloseParen ∷ us) (record { name = name; value = None }) us
  connected : {us vs : Tokens} {p q r o : Place} {name : List ℕ} {a : Expr} → IsExpr us a (at o k.CloseParen ∷ vs)
      → IsNamedConn (at p k.Dot ∷ at q (k.Name name) ∷ at r k.OpenParen ∷ us) (record { name = name; value = Some a }) vs

-- connections = "(" ")" | "(" expr, .. ")" | "(" by_name, .. ")"
pub data AreConnections : Tokens → Conns → Tokens → Type 0 where
  no_conns : {us : Tokens} {p q : Place} → AreConnections (at p k.OpenParen ∷ at q k.CloseParen ∷ us) (conns.Ordered []) us
  ordered : {us vs : Tokens} {p q : Place} {all : List Expr} → AreExprs us all (at q k.CloseParen ∷ vs)
      → AreConnections (at p k.OpenParen ∷ us) (conns.Ordered all) vs
  by_name : {us vs : Tokens} {p q : Place} {all : List NamedConn} → AreSeparated IsNamedConn us all (at q k.CloseParen ∷ vs)
      → AreConnections (at p k.OpenParen ∷ us) (conns.Named all) vs

-- values?, with values = "#" connections
pub data AreParameterValues : Tokens → Conns → Tokens → Type 0 where
  no_params : {us : Tokens} → NotNext k.Hash us → AreParameterValues us (conns.Ordered []) us
  params : {us vs : Tokens} {p : Place} {all : Conns} → AreConnections us all vs → AreParameterValues (at p k.Hash ∷ us) all vs

-- instance = name connections
pub data IsInstance : Tokens → Instance → Tokens → Type 0 where
  instance : {ts us vs : Tokens} {name : NamePlace} {ports : Conns} → IsName ts name us → AreConnections us ports vs
      → IsInstance ts (record { name = name; ports = ports }) vs

-- "cover" "property" "(" "@" "(" "posedge" name ")" expr ")" ";", with the place of `cover`
pub data IsCover : Tokens → Place → List ℕ → Expr → Tokens → Type 0 where
  cover : {us vs : Tokens} {p1 p2 p3 p4 p5 p6 p7 p8 p9 p10 : Place} {clock : List ℕ} {test : Expr}
      → IsExpr us test (at p9 k.CloseParen ∷ at p10 k.Semicolon ∷ vs)
      → IsCover (at p1 k.Cover ∷ at p2 k.Property ∷ at p3 k.OpenParen ∷ at p4 k.At ∷ at p5 k.OpenParen ∷ at p6 k.PosEdge
      ∷ at p7 (k.Name clock) ∷ at p8 k.CloseParen ∷ us) p1 clock test vs

-- An item that holds no items. Where the `Bool` is true it stands inside a generate construct, where there is no
-- `parameter`.
pub data IsPlainItem : Bool → Tokens → Item → Tokens → Type 0 where
  -- "wire" "signed"? range? wire, .. ";"
  wire : {inside signed : Bool} {us vs ws xs : Tokens} {p q : Place} {range : Option RangeExpr} {names : List WireName}
      → IsWordThere k.Signed us signed vs → IsOptional k.OpenBracket IsRange vs range ws
      → AreSeparated IsWireName ws names (at q k.Semicolon ∷ xs)
      → IsPlainItem inside (at p k.Wire ∷ us) (item p (i.Wire signed range names)) xs
  -- "reg" "signed"? range? reg, .. ";"
  reg : {inside signed : Bool} {us vs ws xs : Tokens} {p q : Place} {range : Option RangeExpr} {names : List RegName}
      → IsWordThere k.Signed us signed vs → IsOptional k.OpenBracket IsRange vs range ws
      → AreSeparated IsRegName ws names (at q k.Semicolon ∷ xs)
      → IsPlainItem inside (at p k.Reg ∷ us) (item p (i.Reg signed range names)) xs
  -- "integer" name, .. ";"
  integer : {inside : Bool} {us vs : Tokens} {p q : Place} {names : List NamePlace}
      → AreSeparated IsName us names (at q k.Semicolon ∷ vs) → IsPlainItem inside (at p k.Integer ∷ us) (item p (i.Integer names)) vs
  -- "genvar" name, .. ";"
  genvar : {inside : Bool} {us vs : Tokens} {p q : Place} {names : List NamePlace}
      → AreSeparated IsName us names (at q k.Semicolon ∷ vs) → IsPlainItem inside (at p k.GenVar ∷ us) (item p (i.Genvar names)) vs
  -- "parameter" form value, .. ";" | "localparam" form value, .. ";"
  parameter : {us vs ws : Tokens} {p q : Place} {form : ParamForm} {names : List ParamName}
      → IsForm us form vs → AreSeparated IsParamName vs names (at q k.Semicolon ∷ ws)
      → IsPlainItem false (at p k.Parameter ∷ us) (item p (i.Parameter false form names)) ws
  localparam : {inside : Bool} {us vs ws : Tokens} {p q : Place} {form : ParamForm} {names : List ParamName}
      → IsForm us form vs → AreSeparated IsParamName vs names (at q k.Semicolon ∷ ws)
      → IsPlainItem inside (at p k.LocalParam ∷ us) (item p (i.Parameter true form names)) ws
  -- "assign" drive, .. ";"
  assign : {inside : Bool} {us vs : Tokens} {p q : Place} {parts : List AssignPart}
      → AreSeparated IsAssignPart us parts (at q k.Semicolon ∷ vs) → IsPlainItem inside (at p k.Assign ∷ us) (item p (i.Assign parts)) vs
  -- "initial" stmt
  initial : {inside : Bool} {us vs : Tokens} {p : Place} {body : Stmt}
      → IsStmt us body vs → IsPlainItem inside (at p k.Initial ∷ us) (item p (i.Initial body)) vs
  -- "always" "@" "*" stmt | "always" "@" "(" "*" ")" stmt | "always" "@" "(" "posedge" name ")" stmt
  always : {inside : Bool} {us vs ws : Tokens} {p : Place} {clock : Option (List ℕ)} {body : Stmt}
      → IsClock us clock vs → IsStmt vs body ws → IsPlainItem inside (at p k.Always ∷ us) (item p (i.Always clock body)) ws
  -- label? "cover" "property" "(" "@" "(" "posedge" name ")" expr ")" ";", with label = name ":"
  cover_alone : {inside : Bool} {ts us : Tokens} {word : Place} {clock : List ℕ} {test : Expr}
      → IsCover ts word clock test us → IsPlainItem inside ts (item word (i.Cover word None clock test)) us
  cover_labelled : {inside : Bool} {ts us : Tokens} {p q word : Place} {label clock : List ℕ} {test : Expr}
      → IsCover ts word clock test us
      → IsPlainItem inside (at p (k.Name label) ∷ at q k.Colon ∷ ts)
      (item p (i.Cover word (Some (record { place = p; name = label })) clock test)) us
  -- name values? instance, .. ";"
  instances : {inside : Bool} {us vs ws : Tokens} {p q : Place} {of : List ℕ} {params : Conns} {made : List Instance}
      → AreParameterValues us params vs → AreSeparated IsInstance vs made (at q k.Semicolon ∷ ws)
      → IsPlainItem inside (at p (k.Name of) ∷ us) (item p (i.Instances of params made)) ws

mutual
  pub data IsItem : Bool → Tokens → Item → Tokens → Type 0 where
    plain_item : {inside : Bool} {ts us : Tokens} {a : Item} → IsPlainItem inside ts a us → IsItem inside ts a us
    -- "generate" item* "endgenerate"
    region : {inside : Bool} {us vs : Tokens} {p q : Place} {items : List Item}
        → AreItems inside us items (at q k.EndGenerate ∷ vs) → IsItem inside (at p k.Generate ∷ us) (item p (i.Generate items)) vs
    -- "for" head "begin" ":" name item* "end"
    loop : {inside : Bool} {us vs ws : Tokens} {p q r o x : Place} {name step_name block : List ℕ} {from test step : Expr} {items : List Item}
        → IsForHead us name from test step_name step (at q k.Begin ∷ at r k.Colon ∷ at o (k.Name block) ∷ vs)
        → AreItems true vs items (at x k.End ∷ ws)
        → IsItem inside (at p k.For ∷ us)
        (item p (i.Loop name from test step_name step (record { place = o; name = block }) (record { begin = q; end = x }) items)) ws
    -- "if" "(" expr ")" branch | "if" "(" expr ")" branch "else" branch
    choose : {inside : Bool} {us vs : Tokens} {p : Place} {arms : List GenArm} {last : Option GenBody}
        → AreGenArms us arms last vs → IsItem inside (at p k.If ∷ us) (item p (i.Choose arms last)) vs

  -- "(" expr ")" branch | "(" expr ")" branch "else" branch, a chain of `else if` being one list of arms
  pub data AreGenArms : Tokens → List GenArm → Option GenBody → Tokens → Type 0 where
    no_else : {us vs ws : Tokens} {p q : Place} {test : Expr} {body : GenBody}
        → IsExpr us test (at q k.CloseParen ∷ vs) → IsBranch vs body ws → NotNext k.Else ws
        → AreGenArms (at p k.OpenParen ∷ us) (gen_arm test body ∷ []) None ws
    last_else : {us vs ws xs : Tokens} {p q r : Place} {test : Expr} {body other : GenBody}
        → IsExpr us test (at q k.CloseParen ∷ vs) → IsBranch vs body (at r k.Else ∷ ws) → IsBranch ws other xs
        → AreGenArms (at p k.OpenParen ∷ us) (gen_arm test body ∷ []) (Some other) xs
    else_if : {us vs ws xs : Tokens} {p q r o : Place} {test : Expr} {body : GenBody} {arms : List GenArm} {last : Option GenBody}
        → IsExpr us test (at q k.CloseParen ∷ vs) → IsBranch vs body (at r k.Else ∷ at o k.If ∷ ws) → AreGenArms ws arms last xs
        → AreGenArms (at p k.OpenParen ∷ us) (gen_arm test body ∷ arms) last xs

  -- branch = "begin" item* "end" | "begin" ":" name item* "end" | item, the item being no generate `if`
  pub data IsBranch : Tokens → GenBody → Tokens → Type 0 where
    gen_block : {us vs ws : Tokens} {p q : Place} {name : Option NamePlace} {items : List Item}
        → IsOptional k.Colon IsBlockLabel us name vs → AreItems true vs items (at q k.End ∷ ws)
        → IsBranch (at p k.Begin ∷ us) (gen_body name (Some (record { begin = p; end = q })) items) ws
    gen_item : {ts us : Tokens} {a : Item} → NotNext k.If ts → IsItem true ts a us → IsBranch ts (gen_body None None (a ∷ [])) us

  -- item*
  pub data AreItems : Bool → Tokens → List Item → Tokens → Type 0 where
    no_items : {inside : Bool} {ts : Tokens} → AreItems inside ts [] ts
    more_items : {inside : Bool} {ts us vs : Tokens} {a : Item} {all : List Item}
        → IsItem inside ts a us → AreItems inside us all vs → AreItems inside ts (a ∷ all) vs
