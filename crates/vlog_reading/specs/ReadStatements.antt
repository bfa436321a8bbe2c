-- Reading statements from left to right.
use Rattle.std.specs.Prelude.{ℕ, zero, suc, Bool, true, false, not, ◌==◌, ◌&&◌, ◌||◌, if◌then◌else◌, List, [], ◌∷◌, ◌++◌, length, Option, Some, None, codes}
use Rattle.std.specs.Str.{bytes_eq}
use Rattle.vlog_tokens.specs.declared.token.TokenKind.{TokenKind}
use Rattle.vlog_tokens.specs.declared.token.TokenKind.TheVariants as k
use Rattle.vlog_tree.specs.declared.expression.Expr.{Expr}
use Rattle.vlog_tree.specs.declared.expression.Expr.TheVariants as e
use Rattle.vlog_tree.specs.declared.statement.Stmt.{Stmt}
use Rattle.vlog_tree.specs.declared.statement.StmtKind.{StmtKind}
use Rattle.vlog_tree.specs.declared.statement.StmtKind.TheVariants as s
use Rattle.vlog_tree.specs.declared.statement.CaseArm.{CaseArm}
use Rattle.vlog_tree.specs.Trees.{stmt, case_arm}
use Rattle.vlog_grammar.specs.Tokens.{Tokens}
use Rattle.vlog_reading.specs.declared.for_head.ForHead.{ForHead}
use Rattle.vlog_reading.specs.Reading.{Parser, and_then, ◌>>=◌, ◌>>◌, pure, refuse, peek, skip, here, sees, eat, expect}
use Rattle.vlog_reading.specs.ReadExpressions.{expression, whole}
use Rattle.vlog_reading.specs.ReadParts.{separated, name_token, expression_before, bound_name, condition, part_of}

-- With targets nested no deeper than the number, in which a target is read so:
module _ (target : Parser Expr) where
  unfoldable pub targets_from : ℕ → List Expr → Parser (List Expr)
  targets_from zero found = refuse
  targets_from (suc n) found = do
    x ← target
    more ← eat k.Comma
    if more then targets_from n (found ++ x ∷ []) else pure (found ++ x ∷ [])

  unfoldable pub targets : Parser (List Expr)
  targets = λ ts. targets_from (length ts) [] ts

  abbrev pub target_by : Option TokenKind → Parser Expr
  target_by (Some (k.Name name)) = skip >> part_of name
  target_by (Some k.OpenBrace) = do
    skip
    all ← targets
    expect k.CloseBrace
    pure (e.Join all)
  target_by _ = refuse

  unfoldable pub target_layer : Parser Expr
  target_layer = peek >>= target_by

unfoldable pub target : ℕ → Parser Expr
target zero = refuse
target (suc depth) = target_layer (target depth)

unfoldable pub whole_target : Parser Expr
whole_target ts = target (length ts) ts

unfoldable pub for_head : Parser ForHead
for_head = do
  expect k.OpenParen
  start ← bound_name k.Semicolon
  goal ← expression_before k.Semicolon
  step ← bound_name k.CloseParen
  pure (record { name = start.0; from = start.1; test = goal; step_name = step.0; step = step.1 })

abbrev pub case_item_by : Bool → Option TokenKind → Parser Expr
case_item_by wild (Some (k.Number width signed value free)) =
    if wild && not (free == 0) then skip >> pure (e.Number width signed value free) else expression
case_item_by wild _ = expression

unfoldable pub case_item : Bool → Parser Expr
case_item wild = peek >>= case_item_by wild

abbrev pub text_token_by : Option TokenKind → Parser (List ℕ)
text_token_by (Some (k.Text text)) = skip >> pure text
text_token_by _ = refuse

unfoldable pub text_token : Parser (List ℕ)
text_token = peek >>= text_token_by

unfoldable pub text_and_values : Parser (Option (List ℕ) × List Expr)
text_and_values = do
  text ← text_token
  more ← eat k.Comma
  values ← (if more then separated expression else pure [])
  expect k.CloseParen
  pure (Some text, values)

unfoldable pub display_arguments : Parser (Option (List ℕ) × List Expr)
display_arguments = do
  is_open ← eat k.OpenParen
  if is_open
      then (do is_empty ← eat k.CloseParen; if is_empty then pure (None, []) else text_and_values)
      else pure (None, [])

unfoldable pub display : Parser StmtKind
display = do
  found ← display_arguments
  expect k.Semicolon
  pure (s.Show found.0 found.1)

abbrev pub number_token_by : Option TokenKind → Parser (Unit {0})
number_token_by (Some (k.Number width signed value free)) = if free == 0 then skip else refuse
number_token_by _ = refuse

unfoldable pub number_token : Parser (Unit {0})
number_token = peek >>= number_token_by

unfoldable pub stop_number : Parser (Unit {0})
stop_number = do
  is_open ← eat k.OpenParen
  if is_open then (do number_token; expect k.CloseParen) else pure tt

unfoldable pub stop_number_and_semicolon : Parser (Unit {0})
stop_number_and_semicolon = do
  stop_number
  expect k.Semicolon

unfoldable pub stopping : StmtKind → Parser StmtKind
stopping what = do
  stop_number_and_semicolon
  pure what

unfoldable pub system_task : List ℕ → Parser StmtKind
system_task name =
    if bytes_eq name (codes "$display") then display
    else if bytes_eq name (codes "$finish") then stopping s.Finish
    else if bytes_eq name (codes "$stop") then stopping s.Stop
    else refuse

-- after the target of a blocking assignment
unfoldable pub blocking : Expr → Parser StmtKind
blocking where_to = do
  expect k.EqualSign
  value ← expression_before k.Semicolon
  pure (s.Set where_to value)

unfoldable pub assignment : Parser StmtKind
assignment = do
  where_to ← whole_target
  is_later ← eat k.LessOrEqual
  if is_later
      then (do value ← expression_before k.Semicolon; pure (s.Later where_to value))
      else blocking where_to

unfoldable pub block_name : Parser (Unit {0})
block_name = do
  is_named ← eat k.Colon
  if is_named then (do name ← name_token; pure tt) else pure tt

module _ (statement : Parser Stmt) where
  unfoldable pub body_from : ℕ → List Stmt → Parser (List Stmt)
  body_from zero found = refuse
  body_from (suc n) found = λ ts. if sees k.End ts then Some (found, ts) else and_then (statement ts) (λ x. body_from n (found ++ x ∷ []))

  unfoldable pub body : Parser (List Stmt)
  body = λ ts. body_from (length ts) [] ts

  unfoldable pub block : Parser StmtKind
  block = do
    block_name
    found ← body
    last ← here
    expect k.End
    pure (s.Block found last)

  unfoldable pub else_part : Parser (Option Stmt)
  else_part = do
    more ← eat k.Else
    if more then (do second ← statement; pure (Some second)) else pure None

  unfoldable pub if_statement : Parser StmtKind
  if_statement = do
    on ← condition
    first ← statement
    second ← else_part
    pure (s.If on first second)

  unfoldable pub for_statement : Parser StmtKind
  for_statement = do
    head ← for_head
    inner ← statement
    pure (s.For head.name head.from head.test head.step_name head.step inner)

  unfoldable pub listed_arm : Bool → Parser CaseArm
  listed_arm wild = do
    place ← here
    items ← separated (case_item wild)
    expect k.Colon
    inner ← statement
    pure (case_arm place items inner)

  unfoldable pub default_arm : Parser CaseArm
  default_arm = do
    place ← here
    expect k.Default
    colon ← eat k.Colon
    inner ← statement
    pure (case_arm place [] inner)

  unfoldable pub arm_or_default : Bool → Parser CaseArm
  arm_or_default wild = λ ts. if sees k.Default ts then default_arm ts else listed_arm wild ts

  -- The second `Bool` says whether a default stands before.
  unfoldable pub arms_from : Bool → ℕ → Bool → List CaseArm → Parser (List CaseArm)
  arms_from wild zero seen found = refuse
  arms_from wild (suc n) seen found = λ ts. if sees k.Default ts && seen then None
      else and_then (arm_or_default wild ts)
      (λ x us. if sees k.EndCase us then Some (found ++ x ∷ [], us) else arms_from wild n (sees k.Default ts || seen) (found ++ x ∷ []) us)

  unfoldable pub arms : Bool → Parser (List CaseArm)
  arms wild = λ ts. arms_from wild (length ts) false [] ts

  unfoldable pub case_statement : Bool → Parser StmtKind
  case_statement wild = do
    on ← condition
    found ← arms wild
    expect k.EndCase
    pure (s.Case wild on found)

  abbrev pub kind_by : Option TokenKind → Parser StmtKind
  kind_by (Some k.Semicolon) = skip >> pure s.Empty
  kind_by (Some k.Begin) = skip >> block
  kind_by (Some k.If) = skip >> if_statement
  kind_by (Some k.Case) = skip >> case_statement false
  kind_by (Some k.CaseZ) = skip >> case_statement true
  kind_by (Some k.For) = skip >> for_statement
  kind_by (Some (k.System name)) = skip >> system_task name
  kind_by (Some (k.Name name)) = assignment
  kind_by (Some k.OpenBrace) = assignment
  kind_by _ = refuse

  unfoldable pub layer : Parser Stmt
  layer = do
    place ← here
    kind ← peek
    what ← kind_by kind
    pure (stmt place what)

-- with statements nested no deeper than the number
unfoldable pub statement : ℕ → Parser Stmt
statement zero = refuse
statement (suc depth) = layer (statement depth)

-- a statement with whatever is in it
unfoldable pub whole_statement : Parser Stmt
whole_statement ts = statement (length ts) ts

-- a statement of all the tokens
unfoldable pub only_statement : Tokens → Option Stmt
only_statement ts = whole (whole_statement ts)
