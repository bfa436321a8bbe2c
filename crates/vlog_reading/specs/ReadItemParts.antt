-- Reading the parts of items from left to right.
use Rattle.std.specs.Prelude.{ℕ, Bool, if◌then◌else◌, List, [], Option, Some, None}
use Rattle.vlog_tokens.specs.declared.token.TokenKind.{TokenKind}
use Rattle.vlog_tokens.specs.declared.token.TokenKind.TheVariants as k
use Rattle.vlog_tree.specs.declared.expression.Expr.{Expr}
use Rattle.vlog_tree.specs.declared.expression.RangeExpr.{RangeExpr}
use Rattle.vlog_tree.specs.declared.item.NamePlace.{NamePlace}
use Rattle.vlog_tree.specs.declared.item.WireName.{WireName}
use Rattle.vlog_tree.specs.declared.item.RegName.{RegName}
use Rattle.vlog_tree.specs.declared.item.ItemKind.{ItemKind}
use Rattle.vlog_tree.specs.declared.item.ItemKind.TheVariants as i
use Rattle.vlog_tree.specs.declared.item.ParamForm.{ParamForm}
use Rattle.vlog_tree.specs.declared.item.ParamForm.TheVariants as form
use Rattle.vlog_tree.specs.declared.item.ParamName.{ParamName}
use Rattle.vlog_tree.specs.declared.item.AssignPart.{AssignPart}
use Rattle.vlog_tree.specs.declared.item.NamedConn.{NamedConn}
use Rattle.vlog_tree.specs.declared.item.Conns.{Conns}
use Rattle.vlog_tree.specs.declared.item.Conns.TheVariants as conn
use Rattle.vlog_tree.specs.declared.item.Instance.{Instance}
use Rattle.vlog_reading.specs.Reading.{Parser, and_then, ◌>>=◌, ◌>>◌, pure, peek, skip, here, sees, eat, expect}
use Rattle.vlog_reading.specs.ReadExpressions.{expression}
use Rattle.vlog_reading.specs.ReadParts.{separated, name_token, expression_before}
use Rattle.vlog_reading.specs.ReadStatements.{whole_target}

-- one, where the token that it begins with comes next
module _ {A : Type 0} (item : Parser A) where
  unfoldable pub optional : TokenKind → Parser (Option A)
  optional first = λ ts. if sees first ts then and_then (item ts) (λ a. pure (Some a)) else Some (None, ts)

unfoldable pub name_place : Parser NamePlace
name_place = do
  place ← here
  name ← name_token
  pure (record { place = place; name = name })

unfoldable pub value : Parser Expr
value = do
  expect k.EqualSign
  expression

unfoldable pub range : Parser RangeExpr
range = do
  expect k.OpenBracket
  high ← expression_before k.Colon
  low ← expression_before k.CloseBracket
  pure (record { high = high; low = low })

-- what stands before the names of wires, of regs and of ports
unfoldable pub signed_range : Parser (Bool × Option RangeExpr)
signed_range = do
  signed ← eat k.Signed
  bounds ← optional range k.OpenBracket
  pure (signed, bounds)

unfoldable pub wire_name : Parser WireName
wire_name = do
  name ← name_place
  driver ← optional value k.EqualSign
  pure (record { name = name; value = driver })

unfoldable pub reg_words : NamePlace → Parser RegName
reg_words name = do
  words ← range
  pure (record { name = name; words = Some words; start = None })

unfoldable pub reg_start : NamePlace → Parser RegName
reg_start name = do
  start ← optional value k.EqualSign
  pure (record { name = name; words = None; start = start })

unfoldable pub reg_name : Parser RegName
reg_name = do
  name ← name_place
  (λ ts. if sees k.OpenBracket ts then reg_words name ts else reg_start name ts)

unfoldable pub ranged : Parser ParamForm
ranged = do
  signed ← eat k.Signed
  bounds ← range
  pure (form.Ranged signed bounds)

abbrev pub form_by : Option TokenKind → Parser ParamForm
form_by (Some (k.Name name)) = pure form.Plain
form_by (Some k.Integer) = skip >> pure form.Integer
form_by _ = ranged

unfoldable pub param_form : Parser ParamForm
param_form = peek >>= form_by

unfoldable pub param_name : Parser ParamName
param_name = do
  name ← name_place
  constant ← value
  pure (record { name = name; value = constant })

unfoldable pub assign_part : Parser AssignPart
assign_part = do
  target ← whole_target
  driver ← value
  pure (record { target = target; value = driver })

unfoldable pub clock_inside : Parser (Option (List ℕ))
clock_inside = do
  expect k.OpenParen
  is_star ← eat k.Star
  if is_star
      then (do expect k.CloseParen; pure None)
      else (do expect k.PosEdge; name ← name_token; expect k.CloseParen; pure (Some name))

unfoldable pub clock : Parser (Option (List ℕ))
clock = do
  expect k.At
  is_star ← eat k.Star
  if is_star then pure None else clock_inside

unfoldable pub named_conn : Parser NamedConn
named_conn = do
  expect k.Dot
  name ← name_token
  expect k.OpenParen
  is_open ← eat k.CloseParen
  if is_open
      then pure (record { name = name; value = None })
      else (do a ← expression_before k.CloseParen; pure (record { name = name; value = Some a }))

unfoldable pub connections_by_name : Parser Conns
connections_by_name = do
  all ← separated named_conn
  expect k.CloseParen
  pure (conn.Named all)

unfoldable pub connections_in_order : Parser Conns
connections_in_order = do
  all ← separated expression
  expect k.CloseParen
  pure (conn.Ordered all)

unfoldable pub connections : Parser Conns
connections = do
  expect k.OpenParen
  is_empty ← eat k.CloseParen
  if is_empty then pure (conn.Ordered []) else (λ ts. if sees k.Dot ts then connections_by_name ts else connections_in_order ts)

unfoldable pub parameter_values : Parser Conns
parameter_values = do
  is_there ← eat k.Hash
  if is_there then connections else pure (conn.Ordered [])

unfoldable pub instance : Parser Instance
instance = do
  name ← name_place
  ports ← connections
  pure (record { name = name; ports = ports })

-- from the word `cover` on
unfoldable pub cover : Option NamePlace → Parser ItemKind
cover label = do
  word ← here
  expect k.Cover
  expect k.Property
  expect k.OpenParen
  expect k.At
  expect k.OpenParen
  expect k.PosEdge
  clock ← name_token
  expect k.CloseParen
  test ← expression_before k.CloseParen
  expect k.Semicolon
  pure (i.Cover word label clock test)
