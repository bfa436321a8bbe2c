-- Reading modules and source files from left to right.
use Rattle.std.specs.Prelude.{ℕ, zero, suc, ◌+◌, Bool, true, false, if◌then◌else◌, List, [], ◌∷◌, ◌++◌, length, Option, Some, None}
use Rattle.cov_types.specs.declared.place.Place.{Place}
use Rattle.vlog_tokens.specs.declared.token.TokenKind.{TokenKind}
use Rattle.vlog_tokens.specs.declared.token.TokenKind.TheVariants as k
use Rattle.vlog_tree.specs.declared.item.ParamForm.{ParamForm}
use Rattle.vlog_tree.specs.declared.item.Item.{Item}
use Rattle.vlog_tree.specs.declared.item.ItemKind.TheVariants as i
use Rattle.vlog_tree.specs.declared.module.PortKind.{PortKind}
use Rattle.vlog_tree.specs.declared.module.PortKind.TheVariants as port
use Rattle.vlog_tree.specs.declared.module.Port.{Port}
use Rattle.vlog_tree.specs.declared.module.Module.{Module}
use Rattle.vlog_tree.specs.Trees.{item}
use Rattle.vlog_grammar.specs.Tokens.{Tokens}
use Rattle.vlog_reading.specs.Reading.{Parser, and_then, ◌>>=◌, ◌>>◌, pure, refuse, peek, skip, here, eat, expect}
use Rattle.vlog_reading.specs.ReadExpressions.{whole}
use Rattle.vlog_reading.specs.ReadParts.{name_token}
use Rattle.vlog_reading.specs.ReadItemParts.{signed_range, param_form, param_name}
use Rattle.vlog_reading.specs.ReadItems.{whole_items}

-- what a name alone takes from the one before, where there is one
abbrev pub from_before : {A : Type 0} → Option A → Parser A
from_before (Some a) = pure a
from_before None = refuse

-- the form of a setting of a header after one of this form: the one after its word `parameter`, or else the same
unfoldable pub setting_form : Option ParamForm → Parser ParamForm
setting_form before = do
  declared ← eat k.Parameter
  if declared then param_form else from_before before

-- a setting of this form that begins at this place, and the form
unfoldable pub setting_of : Place → ParamForm → Parser (Item × ParamForm)
setting_of place form = do
  name ← param_name
  pure (item place (i.Parameter false form (name ∷ [])), form)

-- a setting of a header after one of this form, and its form
unfoldable pub setting : Option ParamForm → Parser (Item × ParamForm)
setting before = do
  place ← here
  form ← setting_form before
  setting_of place form

unfoldable pub settings_from : ℕ → Option ParamForm → List Item → Parser (List Item)
settings_from zero before found = refuse
settings_from (suc n) before found = do
  x ← setting before
  more ← eat k.Comma
  if more then settings_from n (Some x.1) (found ++ x.0 ∷ []) else pure (found ++ x.0 ∷ [])

unfoldable pub settings : Parser (List Item)
settings = λ ts. settings_from (length ts) None [] ts

unfoldable pub header_inside : Parser (List Item)
header_inside = do
  expect k.OpenParen
  all ← settings
  expect k.CloseParen
  pure all

unfoldable pub header : Parser (List Item)
header = do
  is_there ← eat k.Hash
  if is_there then header_inside else pure []

unfoldable pub output_kind : Parser PortKind
output_kind = do
  is_reg ← eat k.Reg
  if is_reg then pure port.OutputReg else (do written ← eat k.Wire; pure port.OutputWire)

abbrev pub direction_by : Option TokenKind → Parser PortKind
direction_by (Some k.Input) = skip >> (do written ← eat k.Wire; pure port.Input)
direction_by (Some k.Output) = skip >> output_kind
direction_by _ = refuse

unfoldable pub direction : Parser PortKind
direction = peek >>= direction_by

unfoldable pub declared_port : Place → Parser Port
declared_port place = do
  kind ← direction
  form ← signed_range
  name_place ← here
  name ← name_token
  pure (record { place = place; kind = kind; signed = form.0; range = form.1; name_place = name_place; name = name })

-- a port with this name that has the kind, sign and range of this one
abbrev pub alike : Port → Place → List ℕ → Port
alike port place name =
    record { place = place; kind = port.kind; signed = port.signed; range = port.range; name_place = place; name = name }

unfoldable pub lone_port : Place → Option Port → Parser Port
lone_port place before = do
  port ← from_before before
  name ← name_token
  pure (alike port place name)

abbrev pub port_by : Option Port → Place → Option TokenKind → Parser Port
port_by before place (Some (k.Name name)) = lone_port place before
port_by before place _ = declared_port place

-- a port after this one
unfoldable pub one_port : Option Port → Parser Port
one_port before = do
  place ← here
  kind ← peek
  port_by before place kind

unfoldable pub ports_from : ℕ → Option Port → List Port → Parser (List Port)
ports_from zero before found = refuse
ports_from (suc n) before found = do
  x ← one_port before
  more ← eat k.Comma
  if more then ports_from n (Some x) (found ++ x ∷ []) else pure (found ++ x ∷ [])

unfoldable pub ports : Parser (List Port)
ports = λ ts. ports_from (length ts) None [] ts

unfoldable pub ports_inside : Parser (List Port)
ports_inside = do
  all ← ports
  expect k.CloseParen
  pure all

unfoldable pub port_list : Parser (List Port)
port_list = do
  is_open ← eat k.OpenParen
  if is_open then (do is_empty ← eat k.CloseParen; if is_empty then pure [] else ports_inside) else pure []

unfoldable pub one_module : Parser Module
one_module = do
  place ← here
  expect k.Module
  name ← name_token
  params ← header
  ports ← port_list
  expect k.Semicolon
  items ← whole_items k.EndModule
  last ← here
  expect k.EndModule
  pure (record { place = place; last = last; name = name; params = params; ports = ports; items = items })

abbrev pub is_end : Tokens → Bool
is_end [] = true
is_end (t ∷ ts) = false

unfoldable pub modules_from : ℕ → List Module → Parser (List Module)
modules_from zero found = refuse
modules_from (suc n) found = λ ts. if is_end ts then Some (found, ts) else and_then (one_module ts) (λ x. modules_from n (found ++ x ∷ []))

-- all modules up to the end of the tokens
unfoldable pub modules : Parser (List Module)
modules = λ ts. modules_from (length ts + 1) [] ts

-- the modules of all the tokens
unfoldable pub only_modules : Tokens → Option (List Module)
only_modules ts = whole (modules ts)
