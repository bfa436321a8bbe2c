-- Reading items from left to right.
use Rattle.std.specs.Prelude.{ℕ, zero, suc, Bool, true, false, if◌then◌else◌, List, [], ◌∷◌, ◌++◌, length, Option, Some, None}
use Rattle.cov_types.specs.declared.place.Place.{Place}
use Rattle.vlog_tokens.specs.declared.token.TokenKind.{TokenKind}
use Rattle.vlog_tokens.specs.declared.token.TokenKind.TheVariants as k
use Rattle.vlog_tree.specs.declared.item.NamePlace.{NamePlace}
use Rattle.vlog_tree.specs.declared.item.Item.{Item}
use Rattle.vlog_tree.specs.declared.item.ItemKind.{ItemKind}
use Rattle.vlog_tree.specs.declared.item.ItemKind.TheVariants as i
use Rattle.vlog_tree.specs.declared.item.GenArm.{GenArm}
use Rattle.vlog_tree.specs.declared.item.GenBody.{GenBody}
use Rattle.vlog_tree.specs.Trees.{item, gen_arm, gen_body}
use Rattle.vlog_reading.specs.declared.for_head.ForHead.{ForHead}
use Rattle.vlog_reading.specs.Reading.{Parser, and_then, ◌>>=◌, ◌>>◌, pure, refuse, peek, skip, here, sees, eat, expect}
use Rattle.vlog_reading.specs.ReadParts.{listed, condition}
use Rattle.vlog_reading.specs.ReadStatements.{for_head, whole_statement}
use Rattle.vlog_reading.specs.ReadItemParts.{optional, name_place, signed_range, wire_name, reg_name, param_form, param_name, assign_part, clock}
use Rattle.vlog_reading.specs.ReadItemParts.{parameter_values, instance, cover}

unfoldable pub wires : Parser ItemKind
wires = do
  form ← signed_range
  names ← listed wire_name
  pure (i.Wire form.0 form.1 names)

unfoldable pub regs : Parser ItemKind
regs = do
  form ← signed_range
  names ← listed reg_name
  pure (i.Reg form.0 form.1 names)

unfoldable pub parameters : Bool → Parser ItemKind
parameters local = do
  form ← param_form
  all ← listed param_name
  pure (i.Parameter local form all)

unfoldable pub assignments : Parser ItemKind
assignments = do
  parts ← listed assign_part
  pure (i.Assign parts)

unfoldable pub initial : Parser ItemKind
initial = do
  body ← whole_statement
  pure (i.Initial body)

unfoldable pub always : Parser ItemKind
always = do
  rising ← clock
  body ← whole_statement
  pure (i.Always rising body)

unfoldable pub instances : NamePlace → Parser ItemKind
instances of = do
  values ← parameter_values
  made ← listed instance
  pure (i.Instances of.name values made)

-- after the name that an item begins with
unfoldable pub cover_or_instances : NamePlace → Parser ItemKind
cover_or_instances name = do
  is_label ← eat k.Colon
  if is_label then cover (Some name) else instances name

-- `:` and the name of a block
unfoldable pub block_label : Parser NamePlace
block_label = do
  expect k.Colon
  name_place

-- the `begin` of a block, its place and the name of the block, which has to be there
unfoldable pub named_begin : Parser (Place × NamePlace)
named_begin = do
  start ← here
  expect k.Begin
  name ← block_label
  pure (start, name)

-- With items nested no deeper than a number, in which an item is read so; the `Bool` says whether it stands inside a
-- generate block.
module _ (nested : Bool → Parser Item) where
  unfoldable pub items_from : Bool → TokenKind → ℕ → List Item → Parser (List Item)
  items_from inside close zero found = refuse
  items_from inside close (suc n) found =
      λ ts. if sees close ts then Some (found, ts) else and_then (nested inside ts) (λ x. items_from inside close n (found ++ x ∷ []))

  -- all items up to a word
  unfoldable pub items : Bool → TokenKind → Parser (List Item)
  items inside close = λ ts. items_from inside close (length ts) [] ts

  unfoldable pub generate_region : Bool → Parser ItemKind
  generate_region inside = do
    found ← items inside k.EndGenerate
    expect k.EndGenerate
    pure (i.Generate found)

  -- the items of a generate `for`, after its head and the name of its block
  unfoldable pub loop_items : ForHead → Place × NamePlace → Parser ItemKind
  loop_items head begun = do
    found ← items true k.End
    last ← here
    expect k.End
    pure (i.Loop head.name head.from head.test head.step_name head.step begun.1 (record { begin = begun.0; end = last }) found)

  unfoldable pub generate_for : Parser ItemKind
  generate_for = do
    head ← for_head
    begun ← named_begin
    loop_items head begun

  unfoldable pub block_branch : Parser GenBody
  block_branch = do
    start ← here
    expect k.Begin
    name ← optional block_label k.Colon
    found ← items true k.End
    last ← here
    expect k.End
    pure (gen_body name (Some (record { begin = start; end = last })) found)

  unfoldable pub single_branch : Parser GenBody
  single_branch = do
    one ← nested true
    pure (gen_body None None (one ∷ []))

  unfoldable pub branch : Parser GenBody
  branch = λ ts. if sees k.Begin ts then block_branch ts else if sees k.If ts then None else single_branch ts

  unfoldable pub if_arm : Parser GenArm
  if_arm = do
    on ← condition
    chosen ← branch
    pure (gen_arm on chosen)

  -- after an `else` that no `if` follows
  unfoldable pub last_branch : List GenArm → Parser (List GenArm × Option GenBody)
  last_branch found = do
    other ← branch
    pure (found, Some other)

  unfoldable pub if_arms_from : ℕ → List GenArm → Parser (List GenArm × Option GenBody)
  if_arms_from zero found = refuse
  if_arms_from (suc n) found = do
    arm ← if_arm
    more ← eat k.Else
    if more
        then (do is_test ← eat k.If; if is_test then if_arms_from n (found ++ arm ∷ []) else last_branch (found ++ arm ∷ []))
        else pure (found ++ arm ∷ [], None)

  -- after the first `if` of a chain
  unfoldable pub if_arms : Parser (List GenArm × Option GenBody)
  if_arms = λ ts. if_arms_from (length ts) [] ts

  unfoldable pub generate_if : Parser ItemKind
  generate_if = do
    found ← if_arms
    pure (i.Choose found.0 found.1)

  abbrev pub kind_by : Bool → Option TokenKind → Parser ItemKind
  kind_by inside (Some k.Wire) = skip >> wires
  kind_by inside (Some k.Reg) = skip >> regs
  kind_by inside (Some k.Integer) = skip >> (do all ← listed name_place; pure (i.Integer all))
  kind_by inside (Some k.GenVar) = skip >> (do all ← listed name_place; pure (i.Genvar all))
  kind_by inside (Some k.Parameter) = if inside then refuse else skip >> parameters false
  kind_by inside (Some k.LocalParam) = skip >> parameters true
  kind_by inside (Some k.Assign) = skip >> assignments
  kind_by inside (Some k.Initial) = skip >> initial
  kind_by inside (Some k.Always) = skip >> always
  kind_by inside (Some k.Cover) = cover None
  kind_by inside (Some (k.Name name)) = name_place >>= cover_or_instances
  kind_by inside (Some k.Generate) = skip >> generate_region inside
  kind_by inside (Some k.For) = skip >> generate_for
  kind_by inside (Some k.If) = skip >> generate_if
  kind_by inside _ = refuse

  unfoldable pub layer : Bool → Parser Item
  layer inside = do
    place ← here
    kind ← peek
    what ← kind_by inside kind
    pure (item place what)

-- with items nested no deeper than the number
unfoldable pub item_within : ℕ → Bool → Parser Item
item_within zero inside = refuse
item_within (suc depth) inside = layer (item_within depth) inside

-- all items up to a word, with whatever is in them
unfoldable pub whole_items : TokenKind → Parser (List Item)
whole_items close ts = items (item_within (length ts)) false close ts
