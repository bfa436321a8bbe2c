-- The test for keys holds exactly of keys.
use Rattle.std.proofs.Common.{◌≡◌, ℕ, ◌<◌, Bool, true, false, cond, eqb, not, ◌&&◌, List, [], ◌∷◌, ◌++◌, length, refl, sym, ◌∙◌, ap, append_assoc, arith}
use Rattle.std.proofs.lemmas.Bool.{eqb-true, false≢true}
use Rattle.std.specs.Prelude.{◌||◌}
use Rattle.std.specs.List.{flat_map, AllByRecursion}
use Rattle.cov_types.specs.Key.{is_mark, IsPlain, IsField, IsKey, field_text}
use Rattle.cov_port.specs.KeyTest.{completes, outside, before_name, in_name, in_value}

-- the rest of a value, and further fields
record ValueTail (bs : List ℕ) : Type 0 where
  value : List ℕ
  fields : List (List ℕ × List ℕ)
  plain : IsPlain value
  good : AllByRecursion IsField fields
  is : bs ≡ value ++ flat_map field_text fields

-- the rest of a name, byte 2, and the rest of a value
record NameTail (bs : List ℕ) : Type 0 where
  name : List ℕ
  after : List ℕ
  plain : IsPlain name
  tail : ValueTail after
  is : bs ≡ name ++ 2 ∷ after

-- a whole name, byte 2, and the rest of a value
record FieldTail (bs : List ℕ) : Type 0 where
  from : NameTail bs
  some : 0 < length from.name

-- what completing a key from each place inside it says of the bytes
record Tails (bs : List ℕ) : Type 0 where
  in_value : completes in_value bs ≡ true → ValueTail bs
  in_name : completes in_name bs ≡ true → NameTail bs
  before_name : completes before_name bs ≡ true → FieldTail bs

-- byte 1 before a field and further fields
field_of : (bs : List ℕ) → FieldTail bs → (field : List ℕ × List ℕ) × (fields : List (List ℕ × List ℕ)) × IsField field × AllByRecursion IsField fields ×
    (1 ∷ bs ≡ field_text field ++ flat_map field_text fields)
field_of bs t = let n = t.from in let v = n.tail in (
  (n.name, v.value),
  v.fields,
  (t.some, n.plain, v.plain),
  v.good,
  ap (λ (xs : List ℕ). 1 ∷ xs) (n.is ∙ ap (λ (xs : List ℕ). n.name ++ 2 ∷ xs) v.is ∙ sym (append_assoc n.name (2 ∷ v.value) (flat_map field_text v.fields))),
)

key_of : (bs : List ℕ) → FieldTail bs → IsKey (1 ∷ bs)
key_of bs t = let f = field_of bs t in (f.0 ∷ f.1, omega arith, (f.2, f.3), f.4)

-- byte 1 ends a value
end_value : (bs : List ℕ) → FieldTail bs → ValueTail (1 ∷ bs)
end_value bs t = let f = field_of bs t in record { value = []; fields = f.0 ∷ f.1; plain = tt; good = (f.2, f.3); is = f.4 }

-- byte 2 ends a name
end_name : (bs : List ℕ) → ValueTail bs → NameTail (2 ∷ bs)
end_name bs t = record { name = []; after = bs; plain = tt; tail = t; is = refl }

-- any byte but a mark goes on with a value, or a name
more_value : (b : ℕ) (bs : List ℕ) → is_mark b ≡ false → ValueTail bs → ValueTail (b ∷ bs)
more_value b bs m t = record { value = b ∷ t.value; fields = t.fields; plain = (m, t.plain); good = t.good; is = ap (λ (xs : List ℕ). b ∷ xs) t.is }

abbrev more_name : (b : ℕ) (bs : List ℕ) → is_mark b ≡ false → NameTail bs → NameTail (b ∷ bs)
more_name b bs m t = record { name = b ∷ t.name; after = t.after; plain = (m, t.plain); tail = t.tail; is = ap (λ (xs : List ℕ). b ∷ xs) t.is }

no : {A : Type 0} → false ≡ true → A
no e = absurd (false≢true e)

value_step : (b : ℕ) (bs : List ℕ) → Tails bs → (one m : Bool) → eqb b 1 ≡ one → is_mark b ≡ m
    → cond one (completes before_name bs) (not m && completes in_value bs) ≡ true → ValueTail (b ∷ bs)
value_step b bs ih true m one mark e = rw (eqb-true b 1 one) (end_value bs (ih.before_name e))
value_step b bs ih false true one mark e = no e
value_step b bs ih false false one mark e = more_value b bs mark (ih.in_value e)

name_step : (b : ℕ) (bs : List ℕ) → Tails bs → (two m : Bool) → eqb b 2 ≡ two → is_mark b ≡ m
    → cond two (completes in_value bs) (not m && completes in_name bs) ≡ true → NameTail (b ∷ bs)
name_step b bs ih true m two mark e = rw (eqb-true b 2 two) (end_name bs (ih.in_value e))
name_step b bs ih false true two mark e = no e
name_step b bs ih false false two mark e = more_name b bs mark (ih.in_name e)

first_step : (b : ℕ) (bs : List ℕ) → Tails bs → (m : Bool) → is_mark b ≡ m → (not m && completes in_name bs) ≡ true → FieldTail (b ∷ bs)
first_step b bs ih true mark e = no e
first_step b bs ih false mark e = record { from = more_name b bs mark (ih.in_name e); some = omega arith }

tails : (bs : List ℕ) → Tails bs
tails [] = record {
  in_value = λ e. record { value = []; fields = []; plain = tt; good = tt; is = refl };
  in_name = λ e. no e;
  before_name = λ e. no e;
}
tails (b ∷ bs) = record {
  in_value = value_step b bs (tails bs) (eqb b 1) (is_mark b) refl refl;
  in_name = name_step b bs (tails bs) (eqb b 2) (is_mark b) refl refl;
  before_name = first_step b bs (tails bs) (is_mark b) refl;
}

start_step : (b : ℕ) (bs : List ℕ) (one : Bool) → eqb b 1 ≡ one → (one && completes before_name bs) ≡ true → IsKey (b ∷ bs)
start_step b bs true one e = rw (eqb-true b 1 one) (key_of bs ((tails bs).before_name e))
start_step b bs false one e = no e

-- what passes the test is a key
pub key_from_completes : (bs : List ℕ) → completes outside bs ≡ true → IsKey bs
key_from_completes [] e = no e
key_from_completes (b ∷ bs) e = start_step b bs (eqb b 1) refl e

-- a byte of a name or a value is neither 1 nor 2
pub not_one : (b : ℕ) → is_mark b ≡ false → eqb b 1 ≡ false
not_one b = elim (eqb b 1) as (λ t. (t || (eqb b 2 || eqb b 10)) ≡ false → t ≡ false) [ true ↦ λ e. no (sym e) | false ↦ λ e. refl ]

pub not_two : (b : ℕ) → is_mark b ≡ false → eqb b 2 ≡ false
not_two b = elim (eqb b 1) as (λ s. (s || (eqb b 2 || eqb b 10)) ≡ false → eqb b 2 ≡ false) [
  | true ↦ λ e. no (sym e)
  | false ↦ elim (eqb b 2) as (λ t. (t || eqb b 10) ≡ false → t ≡ false) [ true ↦ λ e. no (sym e) | false ↦ λ e. refl ]
]

past_name : (name rest : List ℕ) → IsPlain name → completes in_name (name ++ 2 ∷ rest) ≡ completes in_value rest
past_name [] rest p = refl
past_name (b ∷ name) rest p = rw (p.0, not_two b p.0) (past_name name rest p.1)

past_value : (value rest : List ℕ) → IsPlain value → completes in_value (value ++ rest) ≡ completes in_value rest
past_value [] rest p = refl
past_value (b ∷ value) rest p = rw (p.0, not_one b p.0) (past_value value rest p.1)

past_first : (name rest : List ℕ) → 0 < length name → IsPlain name → completes before_name (name ++ 2 ∷ rest) ≡ completes in_value rest
past_first [] rest h p = absurd (omega arith)
past_first (b ∷ name) rest h p = rw p.0 (past_name name rest p.1)

fields_complete : (fs : List (List ℕ × List ℕ)) → AllByRecursion IsField fs → completes in_value (flat_map field_text fs) ≡ true
fields_complete [] g = refl
fields_complete (f ∷ fs) g =
    ap (λ (xs : List ℕ). completes in_value xs) (append_assoc (1 ∷ f.0) (2 ∷ f.1) (flat_map field_text fs))
    ∙ (past_first f.0 (f.1 ++ flat_map field_text fs) g.0.0 g.0.1
    ∙ past_value f.1 (flat_map field_text fs) g.0.2 ∙ fields_complete fs g.1)

start_completes : (fs : List (List ℕ × List ℕ)) → 0 < length fs → AllByRecursion IsField fs → completes outside (flat_map field_text fs) ≡ true
start_completes [] h g = absurd (omega arith)
start_completes (f ∷ fs) h g = fields_complete (f ∷ fs) g

-- a key passes the test
pub completes_from_key : (bs : List ℕ) → IsKey bs → completes outside bs ≡ true
completes_from_key bs k = rw k.3 (start_completes k.0 k.1 k.2)
