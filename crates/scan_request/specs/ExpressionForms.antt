-- The form of an expression: the name of one without parts, an object of one member with its parts, or a literal,
-- which is an object of its value and its dtype.
use Rattle.std.specs.Prelude.{ℕ, codes, if◌then◌else◌, List, [], ◌∷◌, Option, Some, None, option_map}
use Rattle.std.specs.Map.{lookup}
use Rattle.std.specs.Str.{bytes_eq}
use Rattle.serde_json.specs.Data.{Data, null, boolean, number, string, array, object, Items, no_items, item, Members, no_members, member}
use Rattle.serde_json.specs.Find.{get, as_str, as_integer}
use Rattle.vx_expr.specs.Terms.{Term, root, literal, get_field, pack, negation, conjunction, disjunction, comparison, null_test, value_test, arithmetic, row_number, Terms, no_terms, named}
use Rattle.vx_expr.specs.declared.operators.CompareOp.TheVariants.{Eq, Ne, Lt, Le, Gt, Ge}
use Rattle.vx_expr.specs.declared.operators.ArithOp.TheVariants.{Add, Sub, Mul, Div}
use Rattle.scan_words.specs.Words.{◌>>=◌}
use Rattle.scan_request.specs.JsonForms.{has_members}
use Rattle.scan_request.specs.DtypeForms.{dtype_under}
use Rattle.vx_base.specs.Data as values
use Rattle.vx_base.specs.Data.{DataType}

-- ---- names

-- the expressions without parts by their names
abbrev pub bare_names : List (List ℕ × Term)
bare_names = (codes "root", root) ∷ (codes "row_idx", row_number) ∷ []

-- those of one other by their names
abbrev pub test_names : List (List ℕ × (Term → Term))
test_names = (codes "not", negation) ∷ (codes "is_null", null_test) ∷ (codes "is_not_null", value_test) ∷ []

-- the expressions that join two others by their names
abbrev pub pair_names : List (List ℕ × (Term → Term → Term))
pair_names = (codes "and", conjunction) ∷ (codes "or", disjunction)
    ∷ (codes "eq", comparison Eq) ∷ (codes "ne", comparison Ne) ∷ (codes "lt", comparison Lt) ∷ (codes "le", comparison Le) ∷ (codes "gt", comparison Gt) ∷ (codes "ge", comparison Ge)
    ∷ (codes "add", arithmetic Add) ∷ (codes "sub", arithmetic Sub) ∷ (codes "mul", arithmetic Mul) ∷ (codes "div", arithmetic Div) ∷ []

-- ---- literals

-- null, a truth value, a whole number or a text; a fraction or an exponent makes a number none
abbrev pub value_form : Data → Option values.Datum
value_form null = Some values.null
value_form (boolean b) = Some (values.truth b)
value_form (number n) = as_integer n >>= λ z. Some (values.number z)
value_form (string s) = Some (values.text s)
value_form (array ds) = None
value_form (object ms) = None

abbrev pub value_said : Data → Option values.Datum
value_said d = get (codes "lit") d >>= value_form

-- a literal of a value and a dtype, where both are there
abbrev pub literal_from : Option values.Datum → Option DataType → Option Term
literal_from value dtype = value >>= λ v. dtype >>= λ t. Some (literal v t)

-- an object of exactly the members `lit`, the value, and `type`, its dtype, which need not fit one another
abbrev pub literal_form : Data → Option Term
literal_form d = if has_members 2 d then literal_from (value_said d) (dtype_under (codes "type") d) else None

-- ---- expressions

-- a name and an expression, where both are there
abbrev pub named_from : Option (List ℕ) → Option Term → Option (List ℕ × Term)
named_from name expr = name >>= λ text. expr >>= λ e. Some (text, e)

-- both expressions, where they are there
abbrev pub pair_from : Option Term → Option Term → Option (Term × Term)
pair_from left right = left >>= λ l. right >>= λ r. Some (l, r)

-- named expressions in order
abbrev pub terms_from : List (List ℕ × Term) → Terms
terms_from [] = no_terms
terms_from (part ∷ parts) = named part.0 part.1 (terms_from parts)

-- of one part or of a pair, by what the name makes of them
abbrev pub test_or_pair : Option (Term → Term) → Option (Term → Term → Term) → Option Term → Option (Term × Term) → Option Term
test_or_pair (Some test) join part pair = option_map test part
test_or_pair None (Some join) part pair = option_map (λ es. join es.0 es.1) pair
test_or_pair None None part pair = None

-- The expression that an object of one member is, by the member's name. Its value is a named part of `get`, named parts of
-- `pack`, one part of a test and of `not`, and a pair of parts of all else.
abbrev pub joined_form : List ℕ → Option Term → Option (List ℕ × Term) → Option (List (List ℕ × Term)) → Option (Term × Term) → Option Term
joined_form name part named_part named_parts pair =
    if bytes_eq name (codes "get") then option_map (λ field. get_field field.0 field.1) named_part
    else (if bytes_eq name (codes "pack") then option_map (λ fields. pack (terms_from fields)) named_parts
    else test_or_pair (lookup (bytes_eq name) test_names) (lookup (bytes_eq name) pair_names) part pair)

abbrev mutual
  pub expression_form : Data → Option Term
  expression_form null = None
  expression_form (boolean b) = None
  expression_form (number n) = None
  expression_form (string name) = lookup (bytes_eq name) bare_names
  expression_form (array ds) = None
  expression_form (object ms) = object_form ms

  -- one member names the expression, and more of them are a literal
  pub object_form : Members → Option Term
  object_form no_members = None
  object_form (member name d no_members) = joined_form name (expression_form d) (named_form d) (all_named_form d) (pair_form d)
  object_form (member name d (member other e ms)) = literal_form (object (member name d (member other e ms)))

  -- a list of a name and an expression
  pub named_form : Data → Option (List ℕ × Term)
  named_form null = None
  named_form (boolean b) = None
  named_form (number n) = None
  named_form (string s) = None
  named_form (array ds) = named_items ds
  named_form (object ms) = None

  pub named_items : Items → Option (List ℕ × Term)
  named_items no_items = None
  named_items (item a no_items) = None
  named_items (item a (item b no_items)) = named_from (as_str a) (expression_form b)
  named_items (item a (item b (item c ds))) = None

  -- a list of any number of those
  pub all_named_form : Data → Option (List (List ℕ × Term))
  all_named_form null = None
  all_named_form (boolean b) = None
  all_named_form (number n) = None
  all_named_form (string s) = None
  all_named_form (array ds) = each_named ds
  all_named_form (object ms) = None

  pub each_named : Items → Option (List (List ℕ × Term))
  each_named no_items = Some []
  each_named (item d ds) = named_form d >>= λ part. each_named ds >>= λ parts. Some (part ∷ parts)

  -- a list of two expressions
  pub pair_form : Data → Option (Term × Term)
  pair_form null = None
  pair_form (boolean b) = None
  pair_form (number n) = None
  pair_form (string s) = None
  pair_form (array ds) = pair_items ds
  pair_form (object ms) = None

  pub pair_items : Items → Option (Term × Term)
  pair_items no_items = None
  pair_items (item a no_items) = None
  pair_items (item a (item b no_items)) = pair_from (expression_form a) (expression_form b)
  pair_items (item a (item b (item c ds))) = None

-- the expression that a member of that name tells, where it is the only one
abbrev pub joined_value : List ℕ → Data → Option Term
joined_value name d = joined_form name (expression_form d) (named_form d) (all_named_form d) (pair_form d)
