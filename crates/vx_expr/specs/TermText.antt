-- The printed form of expressions, as bytes.
use Rattle.std.specs.Prelude.{codes, ℕ, true, false, ◌==◌, ◌||◌, if◌then◌else◌, List, [], ◌∷◌, ◌++◌}
use Rattle.std.specs.Fmt.{signed_decimal}
use Rattle.std.specs.List.{flat_map}
use Rattle.vx_base.specs.Data.{Datum, null, truth, number, text, structure}
use Rattle.vx_operators.specs.declared.operators.CompareOp.{CompareOp}
use Rattle.vx_operators.specs.declared.operators.CompareOp.TheVariants.{Eq, Ne, Lt, Le, Gt, Ge}
use Rattle.vx_operators.specs.declared.operators.ArithOp.{ArithOp}
use Rattle.vx_operators.specs.declared.operators.ArithOp.TheVariants.{Add, Sub, Mul, Div}
use Rattle.vx_expr.specs.Terms.{Term, root, literal, get_field, pack, negation, conjunction, disjunction, comparison, null_test, value_test, arithmetic, row_number, bound_test, Terms, no_terms, named}

-- the sign of a comparison
abbrev pub compare_sign : CompareOp → List ℕ
compare_sign Eq = codes "="
compare_sign Ne = codes "!="
compare_sign Lt = codes "<"
compare_sign Le = codes "<="
compare_sign Gt = codes ">"
compare_sign Ge = codes ">="

-- the sign of an operation
abbrev pub arith_sign : ArithOp → List ℕ
arith_sign Add = codes "+"
arith_sign Sub = codes "-"
arith_sign Mul = codes "*"
arith_sign Div = codes "/"

-- the words between truth values
abbrev pub and_sign : List ℕ
and_sign = codes "and"

abbrev pub or_sign : List ℕ
or_sign = codes "or"

-- a double quote and a backslash follow a backslash
abbrev pub quoted_byte : ℕ → List ℕ
quoted_byte b = if b == 34 || b == 92 then 92 ∷ b ∷ [] else b ∷ []

-- null, true, false, a number, or a text in double quotes; no literal is a struct
abbrev pub literal_text : Datum → List ℕ
literal_text null = codes "null"
literal_text (truth true) = codes "true"
literal_text (truth false) = codes "false"
literal_text (number z) = signed_decimal z
literal_text (text bytes) = (34 ∷ []) ++ (flat_map quoted_byte bytes ++ (34 ∷ []))
literal_text (structure vs) = []

-- the word of a call, with its opening parenthesis
abbrev pub not_word : List ℕ
not_word = codes "not("

abbrev pub is_null_word : List ℕ
is_null_word = codes "is_null("

abbrev pub is_not_null_word : List ℕ
is_not_null_word = codes "is_not_null("

abbrev pub at_most_bound_word : List ℕ
at_most_bound_word = codes "at_most_bound("

-- the row's number
abbrev pub row_idx_word : List ℕ
row_idx_word = codes "#row_idx"

-- a call: the word with its opening parenthesis, the operand, and a closing one
abbrev pub call_text : List ℕ → List ℕ → List ℕ
call_text word operand = word ++ (operand ++ codes ")")

-- two operands with a sign between them, in parentheses
abbrev pub pair_text : List ℕ → List ℕ → List ℕ → List ℕ
pair_text sign left right = codes "(" ++ (left ++ (codes " " ++ (sign ++ (codes " " ++ (right ++ codes ")")))))

-- the root, a literal, a field behind a dot, named parts in braces, calls and pairs
abbrev mutual
  pub term_text : Term → List ℕ
  term_text root = codes "$"
  term_text (literal v t) = literal_text v
  term_text (get_field name e) = term_text e ++ (codes "." ++ name)
  term_text (pack es) = codes "{" ++ (terms_text es ++ codes "}")
  term_text (negation e) = call_text not_word (term_text e)
  term_text (conjunction a b) = pair_text and_sign (term_text a) (term_text b)
  term_text (disjunction a b) = pair_text or_sign (term_text a) (term_text b)
  term_text (comparison op a b) = pair_text (compare_sign op) (term_text a) (term_text b)
  term_text (null_test e) = call_text is_null_word (term_text e)
  term_text (value_test e) = call_text is_not_null_word (term_text e)
  term_text (arithmetic op a b) = pair_text (arith_sign op) (term_text a) (term_text b)
  term_text row_number = row_idx_word
  term_text (bound_test e) = call_text at_most_bound_word (term_text e)

  -- each name, a colon, a space and the part, with a comma and a space between two of them
  pub terms_text : Terms → List ℕ
  terms_text no_terms = []
  terms_text (named name e es) = name ++ (codes ": " ++ (term_text e ++ more_terms es))

  pub more_terms : Terms → List ℕ
  more_terms no_terms = []
  more_terms (named name e es) = codes ", " ++ (name ++ (codes ": " ++ (term_text e ++ more_terms es)))
