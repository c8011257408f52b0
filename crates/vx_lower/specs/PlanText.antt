-- The printed form of a plan and all that it is over, as bytes: a line for each plan, its children below it.
use Rattle.std.specs.Prelude.{codes, decimal, ℕ, ◌+◌, zero, suc, Bool, true, false, List, [], ◌∷◌, ◌++◌}
use Rattle.std.specs.List.{flat_map}
use Rattle.vx_base.specs.TypeText.{type_text}
use Rattle.vx_expr.specs.TermText.{term_text}
use Rattle.vx_plan.specs.declared.nodes.PlanKind.{PlanKind}
use Rattle.vx_plan.specs.declared.nodes.PlanKind.TheVariants as kinds
use Rattle.vx_plan.specs.ChildNames.{child_name}
use Rattle.vx_plan.specs.Kinds.{id_of, id_text}
use Rattle.vx_plan.specs.Nodes.{Node}
use Rattle.vx_plan.specs.Rules.{node_at}

-- ---- headers

-- what a line says of a plan behind its name, by the table and the plan's number
abbrev pub Header : Type 0
Header = List Node → ℕ → List ℕ

-- the dtype and the number of rows, in parentheses
abbrev pub dtype_part : Node → List ℕ
dtype_part node = codes "(" ++ type_text node.dtype

abbrev pub rows_part : Node → List ℕ
rows_part node = codes ", rows=" ++ (decimal node.rows ++ codes ")")

-- the expression, or the predicate by which zones are pruned, of the kinds that have one
abbrev pub expression_text : PlanKind → List ℕ
expression_text (kinds.Eval a) = codes " expr=" ++ term_text a.term
expression_text (kinds.Pruning zone_len stats proof) = codes " prune=" ++ term_text proof.term
expression_text kind = []

-- a summary: the kind, the dtype and the rows, and the expression or the predicate
abbrev pub node_text : Node → List ℕ
node_text node = id_text (id_of node.kind) ++ (dtype_part node ++ (rows_part node ++ expression_text node.kind))

abbrev pub summary_text : Header
summary_text nodes number = codes " " ++ node_text (node_at nodes number)

-- headers one after another
abbrev pub headers_text : List Header → Header
headers_text headers nodes number = flat_map (λ header. header nodes number) headers

-- the summary, where it is asked for, and the other headers behind it
abbrev pub with_summary : Bool → List Header → List Header
with_summary false headers = headers
with_summary true headers = summary_text ∷ headers

abbrev pub all_headers : Bool → List Header → Header
all_headers has_summary headers = headers_text (with_summary has_summary headers)

-- ---- lines

-- two spaces for each level
abbrev pub indent : ℕ → List ℕ
indent zero = []
indent (suc depth) = codes "  " ++ indent depth

-- a plan's line: its name and a colon behind the indent, its header, and the end of the line
abbrev pub line_text : Header → List Node → ℕ → List ℕ → ℕ → List ℕ
line_text header nodes depth name number = indent depth ++ (name ++ (codes ":" ++ (header nodes number ++ codes "\n")))

-- the texts of children, from a place on
abbrev pub each_from : (ℕ → ℕ → List ℕ) → ℕ → List ℕ → List ℕ
each_from text place [] = []
each_from text place (child ∷ children) = text place child ++ each_from text (place + 1) children

-- the lines of a plan and, below it, of its children in order, down to so many levels
unfoldable pub text_down : ℕ → Header → List Node → ℕ → List ℕ → ℕ → List ℕ
text_down zero header nodes depth name number = []
text_down (suc levels) header nodes depth name number =
    line_text header nodes depth name number
    ++ each_from (λ place child. text_down levels header nodes (depth + 1) (child_name (node_at nodes number) place) child) 0
    (node_at nodes number).children

-- the lines of the plan at a depth and under a name: below it stand no more levels than its number says
abbrev pub lines_text : Header → List Node → ℕ → List ℕ → ℕ → List ℕ
lines_text header nodes depth name number = text_down (suc number) header nodes depth name number

-- the text of a plan, which stands as the root
abbrev pub plan_text : Header → List Node → ℕ → List ℕ
plan_text header nodes number = lines_text header nodes 0 (codes "root") number
