use Rattle.std.proofs.Common.{◌≡◌, ◌-◌, [], ◌∷◌, length, None, ap, ap₂, ◌∙◌, arith, rules}
use Rattle.json.specs.Token.{Token}
use Rattle.json.specs.Json.{items, members, value}
use Rattle.json.specs.Reads.{token_of}
use Rattle.json.proofs.Grammar.{value_is, value-begin_array, value-begin_object}
use Rattle.serde_json.specs.Read.{of_json, converted}
use Rattle.scan_json.proofs.Tails.{tail_all, tail_next}
use Rattle.scan_json.proofs.Turns.{converted-array, converted-object}
use Rattle.scan_json.proofs.heads.next_head.Goals as goal

pub returns-in_err-token-clause-refused : goal.returns-in_err-token-clause-refused
returns-in_err-token-clause-refused c =
    let empty : c.args.reader.now ≡ [] = grind arith in
    let none : converted of_json (value c.args.depth c.args.reader.now) ≡ None = ap (converted of_json) (ap (value c.args.depth) empty ∙ value_is c.args.depth []) in
    search (rules, none)

pub returns-in-String-clause-ok : goal.returns-in-String-clause-ok
returns-in-String-clause-ok c =
    let is : c.args.reader.now ≡ Token.string c.in-String.text.now ∷ c.next.new.self = grind arith in
    ap (converted of_json) (ap (value c.args.depth) is ∙ value_is c.args.depth _)

pub returns-in-Some-clause-ok : goal.returns-in-Some-clause-ok
returns-in-Some-clause-ok c =
    let is : c.args.reader.now ≡ Token.number c.in-Number.text.now ∷ c.next.new.self = grind arith in
    ap (converted of_json) (ap (value c.args.depth) is ∙ value_is c.args.depth _) ∙ rw (← c.in-Some.ensures)

pub returns-in-None-clause-refused : goal.returns-in-None-clause-refused
returns-in-None-clause-refused c =
    let is : c.args.reader.now ≡ Token.number c.in-Number.text.now ∷ c.next.new.self = grind arith in
    ap (converted of_json) (ap (value c.args.depth) is ∙ value_is c.args.depth _) ∙ rw (← c.in-None.ensures)

pub returns-in-Bool-clause-ok : goal.returns-in-Bool-clause-ok
returns-in-Bool-clause-ok c =
    let is : c.args.reader.now ≡ Token.boolean c.in-Bool.truth ∷ c.next.new.self = grind arith in
    ap (converted of_json) (ap (value c.args.depth) is ∙ value_is c.args.depth _)

pub returns-in-Null-clause-ok : goal.returns-in-Null-clause-ok
returns-in-Null-clause-ok c =
    let is : c.args.reader.now ≡ Token.null ∷ c.next.new.self = grind arith in
    ap (converted of_json) (ap (value c.args.depth) is ∙ value_is c.args.depth _)

pub returns-in-EndObject-clause-refused : goal.returns-in-EndObject-clause-refused
returns-in-EndObject-clause-refused c =
    let first : c.args.reader.now ≡ token_of c.in_ok-token.token ∷ c.next.new.self = grind arith in
    let none : value c.args.depth c.args.reader.now ≡ None = rw (value_is c.args.depth c.args.reader.now, first) (grind arith) in
    ap (converted of_json) none

pub returns-then-depth-eq0-clause-refused : goal.returns-then-depth-eq0-clause-refused
unfolding value
returns-then-depth-eq0-clause-refused c =
    let first : c.args.reader.now ≡ Token.begin_array ∷ c.next.new.self = grind arith in
    let none : c.args.depth ≡ 0 = omega arith in
    ap (converted of_json) (ap₂ value none first)

pub returns-else-depth-eq0-clause-ok : goal.returns-else-depth-eq0-clause-ok
returns-else-depth-eq0-clause-ok c =
    let first : c.args.reader.now ≡ Token.begin_array ∷ c.next.new.self = grind arith in
    ap (converted of_json) (ap (value c.args.depth) first ∙ value-begin_array c.args.depth c.next.new.self (omega arith)) ∙ converted-array (items (value (c.args.depth - 1)) (length c.next.new.self) c.next.new.self)

pub returns-then-depth-eq0-2-clause-refused : goal.returns-then-depth-eq0-2-clause-refused
unfolding value
returns-then-depth-eq0-2-clause-refused c =
    let first : c.args.reader.now ≡ Token.begin_object ∷ c.next.new.self = grind arith in
    let none : c.args.depth ≡ 0 = omega arith in
    ap (converted of_json) (ap₂ value none first)

pub returns-else-depth-eq0-2-clause-ok : goal.returns-else-depth-eq0-2-clause-ok
returns-else-depth-eq0-2-clause-ok c =
    let first : c.args.reader.now ≡ Token.begin_object ∷ c.next.new.self = grind arith in
    ap (converted of_json) (ap (value c.args.depth) first ∙ value-begin_object c.args.depth c.next.new.self (omega arith)) ∙ converted-object (members (value (c.args.depth - 1)) (length c.next.new.self) c.next.new.self)

pub returns-in_err-token-clause-left : goal.returns-in_err-token-clause-left
returns-in_err-token-clause-left c =
    let stays : c.next.new.self ≡ c.args.reader.now = grind arith in
    tail_all c.args.reader.now c.next.new.self stays

pub returns-in-String-clause-left : goal.returns-in-String-clause-left
returns-in-String-clause-left c =
    let first : c.args.reader.now ≡ token_of c.in_ok-token.token ∷ c.next.new.self = grind arith in
    tail_next c.args.reader.now _ c.next.new.self first

pub returns-in-Some-clause-left : goal.returns-in-Some-clause-left
returns-in-Some-clause-left c =
    let first : c.args.reader.now ≡ token_of c.in_ok-token.token ∷ c.next.new.self = grind arith in
    tail_next c.args.reader.now _ c.next.new.self first

pub returns-in-None-clause-left : goal.returns-in-None-clause-left
returns-in-None-clause-left c =
    let first : c.args.reader.now ≡ token_of c.in_ok-token.token ∷ c.next.new.self = grind arith in
    tail_next c.args.reader.now _ c.next.new.self first

pub returns-in-Bool-clause-left : goal.returns-in-Bool-clause-left
returns-in-Bool-clause-left c =
    let first : c.args.reader.now ≡ token_of c.in_ok-token.token ∷ c.next.new.self = grind arith in
    tail_next c.args.reader.now _ c.next.new.self first

pub returns-in-Null-clause-left : goal.returns-in-Null-clause-left
returns-in-Null-clause-left c =
    let first : c.args.reader.now ≡ token_of c.in_ok-token.token ∷ c.next.new.self = grind arith in
    tail_next c.args.reader.now _ c.next.new.self first

pub returns-in-EndObject-clause-left : goal.returns-in-EndObject-clause-left
returns-in-EndObject-clause-left c =
    let first : c.args.reader.now ≡ token_of c.in_ok-token.token ∷ c.next.new.self = grind arith in
    tail_next c.args.reader.now _ c.next.new.self first

pub returns-then-depth-eq0-clause-left : goal.returns-then-depth-eq0-clause-left
returns-then-depth-eq0-clause-left c =
    let first : c.args.reader.now ≡ token_of c.in_ok-token.token ∷ c.next.new.self = grind arith in
    tail_next c.args.reader.now _ c.next.new.self first

pub returns-else-depth-eq0-clause-left : goal.returns-else-depth-eq0-clause-left
returns-else-depth-eq0-clause-left c =
    let first : c.args.reader.now ≡ token_of c.in_ok-token.token ∷ c.next.new.self = grind arith in
    tail_next c.args.reader.now _ c.next.new.self first

pub returns-then-depth-eq0-2-clause-left : goal.returns-then-depth-eq0-2-clause-left
returns-then-depth-eq0-2-clause-left c =
    let first : c.args.reader.now ≡ token_of c.in_ok-token.token ∷ c.next.new.self = grind arith in
    tail_next c.args.reader.now _ c.next.new.self first

pub returns-else-depth-eq0-2-clause-left : goal.returns-else-depth-eq0-2-clause-left
returns-else-depth-eq0-2-clause-left c =
    let first : c.args.reader.now ≡ token_of c.in_ok-token.token ∷ c.next.new.self = grind arith in
    tail_next c.args.reader.now _ c.next.new.self first
