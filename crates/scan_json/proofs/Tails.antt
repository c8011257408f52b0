-- What is left of tokens, step by step: it stays the last of them.
use Rattle.std.proofs.Common.{◌≡◌, ℕ, List, [], ◌∷◌, ◌++◌, Option, Some, sym, ap, ◌∙◌, append-nil, append_assoc}
use Rattle.json.specs.Token.{Token}
use Rattle.json.specs.Json.{after_end_array, read_key}
use Rattle.json.proofs.Grammar.{closed_array, key_token, read_key_is}
use Rattle.scan_json.specs.Reading.{IsTail}

-- all of them, none, and all but the first
pub tail_all : (ts r : List Token) → r ≡ ts → IsTail ts r
tail_all ts r all = ([], sym all)

pub tail_none : (ts r : List Token) → r ≡ [] → IsTail ts r
tail_none ts r none = (ts, sym (append-nil ts) ∙ ap (λ l. ts ++ l) (sym none))

pub tail_next : (ts : List Token) (t : Token) (r : List Token) → ts ≡ t ∷ r → IsTail ts r
tail_next ts t r first = (t ∷ [], first)

-- the last of the last
pub tail_later : (ts s r : List Token) → IsTail ts s → IsTail s r → IsTail ts r
tail_later ts s r before after = (before.0 ++ after.0, before.1 ∙ ap (λ l. before.0 ++ l) after.1 ∙ sym (append_assoc before.0 after.0 r))

pub tail_of_same : (ts s r : List Token) → s ≡ ts → IsTail s r → IsTail ts r
tail_of_same ts s r same after = (after.0, sym same ∙ after.1)

-- behind the bracket that closes a list, behind a key, and behind the brace that closes an object
pub tail_closed : (ts r : List Token) → after_end_array ts ≡ Some r → IsTail ts r
tail_closed ts r over = tail_next ts Token.end_array r (closed_array ts r over)

pub tail_key : (ts : List Token) (k : Option (List ℕ)) (r : List Token) → read_key ts ≡ Some (k, r) → IsTail ts r
tail_key ts k r read = tail_next ts (key_token k) r (read_key_is ts k r read)
