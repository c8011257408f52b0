-- The bytes of a string: those that wait to be copied, and those that are left.
use Rattle.std.proofs.Common.{◌≡◌, ℕ, ◌+◌, ◌<◌, ◌≤◌, List, [], ◌∷◌, ◌++◌, length, get_or, drop, sym, ap, ◌∙◌, arith, append_assoc}
use Rattle.std.specs.List.{slice_range, flat_map}
use Rattle.std.proofs.lemmas.List.{at_drop_more, at_drop_all, append-nil}
use Rattle.scan_output.specs.RowText.{escaped}
use Rattle.scan_output.proofs.Ranges.{range_more, range_none, range_rest}

-- what stands in the string for the bytes from a place on
abbrev pub rest_escaped : List ℕ → ℕ → List ℕ
rest_escaped bytes place = flat_map escaped (drop place bytes)

next_escaped : (bytes : List ℕ) (place byte : ℕ) → place < length bytes → byte ≡ get_or bytes place byte → rest_escaped bytes place ≡ escaped byte ++ rest_escaped bytes (place + 1)
next_escaped bytes place byte lt here =
    let one : rest_escaped bytes place ≡ escaped (get_or bytes place byte) ++ rest_escaped bytes (place + 1) = at_drop_more (flat_map escaped) bytes place byte lt in
    one ∙ ap (λ (b : ℕ). escaped b ++ rest_escaped bytes (place + 1)) (sym here)

-- The bytes so far, those that wait and what is left are the whole.
pub record Escapes (bytes out whole : List ℕ) (done place : ℕ) : Type 0 where
  pub behind : done ≤ place
  pub written : out ++ (slice_range bytes done place ++ rest_escaped bytes place) ≡ whole

-- a byte that stands as it is waits
pub plain_waits : (bytes out whole : List ℕ) (done place byte : ℕ) → place < length bytes → byte ≡ get_or bytes place byte → escaped byte ≡ byte ∷ [] → Escapes bytes out whole done place → Escapes bytes out whole done (place + 1)
plain_waits bytes out whole done place byte lt here plain so_far = record {
  behind = omega (arith, so_far.behind);
  written =
      let waiting = slice_range bytes done place in
      let rest = rest_escaped bytes (place + 1) in
      ap (λ (w : List ℕ). out ++ (w ++ rest)) (range_more bytes done place byte so_far.behind lt here)
      ∙ ap (λ (w : List ℕ). out ++ w) (append_assoc waiting (byte ∷ []) rest)
      ∙ ap (λ (b : List ℕ). out ++ (waiting ++ (b ++ rest))) (sym plain)
      ∙ ap (λ (r : List ℕ). out ++ (waiting ++ r)) (sym (next_escaped bytes place byte lt here))
      ∙ so_far.written;
}

-- those that wait are copied, and a byte is escaped
pub escape_written : (bytes before out whole : List ℕ) (done place byte : ℕ) → place < length bytes → byte ≡ get_or bytes place byte → out ≡ (before ++ slice_range bytes done place) ++ escaped byte → Escapes bytes before whole done place → Escapes bytes out whole (place + 1) (place + 1)
escape_written bytes before out whole done place byte lt here is so_far = record {
  behind = omega arith;
  written =
      let waiting = slice_range bytes done place in
      let rest = rest_escaped bytes (place + 1) in
      ap (λ (w : List ℕ). out ++ (w ++ rest)) (range_none bytes (place + 1))
      ∙ ap (λ (o : List ℕ). o ++ rest) is
      ∙ append_assoc (before ++ waiting) (escaped byte) rest
      ∙ append_assoc before waiting (escaped byte ++ rest)
      ∙ ap (λ (r : List ℕ). before ++ (waiting ++ r)) (sym (next_escaped bytes place byte lt here))
      ∙ so_far.written;
}

-- those that wait at the end are copied
pub rest_written : (bytes before out whole : List ℕ) (done place : ℕ) → length bytes ≤ place → out ≡ before ++ drop done bytes → Escapes bytes before whole done place → out ≡ whole
rest_written bytes before out whole done place past is so_far =
    is ∙ ap (λ (w : List ℕ). before ++ w) (sym (range_rest bytes done place past) ∙ sym (append-nil (slice_range bytes done place)))
    ∙ ap (λ (r : List ℕ). before ++ (slice_range bytes done place ++ r)) (sym (at_drop_all (flat_map escaped) bytes place past))
    ∙ so_far.written
