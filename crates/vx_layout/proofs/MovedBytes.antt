-- Segments that are written one behind the other: each is found where it was written, whatever is written behind it.
use Rattle.std.proofs.Common.{◌≡◌, ℕ, zero, suc, ◌+◌, ◌-◌, ◌<◌, ◌≤◌, leb, true, List, [], ◌∷◌, ◌++◌, Option, Some, None, length, take, drop, refl, sym, ap, ◌∙◌, arith, length-append, length-drop, le-leb, leb-true}
use Rattle.std.specs.Prelude.{option_and_then, slice_range, IsSomeAnd}
use Rattle.std.specs.List.{slice_get}
use Rattle.std.proofs.lemmas.List.{drop_at, take_all, drop-append-le, take-append-le}
use Rattle.std.proofs.lemmas.Option.{cond_some}
use Rattle.vx_base.specs.declared.locations.SegmentLocation.{SegmentLocation}
use Rattle.vx_base.specs.declared.codings.Coding.{Coding}
use Rattle.vx_base.specs.Sources.{bytes_at}
use Rattle.vx_layout.specs.Nodes.{Node}
use Rattle.vx_layout.specs.Rows.{segment_bytes}
use Rattle.vx_layout.specs.Migrations.{IsKeptIn, LieWithoutGaps}
use Rattle.vx_layout.specs.Moving.{location_behind}

-- ---- what stands in front of more

pub some_more : {X : Type 0} (xs ys : List X) (n : ℕ) (P : X → Type 0) → IsSomeAnd (slice_get xs n) P → IsSomeAnd (slice_get (xs ++ ys) n) P
some_more [] ys n P is = absurd is
some_more (x ∷ xs) ys zero P is = is
some_more (x ∷ xs) ys (suc n) P is = some_more xs ys n P is

pub found_front : {X : Type 0} (xs ys : List X) (n : ℕ) (x : X) → slice_get xs n ≡ Some x → slice_get (xs ++ ys) n ≡ Some x
found_front [] ys n x at = absurd cc
found_front (y ∷ xs) ys zero x at = at
found_front (y ∷ xs) ys (suc n) x at = found_front xs ys n x at

pub found_last : {X : Type 0} (xs : List X) (x : X) (n : ℕ) → length xs ≡ n → slice_get (xs ++ x ∷ []) n ≡ Some x
found_last [] x zero e = refl
found_last [] x (suc n) e = absurd (omega arith)
found_last (y ∷ xs) x zero e = absurd (omega arith)
found_last (y ∷ xs) x (suc n) e = found_last xs x n (omega arith)

pub found_within : {X : Type 0} (xs : List X) (n : ℕ) → n < length xs → (x : X) × (slice_get xs n ≡ Some x)
found_within [] n lt = absurd (omega arith)
found_within (x ∷ xs) zero lt = (x, refl)
found_within (x ∷ xs) (suc n) lt = found_within xs n (omega arith)

some_weaker : {X : Type 0} (o : Option X) (P Q : X → Type 0) → ((x : X) → P x → Q x) → IsSomeAnd o P → IsSomeAnd o Q
some_weaker None P Q f is = is
some_weaker (Some x) P Q f is = f x is

-- ---- bytes

range_more : (file more : List ℕ) (from end : ℕ) → from ≤ end → end ≤ length file → slice_range (file ++ more) from end ≡ slice_range file from end
range_more file more from end le within =
    let here : from ≤ length file = omega arith in
    let enough : end - from ≤ length (drop from file) = omega (arith, length-drop from file) in
    ap (take (end - from)) (drop-append-le from file more here) ∙ take-append-le (end - from) (drop from file) more enough

bytes_more : (file more : List ℕ) (at : SegmentLocation) (bytes : List ℕ) → bytes_at file at ≡ Some bytes → bytes_at (file ++ more) at ≡ Some bytes
bytes_more file more at bytes is =
    let end = at.offset + at.length in
    let told = cond_some (leb end (length file)) (slice_range file at.offset end) bytes is in
    let within : end ≤ length file = leb-true end (length file) told.0 in
    let larger : leb end (length (file ++ more)) ≡ true = le-leb end (length (file ++ more)) (omega (arith, length-append file more)) in
    rw larger (ap (λ (bs : List ℕ). Some bs) (range_more file more at.offset end (omega arith) within ∙ told.1))

by_location : (file more : List ℕ) (locations others : List SegmentLocation) (segment : ℕ) (bytes : List ℕ) (o : Option SegmentLocation) → slice_get locations segment ≡ o → option_and_then (bytes_at file) o ≡ Some bytes
    → segment_bytes (file ++ more) (locations ++ others) segment ≡ Some bytes
by_location file more locations others segment bytes None at is = absurd cc
by_location file more locations others segment bytes (Some place) at is =
    ap (option_and_then (bytes_at (file ++ more))) (found_front locations others segment place at) ∙ bytes_more file more place bytes is

segment_more : (file more : List ℕ) (locations others : List SegmentLocation) (segment : ℕ) (bytes : List ℕ) → segment_bytes file locations segment ≡ Some bytes → segment_bytes (file ++ more) (locations ++ others) segment ≡ Some bytes
segment_more file more locations others segment bytes is = by_location file more locations others segment bytes (slice_get locations segment) refl is

bytes_last : (file bytes : List ℕ) (alignment : ℕ) → bytes_at (file ++ bytes) (location_behind file bytes alignment) ≡ Some bytes
bytes_last file bytes alignment =
    let end = length file + length bytes in
    let within : leb end (length (file ++ bytes)) ≡ true = le-leb end (length (file ++ bytes)) (omega (arith, length-append file bytes)) in
    let dropped : drop (length file) (file ++ bytes) ≡ bytes = drop_at file bytes (length file) refl in
    let taken : take (end - length file) bytes ≡ bytes = take_all (end - length file) bytes (omega arith) in
    rw within (ap (λ (bs : List ℕ). Some (take (end - length file) bs)) dropped ∙ ap (λ (bs : List ℕ). Some bs) taken)

pub segment_last : (file bytes : List ℕ) (locations : List SegmentLocation) (alignment place : ℕ) → length locations ≡ place
    → segment_bytes (file ++ bytes) (locations ++ location_behind file bytes alignment ∷ []) place ≡ Some bytes
segment_last file bytes locations alignment place e =
    ap (option_and_then (bytes_at (file ++ bytes))) (found_last locations (location_behind file bytes alignment) place e) ∙ bytes_last file bytes alignment

-- ---- without gaps

pub lie_more : (from end total : ℕ) (locations : List SegmentLocation) (at : SegmentLocation) → LieWithoutGaps from locations end → at.offset ≡ end → end + at.length ≡ total → LieWithoutGaps from (locations ++ at ∷ []) total
lie_more from end total [] at lie here size = (here ∙ sym lie, omega (arith, lie))
lie_more from end total (first ∷ locations) at lie here size = (lie.0, lie_more (from + first.length) end total locations at lie.1 here size)

-- ---- what is kept stays so

pub kept_more : (locations : List SegmentLocation) (file : List ℕ) (new others : List SegmentLocation) (bytes more : List ℕ) (place : ℕ) (node : Node) (segment : ℕ) (old coding : Coding)
    → IsKeptIn locations file new bytes place node segment old coding → IsKeptIn locations file (new ++ others) (bytes ++ more) place node segment old coding
kept_more locations file new others bytes more place node segment old coding kept = record {
  values = kept.values;
  before = kept.before;
  now = record { bytes = kept.now.bytes; there = segment_more bytes more new others place kept.now.bytes kept.now.there; read = kept.now.read };
  aligned =
      some_weaker (slice_get locations segment) (λ before. IsSomeAnd (slice_get new place) (λ now. now.alignment ≡ before.alignment)) (λ before. IsSomeAnd (slice_get (new ++ others) place) (λ now. now.alignment ≡ before.alignment))
      (λ before is. some_more new others place (λ now. now.alignment ≡ before.alignment) is) kept.aligned;
}
