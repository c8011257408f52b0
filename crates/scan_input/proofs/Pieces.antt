-- Reading a request piece by piece.
use Rattle.std.proofs.Common.{◌≡◌, ℕ, ◌+◌, ◌<◌, ◌≤◌, List, [], ◌∷◌, ◌++◌, length, sum, take, drop, All, Option, Some, None, option_map, Result, Ok, Err, refl, sym, ap, subst, ◌∙◌, inl, append_assoc, length-append, arith}
use Rattle.std.specs.Prelude.{IfSome}
use Rattle.std.specs.Global.{Vec}
use Rattle.std.specs.Result.{IsErrAnd}
use Rattle.std.proofs.lemmas.List.{take-append-drop, append-nil}
use Rattle.std.proofs.lemmas.List.Elements.{All-push}
use Rattle.std.proofs.lemmas.List.Sums.{sum_by_push}
use Rattle.vx_outside.specs.Streams.{ReadState, Gave, GaveNothing}
use Rattle.scan_input.specs.Reading.{most_bytes, most_piece, IsFull, ReadingGives, ReadsAll, ReadsFew, ReadsPieces, ReadsTooMany}
use Rattle.scan_input.specs.declared.reading.ReadingError.{ReadingError}
use Rattle.scan_input.specs.declared.reading.ReadingError.TheVariants.{Memory}

-- the source told all of its bytes as what was read so far and a rest
abbrev pub TellsRest : List ℕ → Option (List ℕ) → Option (List ℕ) → Type 0
TellsRest bytes None new = new ≡ None
TellsRest bytes (Some whole) new = (rest : List ℕ) × (whole ≡ bytes ++ rest) × (new ≡ Some rest)

-- so many full pieces were read, and these bytes
pub record ReadsSoFar (turn : ℕ) (bytes : List ℕ) (old new : ReadState) : Type 0 where
  pub full : List ℕ
  pub pieces : new.pieces ≡ old.pieces ++ full
  pub each : All IsFull full
  pub count : length full ≡ turn
  pub size : length bytes ≤ most_bytes
  pub total : sum full ≡ length bytes
  pub turns : turn ≤ length bytes
  pub rest : TellsRest bytes old.rest new.rest
  pub faults : new.faults ≡ old.faults

tells_more : (bytes piece : List ℕ) (whole mid new : Option (List ℕ)) → TellsRest bytes whole mid → IfSome mid (λ rest. piece ≡ take (length piece) rest) → new ≡ option_map (drop (length piece)) mid → TellsRest (bytes ++ piece) whole new
tells_more bytes piece None mid new tells next is = is ∙ ap (option_map (drop (length piece))) tells
tells_more bytes piece (Some whole) mid new tells next is =
    let rest = tells.0 in
    let first : piece ≡ take (length piece) rest = rw tells.2 at next in
    let split : rest ≡ piece ++ drop (length piece) rest = sym (take-append-drop (length piece) rest) ∙ ap (λ (front : List ℕ). front ++ drop (length piece) rest) (sym first) in
    (drop (length piece) rest, tells.1 ∙ ap (λ (x : List ℕ). bytes ++ x) split ∙ sym (append_assoc bytes piece (drop (length piece) rest)), is ∙ ap (option_map (drop (length piece))) tells.2)

-- with another piece, the source tells enough for both
tells_enough : (bytes piece : List ℕ) (whole mid : Option (List ℕ)) → TellsRest bytes whole mid → IfSome mid (λ rest. piece ≡ take (length piece) rest) → most_bytes < length piece + length bytes → IfSome whole (λ all. most_bytes < length all)
tells_enough bytes piece None mid tells next more = tt
tells_enough bytes piece (Some whole) mid tells next more =
    let further = tells_more bytes piece (Some whole) mid (option_map (drop (length piece)) mid) tells next refl in
    omega (arith, ap length further.1, length-append (bytes ++ piece) further.0, length-append bytes piece, more)

-- one more piece, which isn't empty
pub reads_more : (turn : ℕ) (bytes piece : List ℕ) (old mid new : ReadState) → ReadsSoFar turn bytes old mid → Gave most_piece piece mid new → 0 < length piece → length piece + length bytes ≤ most_bytes → ReadsSoFar (turn + 1) (bytes ++ piece) old new
reads_more turn bytes piece old mid new so_far gave some fits = record {
  full = so_far.full ++ length piece ∷ [];
  pieces = gave.pieces ∙ ap (λ (x : List ℕ). x ++ length piece ∷ []) so_far.pieces ∙ append_assoc old.pieces so_far.full (length piece ∷ []);
  each = All-push IsFull so_far.full (length piece) so_far.each (some, gave.size);
  count = omega (arith, so_far.count, length-append so_far.full (length piece ∷ []));
  size = omega (arith, fits, length-append bytes piece);
  total = omega (arith, so_far.total, sum_by_push (λ (n : ℕ). n) so_far.full (length piece), length-append bytes piece);
  turns = omega (arith, so_far.turns, some, length-append bytes piece);
  rest = tells_more bytes piece old.rest mid.rest new.rest so_far.rest gave.next gave.rest;
  faults = gave.faults ∙ so_far.faults;
}

-- the pieces where the last one isn't empty
pub pieces_of : (turn : ℕ) (bytes piece : List ℕ) (old mid new : ReadState) → ReadsSoFar turn bytes old mid → Gave most_piece piece mid new → 0 < length piece → ReadsPieces old new
pieces_of turn bytes piece old mid new so_far gave some = record {
  full = so_far.full ++ length piece ∷ [];
  last = [];
  pieces = gave.pieces ∙ ap (λ (x : List ℕ). x ++ length piece ∷ []) so_far.pieces ∙ append_assoc old.pieces so_far.full (length piece ∷ []) ∙ sym (append-nil (old.pieces ++ (so_far.full ++ length piece ∷ [])));
  each = All-push IsFull so_far.full (length piece) so_far.each (some, gave.size);
  end = inl refl;
  count = omega (arith, so_far.count, so_far.turns, so_far.size, length-append so_far.full (length piece ∷ []));
}

-- ---- how many bytes they have together

-- nothing was read
pub none_read : (old : ReadState) → ReadsFew old old
none_read old = record { sizes = []; pieces = sym (append-nil old.pieces); few = omega arith }

-- no further piece was given
pub few_so_far : (turn : ℕ) (bytes : List ℕ) (old mid new : ReadState) → ReadsSoFar turn bytes old mid → GaveNothing mid new → ReadsFew old new
few_so_far turn bytes old mid new so_far gave = record { sizes = so_far.full; pieces = gave.pieces ∙ so_far.pieces; few = omega (arith, so_far.total, so_far.size) }

-- one more piece fits
pub few_with_piece : (turn : ℕ) (bytes piece : List ℕ) (old mid new : ReadState) → ReadsSoFar turn bytes old mid → Gave most_piece piece mid new → length piece + length bytes ≤ most_bytes → ReadsFew old new
few_with_piece turn bytes piece old mid new so_far gave fits = record {
  sizes = so_far.full ++ length piece ∷ [];
  pieces = gave.pieces ∙ ap (λ (x : List ℕ). x ++ length piece ∷ []) so_far.pieces ∙ append_assoc old.pieces so_far.full (length piece ∷ []);
  few = omega (arith, fits, so_far.total, sum_by_push (λ (n : ℕ). n) so_far.full (length piece));
}

-- memory ran out behind few bytes
pub ran_out : (result : Result (Vec ℕ) ReadingError) (old new : ReadState) → IsErrAnd result (λ error. error ≡ Memory) → new.faults ≡ old.faults → ReadsFew old new → ReadingGives result old new
ran_out (Ok bytes) old new is same few = absurd is
ran_out (Err error) old new is same few = subst (λ (e : ReadingError). ReadingGives (Err e) old new) (sym is) (same, few)

-- all bytes were read
pub few_in_all : (bytes : List ℕ) (old new : ReadState) → ReadsAll bytes old new → ReadsFew old new
few_in_all bytes old new reads = record {
  sizes = reads.last_piece.0 ++ 0 ∷ [];
  pieces = reads.last_piece.3 ∙ append_assoc old.pieces reads.last_piece.0 (0 ∷ []);
  few = omega (arith, reads.size, reads.last_piece.2, sum_by_push (λ (n : ℕ). n) reads.last_piece.0 0);
}

-- the pieces where they have too many bytes together
pub too_many : (turn : ℕ) (bytes piece : List ℕ) (old mid new : ReadState) → ReadsSoFar turn bytes old mid → Gave most_piece piece mid new → 0 < length piece → most_bytes < length piece + length bytes → ReadsTooMany old new
too_many turn bytes piece old mid new so_far gave some more = record {
  full = so_far.full;
  last = length piece;
  pieces = gave.pieces ∙ ap (λ (x : List ℕ). x ++ length piece ∷ []) so_far.pieces ∙ append_assoc old.pieces so_far.full (length piece ∷ []);
  each = All-push IsFull so_far.full (length piece) so_far.each (some, gave.size);
  few = omega (arith, so_far.total, so_far.size);
  more = omega (arith, more, so_far.total);
  told = tells_enough bytes piece old.rest mid.rest so_far.rest gave.next more;
  faults = gave.faults ∙ so_far.faults;
}
