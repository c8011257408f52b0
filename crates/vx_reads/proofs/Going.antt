-- The source after little, and after one step behind another; and elements of lists.
use Rattle.std.proofs.Common.{◌≡◌, ◌≢◌, ℕ, zero, suc, ◌≤◌, ◌⊎◌, inl, inr, List, [], ◌∷◌, ◌++◌, Option, Some, None, slice_set, refl, sym, ap, ◌∙◌, subst, arith, append-nil, append_assoc}
use Rattle.std.specs.Prelude.{IsSome, IsSomeAnd}
use Rattle.std.specs.List.{slice_get, AllByRecursion}
use Rattle.vx_base.specs.declared.locations.SegmentLocation.{SegmentLocation}
use Rattle.vx_base.specs.declared.locations.AskedRange.{AskedRange}
use Rattle.vx_base.specs.Sources.{SourceState, asks_also, location_of, range_of}
use Rattle.vx_reads.specs.declared.errors.ReaderError.{ReaderError}
use Rattle.vx_reads.specs.declared.errors.ReaderError.TheVariants.{ReadFault, BadSegment, BadCode, EvalFault, NoLocation, Memory}
use Rattle.vx_reads.specs.declared.reads.SegmentRead.{SegmentRead}
use Rattle.vx_reads.specs.Reads.{bytes_in, segments_of, ticket_at, HasTicket, CameAt, AreInFlight, AsksOnly, IsRangeOf, Touches, GoOn, SourceFault, EndsBy, NoneCame, StopsWith}

-- ---- one element of a list

pub at_set : {X : Type 0} (xs : List X) (i j : ℕ) (old new : X) → slice_get xs i ≡ Some old → ((j ≡ i) × (slice_get (slice_set xs i new) j ≡ Some new)) ⊎ ((j ≢ i) × (slice_get (slice_set xs i new) j ≡ slice_get xs j))
at_set [] i j old new at = absurd cc
at_set (x ∷ xs) zero zero old new at = inl (refl, refl)
at_set (x ∷ xs) zero (suc j) old new at = inr (λ e. absurd (omega (arith, e)), refl)
at_set (x ∷ xs) (suc i) zero old new at = inr (λ e. absurd (omega (arith, e)), refl)
at_set (x ∷ xs) (suc i) (suc j) old new at = step (at_set xs i j old new at)
  where
    step : ((j ≡ i) × (slice_get (slice_set xs i new) j ≡ Some new)) ⊎ ((j ≢ i) × (slice_get (slice_set xs i new) j ≡ slice_get xs j)) → ((suc j ≡ suc i) × (slice_get (slice_set xs i new) j ≡ Some new)) ⊎ ((suc j ≢ suc i) × (slice_get (slice_set xs i new) j ≡ slice_get xs j))
    step (inl (same, is)) = inl (ap suc same, is)
    step (inr (differ, is)) = inr (λ e. differ (omega (arith, e)), is)

pub set_same : {X : Type 0} (xs : List X) (i : ℕ) (x : X) → slice_get xs i ≡ Some x → slice_set xs i x ≡ xs
set_same [] i x at = absurd cc
set_same (y ∷ xs) zero x at = let e : y ≡ x = cc in cc
set_same {X = X} (y ∷ xs) (suc i) x at = ap (λ (rest : List X). y ∷ rest) (set_same xs i x at)

pub segments_set : (reads : List SegmentRead) (i : ℕ) (old new : SegmentRead) → slice_get reads i ≡ Some old → new.segment ≡ old.segment → segments_of (slice_set reads i new) ≡ segments_of reads
segments_set [] i old new at same = absurd cc
segments_set (read ∷ reads) zero old new at same =
    let e : read ≡ old = cc in
    let s : new.segment ≡ read.segment = same ∙ sym (ap (λ (r : SegmentRead). r.segment) e) in
    ap (λ (segment : ℕ). segment ∷ segments_of reads) s
segments_set (read ∷ reads) (suc i) old new at same = ap (λ (rest : List ℕ). read.segment ∷ rest) (segments_set reads i old new at same)

pub segment_there : (reads : List SegmentRead) (i : ℕ) (read : SegmentRead) → slice_get reads i ≡ Some read → slice_get (segments_of reads) i ≡ Some read.segment
segment_there [] i read at = absurd cc
segment_there (r ∷ reads) zero read at = let e : r ≡ read = cc in ap (λ (x : SegmentRead). Some x.segment) e
segment_there (r ∷ reads) (suc i) read at = segment_there reads i read at

-- what is written is there
pub set_there : {X : Type 0} (xs : List X) (i : ℕ) (old new : X) → slice_get xs i ≡ Some old → slice_get (slice_set xs i new) i ≡ Some new
set_there [] i old new at = absurd cc
set_there (x ∷ xs) zero old new at = refl
set_there (x ∷ xs) (suc i) old new at = set_there xs i old new at

-- ---- what is asked

pub asks_none : (P : AskedRange → Type 0) (asked : Option (List AskedRange)) → AsksOnly P asked asked
asks_none P None = tt
asks_none P (Some ranges) = ([], ap Some (sym (append-nil ranges)), tt)

pub all_joined : (P : AskedRange → Type 0) (xs ys : List AskedRange) → AllByRecursion P xs → AllByRecursion P ys → AllByRecursion P (xs ++ ys)
all_joined P [] ys left right = right
all_joined P (x ∷ xs) ys left right = (left.0, all_joined P xs ys left.1 right)

pub some_in : {X : Type 0} (x y : X) → Some x ≡ Some y → x ≡ y
some_in x y e = cc

pub asks_then : (P : AskedRange → Type 0) (one two three : Option (List AskedRange)) → AsksOnly P one two → AsksOnly P two three → AsksOnly P one three
asks_then P None two three first second = tt
asks_then P (Some ranges) None three first second = absurd (let e : None ≡ Some (ranges ++ first.0) = first.1 in cc)
asks_then P (Some ranges) (Some more) three first second =
    let e : more ≡ ranges ++ first.0 = some_in more (ranges ++ first.0) first.1 in
    (first.0 ++ second.0, second.1 ∙ ap (λ (xs : List AskedRange). Some (xs ++ second.0)) e ∙ ap Some (append_assoc ranges first.0 second.0), all_joined P first.0 second.0 first.2 second.2)

pub asks_one : (P : AskedRange → Type 0) (at : SegmentLocation) (asked : Option (List AskedRange)) → P (range_of at) → AsksOnly P asked (asks_also at asked)
asks_one P at None is = tt
asks_one P at (Some ranges) is = (range_of at ∷ [], refl, (is, tt))

-- ---- the source after nothing, or after little

pub stay : (locations : List SegmentLocation) (reads : List SegmentRead) (source : SourceState) → Touches locations reads source source
stay locations reads source = record {
  file = refl;
  asks = asks_none (IsRangeOf locations (segments_of reads)) source.asked;
  others = λ ticket at foreign is. is;
  faults = omega arith;
  idle = omega arith;
}

-- the same reads, at a source where the same is in flight and nothing was asked
pub waits : (locations : List SegmentLocation) (reads : List SegmentRead) (before after : SourceState) → AreInFlight locations reads before.in_flight → after.in_flight ≡ before.in_flight → after.asked ≡ before.asked → after.file ≡ before.file → after.faults ≡ before.faults → before.idle ≤ after.idle → GoOn locations reads reads before after
waits locations reads before after located same asked file faults idle = record {
  touches = record {
    file = file;
    asks = subst (AsksOnly (IsRangeOf locations (segments_of reads)) before.asked) (sym asked) (asks_none (IsRangeOf locations (segments_of reads)) before.asked);
    others = λ ticket at foreign is. ap (location_of ticket) same ∙ is;
    faults = omega arith;
    idle = idle;
  };
  segments = refl;
  in_flight = subst (AreInFlight locations reads) (sym same) located;
  new_ones = λ ticket at foreign is. foreign;
  told = λ file is have. have;
  only = λ ticket at foreign is. (foreign, sym (ap (location_of ticket) same) ∙ is);
  going = λ place ticket is. inl is;
  kept = λ place read at came. at;
  fine = faults;
}

-- ---- steps one after another

foreign_then : (locations : List SegmentLocation) (one two : List SegmentRead) (before middle : SourceState) → GoOn locations one two before middle → (ticket : ℕ) (at : SegmentLocation) → (HasTicket one ticket → ⊥) → location_of ticket before.in_flight ≡ Some at → (HasTicket two ticket → ⊥) × (location_of ticket middle.in_flight ≡ Some at)
foreign_then locations one two before middle first ticket at foreign is = (first.new_ones ticket at foreign is, first.touches.others ticket at foreign is)

pub touches_then : (locations : List SegmentLocation) (one two : List SegmentRead) (before middle after : SourceState) → GoOn locations one two before middle → Touches locations two middle after → Touches locations one before after
touches_then locations one two before middle after first second =
    let F : List ℕ → Type 0 = λ segments. AsksOnly (IsRangeOf locations segments) middle.asked after.asked in
    let low : before.faults ≤ middle.faults = first.touches.faults in
    let waited : before.idle ≤ middle.idle = first.touches.idle in
    record {
      file = second.file ∙ first.touches.file;
      asks = asks_then (IsRangeOf locations (segments_of one)) before.asked middle.asked after.asked first.touches.asks (subst F first.segments second.asks);
      others = λ ticket at foreign is. (let f = foreign_then locations one two before middle first ticket at foreign is in second.others ticket at f.0 f.1);
      faults = omega (arith, low, second.faults);
      idle = omega (arith, waited, second.idle);
    }

came_still : (two three : List SegmentRead) → ((place : ℕ) (read : SegmentRead) → slice_get two place ≡ Some read → IsSome (bytes_in read.state) → slice_get three place ≡ Some read) → (place : ℕ) (o : Option SegmentRead) → slice_get two place ≡ o → IsSomeAnd o (λ (read : SegmentRead). IsSome (bytes_in read.state)) → CameAt three place
came_still two three kept place None e came = absurd came
came_still two three kept place (Some read) e came =
    let F : Option SegmentRead → Type 0 = λ o. IsSomeAnd o (λ (read : SegmentRead). IsSome (bytes_in read.state)) in
    subst F (sym (kept place read e came)) came

-- a read that is in flight still, or came, is so after further steps
going_then : (locations : List SegmentLocation) (two three : List SegmentRead) (middle after : SourceState) → GoOn locations two three middle after → (place ticket : ℕ) → (ticket_at two place ≡ Some ticket) ⊎ CameAt two place → (ticket_at three place ≡ Some ticket) ⊎ CameAt three place
going_then locations two three middle after second place ticket (inl still) = second.going place ticket still
going_then locations two three middle after second place ticket (inr came) = inr (came_still two three second.kept place (slice_get two place) refl came)

pub goes_then : (locations : List SegmentLocation) (one two three : List SegmentRead) (before middle after : SourceState) → GoOn locations one two before middle → GoOn locations two three middle after → GoOn locations one three before after
goes_then locations one two three before middle after first second = record {
  touches = touches_then locations one two before middle after first second.touches;
  segments = second.segments ∙ first.segments;
  in_flight = second.in_flight;
  new_ones = λ ticket at foreign is. (let f = foreign_then locations one two before middle first ticket at foreign is in second.new_ones ticket at f.0 f.1);
  told = λ file is have. second.told file (first.touches.file ∙ is) (first.told file is have);
  only = λ ticket at foreign is. (let f = second.only ticket at foreign is in first.only ticket at f.0 f.1);
  going = λ place ticket is. going_then locations two three middle after second place ticket (first.going place ticket is);
  kept = λ place read at came. second.kept place read (first.kept place read at came) came;
  fine = second.fine ∙ first.fine;
}

pub fault_by : (locations : List SegmentLocation) (error : ReaderError) (one two : List SegmentRead) (before middle after : SourceState) → GoOn locations one two before middle → SourceFault locations (segments_of two) error middle after → SourceFault locations (segments_of one) error before after
fault_by locations ReadFault one two before middle after first fault =
    let low : before.faults ≤ middle.faults = first.touches.faults in
    record { kept = omega (arith, low, fault.kept); raised = omega (arith, low, fault.raised) }
fault_by locations (NoLocation segment) one two before middle after first fault = (fault.0, sym (ap (λ (segments : List ℕ). slice_get segments fault.0) first.segments) ∙ fault.1, fault.2)
fault_by locations (BadSegment segment) one two before middle after first fault = fault
fault_by locations (BadCode node row) one two before middle after first fault = fault
fault_by locations (EvalFault row) one two before middle after first fault = fault
fault_by locations Memory one two before middle after first fault = tt

-- ---- none came

pub none_then : (first other : ℕ) (one two three : List SegmentRead) → first ≤ other → NoneCame first one two → NoneCame other two three → NoneCame other one three
none_then first other one two three le before none place under came = before place (omega (arith, le, under)) (none place under came)

-- what failed behind further steps, in which none came
ends_then : (locations : List SegmentLocation) (error : ReaderError) (one two three : List SegmentRead) (before after : SourceState) → NoneCame 0 one two → EndsBy locations error two three before after → EndsBy locations error one three before after
ends_then locations error one two three before after none (inl same) = inl same
ends_then locations error one two three before after none (inr (inl start)) = inr (inl (start.0, none_then 0 0 one two three (omega arith) none start.1, start.2))
ends_then locations error one two three before after none (inr (inr poll)) = inr (inr (poll.0, none_then 0 poll.0 one two three (omega arith) none poll.1, poll.2))

pub stops_then : (locations : List SegmentLocation) (error : ReaderError) (one two new : List SegmentRead) (before middle after : SourceState) → GoOn locations one two before middle → NoneCame 0 one two → StopsWith locations error two new middle after → StopsWith locations error one new before after
stops_then locations error one two new before middle after first none second =
    let left = second.0.leaves in (
      record {
        touches = touches_then locations one two before middle after first second.0.touches;
        fault = fault_by locations error one two before middle after first second.0.fault;
        leaves = record {
          reads = left.reads;
          middle = left.middle;
          went = goes_then locations one two left.reads before middle left.middle first left.went;
          ends = ends_then locations error one two left.reads left.middle after none left.ends;
        };
      },
      second.1,
    )

-- nothing was done yet
pub begins : (locations : List SegmentLocation) (reads : List SegmentRead) (source : SourceState) → AreInFlight locations reads source.in_flight → GoOn locations reads reads source source
begins locations reads source located = waits locations reads source source located refl refl refl refl (omega arith)
