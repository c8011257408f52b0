-- The segments that needed leaves want.
use Rattle.std.proofs.Common.{◌≡◌, ℕ, zero, suc, ◌+◌, ◌<◌, ◌⊎◌, inl, inr, ⊎_elim, List, [], ◌∷◌, ◌++◌, Option, Some, None, Result, Ok, Err, length, take, get_or, refl, sym, ap, ◌∙◌, subst, arith, map}
use Rattle.std.specs.Prelude.{IsSomeAnd, OnOk, OnErr}
use Rattle.std.specs.List.{slice_get}
use Rattle.std.specs.declared.alloc.AllocError.{AllocError}
use Rattle.std.proofs.lemmas.List.{take_more, length-map}
use Rattle.std.proofs.lemmas.Option.{none-some}
use Rattle.vx_steps.specs.declared.leaf_reads.LeafRead.{LeafRead}
use Rattle.vx_steps.specs.declared.placed_reads.PlacedRead.{PlacedRead}
use Rattle.vx_steps.specs.Pieces.{read_of}
use Rattle.vx_steps.specs.KeptData.{Kept}
use Rattle.vx_steps.specs.Kept.{kept_at}
use Rattle.vx_steps.specs.Needs.{Among}
use Rattle.vx_steps.specs.ReadTableData.{Wanted, ReadsData}
use Rattle.vx_steps.specs.ReadTable.{IsWanted}
use Rattle.vx_steps.specs.Agreement.{Agrees}
use Rattle.vx_steps.specs.Wants.{IsAsked, IsNeeded, Grows}
use Rattle.vx_steps.proofs.WantedReads.{is_standing, got_pushed, pushed_old}
use Rattle.vx_steps.proofs.Keeping.{got_new}

abbrev unread : ℕ → Wanted
unread segment = record { segment = segment; bytes = None }

asked_standing : (wanted : List Wanted) (segment place : ℕ) (o : Option Wanted) → slice_get wanted place ≡ o → IsSomeAnd o (λ w. w.segment ≡ segment) → (w : Wanted) × (slice_get wanted place ≡ Some w) × (w.segment ≡ segment)
asked_standing wanted segment place None e h = absurd h
asked_standing wanted segment place (Some w) e h = (w, e, h)

wanted_all : (segment : ℕ) (old new : List Wanted) → IsWanted segment old new → IsAsked new segment
wanted_all segment old new (inl (there, same)) =
    let P : List Wanted → Type 0 = λ ws. IsAsked ws segment in
    subst P (sym same) there
wanted_all segment old new (inr (nowhere, more)) =
    let P : List Wanted → Type 0 = λ ws. IsAsked ws segment in
    subst P (sym more) (length old, is_standing (old ++ unread segment ∷ []) (length old) (unread segment) (got_new old (unread segment)) segment refl)

wanted_only : (segment : ℕ) (old new : List Wanted) → IsWanted segment old new → (s : ℕ) → IsAsked new s → IsAsked old s ⊎ (segment ≡ s)
wanted_only segment old new (inl (there, same)) s asked =
    let P : List Wanted → Type 0 = λ ws. IsAsked ws s in
    inl (subst P same asked)
wanted_only segment old new (inr (nowhere, more)) s asked =
    let P : List Wanted → Type 0 = λ ws. IsAsked ws s in
    split (subst P more asked)
  where
    split : IsAsked (old ++ record { segment = segment; bytes = None } ∷ []) s → IsAsked old s ⊎ (segment ≡ s)
    split (place, stands) =
        let w = asked_standing (old ++ record { segment = segment; bytes = None } ∷ []) s place (slice_get (old ++ record { segment = segment; bytes = None } ∷ []) place) refl stands in
        ⊎_elim (λ (e : slice_get old place ≡ Some w.0). inl (place, is_standing old place w.0 e s w.2)) (λ (e : (place ≡ length old) × (record { segment = segment; bytes = None } ≡ w.0)). inr (ap (λ (x : Wanted). x.segment) e.1 ∙ w.2)) (got_pushed old (record { segment = segment; bytes = None }) place w.0 w.1)

wanted_grows : (segment : ℕ) (old new : List Wanted) → IsWanted segment old new → Grows old new
wanted_grows segment old new (inl (there, same)) place w at =
    let P : List Wanted → Type 0 = λ ws. slice_get ws place ≡ Some w in
    subst P (sym same) at
wanted_grows segment old new (inr (nowhere, more)) place w at =
    let P : List Wanted → Type 0 = λ ws. slice_get ws place ≡ Some w in
    subst P (sym more) (pushed_old old (unread segment) place w at)

pub want_all : (result : Result (Unit {0}) AllocError) (segment : ℕ) (old new : ReadsData) (P : Type 0) → OnOk result (IsWanted segment old.wanted new.wanted) → OnOk result (P → IsAsked new.wanted segment)
want_all (Ok x) segment old new P wanted = λ p. wanted_all segment old.wanted new.wanted wanted
want_all (Err e) segment old new P wanted = tt

-- what holds once the segment is wanted holds where no column was handed in
pub want_named : (result : Result (Unit {0}) AllocError) (P Q : Type 0) → OnOk result Q → OnOk result (P → Q)
want_named (Ok x) P Q q = λ p. q
want_named (Err e) P Q q = tt

pub want_only : (result : Result (Unit {0}) AllocError) (segment : ℕ) (old new : ReadsData) → OnOk result (IsWanted segment old.wanted new.wanted) → OnErr result (new ≡ old) → (s : ℕ) → IsAsked new.wanted s → IsAsked old.wanted s ⊎ (segment ≡ s)
want_only (Ok x) segment old new wanted same s asked = wanted_only segment old.wanted new.wanted wanted s asked
want_only (Err e) segment old new wanted same s asked =
    let P : ReadsData → Type 0 = λ r. IsAsked r.wanted s in
    inl (subst P same asked)

pub want_grows : (result : Result (Unit {0}) AllocError) (segment : ℕ) (old new : ReadsData) → OnOk result (IsWanted segment old.wanted new.wanted) → OnErr result (new ≡ old) → Grows old.wanted new.wanted
want_grows (Ok x) segment old new wanted same = wanted_grows segment old.wanted new.wanted wanted
want_grows (Err e) segment old new wanted same = λ place w at.
    let P : ReadsData → Type 0 = λ r. slice_get r.wanted place ≡ Some w in
    subst P (sym same) at

pub grows_then : (old mid new : List Wanted) → Grows old mid → Grows mid new → Grows old new
grows_then old mid new first second place w at = second place w (first place w at)

pub asked_grows : (old new : List Wanted) → Grows old new → (segment : ℕ) → IsAsked old segment → IsAsked new segment
asked_grows old new grows segment (place, stands) =
    let w = asked_standing old segment place (slice_get old place) refl stands in
    (place, is_standing new place w.0 (grows place w.0 w.1) segment w.2)

pub among_pushed : {X : Type 0} (x y : X) (xs : List X) → Among x (xs ++ y ∷ []) → Among x xs ⊎ (y ≡ x)
among_pushed x y [] h = ⊎_elim (λ (e : y ≡ x). inr e) (λ (none : ⊥). absurd none) h
among_pushed x y (z ∷ xs) (inl e) = inl (inl e)
among_pushed x y (z ∷ xs) (inr h) = ⊎_elim (λ (a : Among x xs). inl (inr a)) (λ (e : y ≡ x). inr e) (among_pushed x y xs h)

among_got : {X : Type 0} (xs : List X) (i : ℕ) (x : X) → i < length xs → Among (get_or xs i x) xs
among_got [] i x h = absurd (omega arith)
among_got (y ∷ xs) zero x h = inl refl
among_got (y ∷ xs) (suc i) x h = inr (among_got xs i x (omega arith))

pub need_among : (needs : List LeafRead) (i : ℕ) (need : LeafRead) → i < length needs → need ≡ get_or needs i need → Among need needs
need_among needs i need inside is =
    let P : LeafRead → Type 0 = λ n. Among n needs in
    subst P (sym is) (among_got needs i need inside)

abbrev AskedFor : List Kept → List Wanted → List LeafRead → Type 0
AskedFor handed wanted needs = (read : LeafRead) → Among read needs → kept_at handed read.leaf ≡ None → IsAsked wanted read.segment

pub asked_more : (handed : List Kept) (old new : List Wanted) (needs : List LeafRead) (i : ℕ) (need : LeafRead) → i < length needs → need ≡ get_or needs i need → AskedFor handed old (take i needs) → Grows old new → (kept_at handed need.leaf ≡ None → IsAsked new need.segment) → AskedFor handed new (take (i + 1) needs)
asked_more handed old new needs i need inside is before grows here read among none =
    let P : List LeafRead → Type 0 = Among read in
    let more : take (i + 1) needs ≡ take i needs ++ need ∷ [] = take_more needs i need inside ∙ ap (λ (n : LeafRead). take i needs ++ n ∷ []) (sym is) in
    let Q : LeafRead → Type 0 = λ n. (kept_at handed n.leaf ≡ None → IsAsked new n.segment) in
    ⊎_elim (λ (a : Among read (take i needs)). asked_grows old new grows read.segment (before read a none)) (λ (e : need ≡ read). subst Q e here none) (among_pushed read need (take i needs) (subst P more among))

pub only_more : (handed : List Kept) (first old new : List Wanted) (needs : List LeafRead) (i : ℕ) (need : LeafRead) → i < length needs → need ≡ get_or needs i need → ((s : ℕ) → IsAsked old s → IsAsked first s ⊎ IsNeeded needs handed s) → ((s : ℕ) → IsAsked new s → IsAsked old s ⊎ ((kept_at handed need.leaf ≡ None) × (need.segment ≡ s))) →
    (s : ℕ) → IsAsked new s → IsAsked first s ⊎ IsNeeded needs handed s
only_more handed first old new needs i need inside is before here s asked =
    ⊎_elim (λ (a : IsAsked old s). before s a) (λ (n : (kept_at handed need.leaf ≡ None) × (need.segment ≡ s)). inr (need, need_among needs i need inside is, n.0, n.1)) (here s asked)

-- the element of a loop over needs
abbrev pub need_at : List LeafRead → ℕ → LeafRead
need_at needs i = get_or needs i (record { leaf = 0; segment = 0 })

wanted_agrees : (segment : ℕ) (old new : List Wanted) → IsWanted segment old new → (outside : ℕ → Option (List ℕ)) → Agrees old outside → Agrees new outside
wanted_agrees segment old new (inl (there, same)) outside agrees =
    let P : List Wanted → Type 0 = λ ws. Agrees ws outside in
    subst P (sym same) agrees
wanted_agrees segment old new (inr (nowhere, more)) outside agrees =
    let P : List Wanted → Type 0 = λ ws. Agrees ws outside in
    subst P (sym more) (λ place w bytes at is. ⊎_elim (λ (e : slice_get old place ≡ Some w). agrees place w bytes e is) (λ (e : (place ≡ length old) × (unread segment ≡ w)). absurd (none-some bytes (ap (λ (x : Wanted). x.bytes) e.1 ∙ is))) (got_pushed old (unread segment) place w at))

pub want_agrees : (result : Result (Unit {0}) AllocError) (segment : ℕ) (old new : ReadsData) → OnOk result (IsWanted segment old.wanted new.wanted) → OnErr result (new ≡ old) → (outside : ℕ → Option (List ℕ)) → Agrees old.wanted outside → Agrees new.wanted outside
want_agrees (Ok x) segment old new wanted same outside agrees = wanted_agrees segment old.wanted new.wanted wanted outside agrees
want_agrees (Err e) segment old new wanted same outside agrees =
    let P : ReadsData → Type 0 = λ r. Agrees r.wanted outside in
    subst P (sym same) agrees

-- ---- needs with their places

abbrev pub placed_at : List PlacedRead → ℕ → PlacedRead
placed_at needs i = get_or needs i (record { leaf = 0; segment = 0; from = 0; last = 0 })

pub read_inside : (needs : List PlacedRead) (i : ℕ) → i < length needs → i < length (map read_of needs)
read_inside needs i inside = omega (arith, inside, length-map needs read_of)

pub reads_inside : (needs : List PlacedRead) (i : ℕ) → i < length (map read_of needs) → i < length needs
reads_inside needs i inside = omega (arith, inside, length-map needs read_of)

read_got : (needs : List PlacedRead) (i : ℕ) (d : PlacedRead) (e : LeafRead) → i < length needs → read_of (get_or needs i d) ≡ get_or (map read_of needs) i e
read_got [] i d e inside = absurd (omega arith)
read_got (need ∷ needs) zero d e inside = refl
read_got (need ∷ needs) (suc i) d e inside = read_got needs i d e (omega arith)

pub read_is : (needs : List PlacedRead) (i : ℕ) → i < length needs → read_of (placed_at needs i) ≡ get_or (map read_of needs) i (read_of (placed_at needs i))
read_is needs i inside = read_got needs i (record { leaf = 0; segment = 0; from = 0; last = 0 }) (read_of (placed_at needs i)) inside

-- what is said of the first so many, where these are all, is said of each
pub all_placed : (needs : List PlacedRead) (count : ℕ) → length needs < count + 1 → (need : PlacedRead) → Among need needs → Among (read_of need) (take count (map read_of needs))
all_placed [] count all need among = absurd among
all_placed (first ∷ needs) zero all need among = absurd (omega arith)
all_placed (first ∷ needs) (suc count) all need (inl e) = inl (ap read_of e)
all_placed (first ∷ needs) (suc count) all need (inr more) = inr (all_placed needs count (omega arith) need more)

-- one of the first so many and one more is one of them, or the next
pub among_next : (needs : List PlacedRead) (i : ℕ) → i < length needs → (need : PlacedRead) → Among need (take (i + 1) needs) → Among need (take i needs) ⊎ (placed_at needs i ≡ need)
among_next needs i inside need among =
    let P : List PlacedRead → Type 0 = Among need in
    let more : take (i + 1) needs ≡ take i needs ++ placed_at needs i ∷ [] = take_more needs i (record { leaf = 0; segment = 0; from = 0; last = 0 }) inside in
    among_pushed need (placed_at needs i) (take i needs) (subst P more among)

-- where the first so many are all, each is one of them
pub all_taken : (needs : List PlacedRead) (count : ℕ) → length needs < count + 1 → (need : PlacedRead) → Among need needs → Among need (take count needs)
all_taken [] count all need among = absurd among
all_taken (first ∷ needs) zero all need among = absurd (omega arith)
all_taken (first ∷ needs) (suc count) all need (inl e) = inl e
all_taken (first ∷ needs) (suc count) all need (inr more) = inr (all_taken needs count (omega arith) need more)
