-- No segment twice for the values of one take: what the reasons of a list ask for on account of takes.
use Rattle.std.proofs.Common.{◌≡◌, ◌≢◌, ℕ, List, [], ◌∷◌, ◌++◌, map, ap, refl, sym, ◌∙◌}
use Rattle.std.specs.List.{flat_map, All, AllByRecursion}
use Rattle.std.proofs.lemmas.List.Elements.{All-nil, All-cons, All-head, All-tail}
use Rattle.std.proofs.lemmas.List.Kept.{AllPairs-cons}
use Rattle.vx_rows.specs.Reads.{Way, directly, through}
use Rattle.vx_drive.specs.Fetched.{AreDistinct}
use Rattle.vx_drive.proofs.Distinct.{differs, distinct_behind, distinct_none}
use Rattle.vx_workers.specs.Reasons.{Reason, segment_of, taken_by, take_and_segment}

-- ---- one reason more

all_by : (P : ℕ × ℕ → Type 0) (way : Way) (segment : ℕ) (pairs : List (ℕ × ℕ)) → ((take : ℕ) → way ≡ through take → P (take, segment)) → All P pairs → All P (taken_by way segment ++ pairs)
all_by P directly segment pairs is all = all
all_by P (through take) segment pairs is all = All-cons P (take, segment) pairs (is take refl) all

distinct_more : (way : Way) (segment : ℕ) (pairs : List (ℕ × ℕ)) → ((take : ℕ) → All (λ pair. (take, segment) ≢ pair) pairs) → AreDistinct pairs → AreDistinct (taken_by way segment ++ pairs)
distinct_more directly segment pairs apart distinct = distinct
distinct_more (through take) segment pairs apart distinct = AllPairs-cons (λ one two. one ≢ two) (take, segment) pairs (apart take) distinct

-- ---- of a list

each_differs : (take segment : ℕ) (reasons : List Reason) → All (λ other. segment ≢ other) (map segment_of reasons) → All (λ pair. (take, segment) ≢ pair) (flat_map take_and_segment reasons)
each_differs take segment [] apart = All-nil (λ pair. (take, segment) ≢ pair)
each_differs take segment (reason ∷ reasons) apart =
    all_by (λ pair. (take, segment) ≢ pair) reason.way reason.segment (flat_map take_and_segment reasons)
    (λ other is same. All-head (λ other. segment ≢ other) reason.segment (map segment_of reasons) apart (ap (λ (pair : ℕ × ℕ). pair.1) same))
    (each_differs take segment reasons (All-tail (λ other. segment ≢ other) reason.segment (map segment_of reasons) apart))

-- where no segment stands twice
pub distinct_taken : (reasons : List Reason) → AreDistinct (map segment_of reasons) → AreDistinct (flat_map take_and_segment reasons)
distinct_taken [] apart = distinct_none
distinct_taken (reason ∷ reasons) apart =
    distinct_more reason.way reason.segment (flat_map take_and_segment reasons)
    (λ take. each_differs take reason.segment reasons (differs reason.segment (map segment_of reasons) apart))
    (distinct_taken reasons (distinct_behind reason.segment (map segment_of reasons) apart))

-- ---- of two lists, which share no take

abbrev ShareNoTake : (Reason → Type 0) → (Reason → Type 0) → Type 0
ShareNoTake P Q = (old new : Reason) (take : ℕ) → P old → Q new → old.way ≡ through take → new.way ≡ through take → ⊥

each_new : (Q : Reason → Type 0) (take segment : ℕ) (news : List Reason) → ((new : Reason) → Q new → new.way ≡ through take → ⊥) → AllByRecursion Q news → All (λ pair. (take, segment) ≢ pair) (flat_map take_and_segment news)
each_new Q take segment [] apart each = All-nil (λ pair. (take, segment) ≢ pair)
each_new Q take segment (new ∷ news) apart each =
    all_by (λ pair. (take, segment) ≢ pair) new.way new.segment (flat_map take_and_segment news)
    (λ other is same. apart new each.0 (is ∙ ap (λ (pair : ℕ × ℕ). through pair.0) (sym same)))
    (each_new Q take segment news apart each.1)

pub taken_apart : (P Q : Reason → Type 0) → ShareNoTake P Q → (olds news : List Reason) → AllByRecursion P olds → AllByRecursion Q news → All (λ one. All (λ two. one ≢ two) (flat_map take_and_segment news)) (flat_map take_and_segment olds)
taken_apart P Q apart [] news first second = All-nil (λ one. All (λ two. one ≢ two) (flat_map take_and_segment news))
taken_apart P Q apart (old ∷ olds) news first second =
    all_by (λ one. All (λ two. one ≢ two) (flat_map take_and_segment news)) old.way old.segment (flat_map take_and_segment olds)
    (λ take is. each_new Q take old.segment news (λ new also. apart old new take first.0 also is) second)
    (taken_apart P Q apart olds news first.1 second)
