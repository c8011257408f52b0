-- The lowest chunk that failed is the lowest piece of the scan that has no batch.
use Rattle.std.proofs.Common.{◌≡◌, ◌≢◌, ℕ, zero, suc, ◌≤◌, ◌⊎◌, inl, inr, Bool, true, List, [], ◌∷◌, Some, length, map, take, sym, ap, ◌∙◌, subst}
use Rattle.std.specs.Prelude.{IsSomeAnd, nat_lt}
use Rattle.std.specs.List.{slice_get, AllByRecursion}
use Rattle.std.proofs.lemmas.List.{length-map}
use Rattle.std.proofs.lemmas.Option.{same_Some}
use Rattle.vx_base.specs.Sources.{SourceState}
use Rattle.vx_base.proofs.Got.{got_mapped}
use Rattle.vx_rows.specs.SegmentLeaves.{Bytes, leaves_of}
use Rattle.vx_splits.specs.declared.selected_rows.SelectedRows.{SelectedRows}
use Rattle.vx_splits.specs.Trimmed.{chosen_rows}
use Rattle.vx_drive.specs.declared.errors.ScanError.{ScanError}
use Rattle.vx_drive.specs.declared.errors.ScanError.TheVariants.{ReadFault, Memory}
use Rattle.vx_drive.specs.declared.plans.ScanPlans.{ScanPlans}
use Rattle.vx_drive.specs.Asks.{KeepsFaults}
use Rattle.vx_drive.specs.Plans.{bytes_of}
use Rattle.vx_chunks.specs.Lent.{FirstSource}
use Rattle.vx_chunks.specs.Outcomes.{Causes, told_by, told_by_all}
use Rattle.vx_chunks.proofs.LentSources.{each_by, first_by, some_by}
use Rattle.vx_workers.specs.declared.worker_states.ChunkError.{ChunkError}
use Rattle.vx_workers.specs.Merges.{no_memory}
use Rattle.vx_workers.specs.Borrowers.{AsksForWholes, IsAsking}
use Rattle.vx_workers.specs.Unhindered.{IsUnhinderedAt}
use Rattle.vx_workers.specs.Workers.{IsLast, FailsLast, RunsSource}
use Rattle.vx_execute.specs.Executes.{AskedAgain, FailsAgain, FailsOn}
use Rattle.vx_scan.specs.Answer.{FileScan, row_count, scan_pieces}
use Rattle.vx_scan.specs.Batches.{AreUnhinderedButLast, AskedForChunks, ClaimedUpTo, HasPiece, HavePiecesButLast, LowestFailure, OthersHavePieces}
use Rattle.vx_scan.specs.Causes.{ReadsDictionary}
use Rattle.vx_scan.specs.FilePlans.{ArePlansOf, AreChunksOf, LiesInside}
use Rattle.vx_scan.specs.Scanned.{AreUnhindered, FailsPiece, FailsPieceAgain, FailsPieceOn, GainedForPieces, HasAnswer, HaveAnswersButLast, LowestCause, OthersHaveAnswers, PieceReadsDictionary, PiecesUnhinderedButLast, RunsAgain, RunsPieces}
use Rattle.vx_scan.proofs.AskedDictionaries.{asking_reads, asks_reads}
use Rattle.vx_scan.proofs.HinderedScans.{first_unhindered, unhindered_there}
use Rattle.vx_scan.proofs.ScanAsks.{gains_again, gains_of}
use Rattle.vx_scan.proofs.ScanCauses.{cause_of, cause_of_all, have_answers, inside_at, piece_answers, same_bytes}

module _ (scan : FileScan) (limit : ℕ) (plans : ScanPlans) (are : ArePlansOf scan limit plans) (chunks : List SelectedRows) (of_scan : AreChunksOf scan chunks) where
  runs_pieces : (shares : Bool) (numbers : List ℕ) (before after : SourceState) → RunsSource shares plans chunks numbers before after → RunsPieces shares scan numbers before after
  runs_pieces shares numbers before after runs = record {
    reasons = runs.reasons;
    gains = gains_of shares scan limit plans are chunks of_scan numbers runs.reasons before after runs.asks;
    own = runs.asks.own;
    lasts = runs.lasts;
  }

  -- ---- the piece that failed

  module _ (place : ℕ) (chunk : SelectedRows) (here : slice_get chunks place ≡ Some chunk) (error : ScanError) where
    fails_piece : (numbers : List ℕ) (before after : SourceState) → FailsLast plans chunks (record { chunk = place; error = error }) numbers before after → FailsPiece scan limit place (chosen_rows chunk) error numbers before after
    fails_piece numbers before after fails =
        let same = same_Some fails.fails.chunk chunk (sym fails.fails.here ∙ here) in
        record {
          last = fails.last;
          cause = cause_of scan limit plans are chunk (inside_at (row_count scan) chunks place chunk of_scan.inside here) error before after
              (subst (λ (one : SelectedRows). Causes (told_by plans before) plans [] one error before after) same fails.fails.cause);
          faults = fails.fails.faults;
        }

    -- a call failed only where a read failed: want of memory is another error
    read_failed : (error ≢ Memory) → (before after : SourceState) → KeepsFaults before after ⊎ ((record { chunk = place; error = error } ≡ no_memory) ⊎ (error ≡ ReadFault)) → KeepsFaults before after ⊎ (error ≡ ReadFault)
    read_failed other before after (inl same) = inl same
    read_failed other before after (inr (inl lacks)) = absurd (other (ap (λ (one : ChunkError). one.error) lacks))
    read_failed other before after (inr (inr fault)) = inr fault

    fails_again : (error ≢ Memory) → (reruns : List ℕ) (sources middles afters : List SourceState) → FirstSource (FailsAgain plans chunks (record { chunk = place; error = error }) sources) middles afters
        → FirstSource (AskedAgain plans chunks reruns (Some (record { chunk = place; error = error }))) middles afters → FirstSource (FailsPieceAgain scan limit (chosen_rows chunk) error sources) middles afters
    fails_again other reruns sources [] [] fails again = tt
    fails_again other reruns sources [] (after ∷ afters) fails again = absurd fails
    fails_again other reruns sources (before ∷ middles) [] fails again = absurd fails
    fails_again other reruns sources (before ∷ middles) (after ∷ afters) fails again =
        let same = same_Some fails.0.chunk chunk (sym fails.0.here ∙ here) in (
          record {
            reads = asks_reads scan limit plans are chunk (inside_at (row_count scan) chunks place chunk of_scan.inside here) (subst (AsksForWholes plans) same fails.0.asks);
            cause = cause_of_all scan limit plans are chunk (inside_at (row_count scan) chunks place chunk of_scan.inside here) error sources before after
                (subst (λ (one : SelectedRows). Causes (told_by_all plans sources) plans [] one error before after) same fails.0.cause);
            faults = read_failed other before after again.0.faults;
          },
          fails.1,
        )

    fails_either : (error ≢ Memory) → (reruns : List ℕ) (claims : List (List ℕ)) (befores middles afters : List SourceState) → FirstSource (AskedAgain plans chunks reruns (Some (record { chunk = place; error = error }))) middles afters
        → FailsOn plans chunks (record { chunk = place; error = error }) claims befores middles afters → FailsPieceOn scan limit place (chosen_rows chunk) error claims befores middles afters
    fails_either other reruns claims befores middles afters again (inl fails) =
        inl (some_by (FailsLast plans chunks (record { chunk = place; error = error })) (FailsPiece scan limit place (chosen_rows chunk) error) fails_piece claims befores middles fails)
    fails_either other reruns claims befores middles afters again (inr fails) = inr (fails.0, fails.1, fails_again other reruns befores middles afters fails.2 again)

  -- ---- the others

  -- the answer of a piece is the piece of its chunk
  answer_there : (bytes : Bytes) (others : List SelectedRows) → AllByRecursion (LiesInside (row_count scan)) others → (x : ℕ) → IsSomeAnd (slice_get others x) (HasPiece (leaves_of bytes) plans) → IsSomeAnd (slice_get (map chosen_rows others) x) (HasAnswer (leaves_of bytes) scan.projection)
  answer_there bytes [] inside x has = absurd has
  answer_there bytes (chunk ∷ others) inside zero has = (has.0.values, piece_answers scan limit plans are bytes chunk inside.0 has.0 has.1)
  answer_there bytes (chunk ∷ others) inside (suc x) has = answer_there bytes others inside.1 x has

  answers_but_last : (bytes : Bytes) (shares : Bool) (place : ℕ) (lists : List (List ℕ)) → AllByRecursion (HavePiecesButLast (leaves_of bytes) plans chunks shares place) lists → AllByRecursion (HaveAnswersButLast (leaves_of bytes) scan shares place) lists
  answers_but_last bytes shares place [] have = tt
  answers_but_last bytes shares place (list ∷ lists) have = ((λ x among. by_case x (have.0 x among)), answers_but_last bytes shares place lists have.1)
    where
      by_case : (x : ℕ) → IsSomeAnd (slice_get chunks x) (HasPiece (leaves_of bytes) plans) ⊎ (IsLast x list ⊎ ((shares ≡ true) × (place ≤ x) × IsAsking plans chunks x)) → IsSomeAnd (slice_get (scan_pieces scan) x) (HasAnswer (leaves_of bytes) scan.projection) ⊎ (IsLast x list ⊎ ((shares ≡ true) × (place ≤ x) × PieceReadsDictionary scan x))
      by_case x (inl has) = inl (subst (λ (pieces : List (List ℕ)). IsSomeAnd (slice_get pieces x) (HasAnswer (leaves_of bytes) scan.projection)) of_scan.pieces (answer_there bytes chunks of_scan.inside x has))
      by_case x (inr (inl last)) = inr (inl last)
      by_case x (inr (inr (shared, least, asks))) = inr (inr (
        shared,
        least,
        subst (λ (pieces : List (List ℕ)). IsSomeAnd (slice_get pieces x) (ReadsDictionary scan.projection)) of_scan.pieces (asking_reads scan limit plans are chunks of_scan.inside x asks),
      ))

  unhindered_but_last : (lists : List (List ℕ)) → AllByRecursion (AreUnhinderedButLast plans chunks) lists → AllByRecursion (PiecesUnhinderedButLast scan) lists
  unhindered_but_last [] free = tt
  unhindered_but_last (list ∷ lists) free = ((λ x among. by_case x (free.0 x among)), unhindered_but_last lists free.1)
    where
      by_case : (x : ℕ) → IsUnhinderedAt plans chunks x ⊎ IsLast x list → IsSomeAnd (slice_get (scan_pieces scan) x) (AreUnhindered scan) ⊎ IsLast x list
      by_case x (inl is) = inl (subst (λ (pieces : List (List ℕ)). IsSomeAnd (slice_get pieces x) (AreUnhindered scan)) of_scan.pieces (unhindered_there scan limit plans are chunks of_scan.inside x is))
      by_case x (inr last) = inr last

  claimed_pieces : (place : ℕ) (claims : List (List ℕ)) → ClaimedUpTo (length chunks) place claims → ClaimedUpTo (length (scan_pieces scan)) place claims
  claimed_pieces place claims claimed = subst (λ (count : ℕ). ClaimedUpTo count place claims) (sym (length-map chunks chosen_rows) ∙ ap length of_scan.pieces) claimed

  gained_pieces : (place : ℕ) (chunk : SelectedRows) → slice_get chunks place ≡ Some chunk → (error : ScanError) → error ≢ Memory → (claims : List (List ℕ)) (reruns : List ℕ) (befores middles afters : List SourceState)
      → AskedForChunks plans chunks (record { chunk = place; error = error }) claims reruns befores middles afters → GainedForPieces scan place error claims reruns befores middles afters
  gained_pieces place chunk here error other claims reruns befores middles afters asked = record {
    ran = each_by (RunsSource (nat_lt 1 (length befores)) plans chunks) (RunsPieces (nat_lt 1 (length befores)) scan) (runs_pieces (nat_lt 1 (length befores))) claims befores middles asked.ran;
    again = first_by (AskedAgain plans chunks reruns (Some (record { chunk = place; error = error }))) (RunsAgain scan reruns error)
        (λ before after more. record { gains = gains_again scan limit plans are chunks of_scan reruns before after more.asks; faults = read_failed place chunk here error other before after more.faults; lasts = more.lasts }) middles afters asked.again;
    alone = asked.alone;
    faults = asked.faults;
  }

  others_have : (place : ℕ) (claims : List (List ℕ)) (sources : List SourceState) → OthersHavePieces plans chunks place claims sources → OthersHaveAnswers scan place claims sources
  others_have place claims sources others = record {
    lower = λ file told.
        subst (λ (bytes : Bytes). AllByRecursion (HasAnswer (leaves_of bytes) scan.projection) (take place (scan_pieces scan))) (same_bytes scan limit plans are file)
        (subst (λ (pieces : List (List ℕ)). AllByRecursion (HasAnswer (leaves_of (bytes_of plans file)) scan.projection) (take place pieces)) of_scan.pieces
        (have_answers scan limit plans are (bytes_of plans file) chunks of_scan.inside place (others.lower file told)));
    stops = λ file told.
        subst (λ (bytes : Bytes). AllByRecursion (HaveAnswersButLast (leaves_of bytes) scan (nat_lt 1 (length sources)) place) claims) (same_bytes scan limit plans are file)
        (answers_but_last (bytes_of plans file) (nat_lt 1 (length sources)) place claims (others.stops file told));
    unhindered = subst (λ (pieces : List (List ℕ)). AllByRecursion (AreUnhindered scan) (take place pieces)) of_scan.pieces (first_unhindered scan limit plans are chunks of_scan.inside place others.unhindered);
    ran_unhindered = unhindered_but_last claims others.ran_unhindered;
  }

  pub lowest_of : (error : ScanError) → error ≢ Memory → (befores afters : List SourceState) → LowestFailure plans chunks error befores afters → LowestCause scan limit error befores afters
  lowest_of error other befores afters lowest = record {
    place = lowest.place;
    rows = chosen_rows lowest.chunk;
    here = ap (λ (pieces : List (List ℕ)). slice_get pieces lowest.place) (sym of_scan.pieces) ∙ got_mapped chosen_rows chunks lowest.place lowest.chunk lowest.here;
    claims = lowest.claims;
    middles = lowest.middles;
    reruns = lowest.reruns;
    claimed = claimed_pieces lowest.place lowest.claims lowest.claimed;
    gained = gained_pieces lowest.place lowest.chunk lowest.here error other lowest.claims lowest.reruns befores lowest.middles afters lowest.asked;
    others = others_have lowest.place lowest.claims befores lowest.others;
    cause = fails_either lowest.place lowest.chunk lowest.here error other lowest.reruns lowest.claims befores lowest.middles afters lowest.asked.again lowest.cause;
  }
