-- What a run does that finds no memory before it begins.
use Rattle.std.proofs.Common.{◌≡◌, ℕ, Bool, true, false, List, [], ◌∷◌, ◌++◌, length, map, take, drop, Option, Some, None, refl, sym, ◌∙◌, subst, inl, inr, arith}
use Rattle.std.specs.Bool.{MatchBool}
use Rattle.std.proofs.lemmas.List.{append-nil}
use Rattle.vx_base.specs.Sources.{SourceState}
use Rattle.vx_base.specs.Streams.{ReadState, WriteState}
use Rattle.scan_words.specs.declared.commands.Command.{Command}
use Rattle.scan_words.specs.declared.commands.Command.TheVariants.{Scan, Read, Tree, Demo}
use Rattle.scan_commands.specs.declared.endings.Ending.{Ending}
use Rattle.scan_commands.specs.declared.endings.Ending.TheVariants.{OutOfMemory}
use Rattle.vx_scan.specs.Lent.{FirstSource}
use Rattle.vx_split_rules.specs.declared.split_rules.SplitBy.{SplitBy}
use Rattle.scan_commands.specs.Commanded.{have_sources, workers_of, with_first, with_source, Obeys, ReadsBy, ReadsFirst, Runs, ScansBy, IsRefusedWith, DrawsPlan}
use Rattle.scan_commands.specs.LentStreams.{LentStreams}
use Rattle.scan_commands.specs.Endings.{status_of}
use Rattle.scan_commands.specs.PlanRuns.{ServesPlan}
use Rattle.scan_input.specs.Reading.{ReadsPieces}
use Rattle.scan_commands.specs.ReadRuns.{LentRead}
use Rattle.scan_commands.specs.Runs.{Ends, Serves, LentIo, without_sources}
use Rattle.scan_commands.proofs.Drawing.{draws_complete}
use Rattle.scan_input.proofs.Pieces.{none_read}
use Rattle.scan_commands.proofs.ReadEnds.{reads_by}
use Rattle.scan_commands.proofs.Serving.{ends_alike, first_back, first_whole, rest_same, serves_complete, serves_so, lent_io}

no_pieces : (old : ReadState) → ReadsPieces old old
no_pieces old = record { full = []; last = []; pieces = sym (append-nil (old.pieces ++ []) ∙ append-nil old.pieces); each = λ k d lt. absurd (omega (arith, lt)); end = inl refl; count = omega arith }

-- nothing was served
pub serves_nothing : (limit : ℕ) (before : LentIo) → Serves limit 70 before before
serves_nothing limit before = record { ending = OutOfMemory; is = refl; ends = inl (record { few = none_read before.request; faults = refl; sink = refl }, refl); pieces = no_pieces before.request }

pub draws_nothing : (before : LentStreams) → ServesPlan 70 before before
draws_nothing before = record { ending = OutOfMemory; is = refl; draws = inl (record { few = none_read before.request; faults = refl; sink = refl }); pieces = no_pieces before.request }

scans_nothing : (workers limit : ℕ) (before : LentIo) → ScansBy workers limit 70 before before
scans_nothing workers limit before = record {
  serves = serves_nothing limit (with_first workers before);
  complete = serves_complete limit 70 (with_first workers before) (with_first workers before) (serves_nothing limit (with_first workers before));
  others = refl;
}

scans_or_not : (enough : Bool) (workers limit : ℕ) (before : LentIo) → MatchBool enough (ScansBy workers limit 70 before before) (IsRefusedWith 2 70 before before)
scans_or_not true workers limit before = scans_nothing workers limit before
scans_or_not false workers limit before = (inr refl, refl)

reads_nothing : (limit : ℕ) (before : LentRead) → ReadsBy limit 70 before before
reads_nothing limit before = reads_by limit 70 OutOfMemory before before refl (no_pieces before.request) (inl (record { few = none_read before.request; faults = refl; sink = refl }, refl))

none_read_first : (limit : ℕ) (before : LentIo) (sources : List SourceState) → FirstSource (λ old new. ReadsBy limit 70 (with_source before old) (with_source before new)) sources sources
none_read_first limit before [] = tt
none_read_first limit before (source ∷ sources) = (reads_nothing limit (with_source before source), refl)

pub lacks_memory : (asked : Option Command) (before : LentIo) → Runs asked 70 before before
lacks_memory None before = (inr refl, refl)
lacks_memory (Some (Scan segments request workers unordered idle)) before = scans_or_not (have_sources workers (length before.sources)) (workers_of workers (length before.sources)) idle before
lacks_memory (Some (Read segments request split idle)) before = none_read_first idle before before.sources
lacks_memory (Some (Tree request)) before = record {
  serves = draws_nothing (without_sources before);
  complete = draws_complete 70 (without_sources before) (without_sources before) (draws_nothing (without_sources before));
  sources = refl;
}
lacks_memory (Some (Demo number)) before = record { serves = record { ending = OutOfMemory; is = refl; ends = inl refl }; request = refl; sources = refl }

-- ---- by the command

-- the sources of the workers served, and the others came back behind them
pub scans_by : {S : Type 0} (f : S → SourceState) (workers limit status : ℕ) (ending : Ending) (old new : ReadState) (sink sink_after : WriteState) (xs first ys rest : List S) → first ≡ take workers xs → rest ≡ drop workers xs → length ys ≡ workers → status ≡ status_of ending → ReadsPieces old new
    → Ends limit ending (lent_io old (map f first) sink) (lent_io new (map f ys) sink_after) → ScansBy workers limit status (lent_io old (map f xs) sink) (lent_io new (map f (ys ++ rest)) sink_after)
scans_by {S} f workers limit status ending old new sink sink_after xs first ys rest own others count is pieces ends =
    let before = lent_io old (take workers (map f xs)) sink in
    let after = lent_io new (take workers (map f (ys ++ rest))) sink_after in
    let served : Ends limit ending before after = ends_alike limit ending old new sink sink_after (map f first) (take workers (map f xs)) (map f ys) (take workers (map f (ys ++ rest))) (first_whole f workers xs first own) (first_back f workers ys rest count) ends in
    let serves : Serves limit status before after = serves_so limit status ending before after is pieces served in
    record { serves = serves; complete = serves_complete limit status before after serves; others = rest_same f workers xs ys rest count others }

pub obeys_tree : (command : Command) (request : List ℕ) (status : ℕ) (before after : LentIo) → command ≡ Tree request → DrawsPlan status before after → Obeys command status before after
obeys_tree command request status before after is draws = subst (λ (c : Command). Obeys c status before after) (sym is) draws

pub obeys_read : (command : Command) (segments request : List ℕ) (split : SplitBy) (limit status : ℕ) (before after : LentIo) → command ≡ Read segments request split limit → ReadsFirst limit status before after → Obeys command status before after
obeys_read command segments request split limit status before after is reads = subst (λ (c : Command). Obeys c status before after) (sym is) reads
