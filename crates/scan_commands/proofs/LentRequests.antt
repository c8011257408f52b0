-- How a run ends that reads no request, or bytes that are none.
use Rattle.std.proofs.Common.{ℕ, List, Err, refl}
use Rattle.vx_base.specs.Streams.{ReadState, WriteState}
use Rattle.scan_request.specs.declared.request_errors.RequestError.{RequestError}
use Rattle.scan_request.specs.declared.request_errors.RequestError.TheVariants as requests
use Rattle.scan_request.specs.RequestForms.{RefusedBy}
use Rattle.scan_input.specs.declared.reading.ReadingError.{ReadingError}
use Rattle.scan_input.specs.declared.reading.ReadingError.TheVariants.{TooLarge, Failed, Memory}
use Rattle.scan_commands.specs.LentRequests.{EndsAtOnce}
use Rattle.scan_commands.specs.LentStreams.{LentStreams}
use Rattle.scan_commands.specs.Endings.{reading_ending, refused_ending}
use Rattle.scan_input.specs.Reading.{ReadingGives, ReadsAll}
use Rattle.scan_input.proofs.Pieces.{few_in_all}

abbrev pub lent_streams : ReadState → WriteState → LentStreams
lent_streams request sink = record { request = request; sink = sink }

-- the bytes can't be read
pub reading_failed : (error : ReadingError) (old new : ReadState) (sink : WriteState) → ReadingGives (Err error) old new → EndsAtOnce (reading_ending error) (lent_streams old sink) (lent_streams new sink)
reading_failed TooLarge old new sink large = record { large = large; sink = refl }
reading_failed Failed old new sink (rose, few) = record { few = few; rose = rose; sink = refl }
reading_failed Memory old new sink (same, few) = record { few = few; faults = same; sink = refl }

-- they are no request
pub request_refused : (error : RequestError) (bytes : List ℕ) (old new : ReadState) (sink : WriteState) → ReadsAll bytes old new → RefusedBy bytes error → EndsAtOnce (refused_ending error) (lent_streams old sink) (lent_streams new sink)
request_refused requests.BadRequest bytes old new sink reads refused = record { reads = record { bytes = bytes; reads = reads; are = refused }; sink = refl }
request_refused (requests.BadLayout node rule) bytes old new sink reads refused = record { reads = record { bytes = bytes; reads = reads; are = refused }; sink = refl }
request_refused (requests.BadProjection error) bytes old new sink reads refused = record { error = error; reads = record { bytes = bytes; reads = reads; are = refused }; sink = refl }
request_refused requests.Memory bytes old new sink reads refused = record { few = few_in_all bytes old new reads; faults = reads.faults; sink = refl }
