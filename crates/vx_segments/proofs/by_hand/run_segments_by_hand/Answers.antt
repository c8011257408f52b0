use Rattle.std.proofs.Common.{refl}
use Rattle.std.specs.Str.{is_utf8, chars}
use Rattle.vx_segments.specs.Reading.{decoded, numbers_read, lengths_read, texts_read}
use Rattle.vx_segments.specs.CodingsRead.{decoded_as, ends_in}
use Rattle.vx_segments.proofs.by_hand.run_segments_by_hand.Goals as goal

pub returns-clause-runs : goal.returns-clause-runs
unfolding decoded decoded_as ends_in numbers_read lengths_read texts_read is_utf8 chars lib.Utf8.encode
returns-clause-runs c = refl

pub returns-clause-alike : goal.returns-clause-alike
unfolding decoded decoded_as ends_in numbers_read lengths_read texts_read is_utf8 chars lib.Utf8.encode
returns-clause-alike c = refl

pub returns-clause-falling : goal.returns-clause-falling
unfolding decoded decoded_as ends_in numbers_read lengths_read texts_read is_utf8 chars lib.Utf8.encode
returns-clause-falling c = refl

pub returns-clause-ends_early : goal.returns-clause-ends_early
unfolding decoded decoded_as ends_in numbers_read lengths_read texts_read is_utf8 chars lib.Utf8.encode
returns-clause-ends_early c = refl

pub returns-clause-value_missing : goal.returns-clause-value_missing
unfolding decoded decoded_as ends_in numbers_read lengths_read texts_read is_utf8 chars lib.Utf8.encode
returns-clause-value_missing c = refl

pub returns-clause-byte_follows : goal.returns-clause-byte_follows
unfolding decoded decoded_as ends_in numbers_read lengths_read texts_read is_utf8 chars lib.Utf8.encode
returns-clause-byte_follows c = refl

pub returns-clause-no_runs : goal.returns-clause-no_runs
unfolding decoded decoded_as ends_in numbers_read lengths_read texts_read is_utf8 chars lib.Utf8.encode
returns-clause-no_runs c = refl

pub returns-clause-no_runs_of_a_row : goal.returns-clause-no_runs_of_a_row
unfolding decoded decoded_as ends_in numbers_read lengths_read texts_read is_utf8 chars lib.Utf8.encode
returns-clause-no_runs_of_a_row c = refl

pub returns-clause-no_count : goal.returns-clause-no_count
unfolding decoded decoded_as ends_in numbers_read lengths_read texts_read is_utf8 chars lib.Utf8.encode
returns-clause-no_count c = refl
