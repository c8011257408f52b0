use Rattle.std.proofs.Common.{refl}
use Rattle.std.specs.Str.{is_utf8, chars}
use Rattle.vx_segments.specs.Reading.{decoded, numbers_read, lengths_read, texts_read}
use Rattle.vx_segments.specs.CodingsRead.{decoded_as, ends_in}
use Rattle.vx_segments.proofs.by_hand.constant_segments_by_hand.Goals as goal

pub returns-clause-texts : goal.returns-clause-texts
unfolding decoded decoded_as ends_in numbers_read lengths_read texts_read is_utf8 chars lib.Utf8.encode
returns-clause-texts c = refl

pub returns-clause-nulls : goal.returns-clause-nulls
unfolding decoded decoded_as ends_in numbers_read lengths_read texts_read is_utf8 chars lib.Utf8.encode
returns-clause-nulls c = refl

pub returns-clause-nothing : goal.returns-clause-nothing
unfolding decoded decoded_as ends_in numbers_read lengths_read texts_read is_utf8 chars lib.Utf8.encode
returns-clause-nothing c = refl

pub returns-clause-bytes_of_nothing : goal.returns-clause-bytes_of_nothing
unfolding decoded decoded_as ends_in numbers_read lengths_read texts_read is_utf8 chars lib.Utf8.encode
returns-clause-bytes_of_nothing c = refl

pub returns-clause-no_bytes : goal.returns-clause-no_bytes
unfolding decoded decoded_as ends_in numbers_read lengths_read texts_read is_utf8 chars lib.Utf8.encode
returns-clause-no_bytes c = refl

pub returns-clause-two_spelled : goal.returns-clause-two_spelled
unfolding decoded decoded_as ends_in numbers_read lengths_read texts_read is_utf8 chars lib.Utf8.encode
returns-clause-two_spelled c = refl
