use Rattle.std.proofs.Common.{refl}
use Rattle.std.specs.Str.{is_utf8, chars}
use Rattle.vx_segments.specs.Reading.{decoded, numbers_read, lengths_read, texts_read}
use Rattle.vx_segments.proofs.by_hand.segments_by_hand.Goals as goal

pub returns-clause-truths : goal.returns-clause-truths
unfolding decoded numbers_read lengths_read texts_read is_utf8 chars lib.Utf8.encode
returns-clause-truths c = refl

pub returns-clause-padding_set : goal.returns-clause-padding_set
unfolding decoded numbers_read lengths_read texts_read is_utf8 chars lib.Utf8.encode
returns-clause-padding_set c = refl

pub returns-clause-too_short : goal.returns-clause-too_short
unfolding decoded numbers_read lengths_read texts_read is_utf8 chars lib.Utf8.encode
returns-clause-too_short c = refl

pub returns-clause-too_long : goal.returns-clause-too_long
unfolding decoded numbers_read lengths_read texts_read is_utf8 chars lib.Utf8.encode
returns-clause-too_long c = refl

pub returns-clause-texts : goal.returns-clause-texts
unfolding decoded numbers_read lengths_read texts_read is_utf8 chars lib.Utf8.encode
returns-clause-texts c = refl

pub returns-clause-numbers : goal.returns-clause-numbers
unfolding decoded numbers_read lengths_read texts_read is_utf8 chars lib.Utf8.encode
returns-clause-numbers c = refl

pub returns-clause-null_slot_set : goal.returns-clause-null_slot_set
unfolding decoded numbers_read lengths_read texts_read is_utf8 chars lib.Utf8.encode
returns-clause-null_slot_set c = refl

pub returns-clause-spelt : goal.returns-clause-spelt
unfolding decoded numbers_read lengths_read texts_read is_utf8 chars lib.Utf8.encode
returns-clause-spelt c = refl
