use Rattle.std.proofs.Common.{refl}
use Rattle.std.specs.Str.{is_utf8, chars}
use Rattle.vx_base.specs.CodingsRead.{decoded_as}
use Rattle.vx_base.specs.Reading.{decoded, numbers_read, lengths_read, texts_read}
use Rattle.vx_layout.specs.Trees.{grow}
use Rattle.vx_layout.proofs.by_hand.structs_by_hand.Goals as goal

pub returns-clause-validity : goal.returns-clause-validity
unfolding grow decoded_as decoded numbers_read lengths_read texts_read is_utf8 chars lib.Utf8.encode
returns-clause-validity c = refl

pub returns-clause-validity_is_read : goal.returns-clause-validity_is_read
unfolding grow
returns-clause-validity_is_read c = refl

pub returns-clause-one_range : goal.returns-clause-one_range
unfolding grow decoded_as decoded numbers_read lengths_read texts_read is_utf8 chars lib.Utf8.encode
returns-clause-one_range c = refl

pub returns-clause-one_segment : goal.returns-clause-one_segment
unfolding grow decoded_as decoded numbers_read lengths_read texts_read is_utf8 chars lib.Utf8.encode
returns-clause-one_segment c = refl

pub returns-clause-list_left_out : goal.returns-clause-list_left_out
unfolding grow decoded_as decoded numbers_read lengths_read texts_read is_utf8 chars lib.Utf8.encode
returns-clause-list_left_out c = refl

pub returns-clause-list_not_read : goal.returns-clause-list_not_read
unfolding grow
returns-clause-list_not_read c = refl

pub returns-clause-list_kept : goal.returns-clause-list_kept
unfolding grow decoded_as decoded numbers_read lengths_read texts_read is_utf8 chars lib.Utf8.encode
returns-clause-list_kept c = refl
