use Rattle.std.proofs.Common.{refl}
use Rattle.std.specs.Str.{is_utf8, chars}
use Rattle.vx_base.specs.CodingsRead.{decoded_as}
use Rattle.vx_base.specs.Reading.{decoded, numbers_read, lengths_read, texts_read}
use Rattle.vx_layout.specs.Trees.{grow}
use Rattle.vx_layout.proofs.by_hand.zones_by_hand.Goals as goal

pub returns-clause-no_length : goal.returns-clause-no_length
unfolding grow decoded_as decoded numbers_read lengths_read texts_read is_utf8 chars lib.Utf8.encode
returns-clause-no_length c = refl

pub returns-clause-some_length : goal.returns-clause-some_length
unfolding grow decoded_as decoded numbers_read lengths_read texts_read is_utf8 chars lib.Utf8.encode
returns-clause-some_length c = refl

pub returns-clause-not_read : goal.returns-clause-not_read
unfolding grow
returns-clause-not_read c = refl
