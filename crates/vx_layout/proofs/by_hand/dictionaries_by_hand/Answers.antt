use Rattle.std.proofs.Common.{inl, inr, refl}
use Rattle.std.specs.Str.{is_utf8, chars}
use Rattle.vx_base.specs.CodingsRead.{decoded_as}
use Rattle.vx_base.specs.Reading.{decoded, numbers_read, lengths_read, texts_read}
use Rattle.vx_layout.specs.Trees.{grow}
use Rattle.vx_layout.proofs.by_hand.dictionaries_by_hand.Goals as goal

pub returns-clause-null_codes : goal.returns-clause-null_codes
unfolding grow decoded_as decoded numbers_read lengths_read texts_read is_utf8 chars lib.Utf8.encode
returns-clause-null_codes c = refl

pub returns-clause-no_values_are_read : goal.returns-clause-no_values_are_read
unfolding grow
returns-clause-no_values_are_read c = refl

pub returns-clause-code_of_no_value : goal.returns-clause-code_of_no_value
unfolding grow decoded_as decoded numbers_read lengths_read texts_read is_utf8 chars lib.Utf8.encode
returns-clause-code_of_no_value c = refl

pub returns-clause-torn : goal.returns-clause-torn
unfolding grow decoded_as decoded numbers_read lengths_read texts_read is_utf8 chars lib.Utf8.encode
returns-clause-torn c = refl

pub returns-clause-each_value_is_read : goal.returns-clause-each_value_is_read
unfolding grow
returns-clause-each_value_is_read c = refl

pub returns-clause-outermost : goal.returns-clause-outermost
unfolding grow
returns-clause-outermost c = refl

pub returns-clause-reached : goal.returns-clause-reached
unfolding grow
returns-clause-reached c = inr (inr (inr (inr (inl refl))))

pub returns-clause-reached_directly : goal.returns-clause-reached_directly
unfolding grow
returns-clause-reached_directly c = inr (inl (refl, refl))

pub returns-clause-reached_through_values : goal.returns-clause-reached_through_values
unfolding grow
returns-clause-reached_through_values c = inr (inr (inr (inl (refl, refl))))
