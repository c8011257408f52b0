use Rattle.std.proofs.Common.{inl, inr, refl, arith}
use Rattle.std.specs.Str.{is_utf8, chars}
use Rattle.vx_base.specs.CodingsRead.{decoded_as}
use Rattle.vx_base.specs.Reading.{decoded, numbers_read, lengths_read, texts_read}
use Rattle.vx_layout.specs.Trees.{grow}
use Rattle.vx_scan.proofs.by_hand.answers_by_hand.Goals as goal

pub returns-clause-leaf : goal.returns-clause-leaf
unfolding grow decoded_as decoded numbers_read lengths_read texts_read is_utf8 chars lib.Utf8.encode
returns-clause-leaf c = refl

pub returns-clause-chunks : goal.returns-clause-chunks
unfolding grow decoded_as decoded numbers_read lengths_read texts_read is_utf8 chars lib.Utf8.encode
returns-clause-chunks c = refl

pub returns-clause-reached : goal.returns-clause-reached
unfolding grow
returns-clause-reached c = inr (inl (inl refl))

pub returns-clause-not_reached : goal.returns-clause-not_reached
unfolding grow
returns-clause-not_reached c (inl (inl first)) = omega (arith, first)
returns-clause-not_reached c (inl (inr none)) = none
returns-clause-not_reached c (inr (inl (inl third))) = omega (arith, third)
returns-clause-not_reached c (inr (inl (inr none))) = none
returns-clause-not_reached c (inr (inr none)) = none

pub returns-clause-dictionary : goal.returns-clause-dictionary
unfolding grow decoded_as decoded numbers_read lengths_read texts_read is_utf8 chars lib.Utf8.encode
returns-clause-dictionary c = refl

pub returns-clause-divided : goal.returns-clause-divided
returns-clause-divided c = refl

pub returns-clause-numbers : goal.returns-clause-numbers
returns-clause-numbers c = refl
