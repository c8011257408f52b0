use Rattle.std.proofs.Common.{inl, inr, refl, arith}
use Rattle.std.specs.Str.{is_utf8, chars}
use Rattle.vx_base.specs.CodingsRead.{decoded_as}
use Rattle.vx_base.specs.Reading.{decoded, numbers_read, lengths_read, texts_read}
use Rattle.vx_layout.specs.Trees.{grow}
use Rattle.vx_scan.proofs.by_hand.faults_by_hand.Goals as goal

pub returns-clause-code : goal.returns-clause-code
unfolding grow decoded_as decoded numbers_read lengths_read texts_read is_utf8 chars lib.Utf8.encode
returns-clause-code c = inl (inl (refl, refl, λ below. omega (arith, below)))

pub returns-clause-torn : goal.returns-clause-torn
unfolding grow decoded_as decoded numbers_read lengths_read texts_read is_utf8 chars lib.Utf8.encode
returns-clause-torn c = inl (inr (inr (inr (inl (refl, refl)))))

pub returns-clause-list : goal.returns-clause-list
unfolding grow
returns-clause-list c = inl (inr (inl refl))

pub returns-clause-location : goal.returns-clause-location
unfolding grow
returns-clause-location c = (inl (inl refl), λ below. omega (arith, below))

pub returns-clause-divided : goal.returns-clause-divided
returns-clause-divided c = (inr (inl refl), refl)

pub returns-clause-number : goal.returns-clause-number
returns-clause-number c = (inr (inr (inl refl)), refl)
