use Rattle.vx_layout.proofs.Ruled.{good_sound}
use Rattle.vx_layout.proofs.Unfolding.{good_later, unfolds}
use Rattle.vx_layout.proofs.laws.good_trees_unfold.Goals as goal

pub returns-clause-unfolds : goal.returns-clause-unfolds
returns-clause-unfolds c = λ nodes good n. unfolds nodes (good_later nodes good) n

pub returns-clause-sound : goal.returns-clause-sound
returns-clause-sound c = good_sound
