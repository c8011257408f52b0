-- The command lines are computed.
use Rattle.scan_words.proofs.Examples.{asking, faulty}
use Rattle.scan_words.proofs.by_hand.words_by_hand.Goals as goal

pub returns-clause-asking : goal.returns-clause-asking
returns-clause-asking c = asking

pub returns-clause-faulty : goal.returns-clause-faulty
returns-clause-faulty c = faulty
