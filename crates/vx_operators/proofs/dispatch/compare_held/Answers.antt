use Rattle.vx_operators.proofs.dispatch.compare_held.Goals as goal

pub compare_truths-requires-clause-left : goal.compare_truths-requires-clause-left
compare_truths-requires-clause-left c = let both = rw c.in-Truths.is at c.requires.both in both.0

pub compare_truths-requires-clause-right : goal.compare_truths-requires-clause-right
compare_truths-requires-clause-right c = let both = rw c.in-Truths.is at c.requires.both in both.1

pub compare_text_rows-requires-clause-left : goal.compare_text_rows-requires-clause-left
compare_text_rows-requires-clause-left c = let both = rw c.in-Texts.is at c.requires.both in both.0

pub compare_text_rows-requires-clause-right : goal.compare_text_rows-requires-clause-right
compare_text_rows-requires-clause-right c = let both = rw c.in-Texts.is at c.requires.both in both.1

pub compare_kind-requires-clause-left : goal.compare_kind-requires-clause-left
compare_kind-requires-clause-left c = let both = rw c.in-Numbers.is at c.requires.both in both.0.1

pub compare_kind-requires-clause-right : goal.compare_kind-requires-clause-right
compare_kind-requires-clause-right c = let both = rw c.in-Numbers.is at c.requires.both in both.1.1

pub compare_kind-requires-clause-left_kind : goal.compare_kind-requires-clause-left_kind
compare_kind-requires-clause-left_kind c = let both = rw c.in-Numbers.is at c.requires.both in both.0.0

pub compare_kind-requires-clause-right_kind : goal.compare_kind-requires-clause-right_kind
compare_kind-requires-clause-right_kind c = let both = rw c.in-Numbers.is at c.requires.both in both.1.0
