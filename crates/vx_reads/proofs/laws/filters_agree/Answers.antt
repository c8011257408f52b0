use Rattle.std.proofs.Common.{refl, sym, ◌∙◌, length, replicate, true}
use Rattle.vx_reads.proofs.Filtering.{dense_truths, sparse_truths}
use Rattle.vx_reads.proofs.laws.filters_agree.Goals as goal

pub returns : goal.returns
returns c = λ f start mask all_truths truths dense sparse.
    dense_truths f start mask (replicate (length mask) true) all_truths refl dense ∙ sym (sparse_truths f start mask truths sparse)
