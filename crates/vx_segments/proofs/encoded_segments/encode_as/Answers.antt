use Rattle.vx_segments.proofs.encoded_segments.encode_as.Goals as goal

pub returns-in-Constant-clause-other : goal.returns-in-Constant-clause-other
returns-in-Constant-clause-other c = λ row e. (c.in-Constant.is, c.encode_constant.ensures.other row e)
