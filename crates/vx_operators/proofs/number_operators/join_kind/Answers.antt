use Rattle.vx_operators.proofs.number_operators.join_kind.Goals as goal

pub returns-in-U8-clause-values : goal.returns-in-U8-clause-values
returns-in-U8-clause-values c = rw c.in-U8.is c.join_of.ensures.values

pub returns-in-U16-clause-values : goal.returns-in-U16-clause-values
returns-in-U16-clause-values c = rw c.in-U16.is c.join_of-in-U16.ensures.values

pub returns-in-U32-clause-values : goal.returns-in-U32-clause-values
returns-in-U32-clause-values c = rw c.in-U32.is c.join_of-in-U32.ensures.values

pub returns-in-U64-clause-values : goal.returns-in-U64-clause-values
returns-in-U64-clause-values c = rw c.in-U64.is c.join_of-in-U64.ensures.values

pub returns-in-I8-clause-values : goal.returns-in-I8-clause-values
returns-in-I8-clause-values c = rw c.in-I8.is c.join_of-in-I8.ensures.values

pub returns-in-I16-clause-values : goal.returns-in-I16-clause-values
returns-in-I16-clause-values c = rw c.in-I16.is c.join_of-in-I16.ensures.values

pub returns-in-I32-clause-values : goal.returns-in-I32-clause-values
returns-in-I32-clause-values c = rw c.in-I32.is c.join_of-in-I32.ensures.values

pub returns-in-I64-clause-values : goal.returns-in-I64-clause-values
returns-in-I64-clause-values c = rw c.in-I64.is c.join_of-in-I64.ensures.values
