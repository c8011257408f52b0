use Rattle.vx_layout.proofs.Joined.{leaf_values, forest_values, chunked_values, zoned_values, dictionary_values, struct_values, valid_struct_values}
use Rattle.vx_layout.proofs.laws.nodes_have_their_childrens_values.Goals as goal

pub returns-clause-flat : goal.returns-clause-flat
returns-clause-flat c = leaf_values

pub returns-clause-joined : goal.returns-clause-joined
returns-clause-joined c = forest_values

pub returns-clause-chunked : goal.returns-clause-chunked
returns-clause-chunked c = chunked_values

pub returns-clause-zoned : goal.returns-clause-zoned
returns-clause-zoned c = zoned_values

pub returns-clause-dictionary : goal.returns-clause-dictionary
returns-clause-dictionary c = dictionary_values

pub returns-clause-structs : goal.returns-clause-structs
returns-clause-structs c = struct_values

pub returns-clause-valid_structs : goal.returns-clause-valid_structs
returns-clause-valid_structs c = valid_struct_values
