use Rattle.vx_steps.proofs.CertifiedValues.{certified_columns, certified_serve}
use Rattle.vx_steps.proofs.UsedValues.{served_stays, used_columns, used_serve, used_values}
use Rattle.vx_steps.proofs.laws.used_values_serve.Goals as goal

pub returns : goal.returns
returns c = record { stays = served_stays; rows = used_serve; values = used_values; columns = used_columns; certified = certified_serve; certified_columns = certified_columns }
