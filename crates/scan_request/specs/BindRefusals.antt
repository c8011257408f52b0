-- What a refusal of a projection is as a refusal of a request.
use Rattle.vx_expr.specs.declared.binding.BindError.{BindError}
use Rattle.vx_expr.specs.declared.binding.BindError.TheVariants as bind
use Rattle.scan_request.specs.declared.request_errors.RequestError.{RequestError}
use Rattle.scan_request.specs.declared.request_errors.RequestError.TheVariants.{BadProjection, Memory}

abbrev pub of_bind : BindError → RequestError
of_bind bind.Memory = Memory
of_bind error = BadProjection error
