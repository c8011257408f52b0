-- What a refusal of a list of nodes is as a refusal of a request.
use Rattle.vx_layout.specs.declared.errors.LayoutError.{LayoutError}
use Rattle.vx_layout.specs.declared.errors.LayoutError.TheVariants as layout
use Rattle.scan_request.specs.declared.request_errors.RequestError.{RequestError}
use Rattle.scan_request.specs.declared.request_errors.RequestError.TheVariants.{BadLayout, Memory}

abbrev pub of_layout : LayoutError → RequestError
of_layout (layout.BadLayout node rule) = BadLayout node rule
of_layout layout.Memory = Memory
