-- The refusal of a step as one of an adaptor.
use Rattle.vx_steps.specs.declared.errors.StepError.{StepError}
use Rattle.vx_steps.specs.declared.errors.StepError.TheVariants as steps
use Rattle.vx_drive.specs.declared.adaptor_errors.AdaptorError.{AdaptorError}
use Rattle.vx_drive.specs.declared.adaptor_errors.AdaptorError.TheVariants.{Step, Memory}

-- want of memory is want of memory, and each other refusal is handed on
abbrev pub refusal_of : StepError → AdaptorError
refusal_of steps.Memory = Memory
refusal_of error = Step error
