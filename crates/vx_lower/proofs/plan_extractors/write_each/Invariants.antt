use Rattle.std.proofs.Common.{◌≡◌, ◌++◌, take, map}
use Rattle.vx_plan.specs.Refs.{number_of}
use Rattle.vx_lower.specs.PlanText.{headers_text}
use Rattle.vx_lower.proofs.plan_extractors.write_each.Given as goal

abbrev pub invariant-loop-extractor : goal.invariant-loop-extractor
invariant-loop-extractor g l = l.out.items ≡ l.fn.out.items ++ headers_text (map (λ extractor. (goal.PlanTreeExtractor-dyn g (extractor.vtable, extractor.value)).header extractor.value) (take l.extractor-index l.extractors)) l.table (number_of l.plan)
