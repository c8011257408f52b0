use Rattle.std.proofs.Common.{ℕ, List, ◌++◌, sym, ap, ◌∙◌, append-nil}
use Rattle.std.proofs.lemmas.Result.{on_ok_weaker}
use Rattle.vx_plan.specs.Kinds.{IsEval}
use Rattle.vx_plan.specs.Refs.{number_of}
use Rattle.vx_plan.specs.Rules.{node_at}
use Rattle.vx_lower.proofs.Predicates.{kind_has, no_text, proof_text}
use Rattle.vx_lower.proofs.plan_extractors.write_predicate.Goals as goal

pub returns-in-Some : goal.returns-in-Some
returns-in-Some c =
    let kind = (node_at c.args.table.now (number_of c.args.plan)).kind in
    on_ok_weaker c.write_proof.result (λ is. is ∙ ap (λ (text : List ℕ). c.args.out.now.items ++ text) (proof_text kind c.in-Some.proof.now c.in-Some.ensures)) c.write_proof.ensures

pub returns-in-None : goal.returns-in-None
returns-in-None c =
    let n = number_of c.args.plan in
    let kind = (node_at c.args.table.now n).kind in
    sym (append-nil c.args.out.now.items) ∙ ap (λ (text : List ℕ). c.args.out.now.items ++ text) (no_text kind (λ is. c.requires.plain (kind_has IsEval c.args.table.now n c.requires.known is)) c.in-None.ensures)
