use Rattle.std.proofs.Common.{rules, subst}
use Rattle.std.specs.List.{All}
use Rattle.std.proofs.lemmas.List.Elements.{All-head, All-tail}
use Rattle.vx_workers.specs.Workers.{IsFreshWorker}
use Rattle.vx_workers.proofs.WorkerCrossing.{send_closure, send_worker, sync_common}
use denote.Param.{param}
use denote.Param.Send.{IsSend, IsSync, arg_send, mut_send, param_send, shr_send}
use denote.Exit.{no}
use Rattle.vx_workers.proofs.workers.+spreading.Goals as goal

pub first_and_others-join_mut-requires-send-F : goal.first_and_others-join_mut-requires-send-F
first_and_others-join_mut-requires-send-F g t c κs within =
    let r : IsSync (param 0 g.row.R) = search rules in
    let s : IsSend (param 1 g.row.S) = search rules in
    param_send 1 _ (arg_send _ no _ (send_closure _ _ _ _ _ (shr_send _ _ _ r) (shr_send _ _ _ (sync_common _)) (mut_send _ _ _ send_worker) (mut_send _ _ _ s)))

pub spread_over-spread_from-requires-clause-worker : goal.spread_over-spread_from-requires-clause-worker
spread_over-spread_from-requires-clause-worker g t c κs within =
    All-head (IsFreshWorker c.args.common.now.claims.now) c.in-Some.worker.now c.in-Some.worker_states.now (subst (All (IsFreshWorker c.args.common.now.claims.now)) c.in-Some.ensures.cases.0 c.requires.worker_states)

pub spread_over-spread_from-requires-clause-worker_states : goal.spread_over-spread_from-requires-clause-worker_states
spread_over-spread_from-requires-clause-worker_states g t c κs within =
    All-tail (IsFreshWorker c.args.common.now.claims.now) c.in-Some.worker.now c.in-Some.worker_states.now (subst (All (IsFreshWorker c.args.common.now.claims.now)) c.in-Some.ensures.cases.0 c.requires.worker_states)
