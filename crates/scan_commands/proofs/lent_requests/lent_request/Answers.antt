use Rattle.std.proofs.Common.{ℕ, List, subst, sym}
use Rattle.scan_request.specs.RequestForms.{IsRequest, RefusedBy}
use Rattle.scan_request.specs.RequestViews.{asked_of}
use Rattle.scan_commands.specs.LentRequests.{EndsAtOnce}
use Rattle.scan_commands.specs.declared.endings.Ending.{Ending}
use Rattle.scan_commands.proofs.LentRequests.{lent_streams, reading_failed, request_refused}
use Rattle.scan_commands.proofs.lent_requests.lent_request.Goals as goal

pub returns-in-Err-clause-gives : goal.returns-in-Err-clause-gives
returns-in-Err-clause-gives g c = λ sink.
    let old = g.Q.Source.state c.args.request.now in
    let new = g.Q.Source.state c.read_request.new.request in
    subst (λ (e : Ending). EndsAtOnce e (lent_streams old sink) (lent_streams new sink)) (sym c.of_reading.ensures) (reading_failed c.in-Err.error old new sink c.in-Err.ensures.bytes)

pub returns-in-Ok-request_of-clause-gives : goal.returns-in-Ok-request_of-clause-gives
returns-in-Ok-request_of-clause-gives g c =
    let asked = asked_of c.in-Ok-request_of.request in
    let is : IsRequest c.in-Ok.bytes.items asked = subst (λ (bytes : List ℕ). IsRequest bytes asked) c.deref.ensures.value c.in-Ok-request_of.ensures.request in
    record { bytes = c.in-Ok.bytes.items; reads = c.in-Ok.ensures.bytes; are = is }

pub returns-clause-gives : goal.returns-clause-gives
returns-clause-gives g c = λ sink.
    let old = g.Q.Source.state c.args.request.now in
    let new = g.Q.Source.state c.read_request.new.request in
    let refused : RefusedBy c.in-Ok.bytes.items c.in-Err-request_of.error = subst (λ (bytes : List ℕ). RefusedBy bytes c.in-Err-request_of.error) c.deref.ensures.value c.in-Err-request_of.ensures.refused in
    subst (λ (e : Ending). EndsAtOnce e (lent_streams old sink) (lent_streams new sink)) (sym c.of_request.ensures) (request_refused c.in-Err-request_of.error c.in-Ok.bytes.items old new sink c.in-Ok.ensures.bytes refused)
