use Rattle.std.proofs.Common.{◌≡◌, ◌∙◌, ◌++◌, ◌∷◌, [], List, None, ap, subst, sym, true, false}
use Rattle.std.specs.Prelude.{is_some, option_copied}
use Rattle.std.proofs.lemmas.List.{map_push}
use Rattle.vx_plan.specs.Refs.{number_of}
use Rattle.vx_steps.specs.Kept.{kept_at, kept_data, IsKept}
use Rattle.vx_steps.specs.KeptData.{Kept}
use Rattle.vx_steps.specs.declared.kept.KeptValue.{KeptValue}
use Rattle.vx_steps.proofs.KeptBehind.{kept_last}
use Rattle.vx_chunks.specs.Outcomes.{data_of}
use Rattle.vx_workers.specs.Certified.{Certifies}
use Rattle.vx_workers.proofs.Certifying.{certifies_error, certifies_lacking, certifies_none, certifies_value}
use Rattle.vx_workers.proofs.CertifyingEach.{kept_none, kept_some}
use Rattle.vx_execute.proofs.rerunning.certify.Goals as goal

pub returns-then-is_some-clause-certifies : goal.returns-then-is_some-clause-certifies
returns-then-is_some-clause-certifies g c = certifies_none c.args.plans.now (λ n. n ≡ number_of c.args.plan) (data_of c.args.right.now.items) (g.S.SegmentSource.state c.args.source.now)

pub returns-then-is_some-clause-there : goal.returns-then-is_some-clause-there
returns-then-is_some-clause-there g c =
    let is : option_copied c.first_for.result ≡ kept_at (data_of c.args.right.now.items) (number_of c.args.plan) = rw c.deref.ensures.value at c.first_for.ensures in
    let some : is_some c.first_for.result ≡ true = sym c.is_some.ensures ∙ c.if-is_some.true in
    kept_some (data_of c.args.right.now.items) (number_of c.args.plan) c.first_for.result is some

pub returns-then-is_err-clause-certifies : goal.returns-then-is_err-clause-certifies
returns-then-is_err-clause-certifies g c =
    rw c.reserve.ensures.items (certifies_lacking c.args.plans.now (λ n. n ≡ number_of c.args.plan) (data_of c.args.right.now.items) (g.S.SegmentSource.state c.args.source.now))

pub returns-in-Ok-clause-certifies : goal.returns-in-Ok-clause-certifies
returns-in-Ok-clause-certifies g c =
    let right : List Kept = data_of c.args.right.now.items in
    let one : KeptValue = record { node = c.args.plan; column = c.in-Ok.column } in
    let is : option_copied c.first_for.result ≡ kept_at (data_of c.args.right.now.items) (number_of c.args.plan) = rw c.deref.ensures.value at c.first_for.ensures in
    let none : is_some c.first_for.result ≡ false = sym c.is_some.ensures ∙ c.if-is_some.false in
    let pushed : c.push_reserved.new.self.items ≡ c.args.right.now.items ++ one ∷ [] = c.push_reserved.ensures.items ∙ ap (λ (values : List KeptValue). values ++ one ∷ []) c.reserve.ensures.items in
    let same : data_of c.push_reserved.new.self.items ≡ data_of c.args.right.now.items ++ kept_data one ∷ [] = ap data_of pushed ∙ map_push kept_data c.args.right.now.items one in
    subst (λ (ks : List Kept). Certifies c.args.plans.now (λ n. n ≡ number_of c.args.plan) right ks None (g.S.SegmentSource.state c.args.source.now) (g.S.SegmentSource.state c.run_values.new.source)) (sym same)
    (certifies_value c.args.plans.now c.args.plan right c.in-Ok.column (g.S.SegmentSource.state c.args.source.now) (g.S.SegmentSource.state c.run_values.new.source) c.requires.known (kept_none right (number_of c.args.plan) c.first_for.result is none) c.in-Ok.ensures)

pub returns-in-Ok-clause-there : goal.returns-in-Ok-clause-there
returns-in-Ok-clause-there g c =
    let one : KeptValue = record { node = c.args.plan; column = c.in-Ok.column } in
    let pushed : c.push_reserved.new.self.items ≡ c.args.right.now.items ++ one ∷ [] = c.push_reserved.ensures.items ∙ ap (λ (values : List KeptValue). values ++ one ∷ []) c.reserve.ensures.items in
    let same : data_of c.push_reserved.new.self.items ≡ data_of c.args.right.now.items ++ kept_data one ∷ [] = ap data_of pushed ∙ map_push kept_data c.args.right.now.items one in
    subst (λ (ks : List Kept). IsKept ks (number_of c.args.plan)) (sym same) (kept_last (data_of c.args.right.now.items) (kept_data one))

pub returns-in-Err-clause-certifies : goal.returns-in-Err-clause-certifies
returns-in-Err-clause-certifies g c =
    let right : List Kept = data_of c.args.right.now.items in
    let is : option_copied c.first_for.result ≡ kept_at (data_of c.args.right.now.items) (number_of c.args.plan) = rw c.deref.ensures.value at c.first_for.ensures in
    let none : is_some c.first_for.result ≡ false = sym c.is_some.ensures ∙ c.if-is_some.false in
    rw c.reserve.ensures.items (certifies_error c.args.plans.now c.args.plan right c.in-Err.error (g.S.SegmentSource.state c.args.source.now) (g.S.SegmentSource.state c.run_values.new.source) c.requires.known (kept_none right (number_of c.args.plan) c.first_for.result is none) c.in-Err.ensures)
