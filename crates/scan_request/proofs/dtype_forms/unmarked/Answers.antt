use Rattle.std.proofs.Common.{ℕ, List, sym, ap}
use Rattle.scan_request.proofs.DtypeForms.{mark_cut, no_mark}
use Rattle.scan_request.proofs.dtype_forms.unmarked.Goals as goal
use Rattle.vx_base.specs.declared.dtypes.Nullability.{Nullability}

pub returns-in-Some-clause-name : goal.returns-in-Some-clause-name
returns-in-Some-clause-name c =
    let cut = c.in-Some.ensures.cases in
    ap (λ (p : List ℕ × Nullability). p.0) (sym (mark_cut c.args.name.now c.in-Some.stem.now _ cut.0 cut.1.0 cut.1.1 cut.2))

pub returns-in-Some-clause-nullability : goal.returns-in-Some-clause-nullability
returns-in-Some-clause-nullability c =
    let cut = c.in-Some.ensures.cases in
    ap (λ (p : List ℕ × Nullability). p.1) (sym (mark_cut c.args.name.now c.in-Some.stem.now _ cut.0 cut.1.0 cut.1.1 cut.2))

pub returns-in-None-clause-name : goal.returns-in-None-clause-name
returns-in-None-clause-name c = ap (λ (p : List ℕ × Nullability). p.0) (sym (no_mark c.args.name.now c.in-None.ensures.cases))

pub returns-in-None-clause-nullability : goal.returns-in-None-clause-nullability
returns-in-None-clause-nullability c = ap (λ (p : List ℕ × Nullability). p.1) (sym (no_mark c.args.name.now c.in-None.ensures.cases))
