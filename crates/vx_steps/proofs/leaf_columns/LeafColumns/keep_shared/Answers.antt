use Rattle.std.proofs.Common.{◌≡◌, [], ◌∷◌, false, List, None, arith, ap, map, refl, subst, sym, ◌∙◌, ◌++◌}
use Rattle.std.proofs.lemmas.Grind.{common_steps}
use Rattle.vx_base.specs.Columns.{ColumnData}
use Rattle.vx_steps.specs.declared.leaf_columns.SeenColumn.{SeenColumn}
use Rattle.vx_steps.specs.Kept.{kept_at, kept_data}
use Rattle.vx_steps.specs.KeptData.{Kept}
use Rattle.vx_steps.specs.LeafColumns.{seen_data, unmarked, StoresLeaves}
use Rattle.vx_steps.specs.LeavesData.{LeavesData}
use Rattle.vx_steps.specs.PlanMarks.{is_marked}
use Rattle.vx_steps.proofs.Indexing.{on_err}
use Rattle.vx_steps.proofs.Storing.{leaves_same, none_of, seen_last, stores_last, stores_same, unmarked_last, unmarked_same}
use Rattle.vx_steps.proofs.leaf_columns.LeafColumns.keep_shared.Goals as goal

pub keep_shared-requires : goal.keep_shared-requires
keep_shared-requires c =
    let inside = c.self.inside in
    let N : LeavesData → Type 0 = λ leaves. kept_at leaves.all c.args.node ≡ None in
    none_of inside.gone (map kept_data inside.handed.value.items ++ map seen_data inside.decoded.items) inside.kept c.args.node c.self.invariant.stored (subst N (sym c.self.view_is) c.requires)

pub invariant_of-self : goal.invariant_of-self
invariant_of-self c =
    let inside = c.self.inside in
    stores_same inside.gone c.reach.new.self (map kept_data inside.handed.value.items ++ map seen_data inside.decoded.items) inside.kept inside.ready c.in_err-reach.ensures.kept c.self.invariant

pub returns-in_err-reach-clause-as_before : goal.returns-in_err-reach-clause-as_before
returns-in_err-reach-clause-as_before c =
    let inside = c.self.inside in
    on_err c.from_residual.result (record { all = map kept_data inside.handed.value.items ++ map seen_data inside.decoded.items; here = unmarked c.reach.new.self inside.kept; ready = inside.ready } ≡ c.args.self.now) (leaves_same (record { all = map kept_data inside.handed.value.items ++ map seen_data inside.decoded.items; here = unmarked c.reach.new.self inside.kept; ready = inside.ready }) (record { all = map kept_data inside.handed.value.items ++ map seen_data inside.decoded.items; here = unmarked inside.gone inside.kept; ready = inside.ready }) refl (unmarked_same inside.gone c.reach.new.self inside.kept c.in_err-reach.ensures.kept) refl ∙ c.self.view_is)

pub invariant_of-self-in_err-push : goal.invariant_of-self-in_err-push
invariant_of-self-in_err-push c =
    let inside = c.self.inside in
    let handed : List Kept = map kept_data inside.handed.value.items in
    let same : c.push.new.self.items ≡ inside.decoded.items = grind (arith, common_steps) in
    let S : List SeenColumn → Type 0 = λ seen. StoresLeaves c.reach.new.self (handed ++ map seen_data seen) inside.kept inside.ready in
    subst S (sym same) (stores_same inside.gone c.reach.new.self (map kept_data inside.handed.value.items ++ map seen_data inside.decoded.items) inside.kept inside.ready c.in_ok-reach.ensures.kept c.self.invariant)

pub returns-in_err-push-clause-as_before : goal.returns-in_err-push-clause-as_before
returns-in_err-push-clause-as_before c =
    let inside = c.self.inside in
    let handed : List Kept = map kept_data inside.handed.value.items in
    let same : c.push.new.self.items ≡ inside.decoded.items = grind (arith, common_steps) in
    on_err c.from_residual-in_err-push.result (record { all = handed ++ map seen_data c.push.new.self.items; here = unmarked c.reach.new.self inside.kept; ready = inside.ready } ≡ c.args.self.now) (leaves_same (record { all = handed ++ map seen_data c.push.new.self.items; here = unmarked c.reach.new.self inside.kept; ready = inside.ready }) (record { all = map kept_data inside.handed.value.items ++ map seen_data inside.decoded.items; here = unmarked inside.gone inside.kept; ready = inside.ready }) (ap (λ (seen : List SeenColumn). handed ++ map seen_data seen) same) (unmarked_same inside.gone c.reach.new.self inside.kept c.in_ok-reach.ensures.kept) refl ∙ c.self.view_is)

pub invariant_of-self-then-is_err : goal.invariant_of-self-then-is_err
invariant_of-self-then-is_err c =
    let inside = c.self.inside in
    let handed : List Kept = map kept_data inside.handed.value.items in
    let same : c.pop.new.self.items ≡ inside.decoded.items = grind (arith, common_steps) in
    let stored : c.keep_shared.new.self ≡ inside.kept = grind (arith, common_steps) in
    let S : List SeenColumn → Type 0 = λ seen. StoresLeaves c.reach.new.self (handed ++ map seen_data seen) c.keep_shared.new.self inside.ready in
    let K : List Kept → Type 0 = λ kept. StoresLeaves c.reach.new.self (map kept_data inside.handed.value.items ++ map seen_data inside.decoded.items) kept inside.ready in
    subst S (sym same) (subst K (sym stored) (stores_same inside.gone c.reach.new.self (map kept_data inside.handed.value.items ++ map seen_data inside.decoded.items) inside.kept inside.ready c.in_ok-reach.ensures.kept c.self.invariant))

pub returns-then-is_err-clause-as_before : goal.returns-then-is_err-clause-as_before
returns-then-is_err-clause-as_before c =
    let inside = c.self.inside in
    let handed : List Kept = map kept_data inside.handed.value.items in
    let same : c.pop.new.self.items ≡ inside.decoded.items = grind (arith, common_steps) in
    let stored : c.keep_shared.new.self ≡ inside.kept = grind (arith, common_steps) in
    leaves_same (record { all = handed ++ map seen_data c.pop.new.self.items; here = unmarked c.reach.new.self c.keep_shared.new.self; ready = inside.ready }) (record { all = map kept_data inside.handed.value.items ++ map seen_data inside.decoded.items; here = unmarked inside.gone inside.kept; ready = inside.ready }) (ap (λ (seen : List SeenColumn). handed ++ map seen_data seen) same) (ap (unmarked c.reach.new.self) stored ∙ unmarked_same inside.gone c.reach.new.self inside.kept c.in_ok-reach.ensures.kept) refl ∙ c.self.view_is

pub invariant_of-self-else-is_err : goal.invariant_of-self-else-is_err
invariant_of-self-else-is_err c =
    let inside = c.self.inside in
    let handed : List Kept = map kept_data inside.handed.value.items in
    let one : Kept = record { node = c.args.node; column = c.args.column } in
    let all : handed ++ map seen_data c.push.new.self.items ≡ (map kept_data inside.handed.value.items ++ map seen_data inside.decoded.items) ++ one ∷ [] =
    ap (λ (seen : List SeenColumn). handed ++ map seen_data seen) c.in_ok-push.ensures.items ∙ (seen_last handed inside.decoded.items _ ∙ ap (λ (column : ColumnData). (map kept_data inside.handed.value.items ++ map seen_data inside.decoded.items) ++ record { node = c.args.node; column = column } ∷ []) c.of.ensures) in
    let stored : c.keep_shared.new.self ≡ inside.kept ++ one ∷ [] = grind (arith, common_steps) in
    let S : List Kept → Type 0 = λ seen. StoresLeaves c.reach.new.self seen c.keep_shared.new.self inside.ready in
    let K : List Kept → Type 0 = λ kept. StoresLeaves c.reach.new.self ((map kept_data inside.handed.value.items ++ map seen_data inside.decoded.items) ++ one ∷ []) kept inside.ready in
    subst S (sym all) (subst K (sym stored) (stores_last c.reach.new.self (map kept_data inside.handed.value.items ++ map seen_data inside.decoded.items) inside.kept inside.ready one c.in_ok-reach.ensures.there (stores_same inside.gone c.reach.new.self (map kept_data inside.handed.value.items ++ map seen_data inside.decoded.items) inside.kept inside.ready c.in_ok-reach.ensures.kept c.self.invariant)))

pub returns-clause-kept : goal.returns-clause-kept
returns-clause-kept c =
    let inside = c.self.inside in
    let handed : List Kept = map kept_data inside.handed.value.items in
    let one : Kept = record { node = c.args.node; column = c.args.column } in
    let all : handed ++ map seen_data c.push.new.self.items ≡ (map kept_data inside.handed.value.items ++ map seen_data inside.decoded.items) ++ one ∷ [] =
    ap (λ (seen : List SeenColumn). handed ++ map seen_data seen) c.in_ok-push.ensures.items ∙ (seen_last handed inside.decoded.items _ ∙ ap (λ (column : ColumnData). (map kept_data inside.handed.value.items ++ map seen_data inside.decoded.items) ++ record { node = c.args.node; column = column } ∷ []) c.of.ensures) in
    let stored : c.keep_shared.new.self ≡ inside.kept ++ one ∷ [] = grind (arith, common_steps) in
    let N : LeavesData → Type 0 = λ leaves. kept_at leaves.all c.args.node ≡ None in
    let free : is_marked c.reach.new.self c.args.node ≡ false = c.in_ok-reach.ensures.kept.same c.args.node ∙ c.self.invariant.seen c.args.node (subst N (sym c.self.view_is) c.requires) in
    record {
      all = all ∙ ap (λ (leaves : LeavesData). leaves.all ++ one ∷ []) c.self.view_is;
      here =
          ap (unmarked c.reach.new.self) stored
          ∙ (unmarked_last c.reach.new.self inside.kept one free
          ∙ (ap (λ (kept : List Kept). kept ++ one ∷ []) (unmarked_same inside.gone c.reach.new.self inside.kept c.in_ok-reach.ensures.kept) ∙ ap (λ (leaves : LeavesData). leaves.here ++ one ∷ []) c.self.view_is));
      ready = ap (λ (leaves : LeavesData). leaves.ready) c.self.view_is;
    }
