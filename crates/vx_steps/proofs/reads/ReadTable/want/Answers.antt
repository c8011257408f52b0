use Rattle.std.proofs.Common.{◌≡◌, ℕ, ◌<◌, ◌≤◌, ◌==◌, cond, inl, [], ◌∷◌, ◌++◌, List, Some, None, false, length, refl, sym, subst, arith, map}
use Rattle.std.proofs.lemmas.Grind.{common_steps}
use Rattle.std.specs.BTreeMap.{get}
use Rattle.std.specs.List.{slice_get}
use Rattle.std.specs.Ordering.{nat_cmp}
use Rattle.vx_steps.specs.declared.reads.WantedSegment.{WantedSegment}
use Rattle.vx_steps.specs.ReadTable.{AreReads, IsGone, IsNamed}
use Rattle.vx_steps.specs.ReadTableData.{Stored, Wanted, stored_data, wanted_data}
use Rattle.vx_steps.proofs.WantedReads.{changed_named, changed_still, item_at, kept_gone, one_more, place_inside, pushed_gone, pushed_named, pushed_still, same_item, same_set, stands_is, stored_at, stored_set, wanted_at}
use Rattle.vx_steps.proofs.reads.ReadTable.want.Goals as goal
use Rattle.vx_steps.proofs.Keeping.{got_new}

pub index-requires : goal.index-requires
index-requires c =
    let inside : c.in-Some.place < length c.self.inside.wanted.items = place_inside c.self.inside.places c.self.inside.wanted.items c.self.inside.handed c.self.invariant c.args.segment c.in-Some.place (sym c.in-Some.ensures) in
    grind (arith, common_steps)

pub index_mut-requires : goal.index_mut-requires
index_mut-requires c =
    let inside : c.in-Some.place < length c.self.inside.wanted.items = place_inside c.self.inside.places c.self.inside.wanted.items c.self.inside.handed c.self.invariant c.args.segment c.in-Some.place (sym c.in-Some.ensures) in
    grind (arith, common_steps)

pub invariant_of-self : goal.invariant_of-self
invariant_of-self c =
    let ws = c.self.inside.wanted.items in
    let place = c.in-Some.place in
    let w = c.index_mut.result.now in
    let v : WantedSegment = record { segment = w.segment; bytes = w.bytes; last = c.args.need } in
    let inside : place < length ws = place_inside c.self.inside.places ws c.self.inside.handed c.self.invariant c.args.segment place (sym c.in-Some.ensures) in
    let P : List Wanted → Type 0 = λ wanted. AreReads c.self.inside.places wanted c.self.inside.handed in
    subst P (sym (same_set wanted_data ws place v w (item_at ws place w inside c.index_mut.ensures.value) refl)) c.self.invariant

pub returns-then-index-need-clause-wanted : goal.returns-then-index-need-clause-wanted
returns-then-index-need-clause-wanted c =
    let ws = c.self.inside.wanted.items in
    let place = c.in-Some.place in
    let w = c.index_mut.result.now in
    let v : WantedSegment = record { segment = w.segment; bytes = w.bytes; last = c.args.need } in
    let inside : place < length ws = place_inside c.self.inside.places ws c.self.inside.handed c.self.invariant c.args.segment place (sym c.in-Some.ensures) in
    rw (← c.self.view_is) (inl ((place, c.self.invariant.stands c.args.segment place (sym c.in-Some.ensures)), same_set wanted_data ws place v w (item_at ws place w inside c.index_mut.ensures.value) refl))

pub returns-then-index-need-clause-named : goal.returns-then-index-need-clause-named
returns-then-index-need-clause-named c =
    let ws = c.self.inside.wanted.items in
    let place = c.in-Some.place in
    let w = c.index_mut.result.now in
    let v : WantedSegment = record { segment = w.segment; bytes = w.bytes; last = c.args.need } in
    let inside : place < length ws = place_inside c.self.inside.places ws c.self.inside.handed c.self.invariant c.args.segment place (sym c.in-Some.ensures) in
    let is : w.segment ≡ c.args.segment = stands_is (map wanted_data ws) c.args.segment place (wanted_data w) (wanted_at ws place w inside c.index_mut.ensures.value) (c.self.invariant.stands c.args.segment place (sym c.in-Some.ensures)) in
    let own : c.args.need ≤ c.args.need = omega arith in
    (place, stored_data v, stored_set ws place v w (item_at ws place w inside c.index_mut.ensures.value), is, own)

pub returns-then-index-need-clause-stored : goal.returns-then-index-need-clause-stored
returns-then-index-need-clause-stored c =
    let ws = c.self.inside.wanted.items in
    let place = c.in-Some.place in
    let w = c.index_mut.result.now in
    let u = c.index.result.now in
    let v : WantedSegment = record { segment = w.segment; bytes = w.bytes; last = c.args.need } in
    let inside : place < length ws = place_inside c.self.inside.places ws c.self.inside.handed c.self.invariant c.args.segment place (sym c.in-Some.ensures) in
    let at = item_at ws place w inside c.index_mut.ensures.value in
    let before : slice_get ws place ≡ Some u = item_at ws place u inside c.index.ensures in
    let G : WantedSegment → Type 0 = λ x. x.last ≤ c.args.need in
    let same = same_item ws place u w before at in
    let less : u.last ≤ c.args.need = omega arith in
    rw (← c.self.view_is) (record {
      named = λ segment n named. changed_named ws place v w at refl (subst G same less) segment n named;
      gone = λ segment gone. kept_gone ws place v w at refl refl segment gone;
      still_gone = λ segment gone. changed_still ws place v w at refl (λ e. e) segment gone;
      passed = refl;
    })

pub returns-else-index-need-clause-wanted : goal.returns-else-index-need-clause-wanted
returns-else-index-need-clause-wanted c = rw (← c.self.view_is) (inl ((c.in-Some.place, c.self.invariant.stands c.args.segment c.in-Some.place (sym c.in-Some.ensures)), refl))

pub returns-else-index-need-clause-named : goal.returns-else-index-need-clause-named
returns-else-index-need-clause-named c =
    let ws = c.self.inside.wanted.items in
    let place = c.in-Some.place in
    let w = c.index.result.now in
    let inside : place < length ws = place_inside c.self.inside.places ws c.self.inside.handed c.self.invariant c.args.segment place (sym c.in-Some.ensures) in
    let is : w.segment ≡ c.args.segment = stands_is (map wanted_data ws) c.args.segment place (wanted_data w) (wanted_at ws place w inside c.index.ensures) (c.self.invariant.stands c.args.segment place (sym c.in-Some.ensures)) in
    let less : c.args.need ≤ w.last = omega arith in
    (place, stored_data w, stored_at ws place w inside c.index.ensures, is, less)

pub invariant_of-self-2 : goal.invariant_of-self-2
invariant_of-self-2 c =
    let wanted = map wanted_data c.self.inside.wanted.items in
    let put : (n : ℕ) → get nat_cmp c.insert.new.self n ≡ cond (c.args.segment == n) (Some (length wanted)) (get nat_cmp c.self.inside.places n) = λ n. grind (arith, common_steps) in
    let none : get nat_cmp c.self.inside.places c.args.segment ≡ None = grind (arith, common_steps) in
    let all = one_more c.self.inside.places c.insert.new.self wanted c.self.inside.handed c.args.segment c.self.invariant none put in
    let more : map wanted_data c.push.new.self.items ≡ wanted ++ record { segment = c.args.segment; bytes = None } ∷ [] = grind (arith, common_steps) in
    rw more all

pub returns-clause-named : goal.returns-clause-named
returns-clause-named c =
    let stored = map stored_data c.self.inside.wanted.items in
    let one : Stored = record { segment = c.args.segment; gone = false; last = c.args.need } in
    let more : map stored_data c.push.new.self.items ≡ stored ++ record { segment = c.args.segment; gone = false; last = c.args.need } ∷ [] = grind (arith, common_steps) in
    let own : c.args.need ≤ c.args.need = omega arith in
    let P : List Stored → Type 0 = λ st. IsNamed st c.args.segment c.args.need in
    let here : P (stored ++ one ∷ []) = (length stored, one, got_new stored one, refl, own) in
    subst P (sym more) here

pub returns-clause-stored : goal.returns-clause-stored
returns-clause-stored c =
    let stored = map stored_data c.self.inside.wanted.items in
    let one : Stored = record { segment = c.args.segment; gone = false; last = c.args.need } in
    let more : map stored_data c.push.new.self.items ≡ stored ++ record { segment = c.args.segment; gone = false; last = c.args.need } ∷ [] = grind (arith, common_steps) in
    rw (← c.self.view_is) (record {
      named = λ segment n named. subst (λ (st : List Stored). IsNamed st segment n) (sym more) (pushed_named stored one segment n named);
      gone = λ segment gone. pushed_gone stored one refl segment (subst (λ (st : List Stored). IsGone st segment) more gone);
      still_gone = λ segment gone. subst (λ (st : List Stored). IsGone st segment) (sym more) (pushed_still stored one segment gone);
      passed = refl;
    })
