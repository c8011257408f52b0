use Rattle.std.proofs.Common.{◌≡◌, ℕ, ◌<◌, ◌≤◌, List, inl, inr, ⊎_elim, length, map, refl, sym, ap, ◌∙◌, subst, true, arith}
use Rattle.std.proofs.lemmas.Grind.{common_steps}
use Rattle.std.proofs.lemmas.Option.{none-some}
use Rattle.std.specs.Prelude.{Option}
use Rattle.vx_steps.specs.declared.reads.WantedSegment.{WantedSegment}
use Rattle.vx_steps.specs.ReadTable.{AreReads, IsGone}
use Rattle.vx_steps.specs.ReadTableData.{Wanted, is_gone, stored_data, wanted_data}
use Rattle.vx_steps.proofs.WantedReads.{bytes_none, came_at, changed_gone, changed_named, changed_still, gone_came, item_at, place_inside, same_set, stands_is, stored_set, wanted_at}
use Rattle.vx_steps.proofs.reads.ReadTable.let_go.Goals as goal

pub index_mut-requires : goal.index_mut-requires
index_mut-requires c =
    let inside : c.in-Some.place < length c.self.inside.wanted.items = place_inside c.self.inside.places c.self.inside.wanted.items c.self.inside.handed c.self.invariant c.args.segment c.in-Some.place (sym c.in-Some.ensures) in
    grind (arith, common_steps)

pub invariant_of-self : goal.invariant_of-self
invariant_of-self c =
    let ws = c.self.inside.wanted.items in
    let place = c.in-Some.place in
    let w = c.index_mut.result.now in
    let v : WantedSegment = record { segment = w.segment; bytes = c.let_go.new.self; last = w.last } in
    let inside : place < length ws = place_inside c.self.inside.places ws c.self.inside.handed c.self.invariant c.args.segment place (sym c.in-Some.ensures) in
    let P : List Wanted → Type 0 = λ wanted. AreReads c.self.inside.places wanted c.self.inside.handed in
    subst P (sym (same_set wanted_data ws place v w (item_at ws place w inside c.index_mut.ensures.value) (ap (λ (b : Option (List ℕ)). record { segment = w.segment; bytes = b }) c.let_go.ensures.bytes))) c.self.invariant

pub returns-in-Some : goal.returns-in-Some
returns-in-Some c =
    let ws = c.self.inside.wanted.items in
    let place = c.in-Some.place in
    let w = c.index_mut.result.now in
    let v : WantedSegment = record { segment = w.segment; bytes = c.let_go.new.self; last = w.last } in
    let inside : place < length ws = place_inside c.self.inside.places ws c.self.inside.handed c.self.invariant c.args.segment place (sym c.in-Some.ensures) in
    let at = item_at ws place w inside c.index_mut.ensures.value in
    let own : w.last ≤ w.last = omega arith in
    let is : w.segment ≡ c.args.segment = stands_is (map wanted_data ws) c.args.segment place (wanted_data w) (wanted_at ws place w inside c.index_mut.ensures.value) (c.self.invariant.stands c.args.segment place (sym c.in-Some.ensures)) in
    rw (← c.self.view_is) (record {
      wanted = same_set wanted_data ws place v w at (ap (λ (b : Option (List ℕ)). record { segment = w.segment; bytes = b }) c.let_go.ensures.bytes);
      handed = refl;
      passed = refl;
      named = λ segment n named. changed_named ws place v w at refl own segment n named;
      gone = λ s gone. ⊎_elim
          (λ (g : IsGone (map stored_data ws) s). inl g)
          (λ (e : (w.segment ≡ s) × (is_gone c.let_go.new.self ≡ true)). inr (sym is ∙ e.0))
          (changed_gone ws place v w at s gone);
      still_gone = λ s gone. changed_still ws place v w at refl (λ e. c.let_go.ensures.gone ∙ gone_came w.bytes e) s gone;
      let_go = λ bytes e. (place, stored_data v, stored_set ws place v w at, is, c.let_go.ensures.gone ∙ came_at c.self.inside.places ws c.self.inside.handed c.self.invariant c.args.segment place w (sym c.in-Some.ensures) at bytes e);
    })

pub returns-in_default : goal.returns-in_default
returns-in_default c =
    let none = bytes_none c.self.inside.places (map wanted_data c.self.inside.wanted.items) c.self.inside.handed c.self.invariant c.args.segment (sym c.in_default.ensures) in
    rw (← c.self.view_is) (record {
      wanted = refl;
      handed = refl;
      passed = refl;
      named = λ s n named. named;
      gone = λ s gone. inl gone;
      still_gone = λ s gone. gone;
      let_go = λ bytes came. absurd (none-some bytes (sym none ∙ came));
    })
