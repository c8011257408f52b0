use Rattle.std.proofs.Common.{rules, ◌≡◌, ◌∙◌, List, [], ap, length, map, sym, subst}
use Rattle.std.proofs.lemmas.List.{nil_from_length}
use Rattle.vx_steps.specs.declared.jobs.Progress.{Progress}
use Rattle.vx_steps.specs.Held.{FitsOffset}
use Rattle.vx_steps.specs.KeptData.{Kept}
use Rattle.vx_steps.specs.ScanData.{ScanData, StaysTold}
use Rattle.vx_steps.specs.Standings.{split_left, standing_of}
use Rattle.vx_steps.proofs.Beginning.{none_mapped, scan_offset, told_with_offset}
use Rattle.vx_steps.proofs.scan.Scan.with_row_offset.Goals as goal

pub invariant_of-self : goal.invariant_of-self
invariant_of-self c =
    let inside = c.self.inside in
    let nodes = inside.table.now in
    let F : ScanData → Type 0 = λ scan. FitsOffset scan.nodes c.args.offset in
    let is : c.hand_in_made.new.self ≡ record inside.progress { wholes = record inside.progress.wholes { made = [] } } =
    c.hand_in_made.ensures ∙ ap (λ (made : List Kept). record inside.progress { wholes = record inside.progress.wholes { made = made } }) c.new-made.ensures in
    let count : length inside.progress.active.items ≡ 0 = search rules in
    scan_offset nodes inside.job inside.progress c.hand_in_made.new.self inside.refused c.args.offset (nil_from_length inside.progress.active.items count) (subst F (sym c.self.view_is) c.requires) is c.self.invariant

pub returns-clause-told : goal.returns-clause-told
returns-clause-told c =
    let inside = c.self.inside in
    let before : ScanData = record { nodes = inside.table.now; job = inside.job; progress = standing_of inside.progress; refused = inside.refused } in
    let after : ScanData = record before { job = record inside.job { offset = c.args.offset }; progress = standing_of c.hand_in_made.new.self } in
    let is : c.hand_in_made.new.self ≡ record inside.progress { wholes = record inside.progress.wholes { made = [] } } =
    c.hand_in_made.ensures ∙ ap (λ (made : List Kept). record inside.progress { wholes = record inside.progress.wholes { made = made } }) c.new-made.ensures in
    subst (λ (scan : ScanData). StaysTold scan after) c.self.view_is
    (told_with_offset before after c.args.offset (ap (λ (progress : Progress). record before { job = record inside.job { offset = c.args.offset }; progress = standing_of progress }) is))

pub returns-clause-active : goal.returns-clause-active
returns-clause-active c =
    let count : length c.self.inside.progress.active.items ≡ 0 = search rules in
    let P : ScanData → Type 0 = λ scan. scan.progress.started ≡ [] in
    λ some. absurd (some (subst P c.self.view_is (ap (map split_left) (nil_from_length c.self.inside.progress.active.items count))))

pub returns-then-not-is_empty-clause-scan : goal.returns-then-not-is_empty-clause-scan
returns-then-not-is_empty-clause-scan c =
    let some : length c.self.inside.progress.active.items ≡ 0 → ⊥ = search rules in
    let P : ScanData → Type 0 = λ scan. scan.progress.started ≡ [] → ⊥ in
    λ none. absurd (subst P c.self.view_is (λ e. some (ap length (none_mapped split_left c.self.inside.progress.active.items e))) none)
