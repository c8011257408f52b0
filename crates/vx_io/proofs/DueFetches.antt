-- How many fetches end where each poll with a fetch in flight ends one.
use Rattle.std.proofs.Common.{◌≡◌, ℕ, zero, suc, ◌+◌, ◌<◌, List, [], ◌∷◌, ◌++◌, length, refl, ap, arith}
use Rattle.std.proofs.lemmas.List.Concat.{flat_map-cons}
use Rattle.std.proofs.lemmas.List.{length-append}
use Rattle.vx_io.specs.declared.commands.IoCommand.{IoCommand}
use Rattle.vx_io.specs.declared.commands.IoCommand.TheVariants.{Submit, Poll}
use Rattle.vx_io.specs.Drive.{wanted_of, fetches_in, completions_due}

-- how many are in flight behind the commands
abbrev pub left : ℕ → List IoCommand → ℕ
left n [] = n
left n (Submit owner batch ∷ commands) = left (n + length (wanted_of (Submit owner batch))) commands
left zero (Poll ∷ commands) = left zero commands
left (suc n) (Poll ∷ commands) = left n commands

-- each fetch that was in flight or submitted ended or is left
pub due_or_left : (n : ℕ) (commands : List IoCommand) → n + length (fetches_in commands) ≡ completions_due n commands + left n commands
due_or_left n [] = omega arith
due_or_left n (Submit owner batch ∷ commands) =
    let rest = due_or_left (n + length (wanted_of (Submit owner batch))) commands in
    let joined = ap length (flat_map-cons wanted_of (Submit owner batch) commands) in
    let sum = length-append (wanted_of (Submit owner batch)) (fetches_in commands) in
    omega (arith, rest, joined, sum)
due_or_left zero (Poll ∷ commands) = let rest = due_or_left zero commands in let joined = ap length (flat_map-cons wanted_of Poll commands) in omega (arith, rest, joined)
due_or_left (suc n) (Poll ∷ commands) = let rest = due_or_left n commands in let joined = ap length (flat_map-cons wanted_of Poll commands) in omega (arith, rest, joined)

pub due_more : (n : ℕ) (commands : List IoCommand) (command : IoCommand) → completions_due n (commands ++ command ∷ []) ≡ completions_due n commands + completions_due (left n commands) (command ∷ [])
due_more n [] command = omega arith
due_more n (Submit owner batch ∷ commands) command = due_more (n + length (wanted_of (Submit owner batch))) commands command
due_more zero (Poll ∷ commands) command = due_more zero commands command
due_more (suc n) (Poll ∷ commands) command = let rest = due_more n commands command in omega (arith, rest)

pub due_submit : (n : ℕ) (owner : _) (batch : _) → completions_due n (Submit owner batch ∷ []) ≡ 0
due_submit n owner batch = refl

pub due_poll_none : (n : ℕ) → n ≡ 0 → completions_due n (Poll ∷ []) ≡ 0
due_poll_none zero none = refl
due_poll_none (suc n) none = absurd (omega (arith, none))

pub due_poll_some : (n : ℕ) → 0 < n → completions_due n (Poll ∷ []) ≡ 1
due_poll_some zero some = absurd (omega (arith, some))
due_poll_some (suc n) some = omega arith
