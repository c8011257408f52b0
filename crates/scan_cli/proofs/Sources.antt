-- Sources of which nothing was asked, and sources that have no file.
use Rattle.std.proofs.Common.{◌≡◌, ℕ, zero, suc, ◌+◌, List, [], ◌∷◌, ◌++◌, map, refl, ap, ◌∙◌, arith}
use Rattle.std.proofs.lemmas.List.{map-append}
use Rattle.std.specs.List.{AllByRecursion}
use Rattle.vx_base.specs.FileSources.{file_state}
use Rattle.vx_base.specs.Sources.{SourceState}
use Rattle.vx_base.specs.declared.file_sources.FileSource.{FileSource}
use Rattle.scan_cli.specs.Files.{are_unasked, unasked, HasNoFile}

one_behind : (count : ℕ) → are_unasked count ++ unasked ∷ [] ≡ are_unasked (suc count)
one_behind zero = refl
one_behind (suc count) = ap (λ (states : List SourceState). unasked ∷ states) (one_behind count)

-- one more behind so many
pub one_more : (sources : List FileSource) (source : FileSource) (count : ℕ) → map file_state sources ≡ are_unasked count → file_state source ≡ unasked → map file_state (sources ++ source ∷ []) ≡ are_unasked (count + 1)
one_more sources source count are is =
    let next : suc count ≡ count + 1 = omega arith in
    map-append file_state sources (source ∷ []) ∙ ap (λ (states : List SourceState). states ++ file_state source ∷ []) are ∙ ap (λ (state : SourceState). are_unasked count ++ state ∷ []) is ∙ one_behind count ∙ ap are_unasked next

pub one_more_without : (sources : List FileSource) (source : FileSource) → AllByRecursion HasNoFile sources → HasNoFile source → AllByRecursion HasNoFile (sources ++ source ∷ [])
one_more_without [] source are is = (is, tt)
one_more_without (first ∷ sources) source are is = (are.0, one_more_without sources source are.1 is)
