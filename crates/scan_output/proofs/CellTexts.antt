-- The texts of structs whose values stand in their parts.
use Rattle.std.proofs.Common.{◌≡◌, ℕ, ◌<◌, ◌≤◌, List, [], ◌++◌, length, get_or, refl, sym, ap, ◌∙◌, append_assoc, codes}
use Rattle.std.proofs.lemmas.List.{append-nil}
use Rattle.vx_base.proofs.StructItems.{struct_found, struct_past}
use Rattle.scan_output.specs.RowText.{fields_text, row_text}
use Rattle.vx_base.specs.declared.dtypes.DType.{DType}
use Rattle.vx_base.specs.declared.dtypes.DType.TheVariants as variants
use Rattle.vx_base.specs.declared.dtypes.Nullability.{Nullability}
use Rattle.vx_base.specs.Views.{data_type}
use Rattle.vx_base.specs.Cells.{struct_at}
use Rattle.vx_base.specs.Data.{DataType, struct_type, Members, Datum, structure, Items, no_items}

-- braces round the fields
pub struct_written : (ms : Members) (n : Nullability) (rows : List Items) (row : ℕ) (before opened filled closed : List ℕ) → row < length rows → opened ≡ before ++ codes "{" → filled ≡ opened ++ fields_text 0 ms (struct_at rows row) → closed ≡ filled ++ codes "}" → closed ≡ before ++ row_text (struct_type ms n) (struct_at rows row)
struct_written ms n rows row before opened filled closed lt opening fill close =
    let vs = get_or rows row no_items in
    let is = struct_found rows row lt in
    let fields : List ℕ = fields_text 0 ms (structure vs) in
    close
    ∙ ap (λ (f : List ℕ). f ++ codes "}") (fill ∙ ap (λ (v : Datum). opened ++ fields_text 0 ms v) is ∙ ap (λ (o : List ℕ). o ++ fields) opening)
    ∙ append_assoc (before ++ codes "{") fields (codes "}")
    ∙ append_assoc before (codes "{") (fields ++ codes "}")
    ∙ ap (λ (v : Datum). before ++ row_text (struct_type ms n) v) (sym is)

-- under another dtype a struct has no text
no_text : (d : DType) (vs : Items) → ((ms : Members) (n : Nullability) → d ≡ variants.Struct ms n → ⊥) → row_text (data_type d) (structure vs) ≡ []
no_text (variants.Bool n) vs h = refl
no_text (variants.Int kind n) vs h = refl
no_text (variants.Utf8 n) vs h = refl
no_text (variants.Struct ms n) vs h = absurd (h ms n refl)
no_text (variants.List t n) vs h = refl

pub other_text : (d : DType) (rows : List Items) (row : ℕ) (out : List ℕ) → ((ms : Members) (n : Nullability) → d ≡ variants.Struct ms n → ⊥) → row < length rows → out ≡ out ++ row_text (data_type d) (struct_at rows row)
other_text d rows row out h lt = sym (append-nil out) ∙ ap (λ (text : List ℕ). out ++ text) (sym (ap (row_text (data_type d)) (struct_found rows row lt) ∙ no_text d (get_or rows row no_items) h))

pub past_text : (t : DataType) (rows : List Items) (row : ℕ) → length rows ≤ row → row_text t (struct_at rows row) ≡ codes "null"
past_text t rows row past = ap (row_text t) (struct_past rows row past)
