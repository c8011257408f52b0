-- What stands before the fields of structs, written once for all rows.
use Rattle.std.specs.Prelude.{ℕ, suc, List, [], ◌∷◌, ◌++◌, length}
use Rattle.scan_output.specs.declared.field_leads.Lead.{Lead}
use Rattle.scan_output.specs.RowText.{lead}
use Rattle.vx_base.specs.Data.{DataType, bool_type, int_type, utf8_type, struct_type, list_type, Members, no_members, member}

-- the text before a field's value, and how many of the leads behind it are of fields inside that value
pub record LeadData : Type 0 where
  pub text : List ℕ
  pub inside : ℕ

abbrev pub lead_data : Lead → LeadData
lead_data one = record { text = one.text.items; inside = one.inside }

-- the leads of a struct's fields, each with those inside it behind it; other dtypes have none
abbrev mutual
  pub leads_in : DataType → List LeadData
  leads_in (bool_type n) = []
  leads_in (int_type kind n) = []
  leads_in (utf8_type n) = []
  leads_in (struct_type ms n) = leads_from 0 ms
  leads_in (list_type t n) = []

  -- those of fields, the first of which is at the given place
  pub leads_from : ℕ → Members → List LeadData
  leads_from place no_members = []
  leads_from place (member name t ms) = record { text = lead place name; inside = length (leads_in t) } ∷ (leads_in t ++ leads_from (suc place) ms)
