use Rattle.std.proofs.Common.{length, ap, arith}
use Rattle.std.proofs.lemmas.List.{length-map}
use Rattle.vx_base.specs.Names.{names_in}
use Rattle.vx_base.specs.Views.{members_of}
use Rattle.vx_layout.specs.Kept.{is_kept, only}
use Rattle.vx_lower.proofs.KeptTerms.{names_count}
use Rattle.vx_lower.proofs.keeping.pack_of.Goals as goal

pub kept_items-requires : goal.kept_items-requires
kept_items-requires c =
    let fields = c.args.fields.now in
    omega (arith, ap length c.requires.flags, length-map (names_in (members_of fields)) (is_kept (only c.args.names.now)), names_count fields)
