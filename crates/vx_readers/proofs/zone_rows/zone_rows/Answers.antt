use Rattle.std.proofs.Common.{◌+◌, ◌-◌, ◌%◌, ◌≤◌, refl, sym, ap, ◌∙◌, arith}
use Rattle.std.specs.Prelude.{Some}
use Rattle.vx_readers.proofs.AlikeZones.{alike_anew, alike_still}
use Rattle.vx_readers.proofs.zone_rows.zone_rows.Goals as goal
use Rattle.vx_readers.proofs.zone_rows.zone_rows.Goals.{then-next-is+in_ok-rows-2, else-next-is}

pub zones-preserved : goal.zones-preserved
zones-preserved c =
    let small : c.min-here.result ≤ c.args.zone_len - c.zones.row % c.args.zone_len = omega (arith, c.min-here.ensures) in
    let inside : c.zones.row + c.min-here.result ≤ c.args.start + c.args.count = omega (arith, c.min-here.ensures, c.zones-test.true) in
    record {
      from = omega (arith, c.zones.invariant.from);
      to = inside;
      alike = elim c.if-next-is.branch [
        | then-next-is+in_ok-rows-2 w ↦ omega (arith, w.alike-is, c.zones.invariant.from)
        | else-next-is w ↦ omega (arith, w.alike-is, c.zones.invariant.from, c.zones.invariant.alike)
      ];
      rows = elim c.if-next-is.branch [
        | then-next-is+in_ok-rows-2 w ↦ alike_anew c.args.zones.now c.zones.rows c.if-next-is.rows c.args.zone_len c.args.start c.zones.row c.min-here.result c.zones.alike (c.zones.row + c.min-here.result) (c.if-next-is.alike + c.min-here.result) c.zones.is c.if-next-is.is c.requires.some c.zones.invariant.from small (c.value-next.ensures ∙ ap Some (sym w.is-is)) refl (omega (arith, w.alike-is)) (w.rows-is ∙ w.in_ok-rows-2.ensures) c.zones.invariant.rows
        | else-next-is w ↦ alike_still c.args.zones.now c.zones.rows c.if-next-is.rows c.args.zone_len c.args.start c.zones.row c.min-here.result c.zones.alike c.if-next-is.alike c.value-next.result c.zones.is c.if-next-is.is c.requires.some c.zones.invariant.from small c.value-next.ensures w.if-next-is.false w.rows-is w.alike-is w.is-is c.zones.invariant.rows
      ];
    }
