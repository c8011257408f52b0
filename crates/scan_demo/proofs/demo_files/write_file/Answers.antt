use Rattle.std.proofs.Common.{ℕ, subst}
use Rattle.scan_demo.specs.DemoNodes.{nodes_with}
use Rattle.scan_demo.specs.Flats.{demo_flats}
use Rattle.scan_demo.specs.Writing.{Wrote}
use Rattle.scan_demo.proofs.Written.{wrote_demo}
use Rattle.scan_demo.proofs.demo_files.write_file.Goals as goal

pub returns : goal.returns
returns c =
    subst (λ (chunks : ℕ). Wrote c.args.writer.now c.push_chunked-3.new.self (nodes_with c.args.number chunks) (demo_flats c.args.number)) c.div_ceil-chunks.ensures
    (wrote_demo c.args.number c.args.writer.now c.push_root.new.writer c.push_chunked.new.self c.push_dictionary.new.writer c.push_chunked-2.new.self c.push_chunked-3.new.self _ _ _ _ _
    c.in_ok-push_root.ensures c.in_ok-push_chunked.ensures c.in_ok-push_dictionary.ensures c.in_ok-push_chunked-2.ensures c.in_ok-push_chunked-3.ensures)
