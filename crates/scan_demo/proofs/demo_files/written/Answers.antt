use Rattle.scan_demo.specs.Flats.{demo_flats}
use Rattle.scan_demo.proofs.Written.{all_bytes, all_located}
use Rattle.scan_demo.proofs.demo_files.written.Goals as goal

pub returns-in-Ok-clause-locations : goal.returns-in-Ok-clause-locations
returns-in-Ok-clause-locations c =
    all_located c.new-writer.result c.write_file.new.writer _ (demo_flats c.args.number) c.new-writer.ensures.locations c.new-writer.ensures.bytes c.in-Ok.ensures

pub returns-in-Ok-clause-bytes : goal.returns-in-Ok-clause-bytes
returns-in-Ok-clause-bytes c =
    all_bytes c.new-writer.result c.write_file.new.writer _ (demo_flats c.args.number) c.new-writer.ensures.bytes c.in-Ok.ensures
