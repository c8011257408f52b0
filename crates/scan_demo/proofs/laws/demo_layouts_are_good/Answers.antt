use Rattle.scan_demo.proofs.DemoGood.{demo_good}
use Rattle.scan_demo.proofs.laws.demo_layouts_are_good.Goals as goal

pub returns : goal.returns
returns c = demo_good
