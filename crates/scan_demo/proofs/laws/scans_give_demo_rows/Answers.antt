use Rattle.scan_demo.proofs.DemoScan.{answers_are_demo, pieces_are_demo}
use Rattle.scan_demo.proofs.laws.scans_give_demo_rows.Goals as goal

pub returns-clause-pieces : goal.returns-clause-pieces
returns-clause-pieces c = pieces_are_demo

pub returns-clause-answers : goal.returns-clause-answers
returns-clause-answers c = answers_are_demo
