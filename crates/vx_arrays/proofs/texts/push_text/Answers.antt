use Rattle.std.proofs.Common.{◌≡◌, ◌++◌, rules, length}
use Rattle.vx_arrays.proofs.CutTexts.{texts_pushed}
use Rattle.vx_arrays.proofs.texts.push_text.Goals as goal

pub returns-clause-texts : goal.returns-clause-texts
returns-clause-texts c =
    let bytes : c.extend_from_slice.new.self.items ≡ c.args.bytes.now.items ++ c.args.text.now = search rules in
    let end : c.len.result ≡ length c.extend_from_slice.new.self.items = search rules in
    texts_pushed c.args.bytes.now.items c.args.text.now c.args.ends.now.items c.extend_from_slice.new.self.items c.push.new.self.items c.len.result bytes c.in_ok-push.ensures.items end c.requires c.utf8.text
