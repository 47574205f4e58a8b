use Rattle.upon_std.proofs.encoding.json_text.write_copy.Goals as goal

pub returns-in-Ok : goal.returns-in-Ok
returns-in-Ok c = c.write_string.ensures c.args.text.now c.in-Ok.ensures
