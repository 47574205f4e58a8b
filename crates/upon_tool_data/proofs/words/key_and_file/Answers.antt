use Rattle.std.proofs.Common.{refl, sym, ◌∙◌}
use Rattle.upon_tool_data.proofs.Parts.{file_is, key_is, no_cut_file, no_cut_key, no_key_is, whole_is}
use Rattle.upon_tool_data.proofs.words.key_and_file.Goals as goal

pub returns-then-is_key-clause-key : goal.returns-then-is_key-clause-key
returns-then-is_key-clause-key c = key_is c.args.word.now c.in-Some.key.now (c.in-Some.ensures.some refl) c.in-Some.ensures.before (sym c.is_key.ensures ∙ c.if-is_key.true)

pub returns-then-is_key-clause-file : goal.returns-then-is_key-clause-file
returns-then-is_key-clause-file c = file_is c.args.word.now c.in-Some.key.now c.in-Some.file.now (c.in-Some.ensures.some refl) c.in-Some.ensures.before (sym c.is_key.ensures ∙ c.if-is_key.true) c.in-Some.ensures.after

pub returns-else-is_key-clause-key : goal.returns-else-is_key-clause-key
returns-else-is_key-clause-key c = no_key_is c.args.word.now c.in-Some.key.now (c.in-Some.ensures.some refl) c.in-Some.ensures.before (sym c.is_key.ensures ∙ c.if-is_key.false)

pub returns-else-is_key-clause-file : goal.returns-else-is_key-clause-file
returns-else-is_key-clause-file c = whole_is c.args.word.now c.in-Some.key.now (c.in-Some.ensures.some refl) c.in-Some.ensures.before (sym c.is_key.ensures ∙ c.if-is_key.false)

pub returns-in-None-clause-key : goal.returns-in-None-clause-key
returns-in-None-clause-key c = no_cut_key c.args.word.now (c.in-None.ensures.none refl)

pub returns-in-None-clause-file : goal.returns-in-None-clause-file
returns-in-None-clause-file c = no_cut_file c.args.word.now (c.in-None.ensures.none refl)
