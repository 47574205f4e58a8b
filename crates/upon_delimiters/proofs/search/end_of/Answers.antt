use Rattle.upon_language_spec.proofs.SpansLieIn.Offsets.{occurs_lies_in}
use Rattle.upon_delimiters.proofs.search.end_of.Goals as goal

pub returns-clause-span : goal.returns-clause-span
returns-clause-span c = occurs_lies_in c.args.source.now c.args.at c.args.text.now c.requires.some c.requires.occurs c.utf8.source c.utf8.text
