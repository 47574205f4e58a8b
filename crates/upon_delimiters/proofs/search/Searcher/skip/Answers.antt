use Rattle.upon_delimiters.specs.Syntax.{syntax_delimiters}
use Rattle.upon_delimiters.proofs.Ways.{brace_fits, few_fits, marks_fit}
use Rattle.upon_delimiters.proofs.search.Searcher.skip.Goals as goal

pub returns-in-Brace-clause-none : goal.returns-in-Brace-clause-none
returns-in-Brace-clause-none c =
    brace_fits c.args.self.now.way (syntax_delimiters c.args.self.now.syntax) c.args.source.now c.args.at c.next.result c.args.self.now.fits
    c.in-Brace.is c.next.ensures.none

pub returns-in-Few-clause-none : goal.returns-in-Few-clause-none
returns-in-Few-clause-none c =
    few_fits c.args.self.now.way (syntax_delimiters c.args.self.now.syntax) c.args.source.now c.args.at c.next_of_few.result c.args.self.now.fits
    c.in-Few.bytes c.in-Few.marks c.in-Few.is c.args.self.now.syntax.has_texts c.next_of_few.ensures.none

pub returns-in-Marked-clause-none : goal.returns-in-Marked-clause-none
returns-in-Marked-clause-none c =
    marks_fit c.args.self.now.way (syntax_delimiters c.args.self.now.syntax) c.args.source.now c.args.at c.next-in-Marked.result c.args.self.now.fits
    c.in-Marked.marks c.in-Marked.is c.args.self.now.syntax.has_texts c.next-in-Marked.ensures.none
