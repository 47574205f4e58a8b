use Rattle.upon_delimiters.specs.Syntax.{syntax_delimiters}
use Rattle.upon_delimiters.proofs.Ways.{brace_fits_at, few_fit_at, marks_fit_at}
use Rattle.upon_delimiters.proofs.search.Searcher.may_begin.Goals as goal

pub returns-in-Brace : goal.returns-in-Brace
returns-in-Brace c = λ off.
    brace_fits_at c.args.self.now.way (syntax_delimiters c.args.self.now.syntax) c.args.bytes.now c.args.at c.args.self.now.fits
    c.in-Brace.is (c.may_begin.ensures off)

pub returns-in-Few : goal.returns-in-Few
returns-in-Few c = λ off.
    few_fit_at c.args.self.now.way (syntax_delimiters c.args.self.now.syntax) c.args.bytes.now c.args.at c.args.self.now.fits
    _ c.in-Few.marks c.in-Few.is c.args.self.now.syntax.has_texts (c.may_begin-in-Few.ensures off)

pub returns-in-Marked : goal.returns-in-Marked
returns-in-Marked c = λ off.
    marks_fit_at c.args.self.now.way (syntax_delimiters c.args.self.now.syntax) c.args.bytes.now c.args.at c.args.self.now.fits
    c.in-Marked.marks c.in-Marked.is c.args.self.now.syntax.has_texts (c.may_begin-in-Marked.ensures off)
