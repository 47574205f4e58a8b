use Rattle.std.proofs.Common.{rules, sym, ◌∙◌, arith}
use Rattle.std.proofs.lemmas.Grind.{common_steps}
use Rattle.std.proofs.lemmas.Str.Pattern.{split_once_first}
use Rattle.upon_types.specs.Picture.{is_line_feed}
use Rattle.upon_types.proofs.Lines.{count-first, count-none, last-first, last-none}
use Rattle.upon_types.proofs.error.excerpt.last_line.Goals as goal

pub lines-preserved : goal.lines-preserved
lines-preserved c =
    let cut = rw c.in-Some.is at (split_once_first 10 c.lines.rest.now c.split_once.result c.split_once.ensures.cases (omega arith)) in
    let count = count-first is_line_feed c.lines.rest.now 0 cut.0 in
    record {
      text = search rules;
      number = rw cut.2 (omega (arith, c.lines.invariant.number, count));
      line = rw cut.2 (last-first is_line_feed c.lines.rest.now 0 cut.0 ∙ c.lines.invariant.line);
      room = rw cut.2 (grind (arith, common_steps, c.lines.invariant.room, cut.0));
    }

pub returns-clause-number : goal.returns-clause-number
returns-clause-number c =
    let none = rw c.in_default.is at (split_once_first 10 c.lines.rest.now c.split_once.result c.split_once.ensures.cases (omega arith)) in
    omega (arith, c.lines.invariant.number, count-none is_line_feed c.lines.rest.now none)

pub returns-clause-line : goal.returns-clause-line
returns-clause-line c =
    let none = rw c.in_default.is at (split_once_first 10 c.lines.rest.now c.split_once.result c.split_once.ensures.cases (omega arith)) in
    sym (last-none is_line_feed c.lines.rest.now none) ∙ c.lines.invariant.line
