use Rattle.std.proofs.Common.{length, subst}
use Rattle.upon_tool_many.specs.Names.{page_names, DifferBelow}
use Rattle.upon_tool_many.proofs.build.build_folder.Goals as goal

pub returns-clause-done : goal.returns-clause-done
returns-clause-done g c = record {
  files = c.in-Ok.files.entries;
  pages = c.in_ok-pages.pages.items;
  listed = c.in-Ok.ensures.listed;
  apart = c.if-is_within.ensures;
  named = c.in_ok-pages.ensures;
  differ = subst (λ pages. DifferBelow (page_names pages) (length (page_names pages))) c.as_slice.ensures.value c.in_ok-refuse_twice.ensures.differ;
  done_in_order = c.in_ok-build_all.ensures.done;
}
