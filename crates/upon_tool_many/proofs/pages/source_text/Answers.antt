use Rattle.upon_tool_many.proofs.Texts.{refused_page}
use Rattle.upon_tool_many.proofs.pages.source_text.Goals as goal

pub returns : goal.returns
returns g c = (
  λ tree has. (c.answer_of_source.result, c.answer_of_source.ensures.means tree has, c.text_of.ensures),
  λ none. refused_page _ c.answer_of_source.result c.text_of.result c.text_of.ensures (c.answer_of_source.ensures.refused none),
)
