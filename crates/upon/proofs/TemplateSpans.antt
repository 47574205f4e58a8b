-- That spans lie in the text of a template, and in those that a source hands on: the engine's lemmas, passed on.
pub use Rattle.upon_engine.proofs.TemplateSpans.{template_lies, handed_on_lie, held_lie}
