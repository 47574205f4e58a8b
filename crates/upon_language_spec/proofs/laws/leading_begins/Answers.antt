use Rattle.upon_language_spec.specs.Tags.{symbols_of}
use Rattle.upon_language_spec.proofs.Wanted.LeadingBegins.{begins_tag}
use Rattle.upon_language_spec.proofs.Totality.FittingClears.{symbols_plain}
use Rattle.upon_language_spec.proofs.laws.leading_begins.Goals as goal

pub returns : goal.returns
returns c = λ s ls parts_left path. begins_tag (symbols_of s ls) parts_left (symbols_plain s ls) path
