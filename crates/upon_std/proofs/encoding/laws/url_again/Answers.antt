use Rattle.upon_std.proofs.EncodingLemmas.UrlLemmas.{url_text-clean, url_text-decoded}
use Rattle.upon_std.proofs.encoding.laws.url_again.Goals as goal

pub returns : goal.returns
returns c = record { clean = url_text-clean; again = url_text-decoded }
