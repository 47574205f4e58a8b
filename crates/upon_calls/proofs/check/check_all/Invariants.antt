use Rattle.std.proofs.Common.{◌≡◌, ◌↔◌, string_bytes, take, true}
use Rattle.upon_types.specs.View.{view}
use Rattle.upon_delimiters.specs.Syntax.{syntax_delimiters}
use Rattle.upon_calls.specs.Check.{AreRight}
use Rattle.upon_calls.specs.Pictures.{GetsPictures, ShowsEach}
use Rattle.upon_calls.specs.Templates.{lent_pairs}
use Rattle.upon_calls.proofs.check.check_all.Given as goal

-- all is right so far exactly if each text so far is, and the pictures of what is not have been put
abbrev pub invariant-loop-name : goal.invariant-loop-name
invariant-loop-name l = record {
  right : (l.is_right ≡ true) ↔ AreRight (syntax_delimiters l.fn.syntax) (view l.templates) (lent_pairs (take l.name-index l.sources));
  shown : GetsPictures (ShowsEach (syntax_delimiters l.fn.syntax) (view l.templates) (lent_pairs (take l.name-index l.sources))) (string_bytes l.fn.pictures) (string_bytes l.pictures);
}
