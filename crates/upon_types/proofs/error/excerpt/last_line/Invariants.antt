use Rattle.std.proofs.Common.{◌≡◌, ◌+◌, ◌≤◌, count_by, length}
use denote.Text.{Utf8}
use denote.Shadow.{shadow}
use Rattle.upon_types.specs.Picture.{is_line_feed, line_before}
use Rattle.upon_types.proofs.error.excerpt.last_line.Given as goal

abbrev pub invariant-lines : goal.invariant-lines
invariant-lines l = record {
  text : shadow (Utf8 l.rest);
  number : l.number + count_by is_line_feed l.rest ≡ 1 + count_by is_line_feed l.text;
  line : line_before l.rest ≡ line_before l.text;
  room : l.number + length l.rest ≤ 1 + length l.text;
}

abbrev pub decreases-lines : goal.decreases-lines
decreases-lines l = length l.rest
