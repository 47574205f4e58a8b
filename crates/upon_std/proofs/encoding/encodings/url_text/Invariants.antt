use Rattle.std.proofs.Common.{◌≡◌, ◌++◌, string_bytes}
use Rattle.std.specs.Str.Iter.{bytes_rest}
use Rattle.upon_std.specs.Encoding.Url.{url_text}
use Rattle.upon_std.proofs.encoding.encodings.url_text.Given as goal

-- what is made so far, and what comes of the bytes that are left
abbrev pub invariant-loop-byte : goal.invariant-loop-byte
invariant-loop-byte l = string_bytes l.made ++ url_text (bytes_rest l.byte-iterator) ≡ url_text l.text
