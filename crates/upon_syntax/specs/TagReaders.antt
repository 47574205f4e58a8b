-- What a reader of tags reads.
use Rattle.std.specs.Prelude.{ℕ, List}
use Rattle.upon_language_spec.specs.Cut.{Lexeme}
use Rattle.upon_tag_parser.specs.TagTokens.{lexemes_of}
use Rattle.upon_syntax.specs.declared.compile.parse.tag_reader.TagReader.{TagReader}

-- the text whose tags it reads
abbrev pub reader_text : TagReader → List ℕ
reader_text reader = reader.source.now

-- the tokens of the tag that it read last, between the tag's begin and its end
abbrev pub reader_tokens : TagReader → List Lexeme
reader_tokens reader = lexemes_of reader.tokens.items
