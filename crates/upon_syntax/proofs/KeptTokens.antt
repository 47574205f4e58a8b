-- The tokens of a tag that a reader keeps, and what holds of them.
use Rattle.std.proofs.Common.{ℕ, List, None, Result, Ok, Err, IfOk, subst}
use Rattle.upon_language_spec.specs.Cut.{Lexeme}
use Rattle.upon_language_spec.specs.Delimiters.{Sort}
use Rattle.upon_lexer.specs.declared.compile.lex.Lexer.{Lexer}
use Rattle.upon_tag_parser.specs.TagTokens.{EachTagToken}
use Rattle.upon_syntax.specs.declared.compile.parse.tag_reader.TagReader.{TagReader}
use Rattle.upon_syntax.specs.TagReaders.{reader_tokens}
use Rattle.upon_syntax.specs.TagReading.{AfterEnd, KeepsTokens}

-- what a reader says of a tag that was read to its end, without the tokens that it keeps
abbrev pub held : (before after : Lexer) (sort : Sort) (ls : List Lexeme) (end : ℕ) (s : List ℕ) (reader : TagReader) (P Q : List Lexeme → Type 0) → AfterEnd before after sort ls end (KeepsTokens s reader P Q) → AfterEnd before after sort ls end P
held before after sort ls end s reader P Q a = record {
  inner = a.inner;
  each = a.each;
  path = a.path;
  offset = a.offset;
  ends = a.ends;
  at = a.at;
  read = a.read;
  tokens = a.tokens.holds;
}

-- the reader's tokens are a tag's
pub each_kept : (s : List ℕ) (reader : TagReader) (P Q : List Lexeme → Type 0) (tokens : List Lexeme) → KeepsTokens s reader P Q tokens → EachTagToken s None (reader_tokens reader)
each_kept s reader P Q tokens h = let F : List Lexeme → Type 0 = λ ts. EachTagToken s None ts in subst F h.same h.each

-- what holds of the tokens holds of those that the reader keeps
pub kept_holds : (s : List ℕ) (reader : TagReader) (P Q R : List Lexeme → Type 0) (tokens : List Lexeme) → KeepsTokens s reader P Q tokens → R tokens → R (reader_tokens reader)
kept_holds s reader P Q R tokens h r = subst R h.same r

-- two things that hold of a result
pub both_ok : {A E : Type 0} (r : Result A E) (P Q : A → Type 0) → IfOk r P → IfOk r Q → IfOk r (λ a. P a × Q a)
both_ok (Ok a) P Q p q = (p, q)
both_ok (Err e) P Q p q = tt
