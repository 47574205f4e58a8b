-- What the functions inside a tag say where they are stuck, and the rest of a rest.
use Rattle.std.proofs.Common.{ℕ, List, Result, Ok, Err, IfOk, Bor}
use Rattle.upon_language_spec.specs.Parts.{Part}
use Rattle.upon_lexer.specs.declared.literal.Lexed.{Lexed}
use Rattle.upon_tag_parser.specs.declared.compile.parse.path.Failure.{Failure}
use Rattle.upon_tag_parser.specs.declared.compile.parse.want.Want.{Want}
use Rattle.upon_tag_parser.specs.TagTokens.{lexemes_of, IsRest}
use Rattle.upon_tag_parser.specs.TagParsing.{IsStuck, StartsBase}
use Rattle.upon_tag_parser.proofs.TagTokens.{rest_then}

-- what is said of the wanted word and the tokens left, where a function is stuck
abbrev pub Stop : Type 1
Stop = Want → List Lexed → Type 0

-- where a Base may start
abbrev pub StopsBase : List ℕ → List Lexed → Stop
StopsBase s tokens want left = (from parts : List Part) → StartsBase s from parts (lexemes_of tokens) → IsStuck s from tokens want left

-- where some parts begin with these
abbrev pub StopsAt : (List Part → List Part) → List ℕ → List Lexed → Stop
StopsAt begin s tokens want left = (parts : List Part) → IsStuck s (begin parts) tokens want left

-- the rest of a rest
pub rest_on : {A : Type 0} (r : Result (A × Bor (List Lexed)) Failure) (mid tokens : List Lexed) → IsRest mid tokens → IfOk r (λ x. IsRest x.1.now mid) → IfOk r (λ x. IsRest x.1.now tokens)
rest_on (Ok x) mid tokens a h = rest_then (lexemes_of tokens) (lexemes_of mid) (lexemes_of x.1.now) a h
rest_on (Err e) mid tokens a h = tt
