use Rattle.std.proofs.Common.{rules, ◌≡◌, ℕ, List, false, refl, subst}
use Rattle.upon_language_spec.specs.Search.{NoneAt}
use Rattle.upon_language_spec.specs.Faults.{lexeme_at}
use Rattle.upon_language_spec.specs.LexStep.{IsNext}
use Rattle.upon_language_spec.proofs.OneCut.Token.{step_ends}
use Rattle.upon_lexer.specs.Lexers.{lexer_text, lexer_delimiters, lexer_state}
use Rattle.upon_lexer.specs.declared.compile.roles.Sort.TheVariants.{Comment}
use Rattle.upon_lexer.proofs.Plain.{plain_step}
use Rattle.upon_lexer.proofs.compile.lex.Lexer.plain.Goals as goal
use Rattle.upon_lexer.proofs.compile.lex.Lexer.plain.Goals.{In_ok-token}

-- the token that was found is the one where the lexer is
next : (c : In_ok-token) → IsNext (lexer_delimiters c.args.self.now) (lexer_text c.args.self.now) (lexer_state c.args.self.now) (lexeme_at c.in_ok-token.token false c.args.self.now.offset c.in_ok-token.end)
next c =
    let delimiters = lexer_delimiters c.args.self.now in
    let s = lexer_text c.args.self.now in
    let left = lexer_state c.args.self.now in
    let tag = c.in_ok-tag.tag in
    let None : List ℕ → Type 0 = λ x. NoneAt delimiters x left.offset in
    let bare : NoneAt delimiters s left.offset = subst None c.as_bytes-bytes.ensures.value (c.may_begin.ensures c.if-may_begin.false) in
    let no_comment : tag.sort ≡ Comment → ⊥ = search rules in
    let plain = c.in_ok-token.ensures.token in
    record {
      from = refl;
      step = plain_step delimiters s c.args.self.now.tag tag c.in_ok-token.token left.offset c.in_ok-token.end c.in_ok-tag.was no_comment bare plain;
      fits = plain.fits left.brackets;
    }

pub returns-clause-token : goal.returns-clause-token
returns-clause-token c = next c

pub returns-clause-further : goal.returns-clause-further
returns-clause-further c =
    let found = lexeme_at c.in_ok-token.token false c.args.self.now.offset c.in_ok-token.end in
    (step_ends (lexer_delimiters c.args.self.now) (lexer_text c.args.self.now) (lexer_state c.args.self.now).mode found.token found.hyphen c.args.self.now.offset found.span.n c.args.self.now.searcher.now.syntax.has_texts (next c).step).0
