use Rattle.std.proofs.Common.{rules, ◌≡◌, ℕ, ◌==◌, List, [], ◌∷◌, length, true, Some, refl, sym, ap, ◌∙◌, arith}
use Rattle.upon_lexer.specs.Roles.{sort_of}
use Rattle.upon_lexer.specs.Brackets.{brackets_of}
use Rattle.upon_language_spec.specs.Cut.{Lexeme}
use Rattle.upon_language_spec.specs.Delimiters.{end_sort, has_hyphen, end_token}
use Rattle.upon_lexer.specs.Lexers.{lexer_text, lexer_delimiters, lexer_state}
use Rattle.upon_language_spec.proofs.Computation.Tests.{same_number}
use Rattle.upon_language_spec.specs.Tokens.{is_space}
use Rattle.upon_language_spec.proofs.NoTreeWithFault.InsideTag.{end_is_no_space}
use Rattle.upon_lexer.proofs.Passing.{end_next, end_is_no_raw, end_state, given_whole}
use Rattle.upon_lexer.proofs.compile.lex.Lexer.pass_end.Goals as goal

no_items : {A : Type 0} (xs : List A) (n : ℕ) → length xs ≡ n → (n == 0) ≡ true → xs ≡ []
no_items [] n is h = refl
no_items (x ∷ xs) n is h = let none = same_number n 0 h in absurd (omega (arith, is, none))

pub returns-clause-passed : goal.returns-clause-passed
returns-clause-passed c =
    let delimiters = lexer_delimiters c.args.self.now in
    let s = lexer_text c.args.self.now in
    let left = lexer_state c.args.self.now in
    let sort = sort_of c.args.sort in
    let is : c.in-End.ended ≡ c.args.sort = search rules in
    let of_sort : end_sort c.args.kind ≡ Some sort = c.in-End.ensures ∙ ap (λ x. Some (sort_of x)) is in
    let none : c.args.self.now.brackets.items ≡ [] = no_items c.args.self.now.brackets.items c.args.self.now.brackets.len (sym c.args.self.now.brackets.ok.0) (sym c.is_empty.ensures ∙ c.if-not-is_empty.false) in
    let no_bracket : left.brackets ≡ [] = ap brackets_of none in
    let end : Lexeme = record { token = end_token sort; hyphen = has_hyphen c.args.kind; span = c.args.span } in
    record {
      found = end;
      of_token = sym c.end_token.ensures;
      next = end_next delimiters s left c.args.kind sort c.args.span no_bracket c.requires.open c.requires.best.best c.requires.best.start of_sort;
      of_span = given_whole delimiters s left.mode left.trims (end_token sort) c.args.span (end_is_no_raw sort);
      state = end_state delimiters s left c.args.kind sort c.args.span no_bracket _ refl refl refl refl c.has_hyphen-self.ensures c.requires.not_over;
      counts = ap is_space c.end_token.ensures ∙ end_is_no_space sort;
      not_over = c.requires.not_over;
    }
