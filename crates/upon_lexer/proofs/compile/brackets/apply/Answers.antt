use Rattle.std.proofs.Common.{◌≡◌, ◌-◌, [], None, sym, ap, ◌∙◌, take, arith}
use Rattle.std.proofs.lemmas.Grind.{common_steps}
use Rattle.upon_types.specs.declared.types.token.Token.{Token}
use Rattle.upon_language_spec.specs.Reading.{brackets_after}
use Rattle.upon_lexer.specs.Brackets.{brackets_of, open_token, close_token, plain_lexeme}
use Rattle.upon_lexer.proofs.OpenBrackets.{opens, closes}
use Rattle.upon_lexer.proofs.compile.brackets.apply.Goals as goal

pub returns-in_ok-push-in-Opens-clause-turned : goal.returns-in_ok-push-in-Opens-clause-turned
returns-in_ok-push-in-Opens-clause-turned c =
    let items = c.in_ok-push-in-Opens.ensures.items in
    let token : c.args.token ≡ open_token c.in-Opens.shape = c.in-Opens.ensures in
    ap brackets_of items ∙ opens c.args.brackets.now.items (record { shape = c.in-Opens.shape; span = c.args.span })
    ∙ ap (λ (t : Token). brackets_after (brackets_of c.args.brackets.now.items) t (plain_lexeme t c.args.span)) (sym token)

pub returns-in-Closes-clause-turned : goal.returns-in-Closes-clause-turned
returns-in-Closes-clause-turned c =
    let token : c.args.token ≡ close_token c.in-Closes.field-0 = c.in-Closes.ensures in
    let none : c.pop.result ≡ None → c.pop.new.self.items ≡ [] = λ e. let empty = rw e at c.pop.ensures.cases in c.pop.ensures.rest ∙ ap (λ k. take (k - 1) c.args.brackets.now.items) empty.0 in
    closes c.args.brackets.now.items c.pop.new.self.items c.pop.result c.in-Closes.field-0 (plain_lexeme c.args.token c.args.span) c.pop.ensures.items none
    ∙ ap (λ (t : Token). brackets_after (brackets_of c.args.brackets.now.items) t (plain_lexeme c.args.token c.args.span)) (sym token)

-- the search finds no proof of this, and takes long
pub returns-in-Closes-clause-listed : goal.returns-in-Closes-clause-listed
returns-in-Closes-clause-listed = grind (arith, common_steps)
