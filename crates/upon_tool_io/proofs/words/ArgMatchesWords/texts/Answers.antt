use Rattle.std.proofs.Common.{◌≡◌, ◌∙◌, ℕ, List, [], Option, unwrap_or, ap}
use Rattle.std.proofs.lemmas.Result.{IfOk-weaker}
use Rattle.clap.specs.Matches.{found_of}
use Rattle.clap.specs.Walk.{rows_of}
use Rattle.upon_tool_io.specs.Rows.{row_values}
use Rattle.upon_tool_io.specs.Said.{lent_texts}
use Rattle.upon_tool_io.proofs.Rows.{values-found}
use Rattle.upon_tool_io.proofs.words.ArgMatchesWords.texts.Goals as goal

pub returns-in-Some : goal.returns-in-Some
returns-in-Some c =
    let rows = ap (λ (o : Option (List (List ℕ))). unwrap_or o []) c.in-Some.ensures ∙ values-found (found_of c.args.self.now) c.args.name.now in
    IfOk-weaker c.from_slice.result (λ v. v.items ≡ c.in-Some.texts.now)
    (λ v. lent_texts v.items ≡ row_values c.args.name.now (rows_of (found_of c.args.self.now)))
    (λ v same. ap lent_texts same ∙ rows) c.from_slice.ensures.items

pub returns-in-None : goal.returns-in-None
returns-in-None c =
    ap lent_texts c.new.ensures.items
    ∙ (ap (λ (o : Option (List (List ℕ))). unwrap_or o []) c.in-None.ensures ∙ values-found (found_of c.args.self.now) c.args.name.now)
