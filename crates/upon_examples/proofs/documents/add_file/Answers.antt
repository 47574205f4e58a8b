use Rattle.std.proofs.Common.{rules, ◌≡◌, ℕ, List, Some, Result, Ok, Err, IfErr, IsErrAnd, string_bytes, sym, subst}
use Rattle.upon.specs.TagReading.{IsSyntaxError}
use Rattle.upon.specs.EngineParts.{engine_syntax}
use Rattle.upon_store.specs.Paths.{is_path}
use Rattle.upon_store.specs.Stored.{EndsAdding}
use Rattle.upon_examples.proofs.documents.add_file.Goals as goal

handed_on : {A E : Type 0} (P : E → Type 0) (error : E) (r : Result A E) → IsErrAnd r (λ x. x ≡ error) → P error → IfErr r P
handed_on P error (Ok a) is said = absurd is
handed_on P error (Err x) is said = subst P (sym is) said

pub returns-in_err-add-in-Ok-clause-refused : goal.returns-in_err-add-in-Ok-clause-refused
returns-in_err-add-in-Ok-clause-refused g c =
    let syntax = engine_syntax c.args.engine.now in
    let error = c.in_err-add-in-Ok.field-0.0 in
    handed_on (λ error. (text : List ℕ) → g.R.Read.remaining c.args.file ≡ Some text → EndsAdding (is_path c.args.path.now) (IsSyntaxError syntax text) (Err error)) error c.from_residual.result c.from_residual.ensures.1
    (λ text known.
    let same : string_bytes c.in-Ok.source ≡ text = search rules in
    subst (λ bytes. EndsAdding (is_path c.args.path.now) (IsSyntaxError syntax bytes) (Err error)) same c.in_err-add-in-Ok.ensures.ends)
