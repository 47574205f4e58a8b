use Rattle.std.proofs.Common.{ap, sym, ◌∙◌, string_bytes}
use Rattle.serde.specs.Spelling.{spelled}
use Rattle.serde.proofs.Spellings.{spelled-AsIs}
use Rattle.upon_serde.proofs.build.spelled.Goals as goal

pub returns-in-AsIs : goal.returns-in-AsIs
returns-in-AsIs c =
    let name = string_bytes c.args.name in
    sym (ap (λ case. spelled case c.args.kind name) c.in-AsIs.is ∙ spelled-AsIs c.args.kind name)
