use Rattle.std.proofs.Common.{◌≡◌, List, ℕ, ◌++◌, OnOk, string_bytes, sym, subst, arith, rules}
use Rattle.std.specs.Char.{encode_utf8}
use Rattle.upon_schema.specs.Reference.{spelled}
use Rattle.upon_schema.proofs.Spellings.{spelled-character}
use Rattle.upon_schema.proofs.fault.push_spelled.Goals as goal

pub returns-in_default : goal.returns-in_default
returns-in_default c =
    let plain : spelled (encode_utf8 c.args.character) ≡ encode_utf8 c.args.character = spelled-character c.args.character (λ e. omega arith) (λ e. omega arith) in
    subst (λ (bytes : List ℕ). OnOk c.push.result (string_bytes c.push.new.self ≡ string_bytes c.args.text.now ++ bytes)) (sym plain) (search rules)
