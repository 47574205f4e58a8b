use Rattle.std.proofs.Common.{◌≡◌, Bool, true, false, ◌||◌, ap, ◌∙◌}
use Rattle.unicode_ident.proofs.IdentLemmas.{is_xid_continue-ascii}
use Rattle.upon_lexer.specs.Class.{class_test}
use Rattle.upon_lexer.proofs.compile.plain.has_ascii.Goals as goal

left_passes : (r a b k : Bool) → r ≡ a → r ≡ true → k ≡ (a || b) → r ≡ k
left_passes r true b k is passes e = cc
left_passes r false b k is passes e = absurd (cc)

left_fails : (r a b k : Bool) → r ≡ a → r ≡ false → k ≡ (a || b) → b ≡ k
left_fails r true b k is fails e = absurd (cc)
left_fails r false b k is fails e = cc

pub returns-then-is_ascii_alphanumeric : goal.returns-then-is_ascii_alphanumeric
returns-then-is_ascii_alphanumeric c =
    left_passes c.is_ascii_alphanumeric.result _ _ (class_test c.args.class c.args.byte) c.is_ascii_alphanumeric.ensures.value c.if-is_ascii_alphanumeric.true
    (ap (λ k. class_test k c.args.byte) c.in-Name.is ∙ is_xid_continue-ascii c.args.byte c.requires)

pub returns-else-is_ascii_alphanumeric : goal.returns-else-is_ascii_alphanumeric
returns-else-is_ascii_alphanumeric c =
    left_fails c.is_ascii_alphanumeric.result _ _ (class_test c.args.class c.args.byte) c.is_ascii_alphanumeric.ensures.value c.if-is_ascii_alphanumeric.false
    (ap (λ k. class_test k c.args.byte) c.in-Name.is ∙ is_xid_continue-ascii c.args.byte c.requires)
