-- What begins a name continues one.
use Rattle.std.proofs.Common.{◌≡◌, ℕ, true, arith}
use Rattle.std.proofs.lemmas.Bool.Decides.{nat_tests}
use Rattle.unicode_ident.specs.Ident.{is_xid_continue}
use Rattle.unicode_ident.proofs.IdentLemmas.{is_xid_continue-ascii, is_xid_start-is_xid_continue}
use Rattle.upon_language_spec.specs.Words.{begins_name}

underscore_continues : is_xid_continue 95 ≡ true
underscore_continues = is_xid_continue-ascii 95 (omega arith)

pub begins_continues : (c : ℕ) → begins_name c ≡ true → is_xid_continue c ≡ true
begins_continues c h = let e = underscore_continues in grind (arith, nat_tests, is_xid_start-is_xid_continue c)
