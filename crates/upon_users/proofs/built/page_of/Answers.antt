use Rattle.upon_users.proofs.BuiltEngines.{out_is_text}
use Rattle.upon_users.proofs.Page.{page_said}
use Rattle.upon_users.proofs.built.page_of.Goals as goal

pub returns-in_err-context : goal.returns-in_err-context
returns-in_err-context c = out_is_text _ _ c.from_residual.ensures.1

pub returns : goal.returns
returns c = page_said c.args.name.now _ _ c.in_ok-context.ensures c.page.ensures
