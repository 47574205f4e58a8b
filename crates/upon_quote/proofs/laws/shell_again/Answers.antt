use Rattle.upon_quote.proofs.ShellLemmas.{shell_word_quoted, word_without_nul}
use Rattle.upon_quote.proofs.Values.{shell_bytes, shell_value}
use Rattle.upon_quote.proofs.laws.shell_again.Goals as goal

pub returns : goal.returns
returns c = record { text = shell_word_quoted; bytes = shell_bytes; value = shell_value; refused = word_without_nul }
