-- Why a formatter refuses.
use Rattle.std.specs.Prelude.{ℕ, List, Option, Some, None, string_bytes, codes}
use Rattle.upon_fmt.specs.declared.fmt.Error.{Error}
use Rattle.upon_fmt.specs.declared.message.Message.{Message}
use Rattle.upon_fmt.specs.declared.message.Message.TheVariants.{None as Nothing, Text, Told}

-- what a refusal says, if it says something
abbrev pub message_bytes : Message → Option (List ℕ)
message_bytes Nothing = None
message_bytes (Text text) = Some (string_bytes text)
message_bytes (Told told) = Some (string_bytes told.value.text)

-- the message of a refusal, if there is one
abbrev pub message_of : Error → Option (List ℕ)
message_of error = message_bytes error.message

-- a message, or the words for none
abbrev pub message_or_words : Option (List ℕ) → List ℕ
message_or_words (Some message) = message
message_or_words None = codes "format error"

-- what a refusal is shown as
abbrev pub error_text : Error → List ℕ
error_text error = message_or_words (message_of error)
