-- What each function of this crate answers, and its name.
use Rattle.std.specs.Prelude.{ℕ, List, [], ◌∷◌, codes}
use Rattle.base64.specs.Engines.{standard}
use Rattle.base64.specs.GeneralPurpose.{encode_of}
use Rattle.upon_functions.specs.Integers.{usize_range}
use Rattle.upon_functions.specs.Adapters.{adapter_answer}
use Rattle.upon_quote.specs.Tokens.{shell_format, yaml_format}
use Rattle.upon_types.specs.Answers.{Answer}
use Rattle.upon_types.specs.Misfits.{any_misfit, integer_misfit, str_misfit, string_misfit}
use Rattle.upon_types.specs.Val.{Val}
use Rattle.upon_std.specs.Encoding.Outcomes.{encoding_outcome, json_outcome, padding_outcome, truncate_outcome}
use Rattle.upon_std.specs.Encoding.Padding.{centered, padded_left, padded_right}
use Rattle.upon_std.specs.Encoding.Tokens.{token_outcome}
use Rattle.upon_std.specs.Encoding.Url.{url_text}
use Rattle.upon_std.specs.declared.encoding.writing.Writing.{Writing}
use Rattle.upon_std.specs.declared.encoding.writing.Writing.TheVariants.{Json, Shell, Yaml, Url, Base64, Truncate, PadLeft, PadRight, Center}

-- what each function answers; `base64` writes as RFC 4648 says in its section 4
abbrev pub writing_answer : Writing → List Val → Answer
writing_answer Json = adapter_answer (any_misfit ∷ []) json_outcome
writing_answer Shell = adapter_answer (string_misfit ∷ []) (token_outcome shell_format)
writing_answer Yaml = adapter_answer (string_misfit ∷ []) (token_outcome yaml_format)
writing_answer Url = adapter_answer (str_misfit ∷ []) (encoding_outcome url_text)
writing_answer Base64 = adapter_answer (str_misfit ∷ []) (encoding_outcome (encode_of standard))
writing_answer Truncate = adapter_answer (str_misfit ∷ integer_misfit usize_range ∷ []) truncate_outcome
writing_answer PadLeft = adapter_answer (str_misfit ∷ integer_misfit usize_range ∷ []) (padding_outcome padded_left)
writing_answer PadRight = adapter_answer (str_misfit ∷ integer_misfit usize_range ∷ []) (padding_outcome padded_right)
writing_answer Center = adapter_answer (str_misfit ∷ integer_misfit usize_range ∷ []) (padding_outcome centered)

-- the name under which templates call it
abbrev pub writing_name : Writing → List ℕ
writing_name Json = codes "json"
writing_name Shell = codes "shell"
writing_name Yaml = codes "yaml"
writing_name Url = codes "url"
writing_name Base64 = codes "base64"
writing_name Truncate = codes "truncate"
writing_name PadLeft = codes "pad_left"
writing_name PadRight = codes "pad_right"
writing_name Center = codes "center"
