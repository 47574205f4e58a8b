-- What the functions of texts answer.
use Rattle.std.specs.Prelude.{List, [], ◌∷◌, nat_eq}
use Rattle.std.specs.List.{starts_with, ends_with}
use Rattle.std.specs.Str.{trim}
use Rattle.std.specs.StrCase.Lower.{str_to_lowercase}
use Rattle.std.specs.StrCase.Upper.{str_to_uppercase}
use Rattle.upon_functions.specs.Integers.{usize_range}
use Rattle.upon_functions.specs.Adapters.{adapter_answer}
use Rattle.upon_types.specs.Answers.{Answer}
use Rattle.upon_types.specs.Misfits.{str_misfit, integer_misfit}
use Rattle.upon_types.specs.Val.{Val}
use Rattle.upon_std.specs.Basic.Parts.{changed_outcome, tested_outcome, has_part, repeat_outcome}
use Rattle.upon_std.specs.declared.basic.texts.Texts.{Texts}
use Rattle.upon_std.specs.declared.basic.texts.Texts.TheVariants.{Trim, Lower, Upper, StartsWith, EndsWith, Contains, Repeat}

-- what each function of this group answers; `trim` takes away the characters with the property White_Space of Unicode
abbrev pub texts_answer : Texts → List Val → Answer
texts_answer Trim = adapter_answer (str_misfit ∷ []) (changed_outcome trim)
texts_answer Lower = adapter_answer (str_misfit ∷ []) (changed_outcome str_to_lowercase)
texts_answer Upper = adapter_answer (str_misfit ∷ []) (changed_outcome str_to_uppercase)
texts_answer StartsWith = adapter_answer (str_misfit ∷ str_misfit ∷ []) (tested_outcome (starts_with nat_eq))
texts_answer EndsWith = adapter_answer (str_misfit ∷ str_misfit ∷ []) (tested_outcome (ends_with nat_eq))
texts_answer Contains = adapter_answer (str_misfit ∷ str_misfit ∷ []) (tested_outcome has_part)
texts_answer Repeat = adapter_answer (str_misfit ∷ integer_misfit usize_range ∷ []) repeat_outcome
