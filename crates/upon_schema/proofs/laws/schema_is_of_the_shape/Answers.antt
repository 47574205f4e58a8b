use Rattle.upon_schema.specs.Written.{schema_value}
use Rattle.upon_schema.proofs.SchemaLaws.{fits_valid, valid_fits}
use Rattle.upon_schema.proofs.laws.schema_is_of_the_shape.Goals as goal

pub returns-clause-valid : goal.returns-clause-valid
returns-clause-valid c = λ s v h depth. fits_valid depth (schema_value s) s v h

pub returns-clause-fits : goal.returns-clause-fits
returns-clause-fits c = λ s v rise h. valid_fits (schema_value s) s v rise h
