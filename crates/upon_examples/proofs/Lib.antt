mod WrongArguments
mod Written
