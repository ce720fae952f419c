-- examples
mod NameExamples
mod TypeExamples
