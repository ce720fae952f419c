-- tests of the next token
mod NextToken
-- what stands right inside a bracket of a type
mod InsideTypes
-- measures of cycles of calls
mod Weight
