-- what the parser's outcome on a whole list says
pub mod Outcomes
