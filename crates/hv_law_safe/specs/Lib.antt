-- what the law asks of a program besides the rules
pub mod Runs
