-- function values that read what stands right inside a bracket
pub mod Nests
-- what the functions inside promise each other
pub mod Parts
