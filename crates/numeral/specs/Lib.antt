-- The root of the definitions of written numbers.
pub mod Numbers
