-- The code's records as the paper's. A name that ends in `_as` reads what the code holds as the paper says it; one in `_in` is the way back.
pub mod Grids
pub mod Past
pub mod Days
pub mod Temperatures
pub mod Verdicts
pub mod Places
pub mod Answers
