-- Whole-number Arc ASCII grids (02, M-101): their header, their cells, refusal 12, and the one written form.
pub mod Measures
pub mod Headers
pub mod Spans
pub mod Cells
pub mod Judging
pub mod Forms
pub mod Reading
pub mod Given
pub mod Examples
