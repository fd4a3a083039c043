pub mod TableLaws
pub mod SlotLaws
pub mod PlotLaws
