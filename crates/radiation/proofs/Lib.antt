pub mod PotentialLaws
