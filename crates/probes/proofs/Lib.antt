pub mod OutputLaws
pub mod PokeLaws
