pub mod Lines
pub mod PieceLaws
