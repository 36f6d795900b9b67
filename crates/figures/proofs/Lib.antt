-- The laws of figures.
-- The functions of this crate and the search rest on these.
pub mod FigureLaws
