-- What the parts of compiling leave, for sides and for weights.
-- The contracts of compiling are stated with these.
pub mod PlacingSides
pub mod PlacingWeights
