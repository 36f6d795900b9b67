-- The terms of the two sides of a rule, where the sides are told by the bytes that hold them.
-- What compiles rules is stated with these.
use Rattle.std.specs.Prelude.{ℕ}
use Rattle.blocks.specs.Layout.{side_at}
use Rattle.blocks.specs.declared.sides.Sides.{Sides}

-- the terms of the left side, and of the right one
abbrev pub left_terms : Sides → ℕ → ℕ
left_terms s = side_at s.bytes.now s.left

abbrev pub right_terms : Sides → ℕ → ℕ
right_terms s = side_at s.bytes.now s.right
