-- Which ACTs exclude one another on an actor. Whatever lets two ACTs share an actor is said here, and by
-- what a lock tells of its ACT.
use Rattle.std.specs.Prelude.{ℕ, Bool, not, ◌&&◌}

-- what an actor knows of an ACT that holds it or waits for it
pub record Lock : Type 0 where
  pub tid : ℕ
  -- it only reads
  pub reader : Bool

-- Two ACTs can't have the actor together. So it is of every two, unless both only read.
abbrev pub rivals : Lock → Lock → Bool
rivals x y = not (x.reader && y.reader)
