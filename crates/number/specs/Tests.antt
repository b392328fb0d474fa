-- Tests as equations, from the laws. Assumes nothing.
pub use Rattle.laws.specs.Floats.{is_true, eqb_swap}
