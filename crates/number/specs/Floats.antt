-- The laws of floats that the code and its callers need. Assumes nothing.
pub use Rattle.laws.specs.Floats.{round_neg, le_neg, clear, neg_below, zero_below, at_most, round_clear}
pub use Rattle.laws.specs.Floats.{float_60, float_100, float_1440, float-10⁹, float-10¹³, float-10¹⁸}
