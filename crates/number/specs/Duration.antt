-- What the answer of a duration text means; figures none of which is below 0. Assumes nothing.
pub use Rattle.laws.specs.Durations.{not_below, none_below}
