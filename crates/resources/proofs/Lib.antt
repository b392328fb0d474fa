pub mod HeldAmounts
