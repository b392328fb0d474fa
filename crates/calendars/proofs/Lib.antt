pub mod PlainCalendars
pub mod Overs
pub mod WeekHours
pub mod Orders
pub mod Turning
pub mod Builts
