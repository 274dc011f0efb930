pub mod CommonDates
