pub mod OneMark
